use Rattle.std.proofs.Common.{◌≤◌, ◌∙◌, ℕ, subst, ap, arith}
use Rattle.interleave_core.specs.Whole.{Whole, state_of}
use Rattle.interleave_core.specs.Beginning.{is_free}
use Rattle.interleave_core.proofs.Callers.{free-is}
use Rattle.interleave_core.proofs.core_state.Core.is_free.Goals as goal

pub returns : goal.returns
returns c =
    let m = c.self.inside in
    let some = c.if-caller-eq0.false in
    free-is (state_of m.book.book m.lists.items) c.args.caller c.live_call.result c.is_none.result (omega (arith, some))
    (subst (λ (k : ℕ). c.args.caller ≤ k) c.callers.ensures c.if-callers-caller.false) c.live_call.ensures c.is_none.ensures
    ∙ ap (λ (w : Whole). is_free w.state c.args.caller) c.self.view_is
