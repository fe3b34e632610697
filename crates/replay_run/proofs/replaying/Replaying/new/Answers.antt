use Rattle.std.proofs.Common.{ℕ, List, length, sym, ap, ◌∙◌, subst}
use Rattle.flow_model.specs.Machine.State.{opening}
use Rattle.interleave_core.specs.Opening.{opened_core}
use Rattle.interleave_core.specs.Whole.{Whole}
use Rattle.replay_run.specs.Replaying.{Caller, AreCallers}
use Rattle.replay_run.proofs.Seats.{new-callers, new-stage}
use Rattle.replay_run.proofs.replaying.Replaying.new.Goals as goal

pub invariant_of-result : goal.invariant_of-result
invariant_of-result c =
    let core = c.in_ok-core.ensures ∙ ap (λ (n : ℕ). opened_core c.args.graph.now n c.args.versions) c.len.ensures in
    subst (λ (w : Whole). AreCallers w.state c.in_ok-callers.callers.items) (sym core)
    (subst (λ (xs : List Caller). AreCallers (opening c.args.graph.now (length c.args.scripts) c.args.versions) xs) (sym c.in_ok-callers.ensures)
    (new-callers c.args.graph.now c.args.scripts c.args.versions c.requires.few c.requires.within))

pub returns : goal.returns
returns c =
    let core = c.in_ok-core.ensures ∙ ap (λ (n : ℕ). opened_core c.args.graph.now n c.args.versions) c.len.ensures in
    new-stage c.args.graph.now c.args.scripts c.args.versions c.in_ok-core.core c.in_ok-callers.callers.items core c.in_ok-callers.ensures
