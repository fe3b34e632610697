use Rattle.std.proofs.Common.{◌≡◌, ℕ, suc, Some, ap, sym, ◌∙◌, subst}
use Rattle.std.specs.List.{AllByRecursion}
use Rattle.std.proofs.lemmas.Result.{on_ok_weaker}
use Rattle.signal_graph.specs.declared.log.Why.TheVariants as whys
use Rattle.flow_model.specs.Machine.State.{Core}
use Rattle.flow_model.specs.Machine.Steps.{begin}
use Rattle.flow_model.specs.Machine.Schedules.{version_of}
use Rattle.flow_model.specs.Follows.Callers.{IsWithin}
use Rattle.interleave_core.specs.Beginning.{why_of}
use Rattle.interleave_core.specs.Whole.{Whole}
use Rattle.replay_run.specs.Replaying.{Caller, IsTurn, has_refused}
use Rattle.replay_run.proofs.Turns.{idle-turn, begin-turn, refuse-turn, refused-thread}
use Rattle.replay_run.proofs.Versions.{begin-version, begin-others}
use Rattle.replay_run.proofs.turn.begin_next.Goals as goal

pub returns-in_default-clause-turn : goal.returns-in_default-clause-turn
returns-in_default-clause-turn c =
    subst (λ (y : Caller). IsTurn c.args.core.now.graph c.args.number c.args.core.now.state c.args.caller.now.thread c.args.core.now.state y.thread) (sym c.in_default.ensures.none)
    (idle-turn c.args.core.now.graph c.args.number c.args.core.now.state c.args.caller.now.thread c.requires.none c.in_default.ensures.empty)

pub returns-in-Ok-clause-caller : goal.returns-in-Ok-clause-caller
returns-in-Ok-clause-caller c =
    let k = c.args.number in
    let s = c.args.core.now.state in
    let graph = c.args.core.now.graph in
    let call = c.in-Some.call in
    let state : c.begin-version.new.self.state ≡ begin graph s k call =
    ap (λ (w : Whole). w.state) c.begin-version.ensures.state ∙ ap (λ (w : Whole). begin w.graph w.state k call) c.in-Ok.ensures.ok in
    let version : c.begin-version.result ≡ suc s.begun = c.begin-version.ensures.version ∙ ap (λ (w : Whole). suc w.state.begun) c.in-Ok.ensures.ok in
    record {
      live = ap (λ (y : Caller). y.live) c.begin.ensures ∙ ap (λ (v : ℕ). Some v) version ∙ sym (ap (λ (q : Core). version_of k q.calls) state ∙ begin-version graph s k call c.requires.none);
      within = subst (λ (y : Caller). AllByRecursion IsWithin y.thread.left) (sym c.begin.ensures) (subst (AllByRecursion IsWithin) c.in-Some.ensures.call c.requires.caller.within).1;
    }

pub returns-in-Ok-clause-others : goal.returns-in-Ok-clause-others
returns-in-Ok-clause-others c =
    let k = c.args.number in
    let s = c.args.core.now.state in
    let graph = c.args.core.now.graph in
    let call = c.in-Some.call in
    let state : c.begin-version.new.self.state ≡ begin graph s k call =
    ap (λ (w : Whole). w.state) c.begin-version.ensures.state ∙ ap (λ (w : Whole). begin w.graph w.state k call) c.in-Ok.ensures.ok in
    record {
      callers = ap (λ (q : Core). q.callers) state;
      live = λ j ne. ap (λ (q : Core). version_of j q.calls) state ∙ begin-others graph s k j call ne;
    }

pub returns-in-Ok-clause-turn : goal.returns-in-Ok-clause-turn
returns-in-Ok-clause-turn c =
    let k = c.args.number in
    let s = c.args.core.now.state in
    let graph = c.args.core.now.graph in
    let x = c.args.caller.now.thread in
    let call = c.in-Some.call in
    let left = c.take.new.self.thread.left in
    let state : c.begin-version.new.self.state ≡ begin graph s k call =
    ap (λ (w : Whole). w.state) c.begin-version.ensures.state ∙ ap (λ (w : Whole). begin w.graph w.state k call) c.in-Ok.ensures.ok in
    subst (λ (q : Core). IsTurn graph k s x q c.begin.new.self.thread) (sym state)
    (begin-turn graph k s x c.begin.new.self.thread call left c.requires.none c.in-Some.ensures.call c.in-Ok.ensures.fits
    (ap (λ (y : Caller). y.thread) c.begin.ensures ∙ ap (λ (y : Caller). y.thread) c.in-Some.ensures.some))

pub returns-in-Err-UnknownName-clause-turn : goal.returns-in-Err-UnknownName-clause-turn
returns-in-Err-UnknownName-clause-turn c =
    let k = c.args.number in
    let s = c.args.core.now.state in
    let graph = c.args.core.now.graph in
    let x = c.args.caller.now in
    let left = c.take.new.self.thread.left in
    let why = whys.UnknownName c.in-Err-UnknownName.place in
    on_ok_weaker c.refuse.result (λ (e : c.refuse.new.self ≡ has_refused c.take.new.self k why).
    subst (λ (w : Whole). IsTurn graph k s x.thread w.state c.refuse.new.self.thread) (sym c.in-Err-UnknownName.ensures.err)
    (refuse-turn graph k s x.thread c.refuse.new.self.thread c.in-Some.call left why c.requires.none c.in-Some.ensures.call (sym c.in-Err-UnknownName.ensures.why ∙ ap why_of c.in-Err-UnknownName.field-0-is)
    (ap (λ (y : Caller). y.thread) e ∙ ap (λ (y : Caller). (has_refused y k why).thread) c.in-Some.ensures.some ∙ refused-thread x k why left))) c.refuse.ensures.ok

pub returns-in-Err-VersionsUsedUp-clause-turn : goal.returns-in-Err-VersionsUsedUp-clause-turn
returns-in-Err-VersionsUsedUp-clause-turn c =
    let k = c.args.number in
    let s = c.args.core.now.state in
    let graph = c.args.core.now.graph in
    let x = c.args.caller.now in
    let left = c.take.new.self.thread.left in
    let why = whys.VersionsUsedUp c.in-Err-VersionsUsedUp.limit in
    let refused = c.refuse-in-Err-VersionsUsedUp in
    on_ok_weaker refused.result (λ (e : refused.new.self ≡ has_refused c.take.new.self k why).
    subst (λ (w : Whole). IsTurn graph k s x.thread w.state refused.new.self.thread) (sym c.in-Err-VersionsUsedUp.ensures.err)
    (refuse-turn graph k s x.thread refused.new.self.thread c.in-Some.call left why c.requires.none c.in-Some.ensures.call (sym c.in-Err-VersionsUsedUp.ensures.why ∙ ap why_of c.in-Err-VersionsUsedUp.field-0-is)
    (ap (λ (y : Caller). y.thread) e ∙ ap (λ (y : Caller). (has_refused y k why).thread) c.in-Some.ensures.some ∙ refused-thread x k why left))) refused.ensures.ok
