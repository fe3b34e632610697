use Rattle.std.proofs.Common.{ap, sym, ◌∙◌, subst}
use Rattle.flow_model.specs.Machine.State.{Core}
use Rattle.flow_model.specs.Machine.Schedules.{version_of}
use Rattle.flow_model.proofs.Callers.OnlyBeginningsAdd.{step-within}
use Rattle.interleave_core.specs.Whole.{Whole}
use Rattle.replay_run.specs.Replaying.{IsTurn}
use Rattle.replay_run.proofs.NoEnd.{next-goes-on}
use Rattle.replay_run.proofs.Turns.{step-turn, wait-turn}
use Rattle.replay_run.proofs.Versions.{owned, step-version}
use Rattle.replay_run.proofs.turn.go_on.Goals as goal

pub next-requires : goal.next-requires
next-requires c = (owned c.args.core.now.graph c.args.core.now.state c.book.ensures.fits.lawful c.args.version c.args.number c.requires.live).0

pub returns-in-Step-clause-caller : goal.returns-in-Step-clause-caller
returns-in-Step-clause-caller c =
    let s = c.args.core.now.state in
    let graph = c.args.core.now.graph in
    let step = c.in-Step.step in
    let comes = sym c.next.ensures.turn ∙ c.in-Step.is in
    let may = c.next.ensures.step step c.in-Step.is in
    record {
      live = c.requires.caller.live ∙ sym (ap (λ (w : Whole). version_of c.args.number w.state.calls) c.apply.ensures
          ∙ step-version graph s step may (next-goes-on graph s c.args.version step comes) c.args.number);
      within = c.requires.caller.within;
    }

pub returns-in-Step-clause-others : goal.returns-in-Step-clause-others
returns-in-Step-clause-others c =
    let s = c.args.core.now.state in
    let graph = c.args.core.now.graph in
    let step = c.in-Step.step in
    let comes = sym c.next.ensures.turn ∙ c.in-Step.is in
    let may = c.next.ensures.step step c.in-Step.is in
    record {
      callers = ap (λ (w : Whole). w.state.callers) c.apply.ensures ∙ (step-within graph s step may).0;
      live = λ j ne. ap (λ (w : Whole). version_of j w.state.calls) c.apply.ensures ∙ step-version graph s step may (next-goes-on graph s c.args.version step comes) j;
    }

pub returns-in-Step-clause-turn : goal.returns-in-Step-clause-turn
returns-in-Step-clause-turn c =
    let s = c.args.core.now.state in
    let graph = c.args.core.now.graph in
    let x = c.args.caller.now.thread in
    subst (λ (q : Core). IsTurn graph c.args.number s x q x) (sym (ap (λ (w : Whole). w.state) c.apply.ensures))
    (step-turn graph c.args.number s x c.args.version c.in-Step.step c.requires.live (sym c.next.ensures.turn ∙ c.in-Step.is))

pub returns-in-NotYet-clause-turn : goal.returns-in-NotYet-clause-turn
returns-in-NotYet-clause-turn c =
    wait-turn c.args.core.now.graph c.args.number c.args.core.now.state c.args.caller.now.thread c.args.version c.in-NotYet.field-0 c.requires.live (sym c.next.ensures.turn ∙ c.in-NotYet.is)
