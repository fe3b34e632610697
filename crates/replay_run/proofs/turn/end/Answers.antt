use Rattle.std.proofs.Common.{ap, sym, ◌∙◌, subst}
use Rattle.flow_model.specs.declared.step.Step.TheVariants as steps
use Rattle.flow_model.specs.Machine.State.{Core}
use Rattle.flow_model.specs.Machine.Steps.{apply}
use Rattle.interleave_core.specs.Whole.{Whole}
use Rattle.replay_run.specs.Replaying.{Caller, IsTurn}
use Rattle.replay_run.proofs.Turns.{end-turn, stay-turn}
use Rattle.flow_model.specs.Machine.Schedules.{version_of}
use Rattle.flow_model.specs.Follows.Callers.{IsWithin}
use Rattle.std.specs.List.{AllByRecursion}
use Rattle.replay_run.proofs.Versions.{end-version, end-others}
use Rattle.replay_run.proofs.turn.end.Goals as goal

pub returns-then-allowed-clause-caller : goal.returns-then-allowed-clause-caller
returns-then-allowed-clause-caller c =
    let s = c.args.core.now.state in
    let graph = c.args.core.now.graph in
    let lawful = c.book.ensures.fits.lawful in
    let may = sym c.allowed.ensures ∙ c.if-allowed.true in
    let after = c.lawful_stays.ensures.step graph c.book.ensures.fits.is_graph s (steps.End c.args.version) lawful may in
    record {
      live = ap (λ (x : Caller). x.live) c.end.ensures ∙ sym (ap (λ (w : Whole). version_of c.args.number w.state.calls) c.apply.ensures ∙ end-version graph s c.args.version c.args.number lawful after c.requires.live);
      within = subst (λ (x : Caller). AllByRecursion IsWithin x.thread.left) (sym c.end.ensures) c.requires.caller.within;
    }

pub returns-then-allowed-clause-others : goal.returns-then-allowed-clause-others
returns-then-allowed-clause-others c =
    let s = c.args.core.now.state in
    let graph = c.args.core.now.graph in
    let lawful = c.book.ensures.fits.lawful in
    let may = sym c.allowed.ensures ∙ c.if-allowed.true in
    let after = c.lawful_stays.ensures.step graph c.book.ensures.fits.is_graph s (steps.End c.args.version) lawful may in
    record {
      callers = ap (λ (w : Whole). w.state.callers) c.apply.ensures;
      live = λ j ne. ap (λ (w : Whole). version_of j w.state.calls) c.apply.ensures ∙ end-others graph s c.args.version c.args.number j lawful after c.requires.live ne;
    }

pub returns-then-allowed-clause-turn : goal.returns-then-allowed-clause-turn
returns-then-allowed-clause-turn c =
    let s = c.args.core.now.state in
    let graph = c.args.core.now.graph in
    let x = c.args.caller.now.thread in
    let may = sym c.allowed.ensures ∙ c.if-allowed.true in
    subst (λ (q : Core). IsTurn graph c.args.number s x q c.end.new.self.thread) (sym (ap (λ (w : Whole). w.state) c.apply.ensures))
    (subst (λ (y : Caller). IsTurn graph c.args.number s x (apply graph s (steps.End c.args.version)) y.thread) (sym c.end.ensures)
    (end-turn graph c.args.number s x c.args.version c.requires.live c.requires.ready may))

pub returns-else-allowed-clause-turn : goal.returns-else-allowed-clause-turn
returns-else-allowed-clause-turn c =
    stay-turn c.args.core.now.graph c.args.number c.args.core.now.state c.args.caller.now.thread c.args.version c.requires.live c.requires.ready (sym c.allowed.ensures ∙ c.if-allowed.false)
