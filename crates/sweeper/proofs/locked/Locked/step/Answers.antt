use Rattle.std.proofs.Common.{[], ◌∷◌, ◌++◌, refl, ap, ◌∙◌, vec_capacity}
use Rattle.flow_model.specs.Machine.Histories.{Make, state}
use Rattle.caller_fronts.proofs.Rests.{some-live}
use Rattle.sweeper.proofs.Meets.{is_met, going-same, plain-no_job}
use Rattle.sweeper.proofs.locked.Locked.step.Goals as goal

pub make-requires-clause-lives : goal.make-requires-clause-lives
make-requires-clause-lives g c =
    let j = g.J.Naming in
    some-live (state j.graph j.callers j.limit c.args.self.now.moves) c.args.met.version c.requires.met.going.lives

pub live-requires-clause-met : goal.live-requires-clause-met
live-requires-clause-met g c =
    let j = g.J.Naming in
    let m = c.args.met in
    let moves = c.args.self.now.moves in
    let may = c.requires.turn.allowed c.args.step refl in
    let no_end = c.requires.turn.goes_on c.args.step refl in
    let after = c.steps_keep_calls.ensures.going j.graph c.self.invariant.1.is_graph j.callers j.limit m.caller m.version m.luggage.value.out.nodes moves c.args.step
    c.requires.met.going may no_end (plain-no_job c.args.step m.version m.luggage.value.out.nodes c.requires.plain) in
    is_met j.graph j.callers j.limit m m.version m.luggage.value.out.size m.luggage.value.out.nodes (moves ++ Make c.args.step ∷ []) c.make.new.self.moves
    refl refl refl (ap (λ h. h.moves) c.make.ensures) c.requires.met.size after c.requires.met.empty
    (c.steps_keep_calls.ensures.looks j.graph j.callers j.limit m.caller m.version (vec_capacity m.luggage.value.looks) m.luggage.value.out.nodes moves c.args.step c.requires.met.going may no_end c.requires.met.looks)

pub returns : goal.returns
returns g c =
    let j = g.J.Naming in
    let m = c.args.met in
    let moves = c.args.self.now.moves in
    c.live.ensures.live
    ∙ going-same j.graph j.callers j.limit m.caller m.version m.luggage.value.out.nodes m.luggage.value.out.nodes c.make.new.self.moves (moves ++ Make c.args.step ∷ []) _
    refl (ap (λ h. h.moves) c.make.ensures)
    (c.steps_keep_calls.ensures.jobs j.graph c.self.invariant.1.is_graph j.callers j.limit m.caller m.version m.luggage.value.out.nodes moves c.args.step
    c.requires.met.going (c.requires.turn.allowed c.args.step refl) (plain-no_job c.args.step m.version m.luggage.value.out.nodes c.requires.plain))
