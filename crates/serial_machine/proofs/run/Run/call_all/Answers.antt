use Rattle.std.proofs.Common.{◌≡◌, ◌∷◌, length, ap, ◌∙◌, subst, arith}
use Rattle.std.specs.Prelude.{All}
use Rattle.std.specs.Vec.Iter.{into_iter_items}
use Rattle.std.proofs.lemmas.List.Elements.{All-tail}
use Rattle.serial_machine.specs.Running.{IsWithinLimits}
use Rattle.serial_machine.proofs.Moving.{room_for_next, moved_next}
use Rattle.serial_machine.proofs.run.Run.call_all.Goals as goal

pub call-requires-clause-room : goal.call-requires-clause-room
call-requires-clause-room c =
    let at = c.loop-call in
    let x = c.in-Some.call in
    let steps : into_iter_items at.call-iterator ≡ x ∷ into_iter_items c.next.new.self = c.in-Some.ensures.steps.0 in
    let i = at.invariant in
    room_for_next c.args.self.now.graph at.self.graph c.args.self.now.limit at.self.limit c.args.caller at.number x (into_iter_items c.next.new.self) (into_iter_items at.call-iterator)
    c.args.calls at.self.progress c.args.self.now.progress c.args.self.now.capacity at.self.capacity i.0 i.1 i.2 steps i.6 c.requires.room

pub loop-call-preserved : goal.loop-call-preserved
loop-call-preserved c =
    let at = c.loop-call in
    let x = c.in-Some.call in
    let rest = into_iter_items c.next.new.self in
    let steps : into_iter_items at.call-iterator ≡ x ∷ rest = c.in-Some.ensures.steps.0 in
    let gone = c.in-Some.ensures.steps.1 in
    let short = ap length steps in
    let i = at.invariant in (
      c.in_ok-call.ensures.graph ∙ i.0,
      c.in_ok-call.ensures.limit ∙ i.1,
      c.in_ok-call.ensures.capacity ∙ i.2,
      (let size = i.3 in omega arith),
      (let was = i.4 in omega arith),
      All-tail IsWithinLimits x rest (subst (All IsWithinLimits) steps i.5),
      moved_next c.args.self.now.graph at.self.graph c.args.self.now.limit at.self.limit c.args.caller at.number x rest (into_iter_items at.call-iterator)
          c.args.calls at.self.progress c.call.new.self.progress c.args.self.now.progress i.0 i.1 steps c.in_ok-call.ensures.called i.6,
    )
