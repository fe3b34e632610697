use Rattle.std.proofs.Common.{ap, ◌∙◌, length, ◌<◌, arith}
use Rattle.interleave_core.specs.Whole.{Whole}
use Rattle.interleave_core.proofs.Begins.{works_nodes, room_made}
use Rattle.interleave_core.proofs.Callers.{all-can, none-refused}
use Rattle.interleave_core.proofs.core_state.Core.admit.Goals as goal
use Rattle.interleave_core.proofs.core_state.Core.admit.Goals.{in-Ok, in-Err-Some, in-Err-None}

pub returns-clause-room : goal.returns-clause-room
returns-clause-room c =
    let m = c.self.inside in
    elim c.match-make_room.branch [
      | in-Ok w ↦
          rw w.result-is (room_made w.in-Ok.room m.graph.now c.args.self.now.graph c.args.call.now _ (ap (λ (w : Whole). w.graph) c.self.view_is) w.in-Ok.ensures.room
          (works_nodes m.graph.now m.book m.lists.items c.self.invariant ∙ ap (λ (w : Whole). length w.graph.nodes) c.self.view_is))
      | in-Err-Some w ↦ rw w.result-is tt
      | in-Err-None w ↦ rw w.result-is tt
    ]

pub returns-clause-begins : goal.returns-clause-begins
returns-clause-begins c =
    let m = c.self.inside in
    let left : m.book.book.begun < m.book.book.limit = let h = c.if-begun-limit.false in let b = c.begun.ensures in let l = c.limit-limit.ensures in omega (arith, h, b, l) in
    elim c.match-make_room.branch [
      | in-Ok w ↦
          rw w.result-is (all-can c.args.self.now.graph c.args.self.now.state c.args.call.now c.requires.sets c.requires.looks
          (none-refused m.graph.now m.book m.lists.items c.args.call.now c.args.self.now c.self.view_is w.in-Ok.ensures.named left))
      | in-Err-Some w ↦ rw w.result-is tt
      | in-Err-None w ↦ rw w.result-is tt
    ]
