use Rattle.std.proofs.Common.{ap, ◌∙◌, arith}
use Rattle.std.specs.FinSet as set
use Rattle.order_graph.specs.Slots.{slots_of}
use Rattle.order_graph.proofs.SlotLemmas.{joined_all}
use Rattle.order_graph.proofs.slot_set.SlotSet.join.Goals as goal

pub returns : goal.returns
returns c =
    joined_all _ c.self.inside.words c.other.inside.words c.loop-index.self-inside.words (omega arith) (omega arith) c.loop-index.invariant
    ∙ ap (λ s. set.union s (slots_of c.other.inside.words)) c.self.view_is
    ∙ ap (set.union c.args.self.now) c.other.view_is
