use Rattle.std.proofs.Common.{ap, ◌∙◌, arith}
use Rattle.std.specs.FinSet as set
use Rattle.order_graph.proofs.SlotLemmas.{slots_of-insert}
use Rattle.order_graph.proofs.slot_set.SlotSet.insert.Goals as goal

pub returns : goal.returns
returns c = slots_of-insert c.self.inside.words c.args.slot (omega arith) c.requires ∙ ap (λ s. set.insert s c.args.slot) c.self.view_is
