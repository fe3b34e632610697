use Rattle.std.proofs.Common.{ap, ◌∙◌}
use Rattle.std.specs.FinSet as set
use Rattle.order_graph.proofs.SlotLemmas.{contains-bit}
use Rattle.order_graph.proofs.slot_set.SlotSet.contains.Goals as goal

pub returns : goal.returns
returns c = contains-bit c.self.inside.words c.args.slot c.requires ∙ ap (λ s. set.contains s c.args.slot) c.self.view_is
