use Rattle.std.proofs.Common.{◌≡◌, ◌<◌, length, rules, slice_get, Some, None, ◌∙◌, ap, subst, slice_index_or}
use Rattle.script_tree.proofs.PickItems.{item_at, few_items, item_with, item_without}
use Rattle.script_tree.proofs.picks.Picks.get.Goals as goal

pub bounds : goal.bounds
bounds c = search (rules, few_items)

pub returns-in-Node : goal.returns-in-Node
returns-in-Node c = search (rules, item_at, item_with)

pub returns-in_default : goal.returns-in_default
returns-in_default c = search (rules, item_at, item_without)
