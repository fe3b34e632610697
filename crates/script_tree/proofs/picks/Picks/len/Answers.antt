use Rattle.std.proofs.Common.{◌≡◌, length, ◌+◌, drop, rules}
use Rattle.script_tree.proofs.PickItems.{ends_at_free, taken_counts, none_behind_all}
use Rattle.script_tree.proofs.picks.Picks.len.Goals as goal

pub returns-in-Free-clause-value : goal.returns-in-Free-clause-value
returns-in-Free-clause-value c = search (rules, ends_at_free)

pub loop-index-preserved : goal.loop-index-preserved
loop-index-preserved c = search (rules, taken_counts)

pub returns-clause-value : goal.returns-clause-value
returns-clause-value c = search (rules, none_behind_all)
