use Rattle.std.proofs.Common.{sym, ◌∙◌}
use Rattle.node_versions.proofs.LastDone.{found, step}
use Rattle.node_versions.proofs.list.last_done_place.Goals as goal

pub returns-then-is_done-clause-some : goal.returns-then-is_done-clause-some
returns-then-is_done-clause-some c = found c.args.entries.now c.loop-entry.rest.now c.in-Some.front.now c.in-Some.entry.now c.loop-entry.invariant c.in-Some.ensures.cases.0 (sym c.is_done.ensures ∙ c.if-is_done.true)

pub loop-entry-preserved : goal.loop-entry-preserved
loop-entry-preserved c = step _ c.loop-entry.rest.now c.in-Some.front.now c.in-Some.entry.now c.loop-entry.invariant c.in-Some.ensures.cases.0 (sym c.is_done.ensures ∙ c.if-is_done.false)
