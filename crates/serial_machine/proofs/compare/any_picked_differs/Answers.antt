use Rattle.std.proofs.Common.{sym, ◌∙◌, ap}
use Rattle.std.specs.Prelude.{◌||◌, ◌+◌}
use Rattle.std.specs.List.{list_any}
use Rattle.std.proofs.Common.{drop}
use Rattle.signal_graph.specs.Values.{nodes_in}
use Rattle.signal_graph.specs.Machine.{differs}
use Rattle.signal_graph.proofs.Members.{any-picks}
use Rattle.serial_machine.proofs.compare.any_picked_differs.Goals as goal

pub returns-then-is_changed : goal.returns-then-is_changed
returns-then-is_changed c =
    let test = differs c.args.before.now c.args.now.now in
    sym (sym c.loop-index.invariant
    ∙ any-picks test c.args.picks.now c.loop-index.index c.get.result c.get.ensures
    ∙ ap (λ b. b || list_any test (nodes_in (drop (c.loop-index.index + 1) c.args.picks.now))) (sym c.is_changed.ensures ∙ c.if-is_changed.true))

pub loop-index-preserved : goal.loop-index-preserved
loop-index-preserved c =
    let test = differs c.args.before.now c.args.now.now in
    sym (sym c.loop-index.invariant
    ∙ any-picks test c.args.picks.now c.loop-index.index c.get.result c.get.ensures
    ∙ ap (λ b. b || list_any test (nodes_in (drop (c.loop-index.index + 1) c.args.picks.now))) (sym c.is_changed.ensures ∙ c.if-is_changed.false))
