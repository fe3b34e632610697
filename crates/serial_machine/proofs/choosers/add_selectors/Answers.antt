use Rattle.std.proofs.Common.{◌<◌, length, ap, ◌∙◌, arith}
use Rattle.signal_graph.specs.declared.node.Selector.{Selector}
use Rattle.serial_machine.proofs.ChooserLists.{lists_next}
use Rattle.serial_machine.proofs.choosers.add_selectors.Goals as goal

pub loop-selector-preserved : goal.loop-selector-preserved
loop-selector-preserved c =
    let i = c.loop-selector.selector-index in
    let within : i < length c.args.selectors.now = omega (arith, c.loop-selector-test.true) in
    lists_next c.args.lists.now.items c.loop-selector.lists.items c.add_chooser.new.lists.items c.args.node c.args.selectors.now i c.selector-item.result c.as_slice.result.now
    within (c.as_slice.ensures ∙ ap (λ (s : Selector). s.candidates) c.selector-item.is) c.in_ok-add_chooser.ensures.len c.in_ok-add_chooser.ensures.kept c.in_ok-add_chooser.ensures.added c.loop-selector.invariant
