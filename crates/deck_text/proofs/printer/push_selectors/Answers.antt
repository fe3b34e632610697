use Rattle.std.proofs.Common.{length}
use Rattle.deck_text.proofs.PrintLaws.{selectors_first, selectors_rest}
use Rattle.deck_text.proofs.printer.push_selectors.Goals as goal

pub push_selector-requires : goal.push_selector-requires
push_selector-requires c =
    selectors_first (length c.args.graph.now.nodes) c.args.selectors.now c.in-Some.first.now c.in-Some.rest.now c.in-Some.ensures.cases.0 c.requires

pub push_more_selectors-requires : goal.push_more_selectors-requires
push_more_selectors-requires c =
    selectors_rest (length c.args.graph.now.nodes) c.args.selectors.now c.in-Some.first.now c.in-Some.rest.now c.in-Some.ensures.cases.0 c.requires
