use Rattle.std.proofs.Common.{length, sym, ap, ◌∙◌, ◌∷◌, [], arith, length-append}
use Rattle.signal_graph.specs.Graph.{number_of}
use Rattle.signal_graph.specs.Machine.{names_node}
use Rattle.signal_graph.proofs.GraphCalls.{wrong-at, wrong-step, not_named, is_named, one_number_more}
use Rattle.signal_graph.proofs.call.put_nodes.Goals as goal

pub returns-in-None-clause-place : goal.returns-in-None-clause-place
returns-in-None-clause-place c = sym
    (wrong-at (names_node c.args.graph.now) c.args.from c.args.looks.now c.loop-index.index c.index-looks-index.result c.loop-index-test.true c.loop-index.invariant.0
    (ap (names_node c.args.graph.now) (sym c.index-looks-index.is) ∙ not_named _ _ c.find.result c.find.ensures.value c.in-None.is))

pub loop-index-preserved : goal.loop-index-preserved
loop-index-preserved c =
    let named = is_named _ _ c.in-Some.node c.find.result c.find.ensures.value c.in-Some.is in (
      wrong-step (names_node c.args.graph.now) c.args.from c.args.looks.now c.loop-index.index c.index-looks-index.result c.loop-index-test.true c.loop-index.invariant.0
          (ap (names_node c.args.graph.now) (sym c.index-looks-index.is) ∙ named.0),
      one_number_more (number_of c.args.graph.now) c.args.looks.now c.loop-index.index c.in-Some.node c.index-looks-index.result c.loop-index.found.items c.push_reserved.new.self.items c.loop-index-test.true c.loop-index.invariant.1
          (named.1 ∙ ap (number_of c.args.graph.now) c.index-looks-index.is) c.push_reserved.ensures.items,
      ap length c.push_reserved.ensures.items ∙ omega (arith, c.loop-index.invariant.2, length-append c.loop-index.found.items (c.in-Some.node ∷ [])),
      omega (arith, c.loop-index.invariant.3, c.push_reserved.ensures.capacity),
    )
