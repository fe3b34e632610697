use Rattle.std.proofs.Common.{ℕ, List, Bool, length, sym, ap, ◌∙◌, ◌∷◌, [], arith, length-append}
use Rattle.script_tree.specs.declared.value.Value.{Value}
use Rattle.signal_graph.specs.Graph.{number_of}
use Rattle.signal_graph.specs.Machine.{names_source}
use Rattle.signal_graph.proofs.GraphCalls.{wrong-at, wrong-step, not_named, is_named, one_number_more}
use Rattle.signal_graph.proofs.call.put_sources.Goals as goal

pub returns-in-None-clause-place : goal.returns-in-None-clause-place
returns-in-None-clause-place c =
    let right : List ℕ × Value → Bool = λ s. names_source c.args.graph.now s.0 in
    sym (wrong-at right 1 c.args.sets.now c.loop-index.index c.index-sets-index.result c.loop-index-test.true c.loop-index.invariant.0
    (ap right (sym c.index-sets-index.is) ∙ not_named _ _ c.source_named.result c.source_named.ensures c.in-None.is))

pub loop-index-preserved : goal.loop-index-preserved
loop-index-preserved c =
    let right : List ℕ × Value → Bool = λ s. names_source c.args.graph.now s.0 in
    let found : List ℕ × Value → ℕ × Value = λ s. (number_of c.args.graph.now s.0, s.1) in
    let named = is_named _ _ c.in-Some.node c.source_named.result c.source_named.ensures c.in-Some.is in
    let item : ℕ × Value = (c.in-Some.node, c.index-sets-index.result.1) in (
      wrong-step right 1 c.args.sets.now c.loop-index.index c.index-sets-index.result c.loop-index-test.true c.loop-index.invariant.0
          (ap right (sym c.index-sets-index.is) ∙ named.0),
      one_number_more found c.args.sets.now c.loop-index.index item c.index-sets-index.result c.loop-index.found.items c.push_reserved.new.self.items c.loop-index-test.true c.loop-index.invariant.1
          (ap (λ (n : ℕ). (n, c.index-sets-index.result.1)) named.1 ∙ ap found c.index-sets-index.is) c.push_reserved.ensures.items,
      ap length c.push_reserved.ensures.items ∙ omega (arith, c.loop-index.invariant.2, length-append c.loop-index.found.items (item ∷ [])),
      omega (arith, c.loop-index.invariant.3, c.push_reserved.ensures.capacity),
    )
