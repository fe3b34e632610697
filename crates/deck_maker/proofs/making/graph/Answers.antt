use Rattle.std.proofs.Common.{arith, rules, ◌≡◌, IfOk, subst}
use Rattle.deck_maker.proofs.Steps.{begins, can_add, goes_on, declared_end, behind_end}
use Rattle.deck_maker.proofs.making.graph.Goals as goal

pub loop-node-init : goal.loop-node-init
loop-node-init c = begins c.new-builder.result c.args.draws.now c.new-builder.ensures (c.workload_is_separate.ensures.declared c.args.draws.now)

pub add-requires-clause-declaration : goal.add-requires-clause-declaration
add-requires-clause-declaration c =
    (can_add c.loop-node.builder _ c.loop-node.node c.loop-node.draws _ c.in_ok-name.name c.in_ok-kind.kind c.loop-node-test.true c.loop-node.invariant c.in_ok-name.ensures c.in_ok-kind.ensures.kind).0

pub add-requires-clause-free : goal.add-requires-clause-free
add-requires-clause-free c =
    (can_add c.loop-node.builder _ c.loop-node.node c.loop-node.draws _ c.in_ok-name.name c.in_ok-kind.kind c.loop-node-test.true c.loop-node.invariant c.in_ok-name.ensures c.in_ok-kind.ensures.kind).1

pub loop-node-preserved : goal.loop-node-preserved
loop-node-preserved c =
    goes_on c.loop-node.builder c.add.new.builder _ c.loop-node.node c.loop-node.draws c.declaration.new.draws _ c.in_ok-name.name c.in_ok-kind.kind c.loop-node-test.true c.loop-node.invariant
    c.in_ok-name.ensures c.in_ok-kind.ensures.kind c.declaration.ensures.state c.in_ok-add.ensures

pub returns-clause-graph : goal.returns-clause-graph
returns-clause-graph c =
    subst (λ whole. IfOk c.build.result (λ graph. graph ≡ whole))
    (declared_end c.loop-node.builder _ c.loop-node.node c.loop-node.draws (omega (arith, c.loop-node-test.false)) c.loop-node.invariant.1)
    c.build.ensures

pub returns-clause-state : goal.returns-clause-state
returns-clause-state c =
    let behind = behind_end c.loop-node.node c.loop-node.draws _ (omega (arith, c.loop-node-test.false)) c.loop-node.invariant.2 in
    search rules
