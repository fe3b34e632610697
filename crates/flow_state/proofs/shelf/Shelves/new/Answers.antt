use Rattle.std.proofs.Common.{arith}
use Rattle.flow_state.proofs.ShelfLemmas.{empty_kept, empty_seen}
use Rattle.flow_state.proofs.shelf.Shelves.new.Goals as goal

pub invariant_of-result : goal.invariant_of-result
invariant_of-result c =
    let len = c.in_ok-block.ensures.len in
    let counted = c.in_ok-block.block.ok.0 in
    let places = c.in_ok-shelves.ensures.places in
    let few = c.in_ok-shelves.ensures.few in
    empty_kept c.args.graph.now c.in_ok-block.block.items c.in_ok-shelves.shelves.items c.in_ok-shelves.ensures.shelves (omega (arith, len, counted, places)) (omega (arith, len, counted, few))

pub returns : goal.returns
returns c = empty_seen c.args.graph.now c.in_ok-block.block.items c.in_ok-shelves.shelves.items c.in_ok-shelves.ensures.shelves
