use Rattle.std.proofs.Common.{◌∙◌, ◌<◌, ◌+◌, drop, length, ap, sym, subst, arith}
use Rattle.node_set.specs.Members.{Members}
use Rattle.flow_model.specs.Machine.Sets.{put_all}
use Rattle.flow_model.specs.Machine.Steps.{nodes_set}
use Rattle.flow_state.specs.Seats.{Follow}
use Rattle.flow_state.proofs.CountLemmas.{follow_in, follow_both}
use Rattle.flow_state.proofs.Naming.{put_more}
use Rattle.flow_state.proofs.counts.want_all.Goals as goal

pub loop-node-preserved : goal.loop-node-preserved
loop-node-preserved c =
    let i = c.loop-node.node-index in
    let below : i < length c.args.sets.now = let t = c.loop-node-test.true in omega (arith, t) in
    let in_now = follow_in c.loop-node.counts c.raise.new.counts _ c.loop-node.wanted.nodes c.insert-is_new.result c.insert-is_new.ensures.was_new c.raise.ensures.counts in
    let moved = subst (λ (m : Members). Follow c.loop-node.counts c.loop-node.wanted.nodes c.raise.new.counts m.nodes) (sym c.insert-is_new.ensures.nodes) in_now in (
      ap (λ (m : Members). put_all (nodes_set (drop (i + 1) c.args.sets.now)) m.nodes) c.insert-is_new.ensures.nodes ∙ put_more c.args.sets.now i _ c.loop-node.wanted.nodes _ below c.loop-node.invariant.0,
      ap (λ (m : Members). m.size) c.insert-is_new.ensures.nodes ∙ c.loop-node.invariant.1,
      c.raise.ensures.size ∙ c.loop-node.invariant.2,
      follow_both c.args.counts.now c.loop-node.counts c.raise.new.counts c.args.wanted.now.nodes c.loop-node.wanted.nodes c.insert-is_new.new.self.nodes c.loop-node.invariant.3 moved,
    )
