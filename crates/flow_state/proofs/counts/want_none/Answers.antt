use Rattle.std.proofs.Common.{◌∙◌, length, ap, sym, subst}
use Rattle.std.specs.Prelude.{◌<◌}
use Rattle.node_set.specs.Members.{Members}
use Rattle.flow_state.specs.Seats.{Follow}
use Rattle.flow_state.proofs.CountLemmas.{least_inside, least_fewer, follow_out, follow_both}
use Rattle.flow_state.proofs.counts.want_none.Goals as goal

pub remove-was_in-requires : goal.remove-was_in-requires
remove-was_in-requires c = least_inside c.loop-node.wanted.size c.loop-node.wanted.nodes c.in-Some.node c.in-Some.ensures c.is_kept.ensures.inside

pub loop-node-smaller : goal.loop-node-smaller
loop-node-smaller c = subst (λ (m : Members). length m.nodes < length c.loop-node.wanted.nodes) (sym c.remove-was_in.ensures.nodes) (least_fewer c.loop-node.wanted.nodes c.in-Some.node c.in-Some.ensures)

pub loop-node-preserved : goal.loop-node-preserved
loop-node-preserved c =
    let out = follow_out c.loop-node.counts c.lower.new.counts c.in-Some.node c.loop-node.wanted.nodes c.remove-was_in.result c.remove-was_in.ensures.was_in c.lower.ensures.counts in
    let moved = subst (λ (m : Members). Follow c.loop-node.counts c.loop-node.wanted.nodes c.lower.new.counts m.nodes) (sym c.remove-was_in.ensures.nodes) out in (
      ap (λ (m : Members). m.size) c.remove-was_in.ensures.nodes ∙ c.loop-node.invariant.0,
      c.lower.ensures.size ∙ c.loop-node.invariant.1,
      follow_both c.args.counts.now c.loop-node.counts c.lower.new.counts c.args.wanted.now.nodes c.loop-node.wanted.nodes c.remove-was_in.new.self.nodes c.loop-node.invariant.2 moved,
    )
