use Rattle.std.proofs.Common.{◌≡◌, ◌≤◌, ◌∷◌, [], ap, ◌∙◌, length, arith, rules, length-append}
use Rattle.std.proofs.lemmas.Grind.{common_steps}
use Rattle.signal_graph.specs.Values.{values, start}
use Rattle.serial_machine.specs.Reading.{AreChoosers}
use Rattle.signal_graph.proofs.Values.{length-values}
use Rattle.serial_machine.proofs.InPlace.{values_step, picks_step, kept_at_start, is_at_start}
use Rattle.serial_machine.proofs.machine.Machine.new.Goals as goal

pub loop-node-preserved : goal.loop-node-preserved
loop-node-preserved c =
    let graph = c.args.graph.now in
    let n = c.loop-node.node in (
      values_step (values graph (start graph)) n c.loop-node.values.items c.push.new.self.items c.start_value.result (omega (arith, length-values graph (start graph)))
          c.loop-node.invariant.0 c.start_value.ensures c.in_ok-push.ensures.items,
      ap length c.in_ok-push-2.ensures.items ∙ omega (arith, c.loop-node.invariant.1, length-append c.loop-node.picks.items (c.start_picks.result ∷ [])),
      picks_step graph (start graph) n c.loop-node.picks.items c.push-in-loop-node.new.self.items c.start_picks.result c.loop-node.invariant.1 c.loop-node.invariant.2 c.start_picks.ensures c.in_ok-push-2.ensures.items,
    )

pub invariant_of-result : goal.invariant_of-result
invariant_of-result c =
    let graph = c.args.graph.now in
    let n = c.loop-node.node in
    let past : length graph.nodes ≤ n = first_of (omega arith, first_of (search rules, grind (arith, common_steps))) in
    let within : n ≤ length graph.nodes = first_of (omega arith, first_of (search rules, grind (arith, common_steps))) in
    let copied : c.in_ok-before.before.items ≡ c.loop-node.values.items = first_of (search rules, grind (arith, common_steps)) in
    let listed : AreChoosers graph c.in_ok-choosers.choosers.items = first_of (search rules, grind (arith, common_steps)) in
    let marked : length c.in_ok-marks.marks ≡ length graph.nodes = first_of (search rules, grind (arith, common_steps)) in
    record {
      kept = kept_at_start graph n c.loop-node.values.items c.loop-node.picks.items past within c.loop-node.invariant.0 c.loop-node.invariant.1 c.loop-node.invariant.2;
      copied = copied;
      reached = listed;
      marked = marked;
    }

pub returns-clause-start : goal.returns-clause-start
returns-clause-start c =
    let graph = c.args.graph.now in
    let n = c.loop-node.node in
    let past : length graph.nodes ≤ n = first_of (omega arith, first_of (search rules, grind (arith, common_steps))) in
    is_at_start graph n c.loop-node.values.items past c.loop-node.invariant.0
