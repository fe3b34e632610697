use Rattle.std.proofs.Common.{◌+◌, length, None, Some, sym, ap, ◌∙◌}
use Rattle.signal_graph.proofs.GraphCalls.{misnamed_look}
use Rattle.signal_graph.proofs.call.Call.named_in.Goals as goal

pub returns-in-Ok-nodes_named-clause-right : goal.returns-in-Ok-nodes_named-clause-right
returns-in-Ok-nodes_named-clause-right c =
    misnamed_look c.args.graph.now c.args.self.now c.sets.result.now c.looks.result.now (1 + length c.sets-2.result.now) None c.sets.ensures c.looks.ensures c.in-Ok.ensures.right
    (ap (λ ss. 1 + length ss) (c.sets-2.ensures ∙ sym c.sets.ensures)) c.in-Ok-nodes_named.ensures.right

pub returns-in-Err-nodes_named-clause-wrong : goal.returns-in-Err-nodes_named-clause-wrong
returns-in-Err-nodes_named-clause-wrong c =
    misnamed_look c.args.graph.now c.args.self.now c.sets.result.now c.looks.result.now (1 + length c.sets-2.result.now) (Some c.in-Err-nodes_named.place) c.sets.ensures c.looks.ensures c.in-Ok.ensures.right
    (ap (λ ss. 1 + length ss) (c.sets-2.ensures ∙ sym c.sets.ensures)) c.in-Err-nodes_named.ensures.wrong
