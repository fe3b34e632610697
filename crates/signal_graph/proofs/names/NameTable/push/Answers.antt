use Rattle.std.proofs.Common.{rules, ◌∙◌}
use Rattle.signal_graph.proofs.GraphNames.{IsTable-snoc}
use Rattle.signal_graph.proofs.names.NameTable.push.Goals as goal

pub invariant_of-self-in-Ok : goal.invariant_of-self-in-Ok
invariant_of-self-in-Ok c =
    IsTable-snoc _ _ _ _ _ c.in_ok-key.key _ c.self.invariant c.in_ok-push.ensures.items (c.in_ok-key.ensures.items ∙ c.as_slice.ensures) (search rules) (search rules) (search rules) c.in-Ok.ensures.updates
