-- Whose step a step is, and which node's list it changes.
use Rattle.std.specs.Prelude.{ℕ, Bool, true, false, Option, Some, None}
use Rattle.flow_model.specs.declared.step.Step.{Step}
use Rattle.flow_model.specs.declared.step.Step.TheVariants.{Frame, Start, Skip, Gather, Evaluate, Body, Resolve}
use Rattle.flow_model.specs.declared.step.Step.TheVariants.{Discover, Drop, Mark, Look, End, Collect}

-- the call that a step is of
abbrev pub version_of_step : Step → Option ℕ
version_of_step (Frame t n) = Some t
version_of_step (Start t) = Some t
version_of_step (Skip t n) = Some t
version_of_step (Gather t n m) = Some t
version_of_step (Evaluate t n) = Some t
version_of_step (Body t n) = Some t
version_of_step (Resolve t n) = Some t
version_of_step (Discover t n c) = Some t
version_of_step (Drop t n o) = Some t
version_of_step (Mark t m) = Some t
version_of_step (Look t) = Some t
version_of_step (End t) = Some t
version_of_step (Collect n) = None

-- Another caller may frame a node for the call, and anybody may collect.
abbrev pub is_own_step : Step → Bool
is_own_step (Frame t n) = false
is_own_step (Collect n) = false
is_own_step step = true

-- the node whose list or out-edges a step changes
abbrev pub list_of_step : Step → Option ℕ
list_of_step (Frame t n) = Some n
list_of_step (Skip t n) = Some n
list_of_step (Resolve t n) = Some n
list_of_step (Discover t n c) = Some c
list_of_step (Drop t n o) = Some o
list_of_step (Mark t m) = Some m
list_of_step (Collect n) = Some n
list_of_step step = None
