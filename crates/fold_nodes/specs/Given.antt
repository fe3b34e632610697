-- The value that a fold's script gave.
use Rattle.std.specs.Prelude.{Option, Some, None}
use Rattle.script_tree.specs.declared.value.Fault.TheVariants.{NoChoice}
use Rattle.script_tree.specs.declared.value.Value.{Value}
use Rattle.script_tree.specs.declared.value.Value.TheVariants.{Fault as Faulty}
use Rattle.flow_model.specs.Machine.State.{Found}
use Rattle.flow_model.specs.Machine.State.{Gives}
use Rattle.flow_model.specs.Machine.State.{Selects}

-- a fold finds a value
abbrev pub value_given : Found → Value
value_given (Gives v) = v
value_given (Selects selections) = Faulty NoChoice

abbrev pub given_value : Option Found → Value
given_value None = Faulty NoChoice
given_value (Some found) = value_given found
