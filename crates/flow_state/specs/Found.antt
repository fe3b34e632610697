-- What evaluations find, as the program holds it.
use Rattle.std.specs.Prelude.{ℕ, map, Option, Some, None, Result, Ok, Err}
use Rattle.script_tree.specs.declared.value.Fault.{Fault}
use Rattle.flow_model.specs.Machine.State as state
use Rattle.flow_state.specs.declared.found.Found.{Found}
use Rattle.flow_state.specs.declared.found.Found.TheVariants.{Candidate, Fault as Faulted}
use Rattle.flow_state.specs.declared.found.Finding.{Finding}
use Rattle.flow_state.specs.declared.found.Finding.TheVariants.{Gives, Selects}

-- what one selector selects
abbrev pub selection_of : Found → Result ℕ Fault
selection_of (Candidate c) = Ok c
selection_of (Faulted f) = Err f

abbrev pub found_of : Finding → state.Found
found_of (Gives v) = state.Gives v
found_of (Selects list) = state.Selects (map selection_of list)

abbrev pub found_option : Option Finding → Option state.Found
found_option None = None
found_option (Some f) = Some (found_of f)
