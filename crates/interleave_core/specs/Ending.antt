-- The values that lists end with.
use Rattle.std.specs.Prelude.{ℕ, ◌<◌, List, length}
use Rattle.std.specs.Option.{IsSome}
use Rattle.script_tree.specs.declared.value.Value.{Value}
use Rattle.node_versions.specs.Entries.{Versions, IsUnique, last_done, state_of, value_of}
use Rattle.step_rules.specs.Sights.{list_at}

-- the value of the last Done
abbrev pub last_value : Versions → Value
last_value list = value_of (state_of (last_done list.entries))

-- There is a Done in the list, and no call has two entries there.
pub record HasLastValue (list : Versions) : Type 0 where
  pub unique : IsUnique list.entries
  pub done : IsSome (last_done list.entries)

-- So it is of each list.
abbrev pub HaveLastValues : List Versions → Type 0
HaveLastValues lists = (n : ℕ) → n < length lists → HasLastValue (list_at lists n)
