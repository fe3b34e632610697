-- What a list says of a call, and the list of a node among all.
use Rattle.std.specs.Prelude.{ℕ, List, [], length, slice_index_or}
use Rattle.node_versions.specs.declared.entry.Entry.{Entry}
use Rattle.node_versions.specs.Entries.{Versions, is_mark, has, at, first_open}
use Rattle.flow_model.specs.Machine.Next.{blocked}
use Rattle.step_rules.specs.declared.lists.Sight.{Sight}

-- what a list says of a call
abbrev pub sight_of : List Entry → ℕ → Sight
sight_of es t = record {
  len = length es;
  has = has es t;
  is_mark = at is_mark es t;
  first_open = first_open es;
  blocked = blocked es t;
}

-- a list with nothing in it
abbrev pub no_versions : Versions
no_versions = record { entries = []; outs = []; room = 0; outs_room = 0 }

-- the list of a node
abbrev pub list_at : List Versions → ℕ → Versions
list_at lists n = slice_index_or lists n no_versions
