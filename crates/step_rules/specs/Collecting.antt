-- Whether a list shrinks where it is collected.
use Rattle.std.specs.Prelude.{Bool, nat_lt, List, length}
use Rattle.node_versions.specs.declared.entry.Entry.{Entry}
use Rattle.node_versions.specs.Entries.{collected}
use Rattle.flow_model.specs.Machine.State.{ended}
use Rattle.flow_model.specs.Parts.Books.{bare}
use Rattle.flow_state.specs.Booked.{Booked}

-- With only the last Done left of the ended calls' entries there are fewer.
abbrev pub shrinks : Booked → List Entry → Bool
shrinks book es = nat_lt (length (collected (ended (bare book.book)) es)) (length es)
