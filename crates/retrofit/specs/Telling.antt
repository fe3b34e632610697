-- How the calls behind one in a list come to want a node.
use Rattle.std.specs.Prelude.{ℕ, List, true, false}
use Rattle.node_versions.specs.declared.entry.Entry.{Entry}
use Rattle.flow_model.specs.Machine.State.{LiveCall, change_call}
use Rattle.flow_model.specs.Machine.Changes.{hands_on}
use Rattle.flow_state.specs.Booked.{Booked, wanting}

abbrev pub with_calls : Booked → List LiveCall → Booked
with_calls book calls = record book { book = record book.book { calls = calls } }

-- one entry's call comes to want the node, where it hands on what it does there
abbrev pub told_by : ℕ → Entry → List LiveCall → List LiveCall
told_by n e calls = elim (hands_on e.state) [ true ↦ change_call e.version (wanting n) calls | false ↦ calls ]

abbrev pub told_one : Booked → ℕ → Entry → Booked
told_one book n e = with_calls book (told_by n e book.book.calls)
