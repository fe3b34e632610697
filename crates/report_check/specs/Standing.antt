-- Where a pass over the lines of calls stands.
use Rattle.std.specs.Prelude.{◌≡◌, ℕ, ◌+◌, ◌-◌, ◌<◌, ◌≤◌, ◌==◌, Bool, true, false, nat_lt, max}
use Rattle.std.specs.Prelude.{List, [], ◌∷◌, length, drop, count_by, slice_index_or, None}
use Rattle.signal_graph.specs.declared.call.Call.{Call}
use Rattle.signal_graph.specs.declared.call.Call.TheVariants.{Read}
use Rattle.signal_graph.specs.declared.log.Logged.{Logged}
use Rattle.signal_graph.specs.Graph.{Graph}
use Rattle.signal_graph.specs.Machine.{misnamed}
use Rattle.signal_graph.specs.Legal.{state_after}
use Rattle.call_log.specs.Made.{entries_of, versions_in, well_named, script_of}
use Rattle.serial_machine.specs.State.{State, IsAt}
use Rattle.report_check.specs.declared.seat.Seat.{Seat}

-- the seat of a thread, counted from 0
abbrev pub seat_at : List Seat → ℕ → Seat
seat_at seats thread = slice_index_or seats thread (record { next = 0; made = 0; last = 0 })

-- the greatest of some numbers, or 0
abbrev pub greatest : List ℕ → ℕ
greatest [] = 0
greatest (n ∷ ns) = max n (greatest ns)

-- a thread's seat, counted from 0, behind a log: how many of its calls were made, from which call on the next well-named
-- one is to be found, and the greatest version
pub record IsSeat (graph : Graph) (scripts : List (List Call)) (log : List Logged) (thread : ℕ) (seat : Seat) : Type 0 where
  pub made : seat.made ≡ length (entries_of (thread + 1) log)
  pub ahead : well_named graph (drop seat.next (script_of scripts thread)) ≡ drop seat.made (well_named graph (script_of scripts thread))
  pub last : seat.last ≡ greatest (versions_in (entries_of (thread + 1) log))

abbrev pub AreSeats : Graph → List (List Call) → List Logged → List Seat → Type 0
AreSeats graph scripts log seats = (thread : ℕ) → thread < length scripts → IsSeat graph scripts log thread (seat_at seats thread)

-- a mark for each version that an entry of the log has
abbrev pub AreMarks : List Logged → List Bool → Type 0
AreMarks log marks = (version : ℕ) → version < length marks
    → slice_index_or marks version true ≡ nat_lt 0 (count_by (λ (entry : Logged). entry.version == version) log)

-- the machine stands in the state after the log, and seats and marks are those of the log
pub record Stands (graph : Graph) (scripts : List (List Call)) (made : ℕ) (machine : State) (seats : List Seat) (marks : List Bool)
    (log : List Logged) : Type 0 where
  pub graph_is : machine.graph ≡ graph
  pub machine_at : IsAt machine (state_after graph log)
  pub as_many : length seats ≡ length scripts
  pub seated : AreSeats graph scripts log seats
  pub enough : length marks ≡ made + 1
  pub marked : AreMarks log marks

-- a version has no mark, is one of 1 to so many, and is greater than a thread's last one
pub record IsFree (made : ℕ) (marks : List Bool) (last version : ℕ) : Type 0 where
  pub low : 1 ≤ version
  pub high : version ≤ made
  pub once : slice_index_or marks version true ≡ false
  pub rises : last < version

-- the next well-named call of a caller's script, from where its seat says on, is the one with an index
pub record IsNext (graph : Graph) (scripts : List (List Call)) (seats : List Seat) (caller at : ℕ) : Type 0 where
  pub from_one : 1 ≤ caller
  pub thread : caller ≤ length scripts
  pub within : at < length (script_of scripts (caller - 1))
  pub named : misnamed graph (slice_index_or (script_of scripts (caller - 1)) at (Read [])) ≡ None
  pub rest : well_named graph (drop (seat_at seats (caller - 1)).next (script_of scripts (caller - 1)))
      ≡ slice_index_or (script_of scripts (caller - 1)) at (Read []) ∷ well_named graph (drop (at + 1) (script_of scripts (caller - 1)))

-- no caller, or one whose script has no well-named call left
abbrev pub HasNoNext : Graph → List (List Call) → List Seat → ℕ → Type 0
HasNoNext graph scripts seats caller =
    1 ≤ caller → caller ≤ length scripts → well_named graph (drop (seat_at seats (caller - 1)).next (script_of scripts (caller - 1))) ≡ []
