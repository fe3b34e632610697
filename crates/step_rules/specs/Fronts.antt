-- Where a call can work, with the node's picks before it.
use Rattle.std.specs.Prelude.{ℕ, Bool, true, false, ◌&&◌, not, List, Option, Some, None}
use Rattle.signal_graph.specs.Graph.{Graph}
use Rattle.node_versions.specs.declared.entry.Entry.{Entry}
use Rattle.node_versions.specs.Entries.{first_open, picks_before}
use Rattle.flow_model.specs.Machine.Lists.{is_empty}
use Rattle.flow_model.specs.Machine.State.{executes, call}
use Rattle.flow_model.specs.Machine.Words.{is_some_of}
use Rattle.flow_model.specs.Parts.Books.{bare}
use Rattle.flow_state.specs.Booked.{Booked}
use Rattle.step_rules.specs.Rests.{any_open, rests_on, is_touched}

-- The call executes, and its Frame is the first of the list.
abbrev pub is_first : Booked → List Entry → ℕ → Bool
is_first book es t = executes (bare book.book) t && is_some_of (first_open es) t

-- It has nothing left to frame.
abbrev pub wants_nothing : Booked → ℕ → Bool
wants_nothing book t = is_empty (call (bare book.book) t).wanted

-- It has finished at all that the node rests on.
abbrev pub is_free : Graph → Booked → ℕ → ℕ → List (Option ℕ) → Bool
is_free graph book t n picks = not (any_open book t (rests_on graph n picks))

-- picks that there are under a condition
abbrev pub picks_if : Bool → List (Option ℕ) → Option (List (Option ℕ))
picks_if true picks = Some picks
picks_if false picks = None

-- the picks before the call where it is at the front of the node
abbrev pub front_picks : Graph → Booked → List Entry → ℕ → ℕ → Option (List (Option ℕ))
front_picks graph book es t n = picks_if (is_first book es t && is_free graph book t n (picks_before es t)) (picks_before es t)

-- the same where it can work there
abbrev pub work_picks : Graph → Booked → List Entry → ℕ → ℕ → Option (List (Option ℕ))
work_picks graph book es t n =
    picks_if (wants_nothing book t && (is_first book es t && is_free graph book t n (picks_before es t))) (picks_before es t)

-- the same where it has changed something that the node rests on besides
abbrev pub due_picks : Graph → Booked → List Entry → ℕ → ℕ → Option (List (Option ℕ))
due_picks graph book es t n = picks_if
    ((wants_nothing book t && (is_first book es t && is_free graph book t n (picks_before es t)))
    && is_touched graph book t n (picks_before es t))
    (picks_before es t)
