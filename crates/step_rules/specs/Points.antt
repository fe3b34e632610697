-- The points of what comes next, over the lists that are asked.
use Rattle.std.specs.Prelude.{ℕ, Bool, true, false, not, ◌&&◌, nat_lt, List, [], ◌∷◌, ◌++◌, length, Option, Some, None, find}
use Rattle.signal_graph.specs.Graph.{Graph, node_at, is_in, inputs_of}
use Rattle.signal_graph.specs.Values.{nodes_in}
use Rattle.node_versions.specs.declared.entry.Entry.{Entry}
use Rattle.node_versions.specs.Entries.{Versions, OutEdge, is_mark, has, at, picks_before, has_out, has_node}
use Rattle.flow_model.specs.declared.step.Step.{Step}
use Rattle.flow_model.specs.declared.step.Step.TheVariants.{Frame, Start, Mark, Collect}
use Rattle.flow_model.specs.declared.step.Cause.TheVariants.{FramingBefore, InputOpen, OpenBefore}
use Rattle.flow_model.specs.declared.step.Turn.{Turn}
use Rattle.flow_model.specs.declared.step.Turn.TheVariants as turn
use Rattle.flow_model.specs.Machine.State.{opens}
use Rattle.flow_model.specs.Machine.Words.{list_room}
use Rattle.flow_model.specs.Machine.Steps.{is_framing_before}
use Rattle.flow_model.specs.Machine.Next.{first_of, when, for_some, least_version, blocked}
use Rattle.flow_model.specs.Machine.Next.{points_at, to_frame, to_start, next_over, next_at_over}
use Rattle.flow_model.specs.Parts.Books.{bare}
use Rattle.flow_state.specs.Booked.{Booked}

-- the lists and the out-edges by node
abbrev pub entries_in : (ℕ → Versions) → ℕ → List Entry
entries_in lists n = (lists n).entries

abbrev pub outs_in : (ℕ → Versions) → ℕ → List OutEdge
outs_in lists n = (lists n).outs

-- a step that enters a list with so many entries; where that is full, some of it is collected first
abbrev pub entering_list : ℕ → ℕ → ℕ → Step → Turn
entering_list callers len m step = turn.Step (elim (nat_lt len (list_room callers)) [ true ↦ step | false ↦ Collect m ])

-- only where a test fails it enters the list
abbrev pub entering_unless : Bool → ℕ → ℕ → ℕ → Step → Turn
entering_unless entered callers len m step = elim entered [ true ↦ turn.Step step | false ↦ entering_list callers len m step ]

-- to frame a node
abbrev pub framing_in : Booked → (ℕ → Versions) → ℕ → ℕ → Turn
framing_in book lists u n = entering_unless (at is_mark (lists n).entries u) book.book.callers (length (lists n).entries) n (Frame u n)

-- a step for which the call has an entry at a node
abbrev pub entered_in : Booked → (ℕ → Versions) → ℕ → ℕ → Step → Turn
entered_in book lists t m step = entering_unless (has (lists m).entries t) book.book.callers (length (lists m).entries) m step

-- a step that reads a node, unless a Frame of that call stands before
abbrev pub unless_blocked : Option ℕ → ℕ → Step → Turn
unless_blocked before m step = first_of (for_some before (λ v. turn.NotYet (OpenBefore m v)) ∷ Some (turn.Step step) ∷ [])

-- to read a node
abbrev pub reading_in : Booked → (ℕ → Versions) → ℕ → ℕ → Step → Turn
reading_in book lists t m step = first_of (
    when (not (has (lists m).entries t)) (entering_list book.book.callers (length (lists m).entries) m (Mark t m))
    ∷ for_some (blocked (lists m).entries t) (λ v. turn.NotYet (OpenBefore m v))
    ∷ Some (turn.Step step) ∷ [])

-- to read a candidate
abbrev pub reading_candidate_in : Booked → (ℕ → Versions) → ℕ → ℕ → Step → Turn
reading_candidate_in book lists t c step = first_of (
    when (not (has (lists c).entries t)) (entering_list book.book.callers (length (lists c).entries) c (Mark t c))
    ∷ when (opens (bare book.book) t c) (turn.NotYet (InputOpen c))
    ∷ for_some (blocked (lists c).entries t) (λ v. turn.NotYet (OpenBefore c v))
    ∷ Some (turn.Step step) ∷ [])

-- the candidates that a node picked before the call
abbrev pub picked_in : (ℕ → Versions) → ℕ → ℕ → List ℕ
picked_in lists t n = nodes_in (picks_before (lists n).entries t)

-- The candidate is not among those picked before, and has no out-edge of this call.
abbrev pub is_new_in : (ℕ → Versions) → ℕ → ℕ → List ℕ → ℕ → Bool
is_new_in lists t n picked c = not (is_in c picked) && not (has_out (lists c).outs n t)

-- It is not among those found, and not dropped.
abbrev pub is_held_in : (ℕ → Versions) → ℕ → List ℕ → ℕ → Bool
is_held_in lists n found o = not (is_in o found) && has_node (lists o).outs n

-- all points at an open node, and those behind some
abbrev pub points_in : Graph → Booked → (ℕ → Versions) → ℕ → Bool → ℕ → List (Option Turn)
points_in graph book lists t given n = points_at graph (bare book.book) (entries_in lists) (outs_in lists) t given n

-- the points before any work: to frame, and to start
abbrev pub first_points : Graph → Booked → (ℕ → Versions) → ℕ → List (Option Turn)
first_points graph book lists t =
    to_frame graph (bare book.book) (entries_in lists) (outs_in lists) t
    ∷ to_start graph (bare book.book) (entries_in lists) (outs_in lists) t ∷ []

-- to start, after the direct predecessors
abbrev pub starting_in : Booked → ℕ → Turn
starting_in book t = first_of (
    for_some (least_version (is_framing_before (bare book.book) t) book.book.calls) (λ v. turn.NotYet (FramingBefore v))
    ∷ Some (turn.Step (Start t)) ∷ [])

-- the first point that applies, if one does
abbrev pub first_point : List (Option Turn) → Option Turn
first_point [] = None
first_point (None ∷ points) = first_point points
first_point (Some x ∷ points) = Some x

-- what comes next
abbrev pub turn_in : Graph → Booked → (ℕ → Versions) → ℕ → Turn
turn_in graph book lists t = next_over graph (bare book.book) (entries_in lists) (outs_in lists) t

-- what comes next at a given node
abbrev pub turn_at_in : Graph → Booked → (ℕ → Versions) → ℕ → ℕ → Turn
turn_at_in graph book lists t n = next_at_over graph (bare book.book) (entries_in lists) (outs_in lists) t n

-- the first of the nodes that a given node rests on which is open for the call
abbrev pub open_given : Graph → Booked → ℕ → ℕ → List ℕ → Bool → Option ℕ
open_given graph book t n picked given = elim given [
  | true ↦ find (opens (bare book.book) t) (inputs_of (node_at graph n) ++ picked)
  | false ↦ None
]
