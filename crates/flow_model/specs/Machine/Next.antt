-- The next step of a live call, or why there is none now: the first that applies of a list of points.
use Rattle.std.specs.Prelude.{ℕ, Bool, true, false, ◌&&◌, not, ◌==◌, nat_lt, List, []}
use Rattle.std.specs.Prelude.{◌∷◌, ◌++◌, length, Option, Some, None, find, option_map}
use Rattle.std.specs.List.{list_any}
use Rattle.signal_graph.specs.Graph.{Graph, node_at, is_in, is_source, inputs_of}
use Rattle.signal_graph.specs.Values.{nodes_in}
use Rattle.order_graph.specs.Order.{is_recorded}
use Rattle.node_versions.specs.declared.entry.Entry.{Entry}
use Rattle.node_versions.specs.Entries.{OutEdge, is_mark, has, at, behind, first_open, picks_before, has_out, has_node}
use Rattle.flow_model.specs.declared.step.Step.{Step}
use Rattle.flow_model.specs.declared.step.Step.TheVariants.{Frame, Start, Skip, Gather, Evaluate, Body}
use Rattle.flow_model.specs.declared.step.Step.TheVariants.{Resolve, Discover, Drop, Mark, Look, Collect}
use Rattle.flow_model.specs.declared.step.Cause.{Cause}
use Rattle.flow_model.specs.declared.step.Cause.TheVariants.{FramingBefore, OpenBefore, InputOpen, NotOpen, Before, Unfinished}
use Rattle.flow_model.specs.declared.step.Turn.{Turn}
use Rattle.flow_model.specs.declared.step.Turn.TheVariants as turn
use Rattle.flow_model.specs.Machine.Sets.{least}
use Rattle.flow_model.specs.Machine.State.{Core, LiveCall, call, entries, outs, executes, opens, changes}
use Rattle.flow_model.specs.Machine.Words.{is_gathered, is_found, found_candidates, is_candidate, presses, next_look, list_room}
use Rattle.flow_model.specs.Machine.Steps.{is_framing_before, has_body_value}

-- ---- points

-- A point is a turn where it applies. The first that applies comes next; where none does, nothing but the call's end is left.
abbrev pub first_of : List (Option Turn) → Turn
first_of [] = turn.Ready
first_of (None ∷ points) = first_of points
first_of (Some x ∷ points) = x

-- a point that applies where a condition holds
abbrev pub when : Bool → Turn → Option Turn
when true x = Some x
when false x = None

-- a point that applies where there is a node or a call for it
abbrev pub for_some : Option ℕ → (ℕ → Turn) → Option Turn
for_some None f = None
for_some (Some m) f = Some (f m)

-- ---- calls in the way

-- the least version among the calls that pass a test
abbrev pub lesser : ℕ → Option ℕ → ℕ
lesser v None = v
lesser v (Some w) = elim (nat_lt w v) [ true ↦ w | false ↦ v ]

abbrev pub least_version : (LiveCall → Bool) → List LiveCall → Option ℕ
least_version test [] = None
least_version test (c ∷ cs) = elim (test c) [ true ↦ Some (lesser c.version (least_version test cs)) | false ↦ least_version test cs ]

abbrev pub kept_if : Bool → ℕ → Option ℕ
kept_if true v = Some v
kept_if false v = None

-- the first Frame's call, where that Frame stands before the call's entry
abbrev pub blocked_by : List Entry → ℕ → Option ℕ → Option ℕ
blocked_by es t None = None
blocked_by es t (Some v) = kept_if (behind es v t) v

abbrev pub blocked : List Entry → ℕ → Option ℕ
blocked es t = blocked_by es t (first_open es)

-- the first Frame's call, where that is another
abbrev pub other_than : ℕ → Option ℕ → Option ℕ
other_than t None = None
other_than t (Some v) = kept_if (not (v == t)) v

-- ---- the points

-- What comes next for call t, where the list of node n is `list n` and its out-edges are `edges n`; all else is the state's. So the
-- points are the same for a state with its own lists and for lists that are shown one at a time.
module _ (graph : Graph) (s : Core) (list : ℕ → List Entry) (edges : ℕ → List OutEdge) (t : ℕ) where
  -- a step that enters a list; where that is full, some of it is collected first
  abbrev pub entering : ℕ → Step → Turn
  entering m step = turn.Step (elim (nat_lt (length (list m)) (list_room s.callers)) [ true ↦ step | false ↦ Collect m ])

  -- a step that enters a list only where a test fails
  abbrev pub entering_unless : Bool → ℕ → Step → Turn
  entering_unless entered m step = elim entered [ true ↦ turn.Step step | false ↦ entering m step ]

  -- to frame a node enters its list, unless the call has a Mark there
  abbrev pub framing : ℕ → ℕ → Turn
  framing u n = entering_unless (at is_mark (list n) u) n (Frame u n)

  -- to read a node the call has an entry there, and no Frame stands before it
  abbrev pub reading : ℕ → Step → Turn
  reading m step = first_of (
      when (not (has (list m) t)) (entering m (Mark t m))
      ∷ for_some (blocked (list m) t) (λ v. turn.NotYet (OpenBefore m v))
      ∷ Some (turn.Step step) ∷ [])

  -- to read a candidate the call has finished there besides
  abbrev pub reading_candidate : ℕ → Step → Turn
  reading_candidate c step = first_of (
      when (not (has (list c) t)) (entering c (Mark t c))
      ∷ when (opens s t c) (turn.NotYet (InputOpen c))
      ∷ for_some (blocked (list c) t) (λ v. turn.NotYet (OpenBefore c v))
      ∷ Some (turn.Step step) ∷ [])

  -- the candidates that a node picked before the call, and with its inputs all that it rests on before the call
  abbrev pub picked : ℕ → List ℕ
  picked n = nodes_in (picks_before (list n) t)

  abbrev pub rests_on : ℕ → List ℕ
  rests_on n = inputs_of (node_at graph n) ++ picked n

  -- It was not picked before and has no out-edge of this call.
  abbrev pub is_new : ℕ → ℕ → Bool
  is_new n c = not (is_in c (picked n)) && not (has_out (edges c) n t)

  -- It is not found again and not dropped.
  abbrev pub is_held : ℕ → ℕ → Bool
  is_held n o = not (is_candidate s n o) && has_node (edges o) n

  -- the points at an open node; the second is for a node that is given
  abbrev pub points_at : Bool → ℕ → List (Option Turn)
  points_at given n =
      -- the node's first Frame is another call's
      for_some (other_than t (first_open (list n))) (λ v. turn.NotYet (OpenBefore n v))
      -- the call has not finished at something that the node rests on
      ∷ for_some (elim given [ true ↦ find (opens s t) (rests_on n) | false ↦ None ]) (λ m. turn.NotYet (InputOpen m))
      -- a later call that waits for this one is helped to frame the node
      ∷ for_some (least_version (presses s t n) s.calls) (λ u. framing u n)
      -- a source takes the value that the call sets
      ∷ when (is_source (node_at graph n)) (turn.Step (Resolve t n))
      -- the call has changed nothing that the node rests on
      ∷ when (not (list_any (changes s t) (rests_on n))) (turn.Step (Skip t n))
      -- the first input that is not gathered
      ∷ for_some (find (λ m. not (is_gathered s n m)) (inputs_of (node_at graph n))) (λ m. reading m (Gather t n m))
      -- all inputs are gathered, and nothing is found
      ∷ when (not (is_found s n)) (turn.Step (Evaluate t n))
      -- the first found candidate that is new
      ∷ for_some (find (is_new n) (found_candidates s n)) (λ c. entering_unless (has (list c) t) c (Discover t n c))
      -- the first found candidate that is not gathered
      ∷ for_some (find (λ c. not (is_gathered s n c)) (found_candidates s n)) (λ c. reading_candidate c (Gather t n c))
      -- a body that is not evaluated
      ∷ when (not (has_body_value graph s n)) (turn.Step (Body t n))
      -- the first candidate picked before that is neither found nor dropped
      ∷ for_some (find (is_held n) (picked n)) (λ o. entering_unless (has (list o) t) o (Drop t n o))
      -- all that the node's new value takes is there
      ∷ Some (turn.Step (Resolve t n)) ∷ []

  -- the least node that the call wants
  abbrev pub to_frame : Option Turn
  to_frame = for_some (least (call s t).wanted) (framing t)

  -- a call that frames starts, but after its direct predecessors
  abbrev pub to_start : Option Turn
  to_start = when (not (executes s t)) (first_of (
      for_some (least_version (is_framing_before s t) s.calls) (λ v. turn.NotYet (FramingBefore v))
      ∷ Some (turn.Step (Start t)) ∷ []))

  abbrev pub next_over : Turn
  next_over = first_of (
      to_frame
      ∷ to_start
      -- the least open node
      ∷ for_some (least (call s t).open_nodes) (λ n. first_of (points_at false n))
      -- the next look
      ∷ for_some (next_look s t) (λ m. reading m (Look t)) ∷ [])

  abbrev pub next_at_over : ℕ → Turn
  next_at_over n = first_of (to_frame ∷ to_start ∷ when (not (opens s t n)) (turn.NotYet (NotOpen n)) ∷ points_at true n)

-- the next step of a call, at its least open node
abbrev pub next : Graph → Core → ℕ → Turn
next graph s t = next_over graph s (entries s) (outs s) t

-- the next step of a call at a given node
abbrev pub next_at : Graph → Core → ℕ → ℕ → Turn
next_at graph s t n = next_at_over graph s (entries s) (outs s) t n

-- ---- why a call can't end

abbrev pub first_cause : List (Option Cause) → Option Cause
first_cause [] = None
first_cause (None ∷ causes) = first_cause causes
first_cause (Some cause ∷ causes) = Some cause

-- the least direct predecessor that has not ended, else the first node at which the call has not finished
abbrev pub why_not_ended : Core → ℕ → Option Cause
why_not_ended s t = first_cause (
    option_map Before (least_version (λ c. is_recorded s.pairs c.version t) s.calls)
    ∷ option_map Unfinished (least (call s t).wanted)
    ∷ option_map Unfinished (least (call s t).open_nodes)
    ∷ option_map Unfinished (next_look s t) ∷ [])
