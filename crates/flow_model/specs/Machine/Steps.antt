-- The steps: where each is allowed, and what it changes.
use Rattle.std.specs.Prelude.{◌≡◌, ◌⊎◌, ℕ, zero, suc, Bool, true, false, ◌&&◌, ◌||◌, not, ◌==◌, nat_lt, nat_le}
use Rattle.std.specs.Prelude.{List, [], ◌∷◌, ◌++◌, length, map, Option, Some, None, is_none, is_some}
use Rattle.std.specs.List.{list_any, list_all}
use Rattle.script_tree.specs.declared.limits.TheConstants.{SETS, LOOKS}
use Rattle.script_tree.specs.declared.value.Value.{Value}
use Rattle.signal_graph.specs.declared.call.Call.{Call}
use Rattle.signal_graph.specs.declared.call.Call.TheVariants.{Fire as Fires, Read as Reads}
use Rattle.signal_graph.specs.declared.call.Reply.{Reply}
use Rattle.signal_graph.specs.declared.call.Reply.TheVariants.{Fire as Fired, Read as Seen}
use Rattle.signal_graph.specs.declared.log.Logged.{Logged}
use Rattle.signal_graph.specs.Graph.{Graph, node_at, number_of, numbers, is_in, is_source, inputs_of, body_of}
use Rattle.signal_graph.specs.Machine.{same, sets_of, looks_of, misnamed}
use Rattle.order_graph.specs.Order.{is_recorded, retired}
use Rattle.node_versions.specs.declared.entry.Entry.{Entry}
use Rattle.node_versions.specs.Entries.{is_mark, has, at, served, value_at, value_before, picks_before, collected, has_out, has_node}
use Rattle.node_versions.specs.declared.entry.State.TheVariants as state
use Rattle.flow_model.specs.declared.step.Step.{Step}
use Rattle.flow_model.specs.declared.step.Step.TheVariants.{Frame, Start, Skip, Gather, Evaluate, Body, Resolve}
use Rattle.flow_model.specs.declared.step.Step.TheVariants.{Discover, Drop, Mark, Look, End, Collect}
use Rattle.flow_model.specs.Machine.Lists.{is_empty}
use Rattle.flow_model.specs.Machine.Sets.{put_all}
use Rattle.flow_model.specs.Machine.State.{Core, Cell, LiveCall, Found, call, cell, entries, outs}
use Rattle.flow_model.specs.Machine.State.{ended, executes, is_framing, wants, with_call, with_cell}
use Rattle.flow_model.specs.Machine.Words.{active_outs, is_gathered, is_found, found_picks, found_candidates, prior_picks}
use Rattle.flow_model.specs.Machine.Words.{is_prior, is_candidate, is_some_of, at_front, can_work, touched, due}
use Rattle.flow_model.specs.Machine.Words.{pressed, has_room, next_look, is_idle, found_now, body_now, value_now}
use Rattle.flow_model.specs.Machine.Changes.{enter, enter_mark, ensure_mark, raise, opened, finish, clear, tell, add_edge, drop_edge}

-- ---- the beginning of a call

-- what a call sets and looks at, by node
abbrev pub sets_in : Graph → Call → List (ℕ × Value)
sets_in graph call = map (λ (set : List ℕ × Value). (number_of graph set.0, set.1)) (sets_of call)

-- what it looks at
abbrev pub looks_in : Graph → Call → List ℕ
looks_in graph call = map (number_of graph) (looks_of call)

-- the nodes of a list of sets
abbrev pub nodes_set : List (ℕ × Value) → List ℕ
nodes_set sets = map (λ (set : ℕ × Value). set.0) sets

-- The caller has a live call.
abbrev pub has_call : ℕ → List LiveCall → Bool
has_call caller calls = list_any (λ c. c.caller == caller) calls

-- A live call has the slot.
abbrev pub uses_slot : ℕ → List LiveCall → Bool
uses_slot slot calls = list_any (λ c. c.slot == slot) calls

-- the least slot from one on that is free, where so many more are asked
abbrev pub free_slot : ℕ → ℕ → List LiveCall → ℕ
free_slot zero from calls = from
free_slot (suc more) from calls = elim (uses_slot from calls) [ true ↦ free_slot more (suc from) calls | false ↦ from ]

-- a call that sets anything frames first, and any other executes at once
abbrev pub new_call : Graph → Core → ℕ → Call → LiveCall
new_call graph s caller call = record {
  caller = caller;
  version = suc s.begun;
  slot = free_slot s.callers 0 s.calls;
  executing = is_empty (nodes_set (sets_in graph call));
  call = call;
  sets = sets_in graph call;
  looks = looks_in graph call;
  wanted = put_all (nodes_set (sets_in graph call)) [];
  open_nodes = [];
  changed = [];
  evaluated = 0;
  looked = [];
}

-- The caller has no live call, the call is within the limits and names what it has to, and a version is left.
abbrev pub can_begin : Graph → Core → ℕ → Call → Bool
can_begin graph s caller call = nat_le 1 caller && nat_le caller s.callers && not (has_call caller s.calls)
    && nat_le (length (sets_of call)) SETS && nat_le (length (looks_of call)) LOOKS
    && is_none (misnamed graph call) && nat_lt s.begun s.limit

-- the state after the call has begun
abbrev pub begin : Graph → Core → ℕ → Call → Core
begin graph s caller call = record s { begun = suc s.begun; calls = s.calls ++ new_call graph s caller call ∷ [] }

-- ---- where a step is allowed

-- The call has an entry there or finds room for one.
abbrev pub has_room_for : Core → ℕ → ℕ → Bool
has_room_for s t m = has (entries s m) t || has_room s m

-- The values of all these nodes are gathered for n.
abbrev pub all_gathered : Core → ℕ → List ℕ → Bool
all_gathered s n ms = list_all (is_gathered s n) ms

-- The call is a direct predecessor that frames still.
abbrev pub is_framing_before : Core → ℕ → LiveCall → Bool
is_framing_before s t c = not c.executing && is_recorded s.pairs c.version t

-- Some direct predecessor frames still.
abbrev pub any_framing_before : Core → ℕ → Bool
any_framing_before s t = list_any (is_framing_before s t) s.calls

-- There is a direct predecessor.
abbrev pub any_before : Core → ℕ → Bool
any_before s t = list_any (λ c. is_recorded s.pairs c.version t) s.calls

-- The node asks the call to enter m: as an input that isn't gathered, or as a candidate that it had picked before.
abbrev pub asks_for : Graph → Core → ℕ → ℕ → ℕ → Bool
asks_for graph s t m n = due graph s t n
    && ((is_in m (inputs_of (node_at graph n)) && not (is_gathered s n m)) || (is_candidate s n m && is_prior s t n m))

-- There is a next look, and no Frame stands at the call's entry there or before it.
abbrev pub served_look : Core → ℕ → Option ℕ → Bool
served_look s t None = false
served_look s t (Some m) = served (entries s m) t

-- A found candidate is a prior pick or has its out-edge.
abbrev pub is_discovered : Core → ℕ → ℕ → ℕ → Bool
is_discovered s t n c = is_prior s t n c || has_out (outs s c) n t

-- A prior pick is found again or has no out-edge any more.
abbrev pub is_released : Core → ℕ → ℕ → Bool
is_released s n o = is_candidate s n o || not (has_node (outs s o) n)

-- A node without a body needs none.
abbrev pub has_body_value : Graph → Core → ℕ → Bool
has_body_value graph s n = is_none (body_of (node_at graph n)) || is_some (cell s n).body

-- All that the node's new value takes is there.
abbrev pub is_worked_out : Graph → Core → ℕ → ℕ → Bool
is_worked_out graph s t n = is_found s n && all_gathered s n (found_candidates s n)
    && list_all (is_discovered s t n) (found_candidates s n)
    && list_all (is_released s n) (prior_picks s t n) && has_body_value graph s n

-- what Collect leaves of a list
abbrev pub collected_at : Core → ℕ → List Entry
collected_at s n = collected (ended s) (entries s n)

-- Evaluate and Body may come while another call has given this one more to frame.
abbrev pub allowed : Graph → Core → Step → Bool
allowed graph s (Frame t n) = wants s t n && (at is_mark (entries s n) t || has_room s n)
allowed graph s (Start t) = is_framing s t && is_empty (call s t).wanted && not (any_framing_before s t)
allowed graph s (Skip t n) = can_work graph s t n && not (is_source (node_at graph n)) && not (touched graph s t n) && not (pressed s t n)
allowed graph s (Gather t n m) = due graph s t n && (is_in m (inputs_of (node_at graph n)) || is_candidate s n m)
    && not (is_gathered s n m) && served (entries s m) t
allowed graph s (Evaluate t n) = at_front graph s t n && touched graph s t n && all_gathered s n (inputs_of (node_at graph n))
    && not (is_found s n)
allowed graph s (Body t n) = at_front graph s t n && touched graph s t n && is_some (body_of (node_at graph n)) && is_found s n
    && all_gathered s n (found_candidates s n) && is_none (cell s n).body
allowed graph s (Discover t n c) = due graph s t n && is_candidate s n c && not (is_prior s t n c) && not (has_out (outs s c) n t)
    && has_room_for s t c
allowed graph s (Drop t n o) = due graph s t n && is_found s n && all_gathered s n (found_candidates s n) && is_prior s t n o
    && not (is_candidate s n o) && has_node (outs s o) n && has_room_for s t o
allowed graph s (Resolve t n) = can_work graph s t n && not (pressed s t n)
    && (is_source (node_at graph n) || (touched graph s t n && is_worked_out graph s t n))
allowed graph s (Mark t m) = executes s t && not (has (entries s m) t) && has_room s m
    && (list_any (asks_for graph s t m) (numbers graph) || (is_idle s t && is_some_of (next_look s t) m))
allowed graph s (Look t) = is_idle s t && served_look s t (next_look s t)
allowed graph s (End t) = is_idle s t && is_none (next_look s t) && not (any_before s t)
allowed graph s (Collect n) = nat_lt (length (collected_at s n)) (length (entries s n))

-- An evaluation is due for a call at a node: of the node's scripts or of its body.
abbrev pub IsEvaluationDue : Graph → Core → ℕ → ℕ → Type 0
IsEvaluationDue graph s t n = (allowed graph s (Evaluate t n) ≡ true) ⊎ (allowed graph s (Body t n) ≡ true)

-- ---- what a step changes

-- n is open for t, which comes to want what is framed with it
abbrev pub open_node : Graph → Core → ℕ → ℕ → Core
open_node graph s t n = with_call s t (opened n (active_outs graph s t n))

-- the call's Frame stands at the node: a new one, or its Mark raised
abbrev pub frame : Graph → Core → ℕ → ℕ → Core
frame graph s t n = elim (at is_mark (entries s n) t) [
  | true ↦ open_node graph (raise s t n) t n
  | false ↦ open_node graph (enter s t n state.Frame) t n
]

-- the call executes
abbrev pub started : LiveCall → LiveCall
started c = record c { executing = true }

-- one more value is gathered
abbrev pub gather : ℕ → Value → Cell → Cell
gather m v c = record c { gathered = c.gathered ++ (m, v) ∷ [] }

-- what was found is kept
abbrev pub keep_found : Found → Cell → Cell
keep_found found c = record c { found = Some found }

-- the body's value is kept
abbrev pub keep_body : Value → Cell → Cell
keep_body v c = record c { body = Some v }

-- the call has evaluated one more
abbrev pub counted : LiveCall → LiveCall
counted c = record c { evaluated = suc c.evaluated }

-- one more look is taken
abbrev pub with_look : Value → LiveCall → LiveCall
with_look v c = record c { looked = c.looked ++ v ∷ [] }

-- the value that the call's entry shows at the node of a look
abbrev pub look_value : Core → ℕ → Option ℕ → Value
look_value s t None = value_at [] t
look_value s t (Some m) = value_at (entries s m) t

-- what a call replies: how many nodes it changed and evaluated, and its looks
abbrev pub reply_of : LiveCall → Call → Reply
reply_of c (Fires sets looks) = Fired (length c.changed) c.evaluated c.looked
reply_of c (Reads looks) = Seen c.looked

-- the call in the log
abbrev pub logged : LiveCall → Logged
logged c = record { caller = c.caller; version = c.version; call = c.call; reply = reply_of c c.call }

-- the live calls without one
abbrev pub without_call : ℕ → List LiveCall → List LiveCall
without_call t [] = []
without_call t (c ∷ cs) = elim (c.version == t) [ true ↦ without_call t cs | false ↦ c ∷ without_call t cs ]

-- the node after Collect
abbrev pub collect : Core → Cell → Cell
collect s c = record c { entries = collected (ended s) c.entries }

-- whether the node's new value is another than before the call
abbrev pub is_change : Graph → Core → ℕ → ℕ → Bool
is_change graph s t n = not (same (value_now graph s t n) (value_before (entries s n) t))

-- the state after a step
abbrev pub apply : Graph → Core → Step → Core
apply graph s (Frame t n) = frame graph s t n
apply graph s (Start t) = with_call s t started
apply graph s (Skip t n) = finish s t n (value_before (entries s n) t) false (picks_before (entries s n) t)
apply graph s (Gather t n m) = with_cell s n (gather m (value_at (entries s m) t))
apply graph s (Evaluate t n) = with_call (with_cell s n (keep_found (found_now graph s t n))) t counted
apply graph s (Body t n) = with_cell s n (keep_body (body_now graph s n))
apply graph s (Discover t n c) = tell (with_cell (ensure_mark s t c) c (add_edge n t)) t n c
apply graph s (Drop t n o) = with_cell (ensure_mark s t o) o (drop_edge n)
apply graph s (Resolve t n) = clear (finish s t n (value_now graph s t n) (is_change graph s t n) (found_picks s n)) n
apply graph s (Mark t m) = enter_mark s t m
apply graph s (Look t) = with_call s t (with_look (look_value s t (next_look s t)))
apply graph s (End t) = record s { calls = without_call t s.calls; pairs = retired s.pairs t; log = s.log ++ logged (call s t) ∷ [] }
apply graph s (Collect n) = with_cell s n (collect s)
