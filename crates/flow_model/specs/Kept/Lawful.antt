-- The lawful states: what every state that steps reach keeps. A call is named by its version.
use Rattle.std.specs.Prelude.{◌≡◌, ℕ, ◌+◌, ◌<◌, ◌≤◌, ◌⊎◌, Bool, true, false, ◌&&◌, ◌||◌, not, ◌==◌, List}
use Rattle.std.specs.Prelude.{[], ◌∷◌, ◌++◌, length, map, filter, Option, Some, None, is_none, slice_get}
use Rattle.std.specs.List.{list_any, AllByRecursion, AllZip}
use Rattle.script_tree.specs.declared.limits.TheConstants.{SETS, LOOKS}
use Rattle.script_tree.specs.declared.value.Value.{Value}
use Rattle.script_tree.specs.declared.value.Value.TheVariants.{Fault as Faulty}
use Rattle.script_tree.specs.declared.value.Fault.TheVariants.{NoChoice}
use Rattle.signal_graph.specs.declared.node.Selector.{Selector}
use Rattle.signal_graph.specs.declared.log.Logged.{Logged}
use Rattle.signal_graph.specs.Graph.{Graph, node_at, numbers, is_in, is_source, inputs_of, selectors_of, body_of}
use Rattle.signal_graph.specs.Values.{val, picks, nodes_in}
use Rattle.signal_graph.specs.Machine.{same, misnamed}
use Rattle.signal_graph.specs.Legal.{state_after}
use Rattle.call_log.specs.Made.{versions_in}
use Rattle.order_graph.specs.declared.pair.Pair.{Pair}
use Rattle.order_graph.specs.Order.{reaches, is_recorded}
use Rattle.node_versions.specs.declared.entry.Entry.{Entry}
use Rattle.node_versions.specs.Entries.{OutEdge, IsUnique, AreDifferent, is_frame, is_done, is_mark, has, at}
use Rattle.node_versions.specs.Entries.{behind, state_of, last_done, value_of, picks_of, changed_of, done_at}
use Rattle.node_versions.specs.Entries.{value_at, value_before, picks_at, picks_before, has_out, has_node}
use Rattle.flow_model.specs.Machine.Sets.{IsSet}
use Rattle.flow_model.specs.Machine.State.{Core, LiveCall, Found, call, cell, entries, outs, live, ended}
use Rattle.flow_model.specs.Machine.State.{executes, is_framing, wants, opens, changes, precedes}
use Rattle.flow_model.specs.Machine.Words.{deps, touched, heads, gathered_of, is_gathered, is_found, found_candidates, is_candidate}
use Rattle.flow_model.specs.Machine.Words.{finds, found_now, body_now, value_over, picks_of_found, set_value, list_room}
use Rattle.flow_model.specs.Machine.Steps.{sets_in, looks_in, nodes_set, all_gathered}
use Rattle.flow_model.specs.Kept.Runs.{Run, read_all, nothing_read, runs, reacts, framed, was_due, picks_it, IsSettled}

abbrev pub IsLive : Core → ℕ → Type 0
IsLive s u = live s u ≡ true

-- An ended call is none that lives; so is version 0.
abbrev pub IsEnded : Core → ℕ → Type 0
IsEnded s u = live s u ≡ false

-- The call has finished at the node.
abbrev pub HasDone : Core → ℕ → ℕ → Type 0
HasDone s u n = at is_done (entries s n) u ≡ true

-- ---- the order

-- The order has no cycle, and the calls of each list stand in it: each is before the live ones behind it.
pub record OrderIsKept (s : Core) : Type 0 where
  pub no_cycle : (u : ℕ) → reaches s.pairs u u ≡ false
  pub lists : (n u v : ℕ) → behind (entries s n) u v ≡ true → IsLive s v → precedes s u v ≡ true

-- No framing call is before an executing one, and a framing call has neither Marks nor Dones.
pub record FramingComesLast (s : Core) : Type 0 where
  pub before : (u v : ℕ) → is_framing s u ≡ true → executes s v ≡ true → precedes s u v ≡ false
  pub no_mark : (u n : ℕ) → is_framing s u ≡ true → at is_mark (entries s n) u ≡ false
  pub no_done : (u n : ℕ) → is_framing s u ≡ true → at is_done (entries s n) u ≡ false

-- ---- Frames

-- No Frame stands before a Done, and the nodes that are open for a call are those with its Frame.
pub record FramesAreOpen (s : Core) : Type 0 where
  pub behind_dones : (n u v : ℕ) → behind (entries s n) u v ≡ true → at is_frame (entries s n) u ≡ true
      → at is_done (entries s n) v ≡ false
  pub opens_frames : (u n : ℕ) → opens s u n ≡ at is_frame (entries s n) u

-- Where a call has a Frame, all that reacts is open for it or wanted by it.
abbrev pub FramesSpread : Graph → Core → Type 0
FramesSpread graph s = (u m n : ℕ) → at is_frame (entries s m) u ≡ true → reacts graph s u m n ≡ true → (opens s u n || wants s u n) ≡ true

-- What an executing call wants is open for a call before it, and neither open nor Done for itself.
pub record IsCovered (s : Core) (u n : ℕ) : Type 0 where
  pub not_open : opens s u n ≡ false
  pub not_done : at is_done (entries s n) u ≡ false
  pub by : (v : ℕ) × (precedes s v u ≡ true) × (opens s v n ≡ true)

-- All that executing calls want is covered.
abbrev pub WantsAreCovered : Core → Type 0
WantsAreCovered s = (u n : ℕ) → executes s u ≡ true → wants s u n ≡ true → IsCovered s u n

-- No Frame stands before a settled entry, and a settled entry is none.
pub record SettledIsKept (graph : Graph) (s : Core) : Type 0 where
  pub none_before : (u v m : ℕ) → IsSettled graph s v m → behind (entries s m) u v ≡ true → at is_frame (entries s m) u ≡ false
  pub no_frame : (v m : ℕ) → IsSettled graph s v m → at is_frame (entries s m) v ≡ false

-- ---- changes and values

-- Where a call has changed a node, all that reacts is framed for it or wanted by it, and so is all that it sets.
pub record ChangesSpread (graph : Graph) (s : Core) : Type 0 where
  pub reaction : (u m n : ℕ) → changes s u m ≡ true → reacts graph s u m n ≡ true → (framed s u n || wants s u n) ≡ true
  pub set : (u n : ℕ) → IsLive s u → is_in n (nodes_set (call s u).sets) ≡ true → (framed s u n || wants s u n) ≡ true

-- the value that a call reads at a node
abbrev pub value_for : Core → ℕ → ℕ → Value
value_for s u m = value_at (entries s m) u

-- what a call's evaluation of a node finds over the values that it reads
abbrev pub found_for : Graph → Core → ℕ → ℕ → Found
found_for graph s u n = finds (node_at graph n) (value_for s u) (value_before (entries s n) u)

-- What is gathered and looked at are the values at the call's entries, and what is found and evaluated as a body follows
-- from what is gathered.
pub record ValuesAreRead (graph : Graph) (s : Core) : Type 0 where
  pub gathered : (u n m : ℕ) (v : Value) → heads s u n ≡ true → gathered_of m (cell s n).gathered ≡ Some v → v ≡ value_for s u m
  pub looked : (u k m : ℕ) (v : Value) → IsLive s u → slice_get (call s u).looks k ≡ Some m → slice_get (call s u).looked k ≡ Some v
      → v ≡ value_for s u m
  pub found : (u n : ℕ) (f : Found) → heads s u n ≡ true → (cell s n).found ≡ Some f → f ≡ found_now graph s u n
  pub body : (n : ℕ) (v : Value) → (cell s n).body ≡ Some v → v ≡ body_now graph s n

-- Of a Done at a node that is no source: the node rests on nothing that is open or wanted, and its value and picks are
-- those before, or where it was due what the scripts give over the values that the call reads.
pub record IsDoneRight (graph : Graph) (s : Core) (u n : ℕ) : Type 0 where
  pub no_open : list_any (λ m. opens s u m || wants s u m) (deps graph s u n) ≡ false
  pub kept_value : touched graph s u n ≡ false → value_at (entries s n) u ≡ value_before (entries s n) u
  pub kept_picks : touched graph s u n ≡ false → picks_at (entries s n) u ≡ picks_before (entries s n) u
  pub new_value : touched graph s u n ≡ true
      → value_at (entries s n) u ≡ value_over (body_of (node_at graph n)) (value_for s u) (found_for graph s u n)
  pub new_picks : touched graph s u n ≡ true → picks_at (entries s n) u ≡ picks_of_found (Some (found_for graph s u n))

-- The call has evaluated the node: its Done was due, or what it found is kept.
abbrev pub has_evaluated : Graph → Core → ℕ → ℕ → Bool
has_evaluated graph s u n = was_due graph s u n || (heads s u n && is_found s n)

-- Each Done of a live call has the right value and says whether that changed, and a call has counted what it evaluated.
pub record DonesAreRight (graph : Graph) (s : Core) : Type 0 where
  pub source : (u n : ℕ) → IsLive s u → HasDone s u n → is_source (node_at graph n) ≡ true
      → value_for s u n ≡ set_value n (Faulty NoChoice) (call s u).sets
  pub other : (u n : ℕ) → IsLive s u → HasDone s u n → is_source (node_at graph n) ≡ false → IsDoneRight graph s u n
  pub flag : (u n : ℕ) → IsLive s u → HasDone s u n
      → changed_of (done_at (entries s n) u) ≡ not (same (value_for s u n) (value_before (entries s n) u))
  pub changed : (u n : ℕ) → IsLive s u → changes s u n ≡ at changed_of (entries s n) u
  pub evaluated : (u : ℕ) → IsLive s u → (call s u).evaluated ≡ length (filter (has_evaluated graph s u) (numbers graph))

-- ---- ended calls, room and slots

-- the log has the call; one call ended before another, where version 0 comes before all
abbrev pub log_has : List Logged → ℕ → Bool
log_has log u = is_in u (versions_in log)

-- in the log u stands before v
abbrev pub ended_first : List Logged → ℕ → ℕ → Bool
ended_first [] u v = false
ended_first (x ∷ xs) u v = ((x.version == u) && log_has xs v) || ended_first xs u v

-- u ended before v
abbrev pub ended_before : List Logged → ℕ → ℕ → Bool
ended_before log u v = ((u == 0) && log_has log v) || ended_first log u v

-- In each list the entries of ended calls come first, in the order of the log, with a Done and no Frame among them.
pub record EndedIsPrefix (s : Core) : Type 0 where
  pub prefix : (n u v : ℕ) → behind (entries s n) u v ≡ true → IsEnded s v → IsEnded s u
  pub no_frame : (n u : ℕ) → IsEnded s u → at is_frame (entries s n) u ≡ false
  pub done : (n : ℕ) → n < length s.cells → (u : ℕ) × IsEnded s u × HasDone s u n
  pub log_order : (n u v : ℕ) → behind (entries s n) u v ≡ true → IsEnded s v → ended_before s.log u v ≡ true

-- Each list has room, and live calls have callers and slots of their own.
pub record RoomIsKept (s : Core) : Type 0 where
  pub room : (n : ℕ) → length (entries s n) ≤ list_room s.callers
  pub callers_apart : (u v : ℕ) → IsLive s u → IsLive s v → (call s u).caller ≡ (call s v).caller → u ≡ v
  pub callers_fit : (u : ℕ) → IsLive s u → (1 ≤ (call s u).caller) × ((call s u).caller ≤ s.callers)
  pub slots_apart : (u v : ℕ) → IsLive s u → IsLive s v → (call s u).slot ≡ (call s v).slot → u ≡ v
  pub slots_fit : (u : ℕ) → IsLive s u → (call s u).slot < s.callers

-- the last Done of the ended calls
abbrev pub last_ended : Core → ℕ → Option Entry
last_ended s n = last_done (filter (ended s) (entries s n))

-- Its value and picks are the one-thread machine's after the log.
pub record EndedIsMachine (graph : Graph) (s : Core) : Type 0 where
  pub value : (n : ℕ) → n < length s.cells → value_of (state_of (last_ended s n)) ≡ val graph (state_after graph s.log) n
  pub picks : (n : ℕ) → n < length s.cells → picks_of (state_of (last_ended s n)) ≡ picks graph (state_after graph s.log) n

-- ---- out-edges

-- The picks of the last Done of n have m.
abbrev pub picks_last : Core → ℕ → ℕ → Bool
picks_last s n m = is_in m (nodes_in (picks_of (state_of (last_done (entries s n)))))

-- the run of m in which the list of n ends
abbrev pub last_run_of : Core → ℕ → ℕ → Option Run
last_run_of s n m = (read_all m (entries s n) nothing_read).current

-- An edge is keyed by the call at which its run begins, or by an ended one where there is no such call.
abbrev pub IsKey : Core → ℕ → Option ℕ → Type 0
IsKey s since None = IsEnded s since
IsKey s since (Some b) = since ≡ b

abbrev pub IsKeyOf : Core → ℕ → Option Run → Type 0
IsKeyOf s since None = ⊥
IsKeyOf s since (Some r) = IsKey s since r.begins

-- the edge of the run in which the list ends, and one of a candidate that the first open call has discovered
pub record IsRunEdge (s : Core) (n m since : ℕ) : Type 0 where
  pub picked : picks_last s n m ≡ true
  pub key : IsKeyOf s since (last_run_of s n m)

pub record IsNewEdge (s : Core) (n m since : ℕ) : Type 0 where
  pub not_picked : picks_last s n m ≡ false
  pub first_open : heads s since n ≡ true
  pub found : is_candidate s n m ≡ true

-- Some call is the first open one at n, and P is true of it.
pub record SomeHead (s : Core) (n : ℕ) (P : ℕ → Type 0) : Type 0 where
  pub head : ℕ
  pub first : heads s head n ≡ true
  pub holds : P head

-- how many out-edges of the node stand in a list
abbrev pub count_edges : ℕ → List OutEdge → ℕ
count_edges n edges = length (filter (λ (edge : OutEdge). edge.0 == n) edges)

-- Out-edges stand at the picks of the last Dones and at what first open calls have discovered, and nowhere else.
pub record EdgesAreKept (s : Core) : Type 0 where
  pub once : (n m : ℕ) → count_edges n (outs s m) ≤ 1
  pub stands : (n m since : ℕ) → has_out (outs s m) n since ≡ true → IsRunEdge s n m since ⊎ IsNewEdge s n m since
  pub missing : (n m : ℕ) → picks_last s n m ≡ true → has_node (outs s m) n ≡ false → SomeHead s n (λ u. is_found s n ≡ true)
  pub begins_entered : (n m i : ℕ) (r : Run) (b : ℕ) → slice_get (runs s n m) i ≡ Some r → r.begins ≡ Some b → IsLive s b
      → has (entries s m) b ≡ true
  pub ends_entered : (n m i : ℕ) (r : Run) (z : ℕ) → slice_get (runs s n m) i ≡ Some r → r.ends ≡ Some z → IsLive s z
      → has (entries s m) z ≡ true

-- Out-edges are of calls that have begun, so none is of a call to come.
abbrev pub EdgesAreKnown : Core → Type 0
EdgesAreKnown s = (n m since : ℕ) → has_out (outs s m) n since ≡ true → since ≤ s.begun

-- ---- work in progress

-- The first open call works at the node: it executes, has changed what the node rests on, and has finished there.
pub record IsWorking (graph : Graph) (s : Core) (n u : ℕ) : Type 0 where
  pub executing : executes s u ≡ true
  pub changed : touched graph s u n ≡ true
  pub no_open : list_any (λ m. opens s u m || wants s u m) (deps graph s u n) ≡ false

-- What is gathered, found and evaluated at nodes, and in which order it comes.
pub record WorkIsKept (graph : Graph) (s : Core) : Type 0 where
  pub gathers : (n m : ℕ) → is_gathered s n m ≡ true → SomeHead s n (IsWorking graph s n)
  pub gathers_right : (n m : ℕ) → is_gathered s n m ≡ true → (is_in m (inputs_of (node_at graph n)) || is_candidate s n m) ≡ true
  pub finds : (n : ℕ) → is_found s n ≡ true → SomeHead s n (IsWorking graph s n)
  pub finds_last : (n : ℕ) → is_found s n ≡ true → all_gathered s n (inputs_of (node_at graph n)) ≡ true
  pub bodies : (n : ℕ) → is_none (cell s n).body ≡ false → (is_found s n ≡ true) × (all_gathered s n (found_candidates s n) ≡ true)
  pub drops : (n m : ℕ) → picks_last s n m ≡ true → has_node (outs s m) n ≡ false → (is_found s n ≡ true) × (is_candidate s n m ≡ false)
  pub discovers : (n m u : ℕ) → heads s u n ≡ true → has_out (outs s m) n u ≡ true → is_found s n ≡ true

-- Entries and pairs are of known calls, and a call has an entry wherever it has read.
pub record EntriesAreKept (graph : Graph) (s : Core) : Type 0 where
  pub versions : (n u : ℕ) → has (entries s n) u ≡ true → (u ≡ 0) ⊎ (IsLive s u ⊎ (log_has s.log u ≡ true))
  pub pairs : (u v : ℕ) → is_recorded s.pairs u v ≡ true → IsLive s u × IsLive s v
  pub sources : (u n : ℕ) → IsLive s u → is_source (node_at graph n) ≡ true → (wants s u n || framed s u n) ≡ true
      → is_in n (nodes_set (call s u).sets) ≡ true
  pub gathers : (u n m : ℕ) → heads s u n ≡ true → is_gathered s n m ≡ true → has (entries s m) u ≡ true
  pub looks : (u k m : ℕ) → IsLive s u → k < length (call s u).looked → slice_get (call s u).looks k ≡ Some m → has (entries s m) u ≡ true
  pub dues : (u n m : ℕ) → IsLive s u → was_due graph s u n ≡ true → (is_in m (inputs_of (node_at graph n)) || picks_it s u n m) ≡ true
      → has (entries s m) u ≡ true
  pub new_picks : (u n : ℕ) → IsLive s u → HasDone s u n
      → (was_due graph s u n ≡ true) ⊎ (picks_at (entries s n) u ≡ picks_before (entries s n) u)

-- ---- what the conjunction needs besides

-- the versions of all calls, live or logged
abbrev pub versions : Core → List ℕ
versions s = map (λ c. c.version) s.calls ++ versions_in s.log

-- how often a number stands in a list
abbrev pub times : ℕ → List ℕ → ℕ
times x xs = length (filter (λ y. y == x) xs)

-- No number stands in the list twice.
abbrev pub AreDistinct : List ℕ → Type 0
AreDistinct xs = (x : ℕ) → times x xs ≤ 1

-- Versions count from 1, each is of one call, and the next one is of none.
pub record VersionsAreFresh (s : Core) : Type 0 where
  pub distinct : AreDistinct (versions s)
  pub fit : (u : ℕ) → is_in u (versions s) ≡ true → (1 ≤ u) × (u ≤ s.begun)
  pub count : s.begun ≡ length s.log + length s.calls

-- What a call wants is a node of the graph at which it has no Frame and no Done.
pub record IsFree (graph : Graph) (s : Core) (u n : ℕ) : Type 0 where
  pub node : n < length graph.nodes
  pub not_open : opens s u n ≡ false
  pub not_done : at is_done (entries s n) u ≡ false

-- All that calls want is free for them.
abbrev pub WantsAreFree : Graph → Core → Type 0
WantsAreFree graph s = (u n : ℕ) → wants s u n ≡ true → IsFree graph s u n

-- a pick per selector, each none or one of its candidates
abbrev pub IsPickOf : Selector → Option ℕ → Type 0
IsPickOf selector None = Unit {0}
IsPickOf selector (Some c) = is_in c selector.candidates ≡ true

-- The picks of each Done fit the node's selectors.
abbrev pub PicksFit : Graph → Core → Type 0
PicksFit graph s = (u n : ℕ) → HasDone s u n → AllZip IsPickOf (selectors_of (node_at graph n)) (picks_at (entries s n) u)

-- some selector has the node among its candidates
abbrev pub lists_candidate : ℕ → List Selector → Bool
lists_candidate m selectors = list_any (λ selector. is_in m selector.candidates) selectors

-- An out-edge is of a choose that has the node among its candidates, and stands there once.
pub record EdgesFit (graph : Graph) (s : Core) : Type 0 where
  pub candidate : (n m since : ℕ) → has_out (outs s m) n since ≡ true → lists_candidate m (selectors_of (node_at graph n)) ≡ true
  pub different : (m : ℕ) → AreDifferent (outs s m)

-- What is kept of a call as a set of nodes is one.
pub record SetsAreSets (s : Core) : Type 0 where
  pub wanted : (u : ℕ) → IsSet (call s u).wanted
  pub open_nodes : (u : ℕ) → IsSet (call s u).open_nodes
  pub changed : (u : ℕ) → IsSet (call s u).changed

-- What a live call sets and looks at by node is what it names, and it names sources and nodes, within the limits. A call that sets
-- nothing executes.
pub record IsCallRight (graph : Graph) (c : LiveCall) : Type 0 where
  pub well_named : misnamed graph c.call ≡ None
  pub sets : c.sets ≡ sets_in graph c.call
  pub looks : c.looks ≡ looks_in graph c.call
  pub few_sets : length c.sets ≤ SETS
  pub few_looks : length c.looks ≤ LOOKS
  pub executing : c.sets ≡ [] → c.executing ≡ true

-- No live call has taken more looks than it asks for.
abbrev pub LooksAreFew : Core → Type 0
LooksAreFew s = (u : ℕ) → IsLive s u → length (call s u).looked ≤ length (call s u).looks

-- ---- slots, and the order in which calls began

-- An entry of a live call has that call's slot.
abbrev pub HasSlot : Core → Entry → Type 0
HasSlot s e = IsLive s e.version → e.slot ≡ (call s e.version).slot

-- All entries have their calls' slots.
abbrev pub EntriesHaveSlots : Core → Type 0
EntriesHaveSlots s = (n : ℕ) → AllByRecursion (HasSlot s) (entries s n)

-- The slot of an entry is one of the callers' slots, also where its call has ended.
abbrev pub SlotFits : Core → Entry → Type 0
SlotFits s e = 1 ≤ s.callers → e.slot < s.callers

-- All entries have slots of callers.
abbrev pub EntrySlotsFit : Core → Type 0
EntrySlotsFit s = (n : ℕ) → AllByRecursion (SlotFits s) (entries s n)

-- No more calls have begun than may.
abbrev pub BegunIsWithin : Core → Type 0
BegunIsWithin s = s.begun ≤ s.limit

-- The live calls stand in the order in which they began.
abbrev pub CallsAscend : Core → Type 0
CallsAscend s = IsSet (map (λ (c : LiveCall). c.version) s.calls)

-- For a node the value of no node is gathered twice.
abbrev pub GatheredAreApart : Core → Type 0
GatheredAreApart s = (n : ℕ) → AreDistinct (map (λ (p : ℕ × Value). p.0) (cell s n).gathered)

-- Each pair of the recorded order names a node of the graph.
abbrev pub PairsNameNodes : Graph → Core → Type 0
PairsNameNodes graph s = AllByRecursion (λ (p : Pair). p.node < length graph.nodes) s.pairs

-- ---- all together

-- What every state keeps.
pub record IsLawful (graph : Graph) (s : Core) : Type 0 where
  pub order_is_kept : OrderIsKept s
  pub framing_comes_last : FramingComesLast s
  pub frames_are_open : FramesAreOpen s
  pub frames_spread : FramesSpread graph s
  pub wants_are_covered : WantsAreCovered s
  pub settled_is_kept : SettledIsKept graph s
  pub changes_spread : ChangesSpread graph s
  pub values_are_read : ValuesAreRead graph s
  pub dones_are_right : DonesAreRight graph s
  pub ended_is_prefix : EndedIsPrefix s
  pub room_is_kept : RoomIsKept s
  pub ended_is_machine : EndedIsMachine graph s
  pub edges_are_kept : EdgesAreKept s
  pub edges_are_known : EdgesAreKnown s
  pub work_is_kept : WorkIsKept graph s
  pub entries_are_kept : EntriesAreKept graph s
  pub one_entry : (n : ℕ) → IsUnique (entries s n)
  pub versions_are_fresh : VersionsAreFresh s
  pub wants_are_free : WantsAreFree graph s
  pub picks_fit : PicksFit graph s
  pub edges_fit : EdgesFit graph s
  pub lists : length s.cells ≡ length graph.nodes
  pub sets_are_sets : SetsAreSets s
  pub settled_has_entry : (u m : ℕ) → IsLive s u → IsSettled graph s u m → has (entries s m) u ≡ true
  pub calls_are_right : (u : ℕ) → IsLive s u → IsCallRight graph (call s u)
  pub looks_are_few : LooksAreFew s
  pub entries_have_slots : EntriesHaveSlots s
  pub entry_slots_fit : EntrySlotsFit s
  pub begun_is_within : BegunIsWithin s
  pub calls_ascend : CallsAscend s
  pub gathered_are_apart : GatheredAreApart s
  pub pairs_name_nodes : PairsNameNodes graph s
