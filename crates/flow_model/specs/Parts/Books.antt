-- A state in two parts: its book, and a list with out-edges for each node. Which lists a step reads, and what it makes of the
-- book and of one list.
use Rattle.std.specs.Prelude.{◌≡◌, ℕ, suc, Bool, true, false, ◌&&◌, ◌||◌, not, nat_lt, List, []}
use Rattle.std.specs.Prelude.{◌∷◌, ◌++◌, length, map, Option, Some, None, is_none, is_some}
use Rattle.std.specs.List.{list_any, list_all}
use Rattle.script_tree.specs.declared.value.Value.{Value}
use Rattle.signal_graph.specs.declared.call.Call.{Call}
use Rattle.signal_graph.specs.declared.log.Logged.{Logged}
use Rattle.signal_graph.specs.Graph.{Graph, node_at, is_in, is_source, inputs_of, body_of, static_outs}
use Rattle.signal_graph.specs.Values.{nodes_in}
use Rattle.signal_graph.specs.Machine.{same}
use Rattle.order_graph.specs.declared.pair.Pair.{Pair}
use Rattle.order_graph.specs.Order.{retired}
use Rattle.node_versions.specs.declared.entry.State.{State}
use Rattle.node_versions.specs.declared.entry.State.TheVariants as state
use Rattle.node_versions.specs.declared.entry.Entry.{Entry}
use Rattle.node_versions.specs.Entries.{OutEdge, is_mark, has, at, served, front, rest, placed, with_state, collected, first_open}
use Rattle.node_versions.specs.Entries.{value_at, value_before, picks_before, active_nodes, has_out, has_node, with_out}
use Rattle.flow_model.specs.declared.step.Step.{Step}
use Rattle.flow_model.specs.declared.step.Step.TheVariants.{Frame, Start, Skip, Gather, Evaluate, Body, Resolve}
use Rattle.flow_model.specs.declared.step.Step.TheVariants.{Discover, Drop, Mark, Look, End, Collect}
use Rattle.flow_model.specs.Machine.Lists.{is_empty, change_at}
use Rattle.flow_model.specs.Machine.State.{Core, Cell, LiveCall, Found, call, cell, ended, executes}
use Rattle.flow_model.specs.Machine.State.{is_framing, wants, opens, changes, change_call}
use Rattle.flow_model.specs.Machine.Words.{is_gathered, is_found, found_picks, found_candidates, is_candidate, is_some_of}
use Rattle.flow_model.specs.Machine.Words.{pressed, list_room, next_look, is_idle, finds, value_gathered, body_now, value_now}
use Rattle.flow_model.specs.Machine.Changes.{stops, new_entry, first_version, last_version, link_left}
use Rattle.flow_model.specs.Machine.Changes.{link_right, opened, closed, tell_call, remove_first}
use Rattle.flow_model.specs.Machine.Steps.{all_gathered, any_framing_before, any_before, has_body_value}
use Rattle.flow_model.specs.Machine.Steps.{new_call, started, counted, with_look, logged, without_call}

-- A node's entries and out-edges.
pub record Listing : Type 0 where
  pub entries : List Entry
  pub outs : List OutEdge

-- What a node's first open call has gathered, found and evaluated as a body.
pub record Work : Type 0 where
  pub gathered : List (ℕ × Value)
  pub found : Option Found
  pub body : Option Value

-- All but the listings.
pub record Book : Type 0 where
  pub callers : ℕ
  pub limit : ℕ
  pub begun : ℕ
  pub calls : List LiveCall
  pub works : List Work
  pub pairs : List Pair
  pub log : List Logged

-- a node's listing, and the work there
abbrev pub listing_in : Cell → Listing
listing_in c = record { entries = c.entries; outs = c.outs }

abbrev pub work_in : Cell → Work
work_in c = record { gathered = c.gathered; found = c.found; body = c.body }

-- the book of a state
abbrev pub book_of : Core → Book
book_of s = record {
  callers = s.callers;
  limit = s.limit;
  begun = s.begun;
  calls = s.calls;
  works = map work_in s.cells;
  pairs = s.pairs;
  log = s.log;
}

-- its listing of a node
abbrev pub listing : Core → ℕ → Listing
listing s n = listing_in (cell s n)

-- the state of a book with nothing in its lists, for the words that don't read these
abbrev pub bare_cell : Work → Cell
bare_cell w = record { entries = []; outs = []; gathered = w.gathered; found = w.found; body = w.body }

-- the same of a whole book
abbrev pub bare : Book → Core
bare b = record {
  callers = b.callers;
  limit = b.limit;
  begun = b.begun;
  calls = b.calls;
  cells = map bare_cell b.works;
  pairs = b.pairs;
  log = b.log;
}

-- ---- words over a book and a listing

-- The listing has room.
abbrev pub has_room_in : Book → Listing → Bool
has_room_in b l = nat_lt (length l.entries) (list_room b.callers)

-- The call has an entry there or finds room for one.
abbrev pub has_room_for_in : Book → Listing → ℕ → Bool
has_room_for_in b l t = has l.entries t || has_room_in b l

-- what the call had picked before
abbrev pub prior_in : Listing → ℕ → List ℕ
prior_in l t = nodes_in (picks_before l.entries t)

-- what the node rests on before the call
abbrev pub deps_in : Graph → Listing → ℕ → ℕ → List ℕ
deps_in graph l t n = inputs_of (node_at graph n) ++ prior_in l t

-- The call is at the front of the node.
abbrev pub at_front_in : Graph → Book → Listing → ℕ → ℕ → Bool
at_front_in graph b l t n = executes (bare b) t && is_some_of (first_open l.entries) t
    && not (list_any (opens (bare b) t) (deps_in graph l t n))

-- It can work there.
abbrev pub can_work_in : Graph → Book → Listing → ℕ → ℕ → Bool
can_work_in graph b l t n = is_empty (call (bare b) t).wanted && at_front_in graph b l t n

-- It has changed what the node rests on.
abbrev pub touched_in : Graph → Book → Listing → ℕ → ℕ → Bool
touched_in graph b l t n = not (is_source (node_at graph n)) && list_any (changes (bare b) t) (deps_in graph l t n)

-- The node is due.
abbrev pub due_in : Graph → Book → Listing → ℕ → ℕ → Bool
due_in graph b l t n = can_work_in graph b l t n && touched_in graph b l t n

-- whether the node's new value is another than before the call
abbrev pub is_change_in : Graph → Book → Listing → ℕ → ℕ → Bool
is_change_in graph b l t n = not (same (value_now graph (bare b) t n) (value_before l.entries t))

-- ---- entering a list

-- the entries with the call's at its place
abbrev pub placed_in : Book → ℕ → State → Listing → List Entry
placed_in b t x l = placed (stops (bare b) t) (new_entry (bare b) t x) l.entries

-- the recorded order after that
abbrev pub linked_in : Book → ℕ → ℕ → Listing → List Pair
linked_in b t m l = link_right (bare b) t m (first_version (rest (stops (bare b) t) l.entries))
    (link_left (bare b) t m (last_version None (front (stops (bare b) t) l.entries)) b.pairs)

-- with a Mark, unless the call has an entry there
abbrev pub marked_in : Book → ℕ → Listing → List Entry
marked_in b t l = elim (has l.entries t) [ true ↦ l.entries | false ↦ placed_in b t state.Mark l ]

-- the recorded order after that
abbrev pub marked_pairs : Book → ℕ → ℕ → Listing → List Pair
marked_pairs b t m l = elim (has l.entries t) [ true ↦ b.pairs | false ↦ linked_in b t m l ]

-- with a Frame, a new one or a Mark raised
abbrev pub framed_in : Book → ℕ → Listing → List Entry
framed_in b t l = elim (at is_mark l.entries t) [ true ↦ with_state t state.Frame l.entries | false ↦ placed_in b t state.Frame l ]

-- the recorded order after that
abbrev pub framed_pairs : Book → ℕ → ℕ → Listing → List Pair
framed_pairs b t n l = elim (at is_mark l.entries t) [ true ↦ b.pairs | false ↦ linked_in b t n l ]

-- ---- changes of the work at a node

-- one more value is gathered
abbrev pub with_gathered : ℕ → Value → Work → Work
with_gathered m v w = record w { gathered = w.gathered ++ (m, v) ∷ [] }

-- what was found is kept
abbrev pub with_found : Found → Work → Work
with_found found w = record w { found = Some found }

-- the body's value is kept
abbrev pub with_body : Value → Work → Work
with_body v w = record w { body = Some v }

-- nothing gathered, found or evaluated
abbrev pub no_work : Work
no_work = record { gathered = []; found = None; body = None }

-- the work is forgotten
abbrev pub forgotten : Work → Work
forgotten w = no_work

-- ---- what a step makes of the book and of one listing

-- the node whose listing a step reads to change the book
abbrev pub read_of_step : Book → Step → Option ℕ
read_of_step b (Frame t n) = Some n
read_of_step b (Gather t n m) = Some m
read_of_step b (Evaluate t n) = Some n
read_of_step b (Resolve t n) = Some n
read_of_step b (Discover t n c) = Some c
read_of_step b (Drop t n o) = Some o
read_of_step b (Mark t m) = Some m
read_of_step b (Look t) = next_look (bare b) t
read_of_step b step = None

-- the listing of the node that a step changes, from what it was
abbrev pub listing_after : Graph → Book → Listing → Step → Listing
listing_after graph b l (Frame t n) = record l { entries = framed_in b t l }
listing_after graph b l (Skip t n) = record l {
  entries = with_state t (state.Done (value_before l.entries t) false (picks_before l.entries t)) l.entries;
}
listing_after graph b l (Resolve t n) = record l {
  entries = with_state t (state.Done (value_now graph (bare b) t n) (is_change_in graph b l t n) (found_picks (bare b) n)) l.entries;
}
listing_after graph b l (Discover t n c) = record { entries = marked_in b t l; outs = with_out l.outs n t }
listing_after graph b l (Drop t n o) = record { entries = marked_in b t l; outs = remove_first n l.outs }
listing_after graph b l (Mark t m) = record l { entries = placed_in b t state.Mark l }
listing_after graph b l (Collect n) = record l { entries = collected (ended (bare b)) l.entries }
listing_after graph b l step = l

-- the book after a step, from the book and the listing that the step reads
abbrev pub book_after : Graph → Book → Listing → Step → Book
book_after graph b l (Frame t n) = record b {
  calls = change_call t (opened n (static_outs graph n ++ active_nodes (framed_in b t l) l.outs t)) b.calls;
  pairs = framed_pairs b t n l;
}
book_after graph b l (Start t) = record b { calls = change_call t started b.calls }
book_after graph b l (Skip t n) = record b { calls = change_call t (closed n false) b.calls }
book_after graph b l (Gather t n m) = record b { works = change_at n (with_gathered m (value_at l.entries t)) b.works }
book_after graph b l (Evaluate t n) = record b {
  calls = change_call t counted b.calls;
  works = change_at n (with_found (finds (node_at graph n) (value_gathered (bare b) n) (value_before l.entries t))) b.works;
}
book_after graph b l (Body t n) = record b { works = change_at n (with_body (body_now graph (bare b) n)) b.works }
book_after graph b l (Resolve t n) = record b {
  calls = change_call t (closed n (is_change_in graph b l t n)) b.calls;
  works = change_at n forgotten b.works;
}
book_after graph b l (Discover t n c) = record b { calls = map (tell_call (marked_in b t l) t n) b.calls; pairs = marked_pairs b t c l }
book_after graph b l (Drop t n o) = record b { pairs = marked_pairs b t o l }
book_after graph b l (Mark t m) = record b { pairs = linked_in b t m l }
book_after graph b l (Look t) = record b { calls = change_call t (with_look (value_at l.entries t)) b.calls }
book_after graph b l (End t) = record b {
  calls = without_call t b.calls;
  pairs = retired b.pairs t;
  log = b.log ++ logged (call (bare b) t) ∷ [];
}
book_after graph b l (Collect n) = b

-- ---- what a step reads to be allowed

-- A found candidate is a prior pick or has its out-edge.
abbrev pub is_discovered_in : Book → (ℕ → Listing) → ℕ → ℕ → ℕ → Bool
is_discovered_in b lists t n c = is_in c (prior_in (lists n) t) || has_out (lists c).outs n t

-- A prior pick is found again or has no out-edge any more.
abbrev pub is_released_in : Book → (ℕ → Listing) → ℕ → ℕ → Bool
is_released_in b lists n o = is_candidate (bare b) n o || not (has_node (lists o).outs n)

-- All that the node's new value takes is there.
abbrev pub is_worked_out_in : Graph → Book → (ℕ → Listing) → ℕ → ℕ → Bool
is_worked_out_in graph b lists t n = is_found (bare b) n && all_gathered (bare b) n (found_candidates (bare b) n)
    && list_all (is_discovered_in b lists t n) (found_candidates (bare b) n)
    && list_all (is_released_in b lists n) (prior_in (lists n) t) && has_body_value graph (bare b) n

-- The node asks the call to enter m.
abbrev pub asks_for_in : Graph → Book → (ℕ → Listing) → ℕ → ℕ → ℕ → Bool
asks_for_in graph b lists t m n = due_in graph b (lists n) t n
    && ((is_in m (inputs_of (node_at graph n)) && not (is_gathered (bare b) n m))
    || (is_candidate (bare b) n m && is_in m (prior_in (lists n) t)))

-- The next look can be taken.
abbrev pub served_look_in : (ℕ → Listing) → ℕ → Option ℕ → Bool
served_look_in lists t None = false
served_look_in lists t (Some m) = served (lists m).entries t

-- whether a step is allowed, from the book and listings by node; a Mark is asked for at open nodes
abbrev pub allowed_in : Graph → Book → (ℕ → Listing) → Step → Bool
allowed_in graph b lists (Frame t n) = wants (bare b) t n && (at is_mark (lists n).entries t || has_room_in b (lists n))
allowed_in graph b lists (Start t) = is_framing (bare b) t && is_empty (call (bare b) t).wanted && not (any_framing_before (bare b) t)
allowed_in graph b lists (Skip t n) = can_work_in graph b (lists n) t n && not (is_source (node_at graph n))
    && not (touched_in graph b (lists n) t n) && not (pressed (bare b) t n)
allowed_in graph b lists (Gather t n m) = due_in graph b (lists n) t n
    && (is_in m (inputs_of (node_at graph n)) || is_candidate (bare b) n m) && not (is_gathered (bare b) n m)
    && served (lists m).entries t
allowed_in graph b lists (Evaluate t n) = at_front_in graph b (lists n) t n && touched_in graph b (lists n) t n
    && all_gathered (bare b) n (inputs_of (node_at graph n)) && not (is_found (bare b) n)
allowed_in graph b lists (Body t n) = at_front_in graph b (lists n) t n && touched_in graph b (lists n) t n
    && is_some (body_of (node_at graph n)) && is_found (bare b) n && all_gathered (bare b) n (found_candidates (bare b) n)
    && is_none (cell (bare b) n).body
allowed_in graph b lists (Discover t n c) = due_in graph b (lists n) t n && is_candidate (bare b) n c
    && not (is_in c (prior_in (lists n) t)) && not (has_out (lists c).outs n t) && has_room_for_in b (lists c) t
allowed_in graph b lists (Drop t n o) = due_in graph b (lists n) t n && is_found (bare b) n
    && all_gathered (bare b) n (found_candidates (bare b) n) && is_in o (prior_in (lists n) t) && not (is_candidate (bare b) n o)
    && has_node (lists o).outs n && has_room_for_in b (lists o) t
allowed_in graph b lists (Resolve t n) = can_work_in graph b (lists n) t n && not (pressed (bare b) t n)
    && (is_source (node_at graph n) || (touched_in graph b (lists n) t n && is_worked_out_in graph b lists t n))
allowed_in graph b lists (Mark t m) = executes (bare b) t && not (has (lists m).entries t) && has_room_in b (lists m)
    && (list_any (asks_for_in graph b lists t m) (call (bare b) t).open_nodes
    || (is_idle (bare b) t && is_some_of (next_look (bare b) t) m))
allowed_in graph b lists (Look t) = is_idle (bare b) t && served_look_in lists t (next_look (bare b) t)
allowed_in graph b lists (End t) = is_idle (bare b) t && is_none (next_look (bare b) t) && not (any_before (bare b) t)
allowed_in graph b lists (Collect n) = nat_lt (length (collected (ended (bare b)) (lists n).entries)) (length (lists n).entries)

-- a list of one, or of none
abbrev pub one_of : Option ℕ → List ℕ
one_of None = []
one_of (Some m) = m ∷ []

-- the nodes whose listings a step reads to be allowed
abbrev pub reads_of_step : Book → (ℕ → Listing) → Step → List ℕ
reads_of_step b lists (Frame t n) = n ∷ []
reads_of_step b lists (Start t) = []
reads_of_step b lists (Skip t n) = n ∷ []
reads_of_step b lists (Gather t n m) = n ∷ m ∷ []
reads_of_step b lists (Evaluate t n) = n ∷ []
reads_of_step b lists (Body t n) = n ∷ []
reads_of_step b lists (Discover t n c) = n ∷ c ∷ []
reads_of_step b lists (Drop t n o) = n ∷ o ∷ []
reads_of_step b lists (Resolve t n) = n ∷ found_candidates (bare b) n ++ prior_in (lists n) t
reads_of_step b lists (Mark t m) = m ∷ (call (bare b) t).open_nodes
reads_of_step b lists (Look t) = one_of (next_look (bare b) t)
reads_of_step b lists (End t) = []
reads_of_step b lists (Collect n) = n ∷ []

-- Two readers of listings agree on some nodes.
abbrev pub AgreeOn : List ℕ → (ℕ → Listing) → (ℕ → Listing) → Type 0
AgreeOn ns lists others = (n : ℕ) → is_in n ns ≡ true → others n ≡ lists n

-- ---- beginnings

-- the book after a call has begun; no listing is read or changed
abbrev pub begun_in : Graph → Book → ℕ → Call → Book
begun_in graph b caller call = record b { begun = suc b.begun; calls = b.calls ++ new_call graph (bare b) caller call ∷ [] }
