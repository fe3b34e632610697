-- The parts that steps are made of: entering a list, raising a Mark, finishing, telling later calls, and out-edges.
use Rattle.std.specs.Prelude.{ℕ, Bool, true, false, not, ◌&&◌, ◌||◌, ◌==◌, List, [], ◌∷◌, map, Option, Some, None}
use Rattle.script_tree.specs.declared.value.Value.{Value}
use Rattle.signal_graph.specs.Graph.{is_in}
use Rattle.order_graph.specs.declared.pair.Pair.{Pair}
use Rattle.order_graph.specs.Order.{linked}
use Rattle.node_versions.specs.declared.entry.State.{State}
use Rattle.node_versions.specs.declared.entry.State.TheVariants.{Mark, Frame, Done}
use Rattle.node_versions.specs.declared.entry.Entry.{Entry}
use Rattle.node_versions.specs.Entries.{is_frame, changed_of, has, at, behind, front, rest, placed, with_state, with_out, OutEdge}
use Rattle.flow_model.specs.Machine.Sets.{put, put_all, take_out, without}
use Rattle.flow_model.specs.Machine.State.{Core, Cell, LiveCall, call, live, executes, is_framing, entries, precedes, with_call, with_cell}

-- ---- entering

-- The call's place is before the first entry that stops it: the call is before that entry's, or executes while that one
-- frames.
abbrev pub stops_call : Core → ℕ → ℕ → Bool
stops_call s t u = precedes s t u || (executes s t && is_framing s u)

-- the same of an entry
abbrev pub stops : Core → ℕ → Entry → Bool
stops s t e = stops_call s t e.version

-- the call of the first entry of a list, and of the last one
abbrev pub first_version : List Entry → Option ℕ
first_version [] = None
first_version (e ∷ es) = Some e.version

abbrev pub last_version : Option ℕ → List Entry → Option ℕ
last_version seen [] = seen
last_version seen (e ∷ es) = last_version (Some e.version) es

-- the pairs with one of the left neighbour and the call, and one of the call and the right neighbour, where these live
abbrev pub link_left : Core → ℕ → ℕ → Option ℕ → List Pair → List Pair
link_left s t m None pairs = pairs
link_left s t m (Some u) pairs = elim (live s u) [ true ↦ linked pairs u t m | false ↦ pairs ]

abbrev pub link_right : Core → ℕ → ℕ → Option ℕ → List Pair → List Pair
link_right s t m None pairs = pairs
link_right s t m (Some u) pairs = elim (live s u) [ true ↦ linked pairs t u m | false ↦ pairs ]

-- the recorded order after the call has entered the node's list
abbrev pub linked_at : Core → ℕ → ℕ → List Pair
linked_at s t m = link_right s t m (first_version (rest (stops s t) (entries s m)))
    (link_left s t m (last_version None (front (stops s t) (entries s m))) s.pairs)

-- the call's entry in a state
abbrev pub new_entry : Core → ℕ → State → Entry
new_entry s t state = record { version = t; slot = (call s t).slot; state = state }

-- the node with the call's entry at its place
abbrev pub place_entry : Core → ℕ → State → Cell → Cell
place_entry s t state c = record c { entries = placed (stops s t) (new_entry s t state) c.entries }

-- the call enters the node's list
abbrev pub enter : Core → ℕ → ℕ → State → Core
enter s t m state = record s { cells = (with_cell s m (place_entry s t state)).cells; pairs = linked_at s t m }

-- it enters with a Mark
abbrev pub enter_mark : Core → ℕ → ℕ → Core
enter_mark s t m = enter s t m Mark

-- a Mark, unless the call has an entry there
abbrev pub ensure_mark : Core → ℕ → ℕ → Core
ensure_mark s t m = elim (has (entries s m) t) [ true ↦ s | false ↦ enter s t m Mark ]

-- ---- raising and finishing

-- the node with another state of the call's entry
abbrev pub set_state : ℕ → State → Cell → Cell
set_state t state c = record c { entries = with_state t state c.entries }

-- the call's Mark becomes a Frame
abbrev pub raise : Core → ℕ → ℕ → Core
raise s t n = with_cell s n (set_state t Frame)

-- the node is open for the call, which comes to want the nodes that are framed with it
abbrev pub opened : ℕ → List ℕ → LiveCall → LiveCall
opened n outs c = record c { wanted = put_all (without outs (put n c.open_nodes)) (take_out n c.wanted); open_nodes = put n c.open_nodes }

-- the node is open for the call no more, which has changed it or not
abbrev pub closed : ℕ → Bool → LiveCall → LiveCall
closed n changed c = record c {
  open_nodes = take_out n c.open_nodes;
  changed = elim changed [ true ↦ put n c.changed | false ↦ c.changed ];
}

-- the call's Frame becomes a Done
abbrev pub finish : Core → ℕ → ℕ → Value → Bool → List (Option ℕ) → Core
finish s t n value changed picks = with_call (with_cell s n (set_state t (Done value changed picks))) t (closed n changed)

-- what was gathered, found and evaluated at the node is forgotten
abbrev pub cleared : Cell → Cell
cleared c = record c { gathered = []; found = None; body = None }

-- the state after that
abbrev pub clear : Core → ℕ → Core
clear s n = with_cell s n cleared

-- ---- telling

-- A Frame, and a Done that changed, hand a new dependency on.
abbrev pub hands_on : State → Bool
hands_on state = is_frame state || changed_of state

-- The call stands behind t in the list, hands on what it does there, and does not have n open.
abbrev pub is_told : List Entry → ℕ → ℕ → LiveCall → Bool
is_told es t n c = behind es t c.version && at hands_on es c.version && not (is_in n c.open_nodes)

-- the call comes to want n where it is told
abbrev pub tell_call : List Entry → ℕ → ℕ → LiveCall → LiveCall
tell_call es t n c = record c { wanted = elim (is_told es t n c) [ true ↦ put n c.wanted | false ↦ c.wanted ] }

-- such calls come to want n
abbrev pub tell : Core → ℕ → ℕ → ℕ → Core
tell s t n m = record s { calls = map (tell_call (entries s m) t n) s.calls }

-- ---- out-edges

-- an out-edge to n since t
abbrev pub add_edge : ℕ → ℕ → Cell → Cell
add_edge n t c = record c { outs = with_out c.outs n t }

-- the first out-edge of the node goes
abbrev pub remove_first : ℕ → List OutEdge → List OutEdge
remove_first n [] = []
remove_first n (edge ∷ edges) = elim (edge.0 == n) [ true ↦ edges | false ↦ edge ∷ remove_first n edges ]

-- no out-edge to n
abbrev pub drop_edge : ℕ → Cell → Cell
drop_edge n c = record c { outs = remove_first n c.outs }
