-- A node's list: an entry for each call that reached the node, in the calls' order. A call is named by its version.
use Rattle.std.specs.Prelude.{ℕ, suc, ◌+◌, Bool, true, false, not, ◌&&◌, ◌||◌, ◌==◌, ◌≡◌, IsTrue, List, []}
use Rattle.std.specs.Prelude.{◌∷◌, ◌++◌, drop, filter, Option, Some, None, slice_get, slice_index_or}
use Rattle.std.specs.List.{cons_option, position_or_len, AllByRecursion}
use Rattle.std.specs.Option.{option_or, is_some, IsSome}
use Rattle.script_tree.specs.declared.value.Value.{Value}
use Rattle.script_tree.specs.declared.value.Value.TheVariants as value
use Rattle.script_tree.specs.declared.value.Fault.TheVariants.{NoChoice}
pub use Rattle.node_versions.specs.declared.entry.State.{State}
pub use Rattle.node_versions.specs.declared.entry.State.TheVariants.{Mark, Frame, Done}
pub use Rattle.node_versions.specs.declared.entry.Entry.{Entry}

-- ---- states

abbrev pub is_mark : State → Bool
is_mark Mark = true
is_mark state = false

abbrev pub is_frame : State → Bool
is_frame Frame = true
is_frame state = false

abbrev pub is_done : State → Bool
is_done (Done value changed picks) = true
is_done state = false

-- the value of a Done; of another state, which is never asked, a fault
abbrev pub value_of : State → Value
value_of (Done value changed picks) = value
value_of state = value.Fault NoChoice

-- whether a Done changed the node
abbrev pub changed_of : State → Bool
changed_of (Done value changed picks) = changed
changed_of state = false

-- the picks of a Done, one item per selector; of another state none
abbrev pub picks_of : State → List (Option ℕ)
picks_of (Done value changed picks) = picks
picks_of state = []

-- ---- calls of a list

-- The entry is the call's.
abbrev pub is_of : ℕ → Entry → Bool
is_of t e = e.version == t

-- The call has an entry.
abbrev pub has : List Entry → ℕ → Bool
has [] t = false
has (e ∷ es) t = (e.version == t) || has es t

-- The call has an entry, and its state passes the test.
abbrev pub at : (State → Bool) → List Entry → ℕ → Bool
at test [] t = false
at test (e ∷ es) t = elim (e.version == t) [ true ↦ test e.state | false ↦ at test es t ]

-- The entry of u stands behind that of t.
abbrev pub behind : List Entry → ℕ → ℕ → Bool
behind [] t u = false
behind (e ∷ es) t u = elim (e.version == t) [ true ↦ has es u | false ↦ behind es t u ]

-- No call has two entries.
abbrev pub IsUnique : List Entry → Type 0
IsUnique [] = Unit {0}
IsUnique (e ∷ es) = (has es e.version ≡ false) × IsUnique es

-- the call of the first Frame
abbrev pub first_open : List Entry → Option ℕ
first_open [] = None
first_open (e ∷ es) = elim (is_frame e.state) [ true ↦ Some e.version | false ↦ first_open es ]

-- The call has an entry that is no Frame, and no Frame stands before it.
abbrev pub served : List Entry → ℕ → Bool
served [] t = false
served (e ∷ es) t = elim (is_frame e.state) [ true ↦ false | false ↦ (e.version == t) || served es t ]

-- the entries strictly before the call's, and those at or before it
abbrev pub before : List Entry → ℕ → List Entry
before [] t = []
before (e ∷ es) t = elim (e.version == t) [ true ↦ [] | false ↦ e ∷ before es t ]

abbrev pub up_to : List Entry → ℕ → List Entry
up_to [] t = []
up_to (e ∷ es) t = elim (e.version == t) [ true ↦ e ∷ [] | false ↦ e ∷ up_to es t ]

-- The entry at the index is the call's.
pub record IsEntryAt (es : List Entry) (t i : ℕ) : Type 0 where
  pub version : (e : Entry) → slice_get es i ≡ Some e → e.version ≡ t
  pub state : (e : Entry) (test : State → Bool) → slice_get es i ≡ Some e → at test es t ≡ test e.state

-- the version of the entry at an index
abbrev pub version_at : List Entry → ℕ → ℕ
version_at es i = (slice_index_or es i (record { version = 0; slot = 0; state = Mark })).version

-- The entry at the index is the first Frame.
abbrev pub IsFirstOpenAt : List Entry → ℕ → Type 0
IsFirstOpenAt es i = (e : Entry) → slice_get es i ≡ Some e → first_open es ≡ Some e.version

-- ---- values and picks

abbrev pub only_done : Entry → Option Entry
only_done e = elim (is_done e.state) [ true ↦ Some e | false ↦ None ]

-- the last Done of a list
abbrev pub last_done : List Entry → Option Entry
last_done [] = None
last_done (e ∷ es) = option_or (last_done es) (only_done e)

-- how many entries there are up to the last Done, which is one of them; 0 where there is none
abbrev pub done_len : List Entry → ℕ
done_len [] = 0
done_len (e ∷ es) = elim (is_some (last_done es)) [ true ↦ 1 + done_len es | false ↦ elim (is_done e.state) [ true ↦ 1 | false ↦ 0 ] ]

-- the state of an entry that is there, else a Mark
abbrev pub state_of : Option Entry → State
state_of None = Mark
state_of (Some e) = e.state

-- the last Done at or before the call's entry, and the last one strictly before it; a Mark where there is none
abbrev pub done_at : List Entry → ℕ → State
done_at es t = state_of (last_done (up_to es t))

abbrev pub done_before : List Entry → ℕ → State
done_before es t = state_of (last_done (before es t))

-- the node's value for the call, and the one before it
abbrev pub value_at : List Entry → ℕ → Value
value_at es t = value_of (done_at es t)

abbrev pub value_before : List Entry → ℕ → Value
value_before es t = value_of (done_before es t)

-- the node's picks for the call, and those before it
abbrev pub picks_at : List Entry → ℕ → List (Option ℕ)
picks_at es t = picks_of (done_at es t)

abbrev pub picks_before : List Entry → ℕ → List (Option ℕ)
picks_before es t = picks_of (done_before es t)

-- ---- changes of a list

-- the entries before the first that stops, and the rest
abbrev pub front : (Entry → Bool) → List Entry → List Entry
front stops [] = []
front stops (e ∷ es) = elim (stops e) [ true ↦ [] | false ↦ e ∷ front stops es ]

abbrev pub rest : (Entry → Bool) → List Entry → List Entry
rest stops [] = []
rest stops (e ∷ es) = elim (stops e) [ true ↦ e ∷ es | false ↦ rest stops es ]

-- the first entry of a list, and the last one, or what was seen before it
abbrev pub first_entry : List Entry → Option Entry
first_entry [] = None
first_entry (e ∷ es) = Some e

abbrev pub last_entry : Option Entry → List Entry → Option Entry
last_entry seen [] = seen
last_entry seen (e ∷ es) = last_entry (Some e) es

-- All entries of the list stop.
abbrev pub AllStop : (Entry → Bool) → List Entry → Type 0
AllStop stops es = AllByRecursion (λ e. IsTrue (stops e)) es

-- Behind an entry that stops all do.
abbrev pub StopsToTheEnd : (Entry → Bool) → List Entry → Type 0
StopsToTheEnd stops es = AllStop stops (rest stops es)

-- From the index on all entries stop, and the one right before it does not.
pub record StopsFrom (stops : Entry → Bool) (es : List Entry) (i : ℕ) : Type 0 where
  pub behind : AllStop stops (drop i es)
  pub before : (e : Entry) (k : ℕ) → i ≡ suc k → slice_get es k ≡ Some e → stops e ≡ false

-- the list with an entry put before the first that stops, else at the end
abbrev pub placed : (Entry → Bool) → Entry → List Entry → List Entry
placed stops new es = front stops es ++ new ∷ rest stops es

-- the list with another state in the call's entry
abbrev pub with_state : ℕ → State → List Entry → List Entry
with_state t state [] = []
with_state t state (e ∷ es) = elim (e.version == t) [ true ↦ record e { state = state } ∷ es | false ↦ e ∷ with_state t state es ]

-- No entry that has ended stands behind one that has not.
abbrev pub EndedIsPrefix : (Entry → Bool) → List Entry → Type 0
EndedIsPrefix ended [] = Unit {0}
EndedIsPrefix ended (e ∷ es) = elim (ended e) [ true ↦ EndedIsPrefix ended es | false ↦ filter ended es ≡ [] ]

-- The entries that have ended are the first ones, and one of them is Done.
pub record HasEndedPrefix (ended : Entry → Bool) (es : List Entry) : Type 0 where
  pub prefix : EndedIsPrefix ended es
  pub done : IsSome (last_done (filter ended es))

-- how many entries stand before the first that has not ended
abbrev pub ended_len : (Entry → Bool) → List Entry → ℕ
ended_len ended es = position_or_len (λ e. not (ended e)) es

-- the list in which of the ended entries only the last Done stays
abbrev pub collected : (Entry → Bool) → List Entry → List Entry
collected ended es = cons_option (last_done (filter ended es)) (filter (λ e. not (ended e)) es)

-- ---- out-edges

-- An out-edge is a choose node and a version, called since: the edge is there for the calls from that one on.
abbrev pub OutEdge : Type 0
OutEdge = ℕ × ℕ

-- Of a call that has an entry: the entry of since stands at or before it, or isn't in the list.
abbrev pub is_active : List Entry → ℕ → ℕ → Bool
is_active es since t = not (has es since) || has (up_to es t) since

-- the since of the out-edge at an index
abbrev pub since_at : List OutEdge → ℕ → ℕ
since_at outs index = (slice_index_or outs index (0, 0)).1

-- the nodes of the out-edges that are active for the call
abbrev pub active_nodes : List Entry → List OutEdge → ℕ → List ℕ
active_nodes es [] t = []
active_nodes es ((node, since) ∷ outs) t =
    elim (is_active es since t) [ true ↦ node ∷ active_nodes es outs t | false ↦ active_nodes es outs t ]

abbrev pub is_edge : ℕ → ℕ → OutEdge → Bool
is_edge node since edge = (edge.0 == node) && (edge.1 == since)

-- This edge is there; the node has one of any since.
abbrev pub has_out : List OutEdge → ℕ → ℕ → Bool
has_out [] node since = false
has_out (edge ∷ outs) node since = is_edge node since edge || has_out outs node since

abbrev pub has_node : List OutEdge → ℕ → Bool
has_node [] node = false
has_node (edge ∷ outs) node = (edge.0 == node) || has_node outs node

-- No edge is there twice.
abbrev pub AreDifferent : List OutEdge → Type 0
AreDifferent [] = Unit {0}
AreDifferent (edge ∷ outs) = (has_out outs edge.0 edge.1 ≡ false) × AreDifferent outs

-- the out-edges with one more, at the end
abbrev pub with_out : List OutEdge → ℕ → ℕ → List OutEdge
with_out outs node since = outs ++ (node, since) ∷ []

-- the out-edges without this one
abbrev pub without_out : List OutEdge → ℕ → ℕ → List OutEdge
without_out outs node since = filter (λ edge. not (is_edge node since edge)) outs

-- What contracts see in a `NodeList`: the entries, the out-edges, and how many of each there is room for.
pub record Versions : Type 0 where
  pub entries : List Entry
  pub outs : List OutEdge
  pub room : ℕ
  pub outs_room : ℕ

-- the list at opening: one entry, of version 0
abbrev pub opened : ℕ → ℕ → Value → List (Option ℕ) → Versions
opened room outs_room value picks = record {
  entries = record { version = 0; slot = 0; state = Done value false picks } ∷ [];
  outs = [];
  room = room;
  outs_room = outs_room;
}

-- the list with other entries, or other out-edges
abbrev pub with_entries : Versions → List Entry → Versions
with_entries list entries = record list { entries = entries }

abbrev pub with_outs : Versions → List OutEdge → Versions
with_outs list outs = record list { outs = outs }
