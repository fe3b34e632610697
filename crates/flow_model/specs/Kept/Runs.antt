-- Runs of a candidate at a choose node, the calls that they cover, and settled entries.
use Rattle.std.specs.Prelude.{◌≡◌, ℕ, Bool, true, false, ◌&&◌, ◌||◌, not, List, [], ◌∷◌, ◌++◌, length, take, Option, Some, None}
use Rattle.std.specs.List.{list_any}
use Rattle.signal_graph.specs.Graph.{Graph, is_in, node_at, inputs_of, static_outs}
use Rattle.signal_graph.specs.Values.{nodes_in}
use Rattle.node_versions.specs.declared.entry.State.{State}
use Rattle.node_versions.specs.declared.entry.State.TheVariants.{Mark, Frame, Done}
use Rattle.node_versions.specs.declared.entry.Entry.{Entry}
use Rattle.node_versions.specs.Entries.{OutEdge, is_frame, is_done, has, at, behind, first_open, is_active, picks_at, has_out, has_node}
use Rattle.flow_model.specs.Machine.State.{Core, call, live, entries, outs}
use Rattle.flow_model.specs.Machine.Words.{heads, touched, is_gathered, is_prior}

-- Neighbouring Dones whose picks have one candidate: the calls at which the run begins and ends, where there are such.
pub record Run : Type 0 where
  pub begins : Option ℕ
  pub ends : Option ℕ

-- What a reading of the Dones from the first on has met: whether it has met none, the run that it is in, and the runs
-- that have ended.
pub record Reading : Type 0 where
  pub fresh : Bool
  pub current : Option Run
  pub closed : List Run

-- A run with the first Done of a list has no call at which it begins.
abbrev pub begin_at : Bool → ℕ → Run
begin_at true v = record { begins = None; ends = None }
begin_at false v = record { begins = Some v; ends = None }

-- the run that a Done with the candidate goes on with: the one before, or a new one
abbrev pub go_on : Option Run → Bool → ℕ → Option Run
go_on None fresh v = Some (begin_at fresh v)
go_on (Some r) fresh v = Some r

-- the runs that have ended, after a Done without the candidate
abbrev pub close : Option Run → ℕ → List Run → List Run
close None v rs = rs
close (Some r) v rs = rs ++ record r { ends = Some v } ∷ []

-- what is met after one more Done
abbrev pub read_done : ℕ → ℕ → List (Option ℕ) → Reading → Reading
read_done m v picks q = record {
  fresh = false;
  current = elim (is_in m (nodes_in picks)) [ true ↦ go_on q.current q.fresh v | false ↦ None ];
  closed = elim (is_in m (nodes_in picks)) [ true ↦ q.closed | false ↦ close q.current v q.closed ];
}

-- the same after one more entry; only a Done tells anything
abbrev pub read_state : ℕ → ℕ → State → Reading → Reading
read_state m v Mark q = q
read_state m v Frame q = q
read_state m v (Done value changed picks) q = read_done m v picks q

-- the same after a list
abbrev pub read_all : ℕ → List Entry → Reading → Reading
read_all m [] q = q
read_all m (e ∷ es) q = read_all m es (read_state m e.version e.state q)

-- at the start of a list
abbrev pub nothing_read : Reading
nothing_read = record { fresh = true; current = None; closed = [] }

-- The last run ends at the first open call where that call has dropped the candidate, which its missing edge shows.
abbrev pub dropper : Core → ℕ → ℕ → Option ℕ
dropper s n m = elim (has_node (outs s m) n) [ true ↦ None | false ↦ first_open (entries s n) ]

-- the run in which the list ends
abbrev pub last_run : Option Run → Option ℕ → List Run
last_run None dropped = []
last_run (Some r) dropped = record r { ends = dropped } ∷ []

-- An edge of the first open call is a run that begins there.
abbrev pub discovered : Option ℕ → ℕ → List OutEdge → List Run
discovered None n edges = []
discovered (Some t) n edges = elim (has_out edges n t) [ true ↦ record { begins = Some t; ends = None } ∷ [] | false ↦ [] ]

-- the runs of m at n
abbrev pub runs : Core → ℕ → ℕ → List Run
runs s n m = let q = read_all m (entries s n) nothing_read in
    q.closed ++ last_run q.current (dropper s n m) ++ discovered (first_open (entries s n)) n (outs s m)

-- Of a call with an entry: it stands at or after the first call's, where that has one.
abbrev pub is_from : Core → ℕ → Option ℕ → ℕ → Bool
is_from s m None u = true
is_from s m (Some b) u = is_active (entries s m) b u

-- It stands before the last call's. A run that ends at an ended call is of no use to anyone.
abbrev pub is_until : Core → ℕ → Option ℕ → ℕ → Bool
is_until s m None u = true
is_until s m (Some z) u = live s z && behind (entries s m) u z

-- The run covers a call's entry at the candidate.
abbrev pub covers : Core → ℕ → ℕ → Run → Bool
covers s m u r = has (entries s m) u && is_from s m r.begins u && is_until s m r.ends u

-- n reacts to a change of m by u: its scripts name m, or it has a run of m that covers u.
abbrev pub reacts : Graph → Core → ℕ → ℕ → ℕ → Bool
reacts graph s u m n = is_in n (static_outs graph m) || list_any (covers s m u) (runs s n m)

-- ---- settled entries

-- a Frame, or a Done, which was one
abbrev pub is_framed_state : State → Bool
is_framed_state state = is_frame state || is_done state

-- u has n framed.
abbrev pub framed : Core → ℕ → ℕ → Bool
framed s u n = at is_framed_state (entries s n) u

-- The picks at u's entry have m.
abbrev pub picks_it : Core → ℕ → ℕ → ℕ → Bool
picks_it s u n m = is_in m (nodes_in (picks_at (entries s n) u))

-- u's Done at n was due.
abbrev pub was_due : Graph → Core → ℕ → ℕ → Bool
was_due graph s u n = at is_done (entries s n) u && touched graph s u n

-- u has dropped m at n.
abbrev pub dropped : Core → ℕ → ℕ → ℕ → Bool
dropped s u n m = is_prior s u n m
    && ((at is_done (entries s n) u && not (picks_it s u n m)) || (heads s u n && not (has_node (outs s m) n)))

-- u's entry at m is settled by what u does at n.
abbrev pub settles : Graph → Core → ℕ → ℕ → ℕ → Bool
settles graph s u m n = (heads s u n && is_gathered s n m) || dropped s u n m
    || (was_due graph s u n && (is_in m (inputs_of (node_at graph n)) || picks_it s u n m))

-- u has looked at m.
abbrev pub looked_at : Core → ℕ → ℕ → Bool
looked_at s u m = is_in m (take (length (call s u).looked) (call s u).looks)

-- u's entry at m is settled: something was read there, or was not and can't be any more.
pub data IsSettled (graph : Graph) (s : Core) (u m : ℕ) : Type 0 where
  by_node : (n : ℕ) → settles graph s u m n ≡ true → IsSettled graph s u m
  by_look : looked_at s u m ≡ true → IsSettled graph s u m
