-- The seats of live calls, and the calls and pairs that they stand for.
use Rattle.std.specs.Prelude.{◌≡◌, ℕ, ◌+◌, ◌<◌, ◌≤◌, Bool, true, false, ◌||◌, ◌&&◌, ◌==◌}
use Rattle.std.specs.Prelude.{List, [], ◌∷◌, ◌++◌, length, map, filter, not, slice_index_or}
use Rattle.std.specs.List.{AllByRecursion, list_any}
use Rattle.signal_graph.specs.Graph.{is_in}
use Rattle.order_graph.specs.declared.pair.Pair.{Pair}
use Rattle.order_graph.specs.Order.{Order, reaches, is_recorded, retired}
use Rattle.flow_model.specs.Machine.Steps.{without_call}
use Rattle.flow_model.specs.Machine.State.{LiveCall, no_call, call_of, call_or, change_call}
use Rattle.std.specs.Prelude.{is_some}
use Rattle.node_set.specs.Members.{Members}
use Rattle.flow_state.specs.declared.seating.Tenant.{Tenant}
use Rattle.flow_state.specs.declared.seating.TheConstants.{HINTS}

-- what contracts see in a `Seat`: its call, how many nodes its sets are for, and room for how many looks
pub record Seated : Type 0 where
  pub call : LiveCall
  pub size : ℕ
  pub room : ℕ

abbrev pub no_seat : Seated
no_seat = record { call = no_call; size = 0; room = 0 }

abbrev pub with_seated : Seated → LiveCall → Seated
with_seated seat call = record seat { call = call }

-- what contracts see in a `Seating`: how many callers and nodes there are, and the live calls with their recorded order
pub record LiveCalls : Type 0 where
  pub callers : ℕ
  pub nodes : ℕ
  pub calls : List LiveCall
  pub pairs : List Pair

abbrev pub with_calls : LiveCalls → List LiveCall → LiveCalls
with_calls live calls = record live { calls = calls }

abbrev pub with_pairs : LiveCalls → List Pair → LiveCalls
with_pairs live pairs = record live { pairs = pairs }

abbrev pub find_call : LiveCalls → ℕ → LiveCall
find_call live t = call_or (call_of live.calls t)

abbrev pub has_call : LiveCalls → ℕ → Bool
has_call live t = is_some (call_of live.calls t)

-- one call changes
abbrev pub on_live : LiveCalls → ℕ → (LiveCall → LiveCall) → LiveCalls
on_live live t f = with_calls live (change_call t f live.calls)

-- ---- how they are kept

abbrev pub seat_at : List Seated → ℕ → Seated
seat_at seats k = slice_index_or seats k no_seat

abbrev pub call_at : List Seated → ℕ → LiveCall
call_at seats k = (seat_at seats k).call

abbrev pub version_at : List Seated → ℕ → ℕ
version_at seats k = (call_at seats k).version

-- the live calls, in the order of their beginnings
abbrev pub calls_of : List Seated → List Tenant → List LiveCall
calls_of seats live = map (λ x. call_at seats x.slot) live

-- a pair of slots as one of versions
abbrev pub versions_of : List Seated → Pair → Pair
versions_of seats p = record { from = version_at seats p.from; to = version_at seats p.to; node = p.node }

abbrev pub pairs_of : List Seated → List Pair → List Pair
pairs_of seats pairs = map (versions_of seats) pairs

-- what is seen of them
abbrev pub live_calls : ℕ → ℕ → List Seated → List Tenant → Order → LiveCalls
live_calls callers nodes seats live order = record {
  callers = callers;
  nodes = nodes;
  calls = calls_of seats live;
  pairs = pairs_of seats order.pairs;
}

-- the slot of a version; 0 where it has none
abbrev pub slot_in : List Tenant → ℕ → ℕ
slot_in [] t = 0
slot_in (x ∷ xs) t = elim (x.version == t) [ true ↦ x.slot | false ↦ slot_in xs t ]

abbrev pub has_version : List Tenant → ℕ → Bool
has_version [] t = false
has_version (x ∷ xs) t = (x.version == t) || has_version xs t

abbrev pub has_slot : List Tenant → ℕ → Bool
has_slot [] k = false
has_slot (x ∷ xs) k = (x.slot == k) || has_slot xs k

-- A tenant has a seat, in which its call is, with room for all its looks.
pub record IsTenant (seats : List Seated) (x : Tenant) : Type 0 where
  pub inside : x.slot < length seats
  pub version : version_at seats x.slot ≡ x.version
  pub some : 0 < x.version
  pub room : (seat_at seats x.slot).room ≡ length (call_at seats x.slot).looks

-- No two tenants have one version or one slot.
abbrev pub AreTenants : List Seated → List Tenant → Type 0
AreTenants seats [] = Unit {0}
AreTenants seats (x ∷ xs) = IsTenant seats x × (has_version xs x.version ≡ false) × (has_slot xs x.slot ≡ false) × AreTenants seats xs

-- Each tenant has a lesser version than all behind it.
abbrev pub AreAscending : List Tenant → Type 0
AreAscending [] = Unit {0}
AreAscending (x ∷ xs) = AllByRecursion (λ (y : Tenant). x.version < y.version) xs × AreAscending xs

-- each pair is of slots that have tenants
abbrev pub AreLinked : List Tenant → List Pair → Type 0
AreLinked live pairs = AllByRecursion (λ p. (has_slot live p.from ≡ true) × (has_slot live p.to ≡ true)) pairs

-- A seat without a tenant has no call; each seat knows its slot, and has sets for all nodes. Pairs are of live calls, and
-- versions ascend in the order of beginnings.
pub record AreSeats (callers nodes capacity : ℕ) (seats : List Seated) (live : List Tenant) (order : Order) : Type 0 where
  pub some : 0 < callers
  pub few : callers ≤ 256
  pub few_nodes : nodes ≤ 16384
  pub count : length seats ≡ callers
  pub tenants : AreTenants seats live
  pub ascending : AreAscending live
  pub free : (k : ℕ) → has_slot live k ≡ false → version_at seats k ≡ 0
  pub slots : (k : ℕ) → k < callers → (call_at seats k).slot ≡ k
  pub sizes : (k : ℕ) → k < callers → (seat_at seats k).size ≡ nodes
  pub order_callers : order.callers ≡ callers
  pub linked : AreLinked live order.pairs
  pub room : callers ≤ capacity

-- The set of slots that no call has.
pub record IsFree (callers : ℕ) (live : List Tenant) (free : Members) : Type 0 where
  pub size : free.size ≡ callers
  pub slots : (k : ℕ) → k < callers → is_in k free.nodes ≡ not (has_slot live k)

-- ---- how many seats want a node

-- 1 for true, and 0 for false
abbrev pub one_if : Bool → ℕ
one_if true = 1
one_if false = 0

-- how many seats want the node, free ones too
abbrev pub wanting_in : ℕ → List Seated → ℕ
wanting_in n [] = 0
wanting_in n (seat ∷ seats) = one_if (is_in n seat.call.wanted) + wanting_in n seats

-- a node's count; 0 for a number that no node has
abbrev pub count_at : List ℕ → ℕ → ℕ
count_at counts n = slice_index_or counts n 0

-- Each node's count says how many seats want it.
abbrev pub AreCounts : List ℕ → List Seated → Type 0
AreCounts counts seats = (n : ℕ) → count_at counts n ≡ wanting_in n seats

-- The counts have changed with what one seat wants: a node that it wanted has lost one, and a node that it wants has got one.
abbrev pub Follow : List ℕ → List ℕ → List ℕ → List ℕ → Type 0
Follow counts wanted counts' wanted' = (n : ℕ) → count_at counts' n + one_if (is_in n wanted) ≡ count_at counts n + one_if (is_in n wanted')

-- Seats with hints and free slots. A hint says in which seat a call may sit, by the last bits of its version; it may be wrong.
-- The counts say how many seats want each node.
pub record IsSeating (callers nodes capacity : ℕ) (seats : List Seated) (live : List Tenant) (order : Order) (hints : List ℕ)
    (free : Members) (counts : List ℕ) : Type 0 where
  pub kept : AreSeats callers nodes capacity seats live order
  pub hint_count : length hints ≡ HINTS
  pub free_kept : IsFree callers live free
  pub count_each : length counts ≡ nodes
  pub counted : AreCounts counts seats

-- a free seat
abbrev pub free_seat : ℕ → ℕ → Seated
free_seat nodes slot = record { call = record no_call { slot = slot }; size = nodes; room = 0 }

-- the tenants but one
abbrev pub without_tenant : List Tenant → ℕ → List Tenant
without_tenant live t = filter (λ x. not (x.version == t)) live

-- no live calls
abbrev pub no_calls : ℕ → ℕ → LiveCalls
no_calls callers nodes = record { callers = callers; nodes = nodes; calls = []; pairs = [] }

-- one call and its pairs go
abbrev pub left_calls : LiveCalls → ℕ → LiveCalls
left_calls live t = record live { calls = without_call t live.calls; pairs = retired live.pairs t }

-- one call more, at the end
abbrev pub one_call_more : LiveCalls → LiveCall → LiveCalls
one_call_more live call = record live { calls = live.calls ++ call ∷ [] }

-- Another call stops a live one: it comes behind that one, or frames while that one executes.
abbrev pub stops_live : LiveCalls → ℕ → ℕ → Bool
stops_live live t u = reaches live.pairs t u || ((find_call live t).executing && (has_call live u && not (find_call live u).executing))

-- A call is a direct predecessor of another.
abbrev pub before_live : LiveCalls → ℕ → LiveCall → Bool
before_live live t c = is_recorded live.pairs c.version t

-- It frames, and is a direct predecessor of another.
abbrev pub framing_before_live : LiveCalls → ℕ → LiveCall → Bool
framing_before_live live t c = not c.executing && is_recorded live.pairs c.version t

-- pairs are of live calls
abbrev pub LeadsToLive : LiveCalls → Type 0
LeadsToLive live = (u v : ℕ) → reaches live.pairs u v ≡ true → has_call live v ≡ true

-- An executing call behind a live one wants the node.
abbrev pub presses_live : LiveCalls → ℕ → ℕ → LiveCall → Bool
presses_live live t n c = c.executing && (reaches live.pairs t c.version && is_in n c.wanted)

abbrev pub pressed_live : LiveCalls → ℕ → ℕ → Bool
pressed_live live t n = list_any (presses_live live t n) live.calls
