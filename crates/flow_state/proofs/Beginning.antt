-- A call takes a seat.
use Rattle.std.proofs.Common.{◌≡◌, ◌≢◌, ℕ, suc, ◌+◌, ◌-◌, ◌<◌, ◌≤◌, inl, inr, Bool, true, false, ◌==◌, ◌||◌, List, [], ◌∷◌, ◌++◌, length, map, set, refl, sym, ap, ◌∙◌, subst, arith, length-set}
use Rattle.std.specs.List.{AllByRecursion}
use Rattle.std.proofs.lemmas.Bool.{eq-eqb, ne_eqb, eqb-true, cases_eq, true≢false, false≢true, or_right, false_from_ne_true, or_parts}
use Rattle.std.proofs.lemmas.List.{get_or-set_same, get_or-set_other, map-append, length-map}
use Rattle.signal_graph.specs.declared.call.Call.{Call}
use Rattle.signal_graph.specs.Graph.{is_in}
use Rattle.order_graph.specs.declared.pair.Pair.{Pair}
use Rattle.order_graph.specs.Order.{Order}
use Rattle.call_log.specs.Record.{Record}
use Rattle.flow_model.specs.Machine.State.{LiveCall, call_of}
use Rattle.std.specs.Prelude.{is_some}
use Rattle.script_tree.proofs.Truths.{or_later}
use Rattle.flow_model.specs.Machine.Steps.{uses_slot, free_slot}
use Rattle.flow_model.specs.Kept.Lawful.{times, AreDistinct}
use Rattle.flow_model.proofs.General.Pigeons.{times-it, times-other, total-all, total-missing}
use Rattle.flow_state.specs.declared.seating.Tenant.{Tenant}
use Rattle.flow_state.specs.Booked.{begun_call}
use Rattle.flow_state.specs.Rooms.{Roomy}
use Rattle.flow_state.specs.Seats.{Seated, LiveCalls, no_seat, has_call, one_call_more, seat_at, call_at, version_at, calls_of, versions_of, pairs_of, live_calls, has_version, has_slot, AreTenants, AreAscending, AreLinked, AreSeats}
use Rattle.flow_state.specs.Shelves.{Shelved}
use Rattle.flow_state.specs.Kept.{IsKept}
use Rattle.flow_state.proofs.SeatLemmas.{calls-away, at_seat}
use Rattle.flow_state.proofs.Leaving.{tenant-away}
use Rattle.flow_state.proofs.BookLemmas.{has-cons}

-- ---- the slots that are used

uses-has : (seats : List Seated) (live : List Tenant) (k : ℕ) → ((j : ℕ) → j < length seats → (call_at seats j).slot ≡ j) → AreTenants seats live → uses_slot k (calls_of seats live) ≡ has_slot live k
uses-has seats [] k slots ok = refl
uses-has seats (x ∷ xs) k slots ok = ap (λ j. (j == k) || uses_slot k (calls_of seats xs)) (slots x.slot ok.0.inside) ∙ ap (λ b. (x.slot == k) || b) (uses-has seats xs k slots ok.3)

slot-some : (seats : List Seated) (live : List Tenant) (k : ℕ) → AreTenants seats live → has_slot live k ≡ true → 0 < version_at seats k
slot-some seats [] k ok h = absurd (false≢true h)
slot-some seats (x ∷ xs) k ok h = elim (cases_eq x.slot k) [
  | inl same ↦ let v = ap (version_at seats) (sym same) ∙ ok.0.version in let s = ok.0.some in omega (arith, v, s)
  | inr other ↦ slot-some seats xs k ok.3 (or_later (x.slot == k) _ h (ne_eqb x.slot k other))
]

pub slot_used : (callers nodes capacity : ℕ) (seats : List Seated) (live : List Tenant) (order : Order) (k : ℕ) → AreSeats callers nodes capacity seats live order → uses_slot k (calls_of seats live) ≡ has_slot live k
slot_used callers nodes capacity seats live order k kept = uses-has seats live k (λ j h. kept.slots j (let n = kept.count in omega (arith, h, n))) kept.tenants

pub seat_free : (callers nodes capacity : ℕ) (seats : List Seated) (live : List Tenant) (order : Order) (k : ℕ) → AreSeats callers nodes capacity seats live order → version_at seats k ≡ 0 → uses_slot k (calls_of seats live) ≡ false
seat_free callers nodes capacity seats live order k kept free = slot_used callers nodes capacity seats live order k kept ∙ false_from_ne_true (has_slot live k) (λ h. let s = slot-some seats live k kept.tenants h in omega (arith, s, free))

pub seat_taken : (callers nodes capacity : ℕ) (seats : List Seated) (live : List Tenant) (order : Order) (k : ℕ) → AreSeats callers nodes capacity seats live order → version_at seats k ≢ 0 → uses_slot k (calls_of seats live) ≡ true
seat_taken callers nodes capacity seats live order k kept taken = slot_used callers nodes capacity seats live order k kept ∙ go (has_slot live k) refl
  where
    go : (b : Bool) → has_slot live k ≡ b → b ≡ true
    go true e = refl
    go false e = absurd (taken (kept.free k e))

pub free-step : (n k : ℕ) (calls : List LiveCall) (b : Bool) → uses_slot k calls ≡ b → free_slot (suc n) k calls ≡ elim b [ true ↦ free_slot n (suc k) calls | false ↦ k ]
free-step n k calls b e = ap (λ (b : Bool). elim b [ true ↦ free_slot n (suc k) calls | false ↦ k ]) e

pub free_here : (callers k all : ℕ) (calls : List LiveCall) → k < callers → free_slot (callers - k) k calls ≡ all → uses_slot k calls ≡ false → k ≡ all
free_here callers k all calls h so free = let e : callers - k ≡ suc (callers - (k + 1)) = omega arith in sym (ap (λ n. free_slot n k calls) e ∙ free-step (callers - (k + 1)) k calls false free) ∙ so

pub free_later : (callers k all : ℕ) (calls : List LiveCall) → k < callers → free_slot (callers - k) k calls ≡ all → uses_slot k calls ≡ true → free_slot (callers - (k + 1)) (k + 1) calls ≡ all
free_later callers k all calls h so used =
    let e : callers - k ≡ suc (callers - (k + 1)) = omega arith in
    let f : k + 1 ≡ suc k = omega arith in
    ap (λ n. free_slot (callers - (k + 1)) n calls) f ∙ sym (ap (λ n. free_slot n k calls) e ∙ free-step (callers - (k + 1)) k calls true used) ∙ so

-- ---- there is room for one more

slots_in : List Tenant → List ℕ
slots_in live = map (λ (x : Tenant). x.slot) live

times-none : (live : List Tenant) (k : ℕ) → has_slot live k ≡ false → times k (map (λ (x : Tenant). x.slot) live) ≡ 0
times-none [] k h = refl
times-none (x ∷ xs) k h = elim (cases_eq x.slot k) [
  | inl same ↦ absurd (true≢false (sym (ap (λ b. b || has_slot xs k) (eq-eqb x.slot k same)) ∙ h))
  | inr other ↦ times-other k x.slot (map (λ (x : Tenant). x.slot) xs) other ∙ times-none xs k (sym (ap (λ b. b || has_slot xs k) (ne_eqb x.slot k other)) ∙ h)
]

slots-distinct : (seats : List Seated) (live : List Tenant) → AreTenants seats live → AreDistinct (map (λ (x : Tenant). x.slot) live)
slots-distinct seats [] ok k = omega arith
slots-distinct seats (x ∷ xs) ok k = elim (cases_eq x.slot k) [
  | inl same ↦
      let it = times-it k x.slot (map (λ (x : Tenant). x.slot) xs) same in
      let none = times-none xs k (ap (has_slot xs) (sym same) ∙ ok.2) in
      omega (arith, it, none)
  | inr other ↦
      let no = times-other k x.slot (map (λ (x : Tenant). x.slot) xs) other in
      let r = slots-distinct seats xs ok.3 k in
      omega (arith, no, r)
]

slots-fit : (seats : List Seated) (live : List Tenant) (x : ℕ) → AreTenants seats live → is_in x (map (λ (x : Tenant). x.slot) live) ≡ true → x < length seats
slots-fit seats [] x ok h = absurd (false≢true h)
slots-fit seats (y ∷ ys) x ok h = elim (cases_eq y.slot x) [
  | inl same ↦ let i = ok.0.inside in omega (arith, i, same)
  | inr other ↦ slots-fit seats ys x ok.3 (or_later (y.slot == x) _ h (ne_eqb y.slot x other))
]

pub few_live : (callers nodes capacity : ℕ) (seats : List Seated) (live : List Tenant) (order : Order) (k : ℕ) → AreSeats callers nodes capacity seats live order → k < callers → has_slot live k ≡ false → length live < callers
few_live callers nodes capacity seats live order k kept h none =
    let n = kept.count in
    let slots : List ℕ = map (λ (x : Tenant). x.slot) live in
    let all = total-all slots 0 callers (λ x i. let f = slots-fit seats live x kept.tenants i in (omega arith, omega (arith, f, n))) in
    let fewer = total-missing slots 0 callers k (slots-distinct seats live kept.tenants) (omega arith) (omega (arith, h)) (times-none live k none) in
    let len = length-map live (λ (x : Tenant). x.slot) in
    omega (arith, all, fewer, len)

-- ---- the seats with one more call

pub slot-more : (live : List Tenant) (n : Tenant) (k : ℕ) → has_slot (live ++ n ∷ []) k ≡ (has_slot live k || (n.slot == k))
slot-more [] n k = or_none (n.slot == k)
  where
    or_none : (b : Bool) → (b || false) ≡ b
    or_none true = refl
    or_none false = refl
slot-more (x ∷ xs) n k = ap (λ b. (x.slot == k) || b) (slot-more xs n k) ∙ assoc (x.slot == k) (has_slot xs k) (n.slot == k)
  where
    assoc : (a b c : Bool) → (a || (b || c)) ≡ ((a || b) || c)
    assoc true b c = refl
    assoc false b c = refl

version-more : (live : List Tenant) (n : Tenant) (t : ℕ) → has_version (live ++ n ∷ []) t ≡ (has_version live t || (n.version == t))
version-more [] n t = or_none (n.version == t)
  where
    or_none : (b : Bool) → (b || false) ≡ b
    or_none true = refl
    or_none false = refl
version-more (x ∷ xs) n t = ap (λ b. (x.version == t) || b) (version-more xs n t) ∙ assoc (x.version == t) (has_version xs t) (n.version == t)
  where
    assoc : (a b c : Bool) → (a || (b || c)) ≡ ((a || b) || c)
    assoc true b c = refl
    assoc false b c = refl

-- What a call that takes a seat makes of it.
pub record IsTaken (nodes version : ℕ) (k : ℕ) (new : Seated) : Type 0 where
  pub some : 0 < version
  pub is_version : new.call.version ≡ version
  pub slot : new.call.slot ≡ k
  pub size : new.size ≡ nodes
  pub room : new.room ≡ length new.call.looks

tenants-more : (seats : List Seated) (live : List Tenant) (n : Tenant) (nodes : ℕ) (new : Seated) → n.slot < length seats → IsTaken nodes n.version n.slot new → has_version live n.version ≡ false → has_slot live n.slot ≡ false → AreTenants seats live → AreTenants (set seats n.slot new) (live ++ n ∷ [])
tenants-more seats [] n nodes new inside taken nv ns ok =
    let e : seat_at (set seats n.slot new) n.slot ≡ new = get_or-set_same seats n.slot new no_seat inside in (
      record {
        inside = let l = length-set seats n.slot new in omega (arith, inside, l);
        version = ap (λ (s : Seated). s.call.version) e ∙ taken.is_version;
        some = taken.some;
        room = ap (λ (s : Seated). s.room) e ∙ taken.room ∙ ap (λ (s : Seated). length s.call.looks) (sym e);
      },
      refl,
      refl,
      tt,
    )
tenants-more seats (x ∷ xs) n nodes new inside taken nv ns ok =
    let v = or_parts (x.version == n.version) _ nv in
    let s = or_parts (x.slot == n.slot) _ ns in (
      tenant-away seats n.slot new x (λ e. true≢false (sym (eq-eqb x.slot n.slot e) ∙ s.0)) ok.0,
      version-more xs n x.version ∙ ap (λ b. b || (n.version == x.version)) ok.1 ∙ ne_eqb n.version x.version (λ e. true≢false (sym (eq-eqb x.version n.version (sym e)) ∙ v.0)),
      slot-more xs n x.slot ∙ ap (λ b. b || (n.slot == x.slot)) ok.2 ∙ ne_eqb n.slot x.slot (λ e. true≢false (sym (eq-eqb x.slot n.slot (sym e)) ∙ s.0)),
      tenants-more seats xs n nodes new inside taken v.1 s.1 ok.3,
    )

linked-more : (live : List Tenant) (n : Tenant) (pairs : List Pair) → AreLinked live pairs → AreLinked (live ++ n ∷ []) pairs
linked-more live n [] l = tt
linked-more live n (p ∷ ps) l = ((slot-more live n p.from ∙ ap (λ b. b || (n.slot == p.from)) l.0.0, slot-more live n p.to ∙ ap (λ b. b || (n.slot == p.to)) l.0.1), linked-more live n ps l.1)

above-more : (v : ℕ) (xs : List Tenant) (n : Tenant) → v < n.version → AllByRecursion (λ (y : Tenant). v < y.version) xs → AllByRecursion (λ (y : Tenant). v < y.version) (xs ++ n ∷ [])
above-more v [] n h a = (h, tt)
above-more v (x ∷ xs) n h a = (a.0, above-more v xs n h a.1)

ascending-more : (xs : List Tenant) (n : Tenant) → ((t : ℕ) → has_version xs t ≡ true → t < n.version) → AreAscending xs → AreAscending (xs ++ n ∷ [])
ascending-more [] n newest a = (tt, tt)
ascending-more (x ∷ xs) n newest a = (
  above-more x.version xs n (newest x.version (ap (λ b. b || has_version xs x.version) (eq-eqb x.version x.version refl))) a.0,
  ascending-more xs n (λ t h. newest t (or_right (x.version == t) (has_version xs t) h)) a.1,
)

pub begun_kept : (callers nodes capacity cap : ℕ) (seats : List Seated) (live more : List Tenant) (order : Order) (n : Tenant) (new : Seated) → AreSeats callers nodes capacity seats live order → n.slot < callers → IsTaken nodes n.version n.slot new → ((t : ℕ) → has_version live t ≡ true → t < n.version) → has_slot live n.slot ≡ false → more ≡ live ++ n ∷ [] → cap ≡ capacity → AreSeats callers nodes cap (set seats n.slot new) more order
begun_kept callers nodes capacity cap seats live more order n new kept below taken newest ns is same =
    let count = kept.count in
    let nv : has_version live n.version ≡ false = false_from_ne_true (has_version live n.version) (λ h. let k = newest n.version h in absurd (omega (arith, k))) in
    let inside : n.slot < length seats = omega (arith, below, count) in
    subst (λ (xs : List Tenant). AreSeats callers nodes cap (set seats n.slot new) xs order) (sym is) (record {
      some = kept.some;
      few = kept.few;
      few_nodes = kept.few_nodes;
      count = length-set seats n.slot new ∙ kept.count;
      tenants = tenants-more seats live n nodes new inside taken nv ns kept.tenants;
      ascending = ascending-more live n newest kept.ascending;
      free = λ j none.
          let both = or_parts (has_slot live j) (n.slot == j) (sym (slot-more live n j) ∙ none) in
          ap (λ (s : Seated). s.call.version) (get_or-set_other seats n.slot j new no_seat (λ e. true≢false (sym (eq-eqb n.slot j (sym e)) ∙ both.1))) ∙ kept.free j both.0;
      slots = λ j h. at_seat (λ (i : ℕ) (s : Seated). s.call.slot ≡ i) seats n.slot new inside taken.slot j (kept.slots j h);
      sizes = λ j h. at_seat (λ (i : ℕ) (s : Seated). s.size ≡ nodes) seats n.slot new inside taken.size j (kept.sizes j h);
      order_callers = kept.order_callers;
      linked = linked-more live n order.pairs kept.linked;
      room = let r = kept.room in omega (arith, r, same);
    })

pairs-away : (seats : List Seated) (live : List Tenant) (k : ℕ) (new : Seated) (pairs : List Pair) → has_slot live k ≡ false → AreLinked live pairs → pairs_of (set seats k new) pairs ≡ pairs_of seats pairs
pairs-away seats live k new [] none l = refl
pairs-away seats live k new (p ∷ ps) none l =
    let away : (j : ℕ) → has_slot live j ≡ true → version_at (set seats k new) j ≡ version_at seats j =
    λ j h. ap (λ (s : Seated). s.call.version) (get_or-set_other seats k j new no_seat (λ e. true≢false (sym h ∙ ap (has_slot live) e ∙ none))) in
    ap (λ (v : ℕ). record { from = v; to = version_at (set seats k new) p.to; node = p.node } ∷ pairs_of (set seats k new) ps) (away p.from l.0.0)
    ∙ ap (λ (v : ℕ). record { from = version_at seats p.from; to = v; node = p.node } ∷ pairs_of (set seats k new) ps) (away p.to l.0.1)
    ∙ ap (λ (qs : List Pair). versions_of seats p ∷ qs) (pairs-away seats live k new ps none l.1)

pub begun_seen : (callers nodes capacity : ℕ) (seats : List Seated) (live more : List Tenant) (order : Order) (n : Tenant) (new : Seated) (call : LiveCall) (seen : LiveCalls) → AreSeats callers nodes capacity seats live order → live_calls callers nodes seats live order ≡ seen → n.slot < callers → has_slot live n.slot ≡ false → more ≡ live ++ n ∷ [] → new.call ≡ call → live_calls callers nodes (set seats n.slot new) more order ≡ one_call_more seen call
begun_seen callers nodes capacity seats live more order n new call seen kept view below ns is e =
    let L : List LiveCall → List Pair → LiveCalls = λ cs ps. record { callers = callers; nodes = nodes; calls = cs; pairs = ps } in
    let count = kept.count in
    let seats' : List Seated = set seats n.slot new in
    ap (λ (xs : List Tenant). L (calls_of seats' xs) (pairs_of seats' order.pairs)) is
    ∙ ap (λ (cs : List LiveCall). L cs (pairs_of seats' order.pairs)) (map-append (λ (x : Tenant). call_at seats' x.slot) live (n ∷ []))
    ∙ ap (λ (cs : List LiveCall). L (cs ++ call_at seats' n.slot ∷ []) (pairs_of seats' order.pairs)) (calls-away seats n.slot new live ns)
    ∙ ap (λ (c : LiveCall). L (calls_of seats live ++ c ∷ []) (pairs_of seats' order.pairs)) (ap (λ (s : Seated). s.call) (get_or-set_same seats n.slot new no_seat (omega (arith, below, count))) ∙ e)
    ∙ ap (L (calls_of seats live ++ call ∷ [])) (pairs-away seats live n.slot new order.pairs ns kept.linked)
    ∙ ap (λ (l : LiveCalls). one_call_more l call) view

pub taken_by : (taken : Roomy) (caller version k nodes : ℕ) (call : Call) (was new : Seated) → 0 < version → was.call.slot ≡ k → was.size ≡ nodes → new ≡ record { call = begun_call taken caller version was.call.slot call; size = was.size; room = length taken.looks } → IsTaken nodes version k new
taken_by taken caller version k nodes call was new some slot size is = record {
  some = some;
  is_version = ap (λ (s : Seated). s.call.version) is;
  slot = ap (λ (s : Seated). s.call.slot) is ∙ slot;
  size = ap (λ (s : Seated). s.size) is ∙ size;
  room = ap (λ (s : Seated). s.room) is ∙ ap (λ (s : Seated). length s.call.looks) (sym is);
}

-- ---- the book with one more call

has-more : (c : LiveCall) (cs : List LiveCall) (t : ℕ) → is_some (call_of (cs ++ c ∷ []) t) ≡ true → is_some (call_of cs t) ≡ false → c.version ≡ t
has-more c [] t h none = eqb-true c.version t (either (c.version == t) (sym (has-cons c [] t) ∙ h))
  where
    either : (b : Bool) → (b || false) ≡ true → b ≡ true
    either true h = refl
    either false h = h
has-more c (x ∷ xs) t h none =
    let both = or_parts (x.version == t) _ (sym (has-cons x xs t) ∙ none) in
    has-more c xs t (or_later (x.version == t) _ (sym (has-cons x (xs ++ c ∷ []) t) ∙ h) both.0) both.1

pub kept_begin : (limit begun rooms spare : ℕ) (live new : LiveCalls) (shelves : Shelved) (log : Record) (call : LiveCall) → IsKept limit begun rooms spare live shelves log → new ≡ one_call_more live call → call.version ≡ begun + 1 → begun < limit → 0 < rooms → IsKept limit (begun + 1) (rooms - 1) spare new shelves log
kept_begin limit begun rooms spare live new shelves log call kept is version left some = subst (λ (l : LiveCalls). IsKept limit (begun + 1) (rooms - 1) spare l shelves log) (sym is) (record {
  nodes = kept.nodes;
  counted = let n = kept.counted in let l = length-more live.calls call in omega (arith, n, l);
  within = omega (arith, left);
  few = kept.few;
  known = λ t h. go t h (has_call live t) refl;
  rows = let n = kept.rows in let l = length-more live.calls call in omega (arith, n, l, some);
})
  where
    length-more : (cs : List LiveCall) (c : LiveCall) → length (cs ++ c ∷ []) ≡ length cs + 1
    length-more [] c = refl
    length-more (x ∷ xs) c = let r = length-more xs c in omega (arith, r)

    go : (t : ℕ) → is_some (call_of (live.calls ++ call ∷ []) t) ≡ true → (b : Bool) → has_call live t ≡ b → t ≤ begun + 1
    go t h true e = let k = kept.known t e in omega (arith, k)
    go t h false e = let v = has-more call live.calls t h e in omega (arith, v, version)

pub newest_version : (limit begun rooms spare : ℕ) (live : LiveCalls) (shelves : Shelved) (log : Record) → IsKept limit begun rooms spare live shelves log → (t : ℕ) → has_call live t ≡ true → t < begun + 1
newest_version limit begun rooms spare live shelves log kept t h = let k = kept.known t h in omega (arith, k)
