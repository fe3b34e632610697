-- The calls in seats: how one is found, and how one changes.
use Rattle.std.proofs.Common.{◌≡◌, ◌≢◌, ℕ, ◌<◌, inl, inr, Bool, true, false, ◌==◌, ◌||◌, List, [], ◌∷◌, Some, length, get_or, set, refl, sym, ap, ◌∙◌, subst, arith, length-set, zero, suc}
use Rattle.std.proofs.lemmas.Bool.{eq-eqb, ne_eqb, eqb-true, cases_eq, true≢false, false≢true, or_right}
use Rattle.std.proofs.lemmas.List.{get_or-set_same, get_or-set_other, get_or_default, length-map}
use Rattle.order_graph.specs.declared.pair.Pair.{Pair}
use Rattle.order_graph.specs.Order.{Order}
use Rattle.flow_model.specs.Machine.State.{LiveCall, no_call, call_of, call_or, change_call}
use Rattle.std.specs.Prelude.{is_some}
use Rattle.flow_state.specs.declared.seating.Tenant.{Tenant}
use Rattle.flow_state.specs.Seats.{Seated, LiveCalls, no_seat, with_seated, find_call, has_call, on_live, seat_at, call_at, version_at, calls_of, versions_of, pairs_of, live_calls, slot_in, has_version, has_slot, IsTenant, AreTenants, AreSeats}

-- ---- finding

pub elim_some : (b : Bool) (c : LiveCall) (rest : List LiveCall) (t : ℕ) → is_some (elim b [ true ↦ Some c | false ↦ call_of rest t ]) ≡ (b || is_some (call_of rest t))
elim_some true c rest t = refl
elim_some false c rest t = refl

pub calls-has : (seats : List Seated) (live : List Tenant) (t : ℕ) → AreTenants seats live → is_some (call_of (calls_of seats live) t) ≡ has_version live t
calls-has seats [] t ok = refl
calls-has seats (x ∷ xs) t ok =
    elim_some (version_at seats x.slot == t) (call_at seats x.slot) (calls_of seats xs) t
    ∙ ap (λ v. (v == t) || is_some (call_of (calls_of seats xs) t)) ok.0.version
    ∙ ap (λ b. (x.version == t) || b) (calls-has seats xs t ok.3)

-- where the slot of a version is
pub record IsSlotOf (seats : List Seated) (live : List Tenant) (t k : ℕ) : Type 0 where
  pub inside : k < length seats
  pub version : version_at seats k ≡ t
  pub there : has_slot live k ≡ true
  pub room : (seat_at seats k).room ≡ length (call_at seats k).looks
  pub call : call_or (call_of (calls_of seats live) t) ≡ call_at seats k

pub slot_is : (seats : List Seated) (live : List Tenant) (t : ℕ) → AreTenants seats live → has_version live t ≡ true → IsSlotOf seats live t (slot_in live t)
slot_is seats [] t ok h = absurd (false≢true h)
slot_is seats (x ∷ xs) t ok h = go (λ k. slot_is seats xs t ok.3 k) (x.version == t) refl
  where
    go : (has_version xs t ≡ true → IsSlotOf seats xs t (slot_in xs t)) → (b : Bool) → (x.version == t) ≡ b → IsSlotOf seats (x ∷ xs) t (slot_in (x ∷ xs) t)
    go rest true e = subst (IsSlotOf seats (x ∷ xs) t) (sym (ap (λ (b : Bool). elim b [ true ↦ x.slot | false ↦ slot_in xs t ]) e)) (record {
      inside = ok.0.inside;
      version = ok.0.version ∙ eqb-true x.version t e;
      there = ap (λ b. b || has_slot xs x.slot) (eq-eqb x.slot x.slot refl);
      room = ok.0.room;
      call = ap (λ (b : Bool). call_or (elim b [ true ↦ Some (call_at seats x.slot) | false ↦ call_of (calls_of seats xs) t ])) (ap (λ v. v == t) ok.0.version ∙ e);
    })
    go rest false e =
        let later = rest (sym (ap (λ b. b || has_version xs t) e) ∙ h) in
        subst (IsSlotOf seats (x ∷ xs) t) (sym (ap (λ (b : Bool). elim b [ true ↦ x.slot | false ↦ slot_in xs t ]) e)) (record {
          inside = later.inside;
          version = later.version;
          there = or_right (x.slot == slot_in xs t) (has_slot xs (slot_in xs t)) later.there;
          room = later.room;
          call = ap (λ (b : Bool). call_or (elim b [ true ↦ Some (call_at seats x.slot) | false ↦ call_of (calls_of seats xs) t ])) (ap (λ v. v == t) ok.0.version ∙ e) ∙ later.call;
        })

-- the call at a place is the one of its version
place_in : (live : List Tenant) (i : ℕ) (d : Tenant) → i < length live → has_version live (get_or live i d).version ≡ true
place_in [] i d h = absurd (omega (arith, h))
place_in (x ∷ xs) zero d h = ap (λ b. b || has_version xs x.version) (eq-eqb x.version x.version refl)
place_in (x ∷ xs) (suc i) d h = or_right (x.version == (get_or xs i d).version) (has_version xs (get_or xs i d).version) (place_in xs i d (omega (arith, h)))

apart_of : (xs : List Tenant) (v w : ℕ) → has_version xs v ≡ false → has_version xs w ≡ true → v ≢ w
apart_of xs v w away there same = true≢false (sym there ∙ ap (has_version xs) (sym same) ∙ away)

pub call_placed : (seats : List Seated) (live : List Tenant) (i : ℕ) (d : Tenant) → AreTenants seats live → i < length live
    → (call_of (calls_of seats live) (get_or live i d).version ≡ Some (get_or (calls_of seats live) i no_call)) × ((get_or live i d).version ≡ (get_or (calls_of seats live) i no_call).version)
call_placed seats [] i d ok h = absurd (omega (arith, h))
call_placed seats (x ∷ xs) zero d ok h =
    let here = eq-eqb (version_at seats x.slot) x.version ok.0.version in
    (ap (λ (b : Bool). elim b [ true ↦ Some (call_at seats x.slot) | false ↦ call_of (calls_of seats xs) x.version ]) here, sym ok.0.version)
call_placed seats (x ∷ xs) (suc i) d ok h =
    let inside : i < length xs = omega (arith, h) in
    let rest = call_placed seats xs i d ok.3 inside in
    let other = apart_of xs x.version (get_or xs i d).version ok.1 (place_in xs i d inside) in
    let skipped = ap (λ v. v == (get_or xs i d).version) ok.0.version ∙ ne_eqb x.version (get_or xs i d).version other in
    (ap (λ (b : Bool). elim b [ true ↦ Some (call_at seats x.slot) | false ↦ call_of (calls_of seats xs) (get_or xs i d).version ]) skipped ∙ rest.0, rest.1)

pub placed_read : (callers nodes : ℕ) (seats : List Seated) (live : List Tenant) (order : Order) (i : ℕ) (was : Tenant) (now : LiveCalls) → AreTenants seats live → live_calls callers nodes seats live order ≡ now → i < length now.calls → was ≡ get_or live i was
    → (call_of now.calls was.version ≡ Some (get_or now.calls i no_call)) × (was.version ≡ (get_or now.calls i no_call).version)
placed_read callers nodes seats live order i was now ok is h e =
    let count = length-map live (λ (x : Tenant). call_at seats x.slot) in
    let below = subst (λ (l : LiveCalls). i < length l.calls) (sym is) h in
    let placed = call_placed seats live i was ok (omega (arith, count, below)) in
    let version = ap (λ (x : Tenant). x.version) e in (
      ap (call_of now.calls) version ∙ subst (λ (l : LiveCalls). call_of l.calls (get_or live i was).version ≡ Some (get_or l.calls i no_call)) is placed.0,
      version ∙ placed.1 ∙ ap (λ (l : LiveCalls). (get_or l.calls i no_call).version) is,
    )

-- a seat that was read by its index
pub seat_read : (seats : List Seated) (k : ℕ) (was : Seated) → k < length seats → was ≡ get_or seats k was → was ≡ seat_at seats k
seat_read seats k was h e = e ∙ get_or_default seats k was no_seat h

-- ---- one seat changes

-- What stays of a seat where its call's work goes on.
pub record Stays (old new : Seated) : Type 0 where
  pub version : new.call.version ≡ old.call.version
  pub slot : new.call.slot ≡ old.call.slot
  pub looks : new.call.looks ≡ old.call.looks
  pub size : new.size ≡ old.size
  pub room : new.room ≡ old.room

-- a fact of each seat stays where it stays of the one that changes
pub at_seat : (P : ℕ → Seated → Type 0) (seats : List Seated) (k : ℕ) (new : Seated) → k < length seats → P k new → (j : ℕ) → P j (seat_at seats j) → P j (seat_at (set seats k new) j)
at_seat P seats k new h here j p = elim (cases_eq j k) [
  | inl same ↦ subst (λ (i : ℕ). P i (seat_at (set seats k new) i)) (sym same) (subst (P k) (sym (get_or-set_same seats k new no_seat h)) here)
  | inr other ↦ subst (P j) (sym (get_or-set_other seats k j new no_seat other)) p
]

pub version-set : (seats : List Seated) (k : ℕ) (new : Seated) → k < length seats → new.call.version ≡ version_at seats k → (j : ℕ) → version_at (set seats k new) j ≡ version_at seats j
version-set seats k new h e j = at_seat (λ (i : ℕ) (s : Seated). s.call.version ≡ version_at seats i) seats k new h e j refl

tenant-set : (seats : List Seated) (k : ℕ) (new : Seated) (x : Tenant) → k < length seats → Stays (seat_at seats k) new → IsTenant seats x → IsTenant (set seats k new) x
tenant-set seats k new x h stays is = record {
  inside = let i = is.inside in let l = length-set seats k new in omega (arith, i, l);
  version = version-set seats k new h stays.version x.slot ∙ is.version;
  some = is.some;
  room = elim (cases_eq x.slot k) [
    | inl same ↦
        let e : seat_at (set seats k new) x.slot ≡ new = ap (seat_at (set seats k new)) same ∙ get_or-set_same seats k new no_seat h in
        let old : seat_at seats k ≡ seat_at seats x.slot = ap (seat_at seats) (sym same) in
        ap (λ (s : Seated). s.room) e ∙ stays.room ∙ ap (λ (s : Seated). s.room) old ∙ is.room
        ∙ ap (λ (s : Seated). length s.call.looks) (sym old) ∙ ap length (sym stays.looks) ∙ ap (λ (s : Seated). length s.call.looks) (sym e)
    | inr other ↦
        let e : seat_at (set seats k new) x.slot ≡ seat_at seats x.slot = get_or-set_other seats k x.slot new no_seat other in
        ap (λ (s : Seated). s.room) e ∙ is.room ∙ ap (λ (s : Seated). length s.call.looks) (sym e)
  ];
}

pub tenants-set : (seats : List Seated) (k : ℕ) (new : Seated) (live : List Tenant) → k < length seats → Stays (seat_at seats k) new → AreTenants seats live → AreTenants (set seats k new) live
tenants-set seats k new [] h stays ok = tt
tenants-set seats k new (x ∷ xs) h stays ok = (tenant-set seats k new x h stays ok.0, ok.1, ok.2, tenants-set seats k new xs h stays ok.3)

pub kept_seat : (callers nodes capacity : ℕ) (seats : List Seated) (live : List Tenant) (order : Order) (k : ℕ) (new : Seated) → AreSeats callers nodes capacity seats live order → k < length seats → Stays (seat_at seats k) new → AreSeats callers nodes capacity (set seats k new) live order
kept_seat callers nodes capacity seats live order k new kept h stays = record {
  some = kept.some;
  few = kept.few;
  few_nodes = kept.few_nodes;
  count = length-set seats k new ∙ kept.count;
  tenants = tenants-set seats k new live h stays kept.tenants;
  ascending = kept.ascending;
  free = λ j no_tenant. version-set seats k new h stays.version j ∙ kept.free j no_tenant;
  slots = λ j below. at_seat (λ (i : ℕ) (s : Seated). s.call.slot ≡ i) seats k new h (stays.slot ∙ kept.slots k (let n = kept.count in omega (arith, h, n))) j (kept.slots j below);
  sizes = λ j below. at_seat (λ (i : ℕ) (s : Seated). s.size ≡ nodes) seats k new h (stays.size ∙ kept.sizes k (let n = kept.count in omega (arith, h, n))) j (kept.sizes j below);
  order_callers = kept.order_callers;
  linked = kept.linked;
  room = kept.room;
}

-- ---- what is seen of a change

pub calls-away : (seats : List Seated) (k : ℕ) (new : Seated) (live : List Tenant) → has_slot live k ≡ false → calls_of (set seats k new) live ≡ calls_of seats live
calls-away seats k new [] away = refl
calls-away seats k new (x ∷ xs) away = elim (cases_eq x.slot k) [
  | inl same ↦ absurd (true≢false (sym (ap (λ b. b || has_slot xs k) (eq-eqb x.slot k same)) ∙ away))
  | inr other ↦
      ap (λ (s : Seated). s.call ∷ calls_of (set seats k new) xs) (get_or-set_other seats k x.slot new no_seat other)
      ∙ ap (λ (cs : List LiveCall). call_at seats x.slot ∷ cs) (calls-away seats k new xs (sym (ap (λ b. b || has_slot xs k) (ne_eqb x.slot k other)) ∙ away))
]

pub change-is : (t : ℕ) (f : LiveCall → LiveCall) (c : LiveCall) (cs : List LiveCall) (b : Bool) → (c.version == t) ≡ b → change_call t f (c ∷ cs) ≡ elim b [ true ↦ f c ∷ cs | false ↦ c ∷ change_call t f cs ]
change-is t f c cs b e = ap (λ (b : Bool). elim b [ true ↦ f c ∷ cs | false ↦ c ∷ change_call t f cs ]) e

pub calls-set : (seats : List Seated) (live : List Tenant) (t k : ℕ) (new : Seated) (f : LiveCall → LiveCall) → AreTenants seats live → has_version live t ≡ true → slot_in live t ≡ k → k < length seats → new.call ≡ f (call_at seats k) → calls_of (set seats k new) live ≡ change_call t f (calls_of seats live)
calls-set seats [] t k new f ok h at inside e = absurd (false≢true h)
calls-set seats (x ∷ xs) t k new f ok h at inside e = go (λ h at. calls-set seats xs t k new f ok.3 h at inside e) (x.version == t) refl
  where
    go : (has_version xs t ≡ true → slot_in xs t ≡ k → calls_of (set seats k new) xs ≡ change_call t f (calls_of seats xs)) → (b : Bool) → (x.version == t) ≡ b → calls_of (set seats k new) (x ∷ xs) ≡ change_call t f (calls_of seats (x ∷ xs))
    go rest true is =
        let same : x.slot ≡ k = sym (ap (λ (b : Bool). elim b [ true ↦ x.slot | false ↦ slot_in xs t ]) is) ∙ at in
        let head : call_at (set seats k new) x.slot ≡ f (call_at seats x.slot) = ap (λ (i : ℕ). call_at (set seats k new) i) same ∙ ap (λ (s : Seated). s.call) (get_or-set_same seats k new no_seat inside) ∙ e ∙ ap (λ (i : ℕ). f (call_at seats i)) (sym same) in
        let tail : calls_of (set seats k new) xs ≡ calls_of seats xs = calls-away seats k new xs (ap (has_slot xs) (sym same) ∙ ok.2) in
        ap (λ (c : LiveCall). c ∷ calls_of (set seats k new) xs) head ∙ ap (λ (cs : List LiveCall). f (call_at seats x.slot) ∷ cs) tail
        ∙ sym (change-is t f (call_at seats x.slot) (calls_of seats xs) true (ap (λ v. v == t) ok.0.version ∙ is))
    go rest false is =
        let more : has_version xs t ≡ true = sym (ap (λ b. b || has_version xs t) is) ∙ h in
        let slot : slot_in xs t ≡ k = sym (ap (λ (b : Bool). elim b [ true ↦ x.slot | false ↦ slot_in xs t ]) is) ∙ at in
        let there : has_slot xs k ≡ true = subst (λ (i : ℕ). has_slot xs i ≡ true) slot (slot_is seats xs t ok.3 more).there in
        let other : x.slot ≢ k = λ same. true≢false (sym there ∙ ap (has_slot xs) (sym same) ∙ ok.2) in
        ap (λ (s : Seated). s.call ∷ calls_of (set seats k new) xs) (get_or-set_other seats k x.slot new no_seat other)
        ∙ ap (λ (cs : List LiveCall). call_at seats x.slot ∷ cs) (rest more slot)
        ∙ sym (change-is t f (call_at seats x.slot) (calls_of seats xs) false (ap (λ v. v == t) ok.0.version ∙ is))

pub pairs-same : (seats seats' : List Seated) (pairs : List Pair) → ((j : ℕ) → version_at seats' j ≡ version_at seats j) → pairs_of seats' pairs ≡ pairs_of seats pairs
pairs-same seats seats' [] same = refl
pairs-same seats seats' (p ∷ ps) same =
    ap (λ (v : ℕ). record { from = v; to = version_at seats' p.to; node = p.node } ∷ pairs_of seats' ps) (same p.from)
    ∙ ap (λ (v : ℕ). record { from = version_at seats p.from; to = v; node = p.node } ∷ pairs_of seats' ps) (same p.to)
    ∙ ap (λ (qs : List Pair). versions_of seats p ∷ qs) (pairs-same seats seats' ps same)

pub seen_seat : (callers nodes capacity : ℕ) (seats : List Seated) (live : List Tenant) (order : Order) (t k : ℕ) (new : Seated) (f : LiveCall → LiveCall) (seen : LiveCalls) → AreSeats callers nodes capacity seats live order → live_calls callers nodes seats live order ≡ seen → has_version live t ≡ true → slot_in live t ≡ k → k < length seats → new.call ≡ f (call_at seats k) → new.call.version ≡ version_at seats k → live_calls callers nodes (set seats k new) live order ≡ on_live seen t f
seen_seat callers nodes capacity seats live order t k new f seen kept view h at inside e same =
    let L : List LiveCall → List Pair → LiveCalls = λ cs ps. record { callers = callers; nodes = nodes; calls = cs; pairs = ps } in
    ap (λ (cs : List LiveCall). L cs (pairs_of (set seats k new) order.pairs)) (calls-set seats live t k new f kept.tenants h at inside e)
    ∙ ap (λ (ps : List Pair). L (change_call t f (calls_of seats live)) ps) (pairs-same seats (set seats k new) order.pairs (version-set seats k new inside same))
    ∙ ap (λ (l : LiveCalls). on_live l t f) view

-- ---- a call's seat, as it is read and changed

-- where a live call sits
pub slot_same : (callers nodes capacity : ℕ) (seats : List Seated) (live : List Tenant) (order : Order) (t k : ℕ) (seen : LiveCalls) → AreSeats callers nodes capacity seats live order → live_calls callers nodes seats live order ≡ seen → has_version live t ≡ true → k ≡ (find_call seen t).slot → slot_in live t ≡ k
slot_same callers nodes capacity seats live order t k seen kept view there e =
    let at = slot_is seats live t kept.tenants there in
    let n = kept.count in
    let i = at.inside in
    sym (e ∙ sym (ap (λ (l : LiveCalls). (find_call l t).slot) view) ∙ ap (λ (c : LiveCall). c.slot) at.call ∙ kept.slots (slot_in live t) (omega (arith, i, n)))

pub slot_read : (callers nodes capacity : ℕ) (seats : List Seated) (live : List Tenant) (order : Order) (t k : ℕ) (seen : LiveCalls) → AreSeats callers nodes capacity seats live order → live_calls callers nodes seats live order ≡ seen → has_call seen t ≡ true → k ≡ (find_call seen t).slot → IsSlotOf seats live t k
slot_read callers nodes capacity seats live order t k seen kept view has e =
    let there : has_version live t ≡ true = sym (calls-has seats live t kept.tenants) ∙ ap (λ (l : LiveCalls). has_call l t) view ∙ has in
    subst (IsSlotOf seats live t) (slot_same callers nodes capacity seats live order t k seen kept view there e) (slot_is seats live t kept.tenants there)

pub read_size : (callers nodes capacity : ℕ) (seats : List Seated) (live : List Tenant) (order : Order) (k : ℕ) (was : Seated) (seen : LiveCalls) → AreSeats callers nodes capacity seats live order → live_calls callers nodes seats live order ≡ seen → k < length seats → was ≡ get_or seats k was → was.size ≡ seen.nodes
read_size callers nodes capacity seats live order k was seen kept view h e =
    ap (λ (s : Seated). s.size) (seat_read seats k was h e) ∙ kept.sizes k (let n = kept.count in omega (arith, h, n)) ∙ ap (λ (l : LiveCalls). l.nodes) view

pub read_call : (callers nodes : ℕ) (seats : List Seated) (live : List Tenant) (order : Order) (t k : ℕ) (was : Seated) (seen : LiveCalls) → live_calls callers nodes seats live order ≡ seen → IsSlotOf seats live t k → was ≡ get_or seats k was → was.call ≡ find_call seen t
read_call callers nodes seats live order t k was seen view at e =
    ap (λ (s : Seated). s.call) (seat_read seats k was at.inside e) ∙ sym at.call ∙ ap (λ (l : LiveCalls). find_call l t) view

pub read_room : (seats : List Seated) (live : List Tenant) (t k : ℕ) (was : Seated) → IsSlotOf seats live t k → was ≡ get_or seats k was → was.room ≡ length was.call.looks
read_room seats live t k was at e = let r = seat_read seats k was at.inside e in ap (λ (s : Seated). s.room) r ∙ at.room ∙ ap (λ (s : Seated). length s.call.looks) (sym r)

-- A change of a call keeps whose it is.
pub record KeepsSeat (f : LiveCall → LiveCall) : Type 0 where
  pub version : (c : LiveCall) → (f c).version ≡ c.version
  pub slot : (c : LiveCall) → (f c).slot ≡ c.slot
  pub looks : (c : LiveCall) → (f c).looks ≡ c.looks

pub stays_by : (f : LiveCall → LiveCall) (seat was new : Seated) → KeepsSeat f → was ≡ seat → new ≡ with_seated was (f was.call) → Stays seat new
stays_by f seat was new keeps e is = record {
  version = ap (λ (s : Seated). s.call.version) is ∙ keeps.version was.call ∙ ap (λ (s : Seated). s.call.version) e;
  slot = ap (λ (s : Seated). s.call.slot) is ∙ keeps.slot was.call ∙ ap (λ (s : Seated). s.call.slot) e;
  looks = ap (λ (s : Seated). s.call.looks) is ∙ keeps.looks was.call ∙ ap (λ (s : Seated). s.call.looks) e;
  size = ap (λ (s : Seated). s.size) is ∙ ap (λ (s : Seated). s.size) e;
  room = ap (λ (s : Seated). s.room) is ∙ ap (λ (s : Seated). s.room) e;
}

pub changed_kept : (callers nodes capacity : ℕ) (seats : List Seated) (live : List Tenant) (order : Order) (t k : ℕ) (was new : Seated) (f : LiveCall → LiveCall) → KeepsSeat f → AreSeats callers nodes capacity seats live order → IsSlotOf seats live t k → was ≡ get_or seats k was → new ≡ with_seated was (f was.call) → AreSeats callers nodes capacity (set seats k new) live order
changed_kept callers nodes capacity seats live order t k was new f keeps kept at e is =
    kept_seat callers nodes capacity seats live order k new kept at.inside (stays_by f (seat_at seats k) was new keeps (seat_read seats k was at.inside e) is)

pub changed_seen : (callers nodes capacity : ℕ) (seats : List Seated) (live : List Tenant) (order : Order) (t k : ℕ) (was new : Seated) (f : LiveCall → LiveCall) (seen : LiveCalls) → KeepsSeat f → AreSeats callers nodes capacity seats live order → live_calls callers nodes seats live order ≡ seen → has_call seen t ≡ true → k ≡ (find_call seen t).slot → was ≡ get_or seats k was → new ≡ with_seated was (f was.call) → live_calls callers nodes (set seats k new) live order ≡ on_live seen t f
changed_seen callers nodes capacity seats live order t k was new f seen keeps kept view has at e is =
    let slot = slot_read callers nodes capacity seats live order t k seen kept view has at in
    let there : has_version live t ≡ true = sym (calls-has seats live t kept.tenants) ∙ ap (λ (l : LiveCalls). has_call l t) view ∙ has in
    let read : was ≡ seat_at seats k = seat_read seats k was slot.inside e in
    seen_seat callers nodes capacity seats live order t k new f seen kept view there (slot_same callers nodes capacity seats live order t k seen kept view there at) slot.inside
    (ap (λ (s : Seated). s.call) is ∙ ap (λ (s : Seated). f s.call) read)
    (stays_by f (seat_at seats k) was new keeps read is).version
