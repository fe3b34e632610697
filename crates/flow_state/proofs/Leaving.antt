-- A call leaves its seat.
use Rattle.std.proofs.Common.{◌≡◌, ◌≢◌, ℕ, suc, ◌+◌, ◌<◌, inl, inr, ◌⊎◌, Bool, true, false, not, ◌==◌, ◌||◌, ◌&&◌, cond, List, [], ◌∷◌, zero, length, get_or, set, drop, ◌≤◌, refl, sym, ap, ◌∙◌, subst, arith, length-set}
use Rattle.std.specs.List.{AllByRecursion, list_any}
use Rattle.std.proofs.Math.ListN.{drop_of_length-le}
use Rattle.std.proofs.lemmas.Bool.{eq-eqb, ne_eqb, cases_eq, true≢false, false≢true, or_right, false_from_ne_true}
use Rattle.std.proofs.lemmas.Bool.Decides.{eqb_tells}
use Rattle.std.proofs.lemmas.List.{get_or-set_same, get_or-set_other, drop_more}
use Rattle.script_tree.proofs.Truths.{or_later}
use Rattle.order_graph.specs.declared.pair.Pair.{Pair}
use Rattle.order_graph.specs.Order.{Order, Precedes, is_recorded, retired}
use Rattle.flow_model.specs.Machine.State.{LiveCall}
use Rattle.flow_model.specs.Machine.Steps.{without_call}
use Rattle.flow_model.proofs.OneList.Chains.{none-reaches, last_pair}
use Rattle.flow_state.specs.declared.seating.Tenant.{Tenant}
use Rattle.flow_state.specs.Seats.{Seated, LiveCalls, no_seat, has_call, left_calls, without_tenant, AreAscending, seat_at, call_at, version_at, calls_of, versions_of, pairs_of, live_calls, has_version, has_slot, IsTenant, AreTenants, AreLinked, AreSeats, LeadsToLive}
use Rattle.flow_state.proofs.SeatLemmas.{IsSlotOf, calls-away, calls-has, at_seat}
use Rattle.flow_state.proofs.PairLemmas.{Tells, tells, slot-version, recorded-versions, retired-versions, not_reached}

-- ---- the tenants that stay

-- Of each tenant: it has the version exactly where it has the slot.
abbrev Agree : ℕ → ℕ → List Tenant → Type 0
Agree t k xs = AllByRecursion (λ (x : Tenant). (x.version == t) ≡ (x.slot == k)) xs

agree : (seats : List Seated) (live : List Tenant) (t k : ℕ) (xs : List Tenant) → Tells seats live → has_slot live k ≡ true → version_at seats k ≡ t → AreTenants seats xs → ((j : ℕ) → has_slot xs j ≡ true → has_slot live j ≡ true) → Agree t k xs
agree seats live t k [] says there e ok within = tt
agree seats live t k (x ∷ xs) says there e ok within = (
  ap (λ v. v == t) (sym ok.0.version) ∙ ap (λ v. version_at seats x.slot == v) (sym e) ∙ says x.slot k (within x.slot (ap (λ b. b || has_slot xs x.slot) (eq-eqb x.slot x.slot refl))) there,
  agree seats live t k xs says there e ok.3 (λ j h. within j (or_right (x.slot == j) _ h)),
)

pub tenants-agree : (seats : List Seated) (live : List Tenant) (t k : ℕ) → AreTenants seats live → IsSlotOf seats live t k → Agree t k live
tenants-agree seats live t k ok at = agree seats live t k live (tells seats live ok) at.there at.version ok (λ j h. h)

left-cons : (x : Tenant) (xs : List Tenant) (t : ℕ) (b : Bool) → (x.version == t) ≡ b → without_tenant (x ∷ xs) t ≡ cond (not b) (x ∷ without_tenant xs t) (without_tenant xs t)
left-cons x xs t b e = ap (λ b. cond (not b) (x ∷ without_tenant xs t) (without_tenant xs t)) e

pub slot-left : (xs : List Tenant) (t k j : ℕ) → Agree t k xs → has_slot (without_tenant xs t) j ≡ (has_slot xs j && not (j == k))
slot-left [] t k j a = refl
slot-left (x ∷ xs) t k j a = ap (λ ys. has_slot ys j) (left-cons x xs t (x.slot == k) a.0) ∙ go (x.slot == k) refl (slot-left xs t k j a.1)
  where
    go : (b : Bool) → (x.slot == k) ≡ b → has_slot (without_tenant xs t) j ≡ (has_slot xs j && not (j == k)) → has_slot (cond (not b) (x ∷ without_tenant xs t) (without_tenant xs t)) j ≡ (((x.slot == j) || has_slot xs j) && not (j == k))
    go true e r = grind (arith, eqb_tells, r, e)
    go false e r = grind (arith, eqb_tells, r, e)

version-left : (xs : List Tenant) (t u : ℕ) → has_version xs u ≡ false → has_version (without_tenant xs t) u ≡ false
version-left [] t u h = refl
version-left (x ∷ xs) t u h = go (x.version == t) (version-left xs t u)
  where
    go : (b : Bool) → (has_version xs u ≡ false → has_version (without_tenant xs t) u ≡ false) → has_version (cond (not b) (x ∷ without_tenant xs t) (without_tenant xs t)) u ≡ false
    go true r = grind (arith, r, h)
    go false r = grind (arith, r, h)

-- ---- the seats with one that is free

pub tenant-away : (seats : List Seated) (k : ℕ) (new : Seated) (x : Tenant) → x.slot ≢ k → IsTenant seats x → IsTenant (set seats k new) x
tenant-away seats k new x other is =
    let e : seat_at (set seats k new) x.slot ≡ seat_at seats x.slot = get_or-set_other seats k x.slot new no_seat other in
    record {
      inside = let i = is.inside in let l = length-set seats k new in omega (arith, i, l);
      version = ap (λ (s : Seated). s.call.version) e ∙ is.version;
      some = is.some;
      room = ap (λ (s : Seated). s.room) e ∙ is.room ∙ ap (λ (s : Seated). length s.call.looks) (sym e);
    }

tenants-left : (seats : List Seated) (k t : ℕ) (new : Seated) (xs : List Tenant) → Agree t k xs → AreTenants seats xs → AreTenants (set seats k new) (without_tenant xs t)
tenants-left seats k t new [] a ok = tt
tenants-left seats k t new (x ∷ xs) a ok = subst (AreTenants (set seats k new)) (sym (left-cons x xs t (x.slot == k) a.0)) (go (cases_eq x.slot k) (tenants-left seats k t new xs a.1 ok.3) (slot-left xs t k x.slot a.1))
  where
    go : ((x.slot ≡ k) ⊎ (x.slot ≢ k)) → AreTenants (set seats k new) (without_tenant xs t) → has_slot (without_tenant xs t) x.slot ≡ (has_slot xs x.slot && not (x.slot == k)) → AreTenants (set seats k new) (cond (not (x.slot == k)) (x ∷ without_tenant xs t) (without_tenant xs t))
    go (inl same) r s = subst (λ (b : Bool). AreTenants (set seats k new) (cond (not b) (x ∷ without_tenant xs t) (without_tenant xs t))) (sym (eq-eqb x.slot k same)) r
    go (inr other) r s = subst (λ (b : Bool). AreTenants (set seats k new) (cond (not b) (x ∷ without_tenant xs t) (without_tenant xs t))) (sym (ne_eqb x.slot k other))
        (tenant-away seats k new x other ok.0, version-left xs t x.version ok.1, s ∙ ap (λ b. b && not (x.slot == k)) ok.2, r)

above-left : (v : ℕ) (xs : List Tenant) (t : ℕ) → AllByRecursion (λ (y : Tenant). v < y.version) xs → AllByRecursion (λ (y : Tenant). v < y.version) (without_tenant xs t)
above-left v [] t h = tt
above-left v (x ∷ xs) t h = go (x.version == t) (above-left v xs t h.1)
  where
    go : (b : Bool) → AllByRecursion (λ (y : Tenant). v < y.version) (without_tenant xs t) → AllByRecursion (λ (y : Tenant). v < y.version) (cond (not b) (x ∷ without_tenant xs t) (without_tenant xs t))
    go true r = r
    go false r = (h.0, r)

ascending-left : (xs : List Tenant) (t : ℕ) → AreAscending xs → AreAscending (without_tenant xs t)
ascending-left [] t h = tt
ascending-left (x ∷ xs) t h = go (x.version == t) (ascending-left xs t h.1)
  where
    go : (b : Bool) → AreAscending (without_tenant xs t) → AreAscending (cond (not b) (x ∷ without_tenant xs t) (without_tenant xs t))
    go true r = r
    go false r = (above-left x.version xs t h.0, r)

keeps-pair : (live : List Tenant) (t k : ℕ) (p : Pair) → Agree t k live → (has_slot live p.from ≡ true) × (has_slot live p.to ≡ true) → ((p.from == k) || (p.to == k)) ≡ false → (has_slot (without_tenant live t) p.from ≡ true) × (has_slot (without_tenant live t) p.to ≡ true)
keeps-pair live t k p a both none = (slot-left live t k p.from a ∙ first (p.from == k) (p.to == k) (has_slot live p.from) none both.0, slot-left live t k p.to a ∙ second (p.from == k) (p.to == k) (has_slot live p.to) none both.1)
  where
    first : (a b h : Bool) → (a || b) ≡ false → h ≡ true → (h && not a) ≡ true
    first a b h n e = grind (arith, n, e)

    second : (a b h : Bool) → (a || b) ≡ false → h ≡ true → (h && not b) ≡ true
    second a b h n e = grind (arith, n, e)

linked-left : (live : List Tenant) (t k : ℕ) (pairs : List Pair) → Agree t k live → AreLinked live pairs → AreLinked (without_tenant live t) (retired pairs k)
linked-left live t k [] a l = tt
linked-left live t k (p ∷ ps) a l = go ((p.from == k) || (p.to == k)) refl (linked-left live t k ps a l.1)
  where
    go : (b : Bool) → ((p.from == k) || (p.to == k)) ≡ b → AreLinked (without_tenant live t) (retired ps k) → AreLinked (without_tenant live t) (cond (not b) (p ∷ retired ps k) (retired ps k))
    go true e r = r
    go false e r = (keeps-pair live t k p a l.0 e, r)

-- What is left in a seat that is free.
pub record IsFreed (old new : Seated) : Type 0 where
  pub version : new.call.version ≡ 0
  pub slot : new.call.slot ≡ old.call.slot
  pub size : new.size ≡ old.size

free-left : (seats : List Seated) (live : List Tenant) (t k : ℕ) (new : Seated) → Agree t k live → k < length seats → new.call.version ≡ 0 → ((j : ℕ) → has_slot live j ≡ false → version_at seats j ≡ 0) → (j : ℕ) → has_slot (without_tenant live t) j ≡ false → version_at (set seats k new) j ≡ 0
free-left seats live t k new a h zero_there free j none = elim (cases_eq j k) [
  | inl same ↦ ap (version_at (set seats k new)) same ∙ ap (λ (s : Seated). s.call.version) (get_or-set_same seats k new no_seat h) ∙ zero_there
  | inr other ↦
      ap (λ (s : Seated). s.call.version) (get_or-set_other seats k j new no_seat other)
      ∙ free j (gone (has_slot live j) (j == k) (sym (slot-left live t k j a) ∙ none) (ne_eqb j k other))
]
  where
    gone : (h b : Bool) → (h && not b) ≡ false → b ≡ false → h ≡ false
    gone h b n e = grind (arith, n, e)

pub left_kept : (callers nodes capacity : ℕ) (seats : List Seated) (live : List Tenant) (order after : Order) (t k : ℕ) (was new : Seated) → AreSeats callers nodes capacity seats live order → IsSlotOf seats live t k → was ≡ seat_at seats k → IsFreed was new → after.callers ≡ order.callers → after.pairs ≡ retired order.pairs k → AreSeats callers nodes capacity (set seats k new) (without_tenant live t) after
left_kept callers nodes capacity seats live order after t k was new kept at read freed same gone =
    let a = tenants-agree seats live t k kept.tenants at in
    let n = kept.count in
    let i = at.inside in
    record {
      some = kept.some;
      few = kept.few;
      few_nodes = kept.few_nodes;
      count = length-set seats k new ∙ kept.count;
      tenants = tenants-left seats k t new live a kept.tenants;
      ascending = ascending-left live t kept.ascending;
      free = free-left seats live t k new a i freed.version kept.free;
      slots = λ j below. at_seat (λ (i : ℕ) (s : Seated). s.call.slot ≡ i) seats k new i (freed.slot ∙ ap (λ (s : Seated). s.call.slot) read ∙ kept.slots k (omega (arith, i, n))) j (kept.slots j below);
      sizes = λ j below. at_seat (λ (i : ℕ) (s : Seated). s.size ≡ nodes) seats k new i (freed.size ∙ ap (λ (s : Seated). s.size) read ∙ kept.sizes k (omega (arith, i, n))) j (kept.sizes j below);
      order_callers = same ∙ kept.order_callers;
      linked = subst (AreLinked (without_tenant live t)) (sym gone) (linked-left live t k order.pairs a kept.linked);
      room = kept.room;
    }

-- ---- what is seen

calls-left : (seats : List Seated) (xs : List Tenant) (t : ℕ) → AreTenants seats xs → calls_of seats (without_tenant xs t) ≡ without_call t (calls_of seats xs)
calls-left seats [] t ok = refl
calls-left seats (x ∷ xs) t ok = go (x.version == t) refl (calls-left seats xs t ok.3)
  where
    go : (b : Bool) → (x.version == t) ≡ b → calls_of seats (without_tenant xs t) ≡ without_call t (calls_of seats xs) → calls_of seats (cond (not b) (x ∷ without_tenant xs t) (without_tenant xs t)) ≡ without_call t (calls_of seats (x ∷ xs))
    go true e r = r ∙ sym (ap (λ (b : Bool). elim b [ true ↦ without_call t (calls_of seats xs) | false ↦ call_at seats x.slot ∷ without_call t (calls_of seats xs) ]) (ap (λ v. v == t) ok.0.version ∙ e))
    go false e r = ap (λ (cs : List LiveCall). call_at seats x.slot ∷ cs) r ∙ sym (ap (λ (b : Bool). elim b [ true ↦ without_call t (calls_of seats xs) | false ↦ call_at seats x.slot ∷ without_call t (calls_of seats xs) ]) (ap (λ v. v == t) ok.0.version ∙ e))

slot-gone : (live : List Tenant) (t k : ℕ) → Agree t k live → has_slot (without_tenant live t) k ≡ false
slot-gone live t k a = slot-left live t k k a ∙ ap (λ b. has_slot live k && not b) (eq-eqb k k refl) ∙ and_none (has_slot live k)
  where
    and_none : (b : Bool) → (b && false) ≡ false
    and_none true = refl
    and_none false = refl

-- the pairs that are left are of slots whose versions stay
pairs-left : (seats : List Seated) (k : ℕ) (new : Seated) (pairs : List Pair) → pairs_of (set seats k new) (retired pairs k) ≡ pairs_of seats (retired pairs k)
pairs-left seats k new [] = refl
pairs-left seats k new (p ∷ ps) = go ((p.from == k) || (p.to == k)) refl (pairs-left seats k new ps)
  where
    away : (j : ℕ) → (j == k) ≡ false → version_at (set seats k new) j ≡ version_at seats j
    away j e = ap (λ (s : Seated). s.call.version) (get_or-set_other seats k j new no_seat (λ same. true≢false (sym (eq-eqb j k same) ∙ e)))

    first : (a b : Bool) → (a || b) ≡ false → a ≡ false
    first a b n = grind (arith, n)

    second : (a b : Bool) → (a || b) ≡ false → b ≡ false
    second a b n = grind (arith, n)

    go : (b : Bool) → ((p.from == k) || (p.to == k)) ≡ b → pairs_of (set seats k new) (retired ps k) ≡ pairs_of seats (retired ps k) → pairs_of (set seats k new) (cond (not b) (p ∷ retired ps k) (retired ps k)) ≡ pairs_of seats (cond (not b) (p ∷ retired ps k) (retired ps k))
    go true e r = r
    go false e r =
        ap (λ (v : ℕ). record { from = v; to = version_at (set seats k new) p.to; node = p.node } ∷ pairs_of (set seats k new) (retired ps k)) (away p.from (first (p.from == k) (p.to == k) e))
        ∙ ap (λ (v : ℕ). record { from = version_at seats p.from; to = v; node = p.node } ∷ pairs_of (set seats k new) (retired ps k)) (away p.to (second (p.from == k) (p.to == k) e))
        ∙ ap (λ (qs : List Pair). versions_of seats p ∷ qs) r

pub left_seen : (callers nodes capacity : ℕ) (seats : List Seated) (live : List Tenant) (order after : Order) (t k : ℕ) (new : Seated) (seen : LiveCalls) → AreSeats callers nodes capacity seats live order → live_calls callers nodes seats live order ≡ seen → IsSlotOf seats live t k → after.pairs ≡ retired order.pairs k → live_calls callers nodes (set seats k new) (without_tenant live t) after ≡ left_calls seen t
left_seen callers nodes capacity seats live order after t k new seen kept view at gone =
    let L : List LiveCall → List Pair → LiveCalls = λ cs ps. record { callers = callers; nodes = nodes; calls = cs; pairs = ps } in
    let a = tenants-agree seats live t k kept.tenants at in
    ap (λ (cs : List LiveCall). L cs (pairs_of (set seats k new) after.pairs)) (calls-away seats k new (without_tenant live t) (slot-gone live t k a) ∙ calls-left seats live t kept.tenants)
    ∙ ap (λ (ps : List Pair). L (without_call t (calls_of seats live)) (pairs_of (set seats k new) ps)) gone
    ∙ ap (L (without_call t (calls_of seats live))) (pairs-left seats k new order.pairs ∙ retired-versions seats live order.pairs k (tells seats live kept.tenants) kept.linked at.there ∙ ap (retired (pairs_of seats order.pairs)) at.version)
    ∙ ap (λ (l : LiveCalls). left_calls l t) view

-- ---- nothing comes before

linked-from : (live : List Tenant) (pairs : List Pair) (a b : ℕ) → AreLinked live pairs → is_recorded pairs a b ≡ true → has_slot live a ≡ true
linked-from live [] a b l h = absurd (false≢true h)
linked-from live (p ∷ ps) a b l h = elim (cases_eq p.from a) [
  | inl same ↦ subst (λ (j : ℕ). has_slot live j ≡ true) same l.0.0
  | inr other ↦ linked-from live ps a b l.1 (later (p.from == a) (p.to == b) (is_recorded ps a b) h (ne_eqb p.from a other))
]
  where
    later : (x y z : Bool) → ((x && y) || z) ≡ true → x ≡ false → z ≡ true
    later x y z h e = grind (arith, h, e)

pub none_before : (callers nodes capacity : ℕ) (seats : List Seated) (live : List Tenant) (order : Order) (t k : ℕ) (seen : LiveCalls) → AreSeats callers nodes capacity seats live order → live_calls callers nodes seats live order ≡ seen → IsSlotOf seats live t k → ((u : ℕ) → is_recorded seen.pairs u t ≡ false) → (x : ℕ) → ¬ (Precedes order.pairs x k)
none_before callers nodes capacity seats live order t k seen kept view at none x =
    not_reached order.pairs x k (none-reaches order.pairs k x (λ w. false_from_ne_true (is_recorded order.pairs w k) (λ r.
    let there = linked-from live order.pairs w k kept.linked r in
    let same = recorded-versions seats live order.pairs w k (tells seats live kept.tenants) kept.linked there at.there in
    true≢false (sym r ∙ sym same ∙ ap (is_recorded (pairs_of seats order.pairs) (version_at seats w)) at.version ∙ ap (λ (l : LiveCalls). is_recorded l.pairs (version_at seats w) t) view ∙ none (version_at seats w)))))

-- ---- one fewer

pub length-left : (live : List Tenant) (t : ℕ) (seats : List Seated) → AreTenants seats live → has_version live t ≡ true → length (without_tenant live t) + 1 ≡ length live
length-left [] t seats ok h = absurd (false≢true h)
length-left (x ∷ xs) t seats ok h = go (cases_eq x.version t) (λ h. length-left xs t seats ok.3 h)
  where
    none-left : (ys : List Tenant) → has_version ys t ≡ false → length (without_tenant ys t) ≡ length ys
    none-left [] h = refl
    none-left (y ∷ ys) h = let r = none-left ys in grind (arith, eqb_tells, h, r)

    go : ((x.version ≡ t) ⊎ (x.version ≢ t)) → (has_version xs t ≡ true → length (without_tenant xs t) + 1 ≡ length xs) → length (without_tenant (x ∷ xs) t) + 1 ≡ suc (length xs)
    go (inl same) r =
        let e = ap length (left-cons x xs t true (eq-eqb x.version t same)) in
        let n = none-left xs (ap (has_version xs) (sym same) ∙ ok.1) in
        omega (arith, e, n)
    go (inr other) r =
        let e = ap length (left-cons x xs t false (ne_eqb x.version t other)) in
        let n = r (or_later (x.version == t) (has_version xs t) h (ne_eqb x.version t other)) in
        omega (arith, e, n)

pub length-calls : (seats : List Seated) (live : List Tenant) → length (calls_of seats live) ≡ length live
length-calls seats [] = refl
length-calls seats (x ∷ xs) = ap suc (length-calls seats xs)

pub left_fewer : (callers nodes capacity : ℕ) (seats seats' : List Seated) (live after items : List Tenant) (order : Order) (t k : ℕ) (seen : LiveCalls) → AreSeats callers nodes capacity seats live order → live_calls callers nodes seats live order ≡ seen → has_call seen t ≡ true → after ≡ without_tenant live t → length (calls_of seats' after) + 1 ≡ length seen.calls
left_fewer callers nodes capacity seats seats' live after items order t k seen kept view has is =
    let there : has_version live t ≡ true = sym (calls-has seats live t kept.tenants) ∙ ap (λ (l : LiveCalls). has_call l t) view ∙ has in
    let a = length-calls seats' after in
    let b = ap length is in
    let d = length-left live t seats kept.tenants there in
    let e = length-calls seats live in
    let f = ap (λ (l : LiveCalls). length l.calls) view in
    omega (arith, a, b, d, e, f)

-- ---- pairs are of live calls

linked-to : (seats : List Seated) (live : List Tenant) (pairs : List Pair) (u v : ℕ) → AreTenants seats live → AreLinked live pairs → is_recorded (pairs_of seats pairs) u v ≡ true → has_version live v ≡ true
linked-to seats live [] u v ok l h = absurd (false≢true h)
linked-to seats live (p ∷ ps) u v ok l h = elim (cases_eq (version_at seats p.to) v) [
  | inl same ↦ subst (λ (t : ℕ). has_version live t ≡ true) same (slot-version seats live p.to ok l.0.1)
  | inr other ↦ linked-to seats live ps u v ok l.1 (later (version_at seats p.from == u) (version_at seats p.to == v) (is_recorded (pairs_of seats ps) u v) h (ne_eqb _ v other))
]
  where
    later : (x y z : Bool) → ((x && y) || z) ≡ true → y ≡ false → z ≡ true
    later x y z h e = grind (arith, h, e)

pub leads_to : (callers nodes capacity : ℕ) (seats : List Seated) (live : List Tenant) (order : Order) (seen : LiveCalls) → AreSeats callers nodes capacity seats live order → live_calls callers nodes seats live order ≡ seen → LeadsToLive seen
leads_to callers nodes capacity seats live order seen kept view = subst LeadsToLive view (λ u v h.
    let last = last_pair (pairs_of seats order.pairs) u v h in
    calls-has seats live v kept.tenants ∙ linked-to seats live order.pairs last.0 v kept.tenants kept.linked last.1)

-- ---- a walk over the tenants

pub tenant_at : (seats : List Seated) (live : List Tenant) (i : ℕ) (x : Tenant) → AreTenants seats live → i < length live → x ≡ get_or live i x → IsTenant seats x × (has_version live x.version ≡ true)
tenant_at seats [] i x ok h e = absurd (omega (arith, h))
tenant_at seats (y ∷ ys) zero x ok h e = (subst (IsTenant seats) (sym e) ok.0, ap (λ b. b || has_version ys x.version) (eq-eqb y.version x.version (ap (λ (z : Tenant). z.version) (sym e))))
tenant_at seats (y ∷ ys) (suc i) x ok h e = let r = tenant_at seats ys i x ok.3 (omega (arith, h)) e in (r.0, or_right (y.version == x.version) _ r.1)

any-step : (test : LiveCall → Bool) (seats : List Seated) (live : List Tenant) (i : ℕ) (x : Tenant) → i < length live → x ≡ get_or live i x → list_any test (calls_of seats (drop i live)) ≡ (test (call_at seats x.slot) || list_any test (calls_of seats (drop (i + 1) live)))
any-step test seats live i x h e =
    ap (λ (xs : List Tenant). list_any test (calls_of seats xs)) (drop_more live i x h)
    ∙ ap (λ (y : Tenant). test (call_at seats y.slot) || list_any test (calls_of seats (drop (i + 1) live))) (sym e)

pub any_found : (test : LiveCall → Bool) (seats : List Seated) (live : List Tenant) (i : ℕ) (x : Tenant) (whole : Bool) → i < length live → x ≡ get_or live i x → list_any test (calls_of seats (drop i live)) ≡ whole → test (call_at seats x.slot) ≡ true → true ≡ whole
any_found test seats live i x whole h e so t = sym (any-step test seats live i x h e ∙ ap (λ b. b || list_any test (calls_of seats (drop (i + 1) live))) t) ∙ so

pub any_more : (test : LiveCall → Bool) (seats : List Seated) (live : List Tenant) (i : ℕ) (x : Tenant) (whole : Bool) → i < length live → x ≡ get_or live i x → list_any test (calls_of seats (drop i live)) ≡ whole → test (call_at seats x.slot) ≡ false → list_any test (calls_of seats (drop (i + 1) live)) ≡ whole
any_more test seats live i x whole h e so t = sym (any-step test seats live i x h e ∙ ap (λ b. b || list_any test (calls_of seats (drop (i + 1) live))) t) ∙ so

pub any_ends : (test : LiveCall → Bool) (seats : List Seated) (live : List Tenant) (i : ℕ) (whole : Bool) → length live ≤ i → list_any test (calls_of seats (drop i live)) ≡ whole → false ≡ whole
any_ends test seats live i whole h so = ap (λ (xs : List Tenant). list_any test (calls_of seats xs)) (sym (drop_of_length-le live h)) ∙ so
