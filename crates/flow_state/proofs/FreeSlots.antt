-- The set of free slots: what it tells, and how it is kept.
use Rattle.std.proofs.Common.{◌≡◌, ◌≢◌, ℕ, zero, suc, ◌+◌, ◌<◌, ◌≤◌, inl, inr, Bool, true, false, not, ◌==◌, ◌||◌, ◌&&◌, List, [], ◌∷◌, ◌++◌, Some, None, refl, sym, ap, ◌∙◌, subst, arith}
use Rattle.std.specs.List.{AllByRecursion}
use Rattle.std.proofs.lemmas.Bool.{eq-eqb, ne_eqb, cases_eq}
use Rattle.std.proofs.lemmas.Bool.Decides.{eqb_tells}
use Rattle.std.proofs.lemmas.Option.{same_Some}
use Rattle.signal_graph.specs.Graph.{is_in}
use Rattle.order_graph.specs.Order.{Order}
use Rattle.node_set.specs.Members.{Members, with_nodes}
use Rattle.flow_model.specs.Machine.Sets.{put, take_out, least, IsSet}
use Rattle.flow_model.specs.Machine.State.{LiveCall}
use Rattle.flow_model.specs.Machine.Steps.{uses_slot, free_slot}
use Rattle.flow_model.proofs.General.Sets.{in-put, in-take_out}
use Rattle.flow_state.specs.declared.seating.Tenant.{Tenant}
use Rattle.flow_state.specs.Seats.{Seated, calls_of, has_slot, without_tenant, AreSeats, IsFree}
use Rattle.flow_state.proofs.SeatLemmas.{IsSlotOf}
use Rattle.flow_state.proofs.Beginning.{free-step, slot-more, slot_used}
use Rattle.flow_state.proofs.Leaving.{tenants-agree, slot-left}

-- ---- the least free slot

all_used : (n from : ℕ) (calls : List LiveCall) → ((j : ℕ) → from ≤ j → j < from + n → uses_slot j calls ≡ true) → free_slot n from calls ≡ from + n
all_used zero from calls used = omega arith
all_used (suc n) from calls used =
    let r = all_used n (suc from) calls (λ j l h. used j (omega (arith, l)) (omega (arith, h))) in
    free-step n from calls true (used from (omega arith) (omega arith)) ∙ r ∙ (omega arith)

free_is : (n from k : ℕ) (calls : List LiveCall) → from ≤ k → k < from + n → ((j : ℕ) → from ≤ j → j < k → uses_slot j calls ≡ true) → uses_slot k calls ≡ false → free_slot n from calls ≡ k
free_is zero from k calls l h used free = absurd (omega (arith, l, h))
free_is (suc n) from k calls l h used free = elim (cases_eq from k) [
  | inl same ↦ free-step n from calls false (ap (λ j. uses_slot j calls) same ∙ free) ∙ same
  | inr other ↦ free-step n from calls true (used from (omega arith) (omega (arith, l, other))) ∙ free_is n (suc from) k calls (omega (arith, l, other)) (omega (arith, h)) (λ j m g. used j (omega (arith, m)) g) free
]

none_below : (v : ℕ) (xs : List ℕ) (j : ℕ) → AllByRecursion (λ (y : ℕ). v < y) xs → j ≤ v → is_in j xs ≡ false
none_below v [] j up h = refl
none_below v (x ∷ xs) j up h =
    let here : x ≢ j = let u = up.0 in omega (arith, u, h) in
    ap (λ b. b || is_in j xs) (ne_eqb x j here) ∙ none_below v xs j up.1 h

not_of : (a b : Bool) → a ≡ not b → b ≡ not a
not_of a true h = sym (ap not h)
not_of a false h = sym (ap not h)

-- What the first of the free slots tells.
pub record IsLeast (callers : ℕ) (calls : List LiveCall) (k : ℕ) : Type 0 where
  pub slot : k ≡ free_slot callers 0 calls
  pub free : k < callers → uses_slot k calls ≡ false

pub least_free : (callers : ℕ) (calls : List LiveCall) (x : ℕ) (xs : List ℕ) → IsSet (x ∷ xs) → x < callers → ((k : ℕ) → k < callers → is_in k (x ∷ xs) ≡ not (uses_slot k calls)) → IsLeast callers calls x
least_free callers calls x xs up below tells =
    let free : uses_slot x calls ≡ false = not_of (is_in x (x ∷ xs)) (uses_slot x calls) (tells x below) ∙ ap (λ b. not (b || is_in x xs)) (eq-eqb x x refl) in
    record {
      slot = sym (free_is callers 0 x calls (omega arith) (omega (arith, below)) (λ j l h. not_of (is_in j (x ∷ xs)) (uses_slot j calls) (tells j (omega (arith, h, below))) ∙ ap not (ap (λ b. b || is_in j xs) (ne_eqb x j (omega (arith, h))) ∙ none_below x xs j up.0 (omega (arith, h)))) free);
      free = λ _. free;
    }

pub none_free : (callers : ℕ) (calls : List LiveCall) → ((k : ℕ) → k < callers → is_in k [] ≡ not (uses_slot k calls)) → IsLeast callers calls callers
none_free callers calls tells = record {
  slot = let e : 0 + callers ≡ callers = omega arith in sym (all_used callers 0 calls (λ j l h. not_of false (uses_slot j calls) (tells j (omega (arith, h)))) ∙ e);
  free = λ h. absurd (omega (arith, h));
}

pub first_tells : (callers : ℕ) (calls : List LiveCall) (nodes : List ℕ) → IsSet nodes → ((q : ℕ) → is_in q nodes ≡ true → q < callers) → ((k : ℕ) → k < callers → is_in k nodes ≡ not (uses_slot k calls)) → (k : ℕ) → Some k ≡ least nodes → IsLeast callers calls k
first_tells callers calls [] up inside tells k e = cc
first_tells callers calls (x ∷ xs) up inside tells k e = subst (IsLeast callers calls) (sym (same_Some k x e)) (least_free callers calls x xs up (inside x (ap (λ b. b || is_in x xs) (eq-eqb x x refl))) tells)

pub none_tells : (callers : ℕ) (calls : List LiveCall) (nodes : List ℕ) → ((k : ℕ) → k < callers → is_in k nodes ≡ not (uses_slot k calls)) → None ≡ least nodes → IsLeast callers calls callers
none_tells callers calls [] tells e = none_free callers calls tells
none_tells callers calls (x ∷ xs) tells e = cc

-- by calls in place of tenants
pub free_by_calls : (callers nodes capacity : ℕ) (seats : List Seated) (live : List Tenant) (order : Order) (free : Members) → AreSeats callers nodes capacity seats live order → IsFree callers live free → (k : ℕ) → k < callers → is_in k free.nodes ≡ not (uses_slot k (calls_of seats live))
free_by_calls callers nodes capacity seats live order free kept is k h = is.slots k h ∙ ap not (sym (slot_used callers nodes capacity seats live order k kept))

-- ---- how it is kept

pub free_taken : (callers : ℕ) (live more : List Tenant) (n : Tenant) (free new : Members) → IsFree callers live free → more ≡ live ++ n ∷ [] → new ≡ with_nodes free (take_out n.slot free.nodes) → IsFree callers more new
free_taken callers live more n free new is longer fewer = subst (λ (xs : List Tenant). IsFree callers xs new) (sym longer) (subst (IsFree callers (live ++ n ∷ [])) (sym fewer) (record {
  size = is.size;
  slots = λ k h. in-take_out k n.slot free.nodes ∙ ap (λ b. b && not (k == n.slot)) (is.slots k h) ∙ both (has_slot live k) k n.slot ∙ ap not (sym (slot-more live n k));
}))
  where
    both : (a : Bool) (k m : ℕ) → (not a && not (k == m)) ≡ not (a || (m == k))
    both a k m = grind (arith, eqb_tells)

pub free_given : (callers : ℕ) (seats : List Seated) (live fewer : List Tenant) (t k : ℕ) (free new : Members) (capacity nodes : ℕ) (order : Order) → AreSeats callers nodes capacity seats live order → IsSlotOf seats live t k → IsFree callers live free → fewer ≡ without_tenant live t → new ≡ with_nodes free (put k free.nodes) → IsFree callers fewer new
free_given callers seats live fewer t k free new capacity nodes order kept at is left more = subst (λ (xs : List Tenant). IsFree callers xs new) (sym left) (subst (IsFree callers (without_tenant live t)) (sym more) (record {
  size = is.size;
  slots = λ j h. in-put j k free.nodes ∙ ap (λ b. (j == k) || b) (is.slots j h) ∙ either (has_slot live j) (j == k) ∙ ap not (sym (slot-left live t k j (tenants-agree seats live t k kept.tenants at)));
}))
  where
    either : (a b : Bool) → (b || not a) ≡ not (a && not b)
    either true true = refl
    either true false = refl
    either false true = refl
    either false false = refl

pub all_free : (callers : ℕ) (live : List Tenant) (free : Members) → live ≡ [] → free.size ≡ callers → ((k : ℕ) → k < callers → is_in k free.nodes ≡ true) → IsFree callers live free
all_free callers live free none size all = subst (λ (xs : List Tenant). IsFree callers xs free) (sym none) (record { size = size; slots = all })

-- one slot more
pub slots_more : (n : ℕ) (set new : Members) → ((k : ℕ) → k < n → is_in k set.nodes ≡ true) → new ≡ with_nodes set (put n set.nodes) → (k : ℕ) → k < n + 1 → is_in k new.nodes ≡ true
slots_more n set new all is k h = ap (λ (m : Members). is_in k m.nodes) is ∙ in-put k n set.nodes ∙ elim (cases_eq k n) [
  | inl same ↦ ap (λ b. b || is_in k set.nodes) (eq-eqb k n same)
  | inr other ↦ ap (λ b. b || is_in k set.nodes) (ne_eqb k n other) ∙ all k (omega (arith, h, other))
]
