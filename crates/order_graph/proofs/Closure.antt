-- What leads where after a pair joins, and after the pairs of a slot go.
use Rattle.std.proofs.Common.{◌≡◌, ◌≢◌, ℕ, ◌⊎◌, inl, inr, Bool, true, not, ◌&&◌, ◌||◌, ◌==◌, List, refl, sym, ap, ◌∙◌, subst}
use Rattle.std.specs.Prelude.{IsTrue, ◌↔◌}
use Rattle.std.proofs.lemmas.Bool.{or_cases, or_left, or_right, and_parts, and_from, eqb-true, eq-eqb, not-true, not_from_false, ne_eqb, eqb-false, or_parts, or_from}
use Rattle.order_graph.specs.Order.{Pair, is_recorded, Precedes}
use Rattle.order_graph.specs.Order.Precedes.{by_pair, by_chain}

-- new has the pairs of old, and one of a and b
abbrev pub Adds : List Pair → List Pair → ℕ → ℕ → Type 0
Adds old new a b = (x y : ℕ) → is_recorded new x y ≡ (((x == a) && (y == b)) || is_recorded old x y)

-- new has the pairs of old that don't touch a
abbrev pub Drops : List Pair → List Pair → ℕ → Type 0
Drops old new a = (x y : ℕ) → is_recorded new x y ≡ (not ((x == a) || (y == a)) && is_recorded old x y)

pub Precedes-join : {pairs : List Pair} {a b c : ℕ} → Precedes pairs a b → Precedes pairs b c → Precedes pairs a c
Precedes-join (by_pair h) k = by_chain h k
Precedes-join (by_chain h j) k = by_chain h (Precedes-join j k)

-- the last pair of a chain
pub last_pair : {pairs : List Pair} {a c : ℕ} → Precedes pairs a c → (b : ℕ) × (is_recorded pairs b c ≡ true)
last_pair (by_pair {a = a} {b = b} h) = (a, h)
last_pair (by_chain h k) = last_pair k

-- ---- a pair joins

pub Precedes-kept : (old new : List Pair) (a b : ℕ) → Adds old new a b → {x y : ℕ} → Precedes old x y → Precedes new x y
Precedes-kept old new a b adds (by_pair {a = x} {b = y} h) = by_pair (adds x y ∙ or_right _ _ h)
Precedes-kept old new a b adds (by_chain {a = x} {b = y} h k) = by_chain (adds x y ∙ or_right _ _ h) (Precedes-kept old new a b adds k)

new_pair : (old new : List Pair) (a b : ℕ) → Adds old new a b → is_recorded new a b ≡ true
new_pair old new a b adds = adds a b ∙ or_left _ _ (and_from _ _ (eq-eqb a a refl) (eq-eqb b b refl))

-- a chain to a, the new pair, and a chain from b
abbrev Through : List Pair → ℕ → ℕ → ℕ → ℕ → Type 0
Through old a b x y = ((x ≡ a) ⊎ Precedes old x a) × ((y ≡ b) ⊎ Precedes old b y)

from_pair : (old new : List Pair) (a b : ℕ) → Adds old new a b → (y : ℕ) → (y ≡ b) ⊎ Precedes old b y → Precedes new a y
from_pair old new a b adds y (inl e) = by_pair (ap (is_recorded new a) e ∙ new_pair old new a b adds)
from_pair old new a b adds y (inr k) = by_chain (new_pair old new a b adds) (Precedes-kept old new a b adds k)

through_pair : (old new : List Pair) (a b : ℕ) → Adds old new a b → (x y : ℕ) → (x ≡ a) ⊎ Precedes old x a → Precedes new a y → Precedes new x y
through_pair old new a b adds x y (inl e) k = subst (λ (z : ℕ). Precedes new z y) (sym e) k
through_pair old new a b adds x y (inr h) k = Precedes-join (Precedes-kept old new a b adds h) k

recorded_cases : (old new : List Pair) (a b : ℕ) → Adds old new a b → (x y : ℕ) → is_recorded new x y ≡ true → ((x ≡ a) × (y ≡ b)) ⊎ (is_recorded old x y ≡ true)
recorded_cases old new a b adds x y h = elim (or_cases _ _ (sym (adds x y) ∙ h)) [
  | inl both ↦ let parts = and_parts _ _ both in inl (eqb-true x a parts.0, eqb-true y b parts.1)
  | inr was ↦ inr was
]

before_pair : (old : List Pair) (a x z : ℕ) → is_recorded old x z ≡ true → (z ≡ a) ⊎ Precedes old z a → Precedes old x a
before_pair old a x z h (inl e) = by_pair (sym (ap (is_recorded old x) e) ∙ h)
before_pair old a x z h (inr k) = by_chain h k

after_pair : (old : List Pair) (a b x y z : ℕ) → (((x ≡ a) × (z ≡ b)) ⊎ (is_recorded old x z ≡ true)) → (Precedes old z y ⊎ Through old a b z y) → Precedes old x y ⊎ Through old a b x y
after_pair old a b x y z (inl new) (inl k) = inr (inl new.0, inr (subst (λ (w : ℕ). Precedes old w y) new.1 k))
after_pair old a b x y z (inl new) (inr through) = inr (inl new.0, through.1)
after_pair old a b x y z (inr was) (inl k) = inl (by_chain was k)
after_pair old a b x y z (inr was) (inr through) = inr (inr (before_pair old a x z was through.0), through.1)

-- a chain uses the new pair or it does not
split : (old new : List Pair) (a b : ℕ) → Adds old new a b → {x y : ℕ} → Precedes new x y → Precedes old x y ⊎ Through old a b x y
split old new a b adds (by_pair {a = x} {b = y} h) = elim (recorded_cases old new a b adds x y h) [
  | inl both ↦ inr (inl both.0, inl both.1)
  | inr was ↦ inl (by_pair was)
]
split old new a b adds (by_chain {a = x} {b = z} {c = y} h k) = after_pair old a b x y z (recorded_cases old new a b adds x z h) (split old new a b adds k)

-- what leads from a slot through the new pair back to it leads from b to a
round : (old : List Pair) (a b x : ℕ) → a ≢ b → Through old a b x x → Precedes old b a
round old a b x apart (inl e, inl f) = absurd (apart (sym e ∙ f))
round old a b x apart (inl e, inr k) = subst (λ (z : ℕ). Precedes old b z) e k
round old a b x apart (inr h, inl f) = subst (λ (z : ℕ). Precedes old z a) f h
round old a b x apart (inr h, inr k) = Precedes-join k h

-- A pair that leads back from nowhere makes no cycle.
pub no_cycle-added : (old new : List Pair) (a b : ℕ) → Adds old new a b → a ≢ b → ¬ (Precedes old b a) → ((x : ℕ) → ¬ (Precedes old x x)) → (x : ℕ) → ¬ (Precedes new x x)
no_cycle-added old new a b adds apart forward none x h = elim (split old new a b adds h) [
  | inl was ↦ none x was
  | inr through ↦ forward (round old a b x apart through)
]

-- ---- the pairs of a slot go

pub Precedes-fewer : (old new : List Pair) (a : ℕ) → Drops old new a → {x y : ℕ} → Precedes new x y → Precedes old x y
Precedes-fewer old new a drops (by_pair {a = x} {b = y} h) = by_pair ((and_parts _ _ (sym (drops x y) ∙ h)).1)
Precedes-fewer old new a drops (by_chain {a = x} {b = y} h k) = by_chain ((and_parts _ _ (sym (drops x y) ∙ h)).1) (Precedes-fewer old new a drops k)

not_from : (old new : List Pair) (a : ℕ) → Drops old new a → (x y : ℕ) → is_recorded new x y ≡ true → x ≢ a
not_from old new a drops x y h e =
    let apart = or_parts _ _ (not-true _ (and_parts _ _ (sym (drops x y) ∙ h)).0) in
    eqb-false x a apart.0 e

Precedes-not_from : (old new : List Pair) (a : ℕ) → Drops old new a → {x y : ℕ} → Precedes new x y → x ≢ a
Precedes-not_from old new a drops (by_pair {a = x} {b = y} h) = not_from old new a drops x y h
Precedes-not_from old new a drops (by_chain {a = x} {b = y} h k) = not_from old new a drops x y h

-- nothing was recorded to come before a
abbrev NoneBefore : List Pair → ℕ → Type 0
NoneBefore old a = (x : ℕ) → is_recorded old x a ≡ true → ⊥

pair_stays : (old new : List Pair) (a : ℕ) → Drops old new a → NoneBefore old a → (x y : ℕ) → x ≢ a → is_recorded old x y ≡ true → is_recorded new x y ≡ true
pair_stays old new a drops none x y other h =
    let away : y ≢ a = λ e. none x (sym (ap (is_recorded old x) e) ∙ h) in
    drops x y ∙ and_from _ _ (not_from_false _ (or_from _ _ (ne_eqb x a other) (ne_eqb y a away))) h

Precedes-stays : (old new : List Pair) (a : ℕ) → Drops old new a → NoneBefore old a → {x y : ℕ} → x ≢ a → Precedes old x y → Precedes new x y
Precedes-stays old new a drops none other (by_pair {a = x} {b = y} h) = by_pair (pair_stays old new a drops none x y other h)
Precedes-stays old new a drops none other (by_chain {a = x} {b = y} h k) =
    let away : y ≢ a = λ e. none x (sym (ap (is_recorded old x) e) ∙ h) in
    by_chain (pair_stays old new a drops none x y other h) (Precedes-stays old new a drops none away k)

-- ---- masks

-- the masks after a pair joins
pub masks_added : (old new : List Pair) (a b : ℕ) → Adds old new a b → (m n : ℕ → ℕ → Bool) → ((x y : ℕ) → IsTrue (m x y) ↔ Precedes old x y) → ((x y : ℕ) → n x y ≡ (m x y || (((x == a) || m x a) && ((y == b) || m b y)))) → (x y : ℕ) → IsTrue (n x y) ↔ Precedes new x y
masks_added old new a b adds m n were are x y = (there, back)
  where
    to_a : (((x == a) || m x a) ≡ true) → (x ≡ a) ⊎ Precedes old x a
    to_a h = elim (or_cases _ _ h) [ inl e ↦ inl (eqb-true x a e) | inr k ↦ inr ((were x a).0 k) ]

    from_b : (((y == b) || m b y) ≡ true) → (y ≡ b) ⊎ Precedes old b y
    from_b h = elim (or_cases _ _ h) [ inl e ↦ inl (eqb-true y b e) | inr k ↦ inr ((were b y).0 k) ]

    there : n x y ≡ true → Precedes new x y
    there h = elim (or_cases _ _ (sym (are x y) ∙ h)) [
      | inl was ↦ Precedes-kept old new a b adds ((were x y).0 was)
      | inr both ↦ let parts = and_parts _ _ both in through_pair old new a b adds x y (to_a parts.0) (from_pair old new a b adds y (from_b parts.1))
    ]

    is_to_a : (x ≡ a) ⊎ Precedes old x a → ((x == a) || m x a) ≡ true
    is_to_a (inl e) = or_left _ _ (eq-eqb x a e)
    is_to_a (inr k) = or_right _ _ ((were x a).1 k)

    is_from_b : (y ≡ b) ⊎ Precedes old b y → ((y == b) || m b y) ≡ true
    is_from_b (inl e) = or_left _ _ (eq-eqb y b e)
    is_from_b (inr k) = or_right _ _ ((were b y).1 k)

    back : Precedes new x y → n x y ≡ true
    back h = elim (split old new a b adds h) [
      | inl was ↦ are x y ∙ or_left _ _ ((were x y).1 was)
      | inr through ↦ are x y ∙ or_right _ _ (and_from _ _ (is_to_a through.0) (is_from_b through.1))
    ]

-- the masks after the pairs of a slot go
pub masks_dropped : (old new : List Pair) (a : ℕ) → Drops old new a → NoneBefore old a → (m n : ℕ → ℕ → Bool) → ((x y : ℕ) → IsTrue (m x y) ↔ Precedes old x y) → ((x y : ℕ) → n x y ≡ (not (x == a) && m x y)) → (x y : ℕ) → IsTrue (n x y) ↔ Precedes new x y
masks_dropped old new a drops none m n were are x y = (there, back)
  where
    there : n x y ≡ true → Precedes new x y
    there h = let parts = and_parts _ _ (sym (are x y) ∙ h) in Precedes-stays old new a drops none (eqb-false x a (not-true _ parts.0)) ((were x y).0 parts.1)

    back : Precedes new x y → n x y ≡ true
    back h = are x y ∙ and_from _ _ (not_from_false _ (ne_eqb x a (Precedes-not_from old new a drops h))) ((were x y).1 (Precedes-fewer old new a drops h))
