-- The test of the closure.
use Rattle.std.proofs.Common.{◌≡◌, ℕ, ◌⊎◌, inl, inr, Bool, true, false, not, ◌&&◌, ◌||◌, ◌==◌, cond, List, [], ◌∷◌, refl, sym, ap, ◌∙◌, subst, arith}
use Rattle.std.specs.Prelude.{IsTrue, ◌↔◌}
use Rattle.std.proofs.lemmas.Bool.{or_cases, or_left, or_right, and_parts, and_from, eqb-true, eq-eqb, cases_Bool, both_ways, false≢true}
use Rattle.std.proofs.lemmas.Bool.Decides.{eqb_tells}
use Rattle.order_graph.specs.Order.{Pair, joins, is_recorded, Precedes, reaches, linked, retired}
use Rattle.order_graph.specs.Order.Precedes.{by_pair, by_chain}
use Rattle.order_graph.proofs.Closure.{Adds, Precedes-join, masks_added, masks_dropped}
use Rattle.order_graph.proofs.KeptLemmas.{adds-with_pair, drops-retired, with_pair}

pub reaches-cons : (p : Pair) (pairs : List Pair) (a b : ℕ) → reaches (p ∷ pairs) a b ≡ (reaches pairs a b || (((p.from == a) || reaches pairs a p.from) && ((p.to == b) || reaches pairs p.to b)))
reaches-cons p pairs a b = grind arith

pub recorded-reaches : (pairs : List Pair) (a b : ℕ) → is_recorded pairs a b ≡ true → reaches pairs a b ≡ true
recorded-reaches [] a b h = h
recorded-reaches (p ∷ pairs) a b h = let r = recorded-reaches pairs a b in grind (arith, eqb_tells, r)

pub reaches-join : (pairs : List Pair) (a b c : ℕ) → reaches pairs a b ≡ true → reaches pairs b c ≡ true → reaches pairs a c ≡ true
reaches-join [] a b c h k = h
reaches-join (p ∷ pairs) a b c h k =
    let r1 = reaches-join pairs a b c in
    let r2 = reaches-join pairs a b p.from in
    let r3 = reaches-join pairs p.to b c in
    let r4 = reaches-join pairs p.to b p.from in
    grind (arith, eqb_tells, r1, r2, r3, r4)

Precedes-reaches : {pairs : List Pair} {a b : ℕ} → Precedes pairs a b → reaches pairs a b ≡ true
Precedes-reaches {pairs} (by_pair {a = a} {b = b} h) = recorded-reaches pairs a b h
Precedes-reaches {pairs} (by_chain {a = a} {b = b} {c = c} h k) = reaches-join pairs a b c (recorded-reaches pairs a b h) (Precedes-reaches k)

Precedes-more : {p : Pair} {pairs : List Pair} {a b : ℕ} → Precedes pairs a b → Precedes (p ∷ pairs) a b
Precedes-more {p} {pairs} (by_pair {a = a} {b = b} h) = by_pair (or_right (joins a b p) (is_recorded pairs a b) h)
Precedes-more {p} {pairs} (by_chain {a = a} {b = b} h k) = by_chain (or_right (joins a b p) (is_recorded pairs a b) h) (Precedes-more k)

first_pair : (p : Pair) (pairs : List Pair) → is_recorded (p ∷ pairs) p.from p.to ≡ true
first_pair p pairs = or_left (joins p.from p.to p) (is_recorded pairs p.from p.to) (and_from _ _ (eq-eqb p.from p.from refl) (eq-eqb p.to p.to refl))

-- what the test says of the later pairs is so
abbrev Says : List Pair → Type 0
Says pairs = (x y : ℕ) → reaches pairs x y ≡ true → Precedes pairs x y

to_first : (p : Pair) (pairs : List Pair) → Says pairs → (a : ℕ) → ((p.from == a) || reaches pairs a p.from) ≡ true → Precedes (p ∷ pairs) a p.to
to_first p pairs says a h = elim (or_cases _ _ h) [
  | inl e ↦ subst (λ (x : ℕ). Precedes (p ∷ pairs) x p.to) (eqb-true p.from a e) (by_pair (first_pair p pairs))
  | inr r ↦ Precedes-join (Precedes-more (says a p.from r)) (by_pair (first_pair p pairs))
]

from_first : (p : Pair) (pairs : List Pair) → Says pairs → (a b : ℕ) → Precedes (p ∷ pairs) a p.to → ((p.to == b) || reaches pairs p.to b) ≡ true → Precedes (p ∷ pairs) a b
from_first p pairs says a b k h = elim (or_cases _ _ h) [
  | inl e ↦ subst (λ (x : ℕ). Precedes (p ∷ pairs) a x) (eqb-true p.to b e) k
  | inr r ↦ Precedes-join k (Precedes-more (says p.to b r))
]

reaches-Precedes : (pairs : List Pair) → Says pairs
reaches-Precedes [] a b h = absurd (false≢true h)
reaches-Precedes (p ∷ pairs) a b h = elim (or_cases (reaches pairs a b) _ (sym (reaches-cons p pairs a b) ∙ h)) [
  | inl r ↦ Precedes-more (reaches-Precedes pairs a b r)
  | inr both ↦
      let parts = and_parts ((p.from == a) || reaches pairs a p.from) ((p.to == b) || reaches pairs p.to b) both in
      from_first p pairs (reaches-Precedes pairs) a b (to_first p pairs (reaches-Precedes pairs) a parts.0) parts.1
]

-- the test decides the closure
pub decides : (pairs : List Pair) (a b : ℕ) → IsTrue (reaches pairs a b) ↔ Precedes pairs a b
decides pairs a b = ((λ h. reaches-Precedes pairs a b h), (λ h. Precedes-reaches h))

same_truth : {P : Type 0} (x y : Bool) → IsTrue x ↔ P → IsTrue y ↔ P → x ≡ y
same_truth true true f g = refl
same_truth true false f g = sym (g.1 (f.0 refl))
same_truth false true f g = f.1 (g.0 refl)
same_truth false false f g = refl

known_or : (r t j k : Bool) → (t ≡ true → r ≡ true) → r ≡ (t || r)
known_or r true j k h = h refl
known_or r false j k h = refl

-- the linked pairs have one of a and b
adds-linked : (pairs : List Pair) (a b node : ℕ) → Adds pairs (linked pairs a b node) a b
adds-linked pairs a b node = go (cases_Bool (is_recorded pairs a b))
  where
    known : is_recorded pairs a b ≡ true → Adds pairs pairs a b
    known h x y = known_or (is_recorded pairs x y) ((x == a) && (y == b)) true true (λ both. let parts = and_parts (x == a) (y == b) both in ap (λ k. is_recorded pairs k y) (eqb-true x a parts.0) ∙ ap (is_recorded pairs a) (eqb-true y b parts.1) ∙ h)

    go : (is_recorded pairs a b ≡ true) ⊎ (is_recorded pairs a b ≡ false) → Adds pairs (linked pairs a b node) a b
    go (inl h) = subst (λ (t : Bool). Adds pairs (cond t pairs (with_pair pairs a b node)) a b) (sym h) (known h)
    go (inr h) = subst (λ (t : Bool). Adds pairs (cond t pairs (with_pair pairs a b node)) a b) (sym h) (adds-with_pair pairs a b node)

pub reaches-linked : (pairs : List Pair) (a b node x y : ℕ) → reaches (linked pairs a b node) x y ≡ (reaches pairs x y || (((x == a) || reaches pairs x a) && ((y == b) || reaches pairs b y)))
reaches-linked pairs a b node x y = same_truth _ _ (decides (linked pairs a b node) x y)
    (masks_added pairs (linked pairs a b node) a b (adds-linked pairs a b node) (reaches pairs) (λ x y. reaches pairs x y || (((x == a) || reaches pairs x a) && ((y == b) || reaches pairs b y))) (decides pairs) (λ x y. refl) x y)

pub reaches-retired : (pairs : List Pair) (a x y : ℕ) → ((z : ℕ) → reaches pairs z a ≡ false) → reaches (retired pairs a) x y ≡ (not (x == a) && reaches pairs x y)
reaches-retired pairs a x y none = same_truth _ _ (decides (retired pairs a) x y)
    (masks_dropped pairs (retired pairs a) a (drops-retired pairs a) (λ z h. both_ways _ (none z) (recorded-reaches pairs z a h)) (reaches pairs) (λ x y. not (x == a) && reaches pairs x y) (decides pairs) (λ x y. refl) x y)

-- a test that holds exactly where a precedes b is the test
pub test_is_reaches : (t : Bool) (pairs : List Pair) (a b : ℕ) → IsTrue t ↔ Precedes pairs a b → t ≡ reaches pairs a b
test_is_reaches t pairs a b h = same_truth t (reaches pairs a b) h (decides pairs a b)
