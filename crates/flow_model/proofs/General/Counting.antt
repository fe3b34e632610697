-- A list of different numbers is no longer than one that has them all, and a set of numbers no longer than its range.
use Rattle.std.proofs.Common.{◌≡◌, ℕ, suc, ◌+◌, ◌<◌, ◌≤◌, Bool, true, false, ◌||◌, ◌==◌, ◌⊎◌, inl, inr, refl, sym, ap, arith, List, [], ◌∷◌, length, filter, if◌then◌else◌, true≢false, ◌∙◌, subst}
use Rattle.std.proofs.lemmas.Bool.{or_cases, or_left, or_right, eqb-true, eq-eqb, eqb-false, false_from_ne_true, both_ways, cases_Bool}
use Rattle.std.specs.List.{list_any, AllByRecursion}
use Rattle.signal_graph.specs.declared.node.Node.{Node}
use Rattle.signal_graph.specs.Graph.{numbers_from, is_in}
use Rattle.flow_model.specs.Machine.Sets.{IsSet, take_out}
use Rattle.flow_model.specs.Kept.Lawful.{AreDistinct}
use Rattle.flow_model.proofs.OneStep.VersionsStayFresh.{tail-distinct, head-distinct}
use Rattle.flow_model.proofs.General.Sets.{in-take_out}

-- a member that passes a test
pub record Member (test : ℕ → Bool) (xs : List ℕ) : Type 0 where
  pub it : ℕ
  pub member : is_in it xs ≡ true
  pub passes : test it ≡ true

pub some-member : (test : ℕ → Bool) (xs : List ℕ) → list_any test xs ≡ true → Member test xs
some-member test [] h = absurd (true≢false (sym h))
some-member test (x ∷ xs) h = go (or_cases _ _ h) (some-member test xs)
  where
    go : (test x ≡ true) ⊎ (list_any test xs ≡ true) → (list_any test xs ≡ true → Member test xs) → Member test (x ∷ xs)
    go (inl e) further = record { it = x; member = or_left _ _ (eq-eqb x x refl); passes = e }
    go (inr e) further = let r = further e in record { it = r.it; member = or_right _ _ r.member; passes = r.passes }

pub in-numbers : (k : ℕ) (nodes : List Node) (n : ℕ) → k ≤ n → n < k + length nodes → is_in n (numbers_from k nodes) ≡ true
in-numbers k [] n a b = absurd (omega (arith, a, b))
in-numbers k (x ∷ xs) n a b = go (cases_Bool (k == n)) (λ (l : k + 1 ≤ n). in-numbers (k + 1) xs n l (omega arith))
  where
    go : ((k == n) ≡ true) ⊎ ((k == n) ≡ false) → (k + 1 ≤ n → is_in n (numbers_from (k + 1) xs) ≡ true) → ((k == n) || is_in n (numbers_from (k + 1) xs)) ≡ true
    go (inl e) further = or_left _ _ e
    go (inr e) further = let ne = eqb-false k n e in or_right _ _ (further (omega (arith, a, ne)))

-- A list of different numbers is no longer than one that has them all.
pub taken-length : (x : ℕ) (ys : List ℕ) → length (take_out x ys) ≤ length ys
taken-length x [] = omega arith
taken-length x (y ∷ ys) = go (y == x) (taken-length x ys)
  where
    go : (b : Bool) → length (take_out x ys) ≤ length ys → length (elim b as (λ _. List ℕ) [ true ↦ take_out x ys | false ↦ y ∷ take_out x ys ]) ≤ suc (length ys)
    go true r = omega (arith, r)
    go false r = omega (arith, r)

taken-shorter : (x : ℕ) (ys : List ℕ) → is_in x ys ≡ true → suc (length (take_out x ys)) ≤ length ys
taken-shorter x [] h = absurd (true≢false (sym h))
taken-shorter x (y ∷ ys) h = go (y == x) refl (taken-length x ys) (taken-shorter x ys)
  where
    go : (b : Bool) → (y == x) ≡ b → length (take_out x ys) ≤ length ys → (is_in x ys ≡ true → suc (length (take_out x ys)) ≤ length ys) → suc (length (elim b as (λ _. List ℕ) [ true ↦ take_out x ys | false ↦ y ∷ take_out x ys ])) ≤ suc (length ys)
    go true e l r = omega (arith, l)
    go false e l r = let k = r (subst (λ (b : Bool). (b || is_in x ys) ≡ true) e h) in omega (arith, k)

pub no_longer : (xs ys : List ℕ) → AreDistinct xs → ((x : ℕ) → is_in x xs ≡ true → is_in x ys ≡ true) → length xs ≤ length ys
no_longer [] ys d f = omega arith
no_longer (x ∷ xs) ys d f =
    let r = no_longer xs (take_out x ys) (tail-distinct x xs d) inside in
    let l = taken-shorter x ys (f x (or_left _ _ (eq-eqb x x refl))) in
    omega (arith, r, l)
  where
    inside : (y : ℕ) → is_in y xs ≡ true → is_in y (take_out x ys) ≡ true
    inside y i =
        let a = f y (or_right _ _ i) in
        let e : (y == x) ≡ false = false_from_ne_true _ (λ k. both_ways _ (head-distinct x xs d) (subst (λ (w : ℕ). is_in w xs ≡ true) (eqb-true y x k) i)) in
        in-take_out y x ys ∙ (rw (a, e) refl)

-- ---- sets and filters

pub set-fits : (from most : ℕ) (xs : List ℕ) → from ≤ most → IsSet xs → AllByRecursion (λ y. from ≤ y) xs → AllByRecursion (λ y. y < most) xs → from + length xs ≤ most
set-fits from most [] l h a b = omega (arith, l)
set-fits from most (x ∷ xs) l h a b =
    let r = set-fits (suc x) most xs (let k = b.0 in omega (arith, k)) h.1 (above xs h.0) b.1 in
    let k = a.0 in
    omega (arith, r, k)
  where
    above : (ys : List ℕ) → AllByRecursion (λ y. x < y) ys → AllByRecursion (λ y. suc x ≤ y) ys
    above [] k = tt
    above (y ∷ ys) k = (let j = k.0 in omega (arith, j), above ys k.1)

pub filter-short : (test : ℕ → Bool) (xs : List ℕ) → length (filter test xs) ≤ length xs
filter-short test [] = omega arith
filter-short test (x ∷ xs) = go (test x) (filter-short test xs)
  where
    go : (b : Bool) → length (filter test xs) ≤ length xs → length (if b then x ∷ filter test xs else filter test xs) ≤ suc (length xs)
    go true r = omega (arith, r)
    go false r = omega (arith, r)

pub count-numbers : (k : ℕ) (nodes : List Node) → length (numbers_from k nodes) ≡ length nodes
count-numbers k [] = refl
count-numbers k (x ∷ xs) = ap suc (count-numbers (k + 1) xs)
