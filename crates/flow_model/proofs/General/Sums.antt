-- Sums over a list rise and fall with their items, and so does the count of the members that pass a test.
use Rattle.std.proofs.Common.{◌≡◌, ℕ, zero, suc, ◌+◌, ◌*◌, ◌<◌, ◌≤◌, Bool, true, false, ◌==◌, ◌⊎◌, inl, inr, refl, sym, ap, arith, List, [], ◌∷◌, ◌++◌, length, true≢false, ◌∙◌, subst}
use Rattle.std.proofs.Math.Nat.{suc-mul}
use Rattle.std.proofs.lemmas.Bool.{or_cases, or_left, or_right, eqb-true, eq-eqb, cases_Bool}
use Rattle.signal_graph.specs.Graph.{is_in}

abbrev pub total : {A : Type 0} → (A → ℕ) → List A → ℕ
total f [] = 0
total f (x ∷ xs) = f x + total f xs

pub total-le : {A : Type 0} (f g : A → ℕ) (xs : List A) → ((x : A) → f x ≤ g x) → total f xs ≤ total g xs
total-le f g [] h = omega arith
total-le f g (x ∷ xs) h = let r = total-le f g xs h in let a = h x in omega (arith, r, a)

pub total-le_in : (f g : ℕ → ℕ) (xs : List ℕ) → ((x : ℕ) → is_in x xs ≡ true → f x ≤ g x) → total f xs ≤ total g xs
total-le_in f g [] h = omega arith
total-le_in f g (x ∷ xs) h =
    let r = total-le_in f g xs (λ y k. h y (or_right _ _ k)) in
    let a = h x (or_left (x == x) (is_in x xs) (eq-eqb x x refl)) in
    omega (arith, r, a)

-- One item falls by so much, and no item rises.
pub total-falls : (f g : ℕ → ℕ) (k u : ℕ) (xs : List ℕ) → is_in u xs ≡ true → ((x : ℕ) → is_in x xs ≡ true → f x ≤ g x) → f u + k ≤ g u → total f xs + k ≤ total g xs
total-falls f g k u [] i h d = absurd (true≢false (sym i))
total-falls f g k u (x ∷ xs) i h d = go (or_cases _ _ i) (total-falls f g k u xs)
  where
    first : f x ≤ g x
    first = h x (or_left (x == x) (is_in x xs) (eq-eqb x x refl))

    others : total f xs ≤ total g xs
    others = total-le_in f g xs (λ y j. h y (or_right _ _ j))

    go : ((x == u) ≡ true) ⊎ (is_in u xs ≡ true) → (is_in u xs ≡ true → ((y : ℕ) → is_in y xs ≡ true → f y ≤ g y) → f u + k ≤ g u → total f xs + k ≤ total g xs) → total f (x ∷ xs) + k ≤ total g (x ∷ xs)
    go (inl e) further = let d2 = subst (λ (w : ℕ). f w + k ≤ g w) (sym (eqb-true x u e)) d in let o = others in omega (arith, d2, o)
    go (inr e) further = let r = further e (λ y j. h y (or_right _ _ j)) d in let a = first in omega (arith, r, a)

pub total-add : {A : Type 0} (f g : A → ℕ) (xs : List A) → total (λ (x : A). f x + g x) xs ≡ total f xs + total g xs
total-add f g [] = refl
total-add f g (x ∷ xs) = let r = total-add f g xs in omega (arith, r)

pub total-const : {A : Type 0} (k : ℕ) (xs : List A) → total (λ (x : A). k) xs ≡ length xs * k
total-const k [] = omega arith
total-const k (x ∷ xs) = let r = total-const k xs in let m = suc-mul (length xs) k in omega (arith, r, m)

pub total-append : {A : Type 0} (f : A → ℕ) (xs ys : List A) → total f (xs ++ ys) ≡ total f xs + total f ys
total-append f [] ys = omega arith
total-append f (x ∷ xs) ys = let r = total-append f xs ys in omega (arith, r)

-- ---- how often a test is passed

abbrev pub bit : Bool → ℕ
bit true = 1
bit false = 0

pub bit-le : (a b : Bool) → (a ≡ true → b ≡ true) → bit a ≤ bit b
bit-le true true h = omega arith
bit-le true false h = absurd (true≢false (sym (h refl)))
bit-le false b h = omega arith

pub bit-one : (a : Bool) → bit a ≤ 1
bit-one true = omega arith
bit-one false = omega arith

abbrev pub count : (ℕ → Bool) → List ℕ → ℕ
count test xs = total (λ (x : ℕ). bit (test x)) xs

pub count-le : (p q : ℕ → Bool) (xs : List ℕ) → ((x : ℕ) → is_in x xs ≡ true → p x ≡ true → q x ≡ true) → count p xs ≤ count q xs
count-le p q xs h = total-le_in (λ (x : ℕ). bit (p x)) (λ (x : ℕ). bit (q x)) xs (λ x i. bit-le (p x) (q x) (h x i))

pub count-falls : (p q : ℕ → Bool) (u : ℕ) (xs : List ℕ) → is_in u xs ≡ true → ((x : ℕ) → is_in x xs ≡ true → p x ≡ true → q x ≡ true) → p u ≡ false → q u ≡ true → count p xs + 1 ≤ count q xs
count-falls p q u xs i h a b = total-falls (λ (x : ℕ). bit (p x)) (λ (x : ℕ). bit (q x)) 1 u xs i (λ x j. bit-le (p x) (q x) (h x j)) (one (p u) (q u) a b)
  where
    one : (x y : Bool) → x ≡ false → y ≡ true → bit x + 1 ≤ bit y
    one x y e f = rw (e, f) (omega arith)

pub count-length : (p : ℕ → Bool) (xs : List ℕ) → count p xs ≤ length xs
count-length p [] = omega arith
count-length p (x ∷ xs) = let r = count-length p xs in let a = bit-one (p x) in omega (arith, r, a)

-- an item that passes the test
pub record Passes (p : ℕ → Bool) (xs : List ℕ) : Type 0 where
  pub item : ℕ
  pub inside : is_in item xs ≡ true
  pub passes : p item ≡ true

pub count-some : (p : ℕ → Bool) (xs : List ℕ) → (count p xs ≡ 0) ⊎ Passes p xs
count-some p [] = inl refl
count-some p (x ∷ xs) = go (cases_Bool (p x)) (count-some p xs)
  where
    go : (p x ≡ true) ⊎ (p x ≡ false) → (count p xs ≡ 0) ⊎ Passes p xs → (count p (x ∷ xs) ≡ 0) ⊎ Passes p (x ∷ xs)
    go (inl e) r = inr (record { item = x; inside = or_left _ _ (eq-eqb x x refl); passes = e })
    go (inr e) (inl r) = inl (let a = ap bit e in omega (arith, a, r))
    go (inr e) (inr r) = inr (record { item = r.item; inside = or_right _ _ r.inside; passes = r.passes })

-- ---- the numbers below one

abbrev pub up_to : ℕ → List ℕ
up_to zero = []
up_to (suc n) = n ∷ up_to n

pub in-up_to : (n k : ℕ) → n < k → is_in n (up_to k) ≡ true
in-up_to n zero h = absurd (omega arith)
in-up_to n (suc k) h = go (cases_Bool (k == n)) (in-up_to n k)
  where
    below : (k n : ℕ) → (k == n) ≡ false → n < suc k → n < k
    below k n e l = let ne = other k n e in omega (arith, ne, l)
      where
        other : (k n : ℕ) → (k == n) ≡ false → k ≡ n → ⊥
        other k n e x = true≢false (sym (eq-eqb k n x) ∙ e)

    go : ((k == n) ≡ true) ⊎ ((k == n) ≡ false) → (n < k → is_in n (up_to k) ≡ true) → is_in n (up_to (suc k)) ≡ true
    go (inl e) further = or_left _ _ e
    go (inr e) further = or_right _ _ (further (below k n e h))

pub up_to-below : (n k : ℕ) → is_in n (up_to k) ≡ true → n < k
up_to-below n zero h = absurd (true≢false (sym h))
up_to-below n (suc k) h = go (or_cases _ _ h) (up_to-below n k)
  where
    go : ((k == n) ≡ true) ⊎ (is_in n (up_to k) ≡ true) → (is_in n (up_to k) ≡ true → n < k) → n < suc k
    go (inl e) further = let q = eqb-true k n e in omega (arith, q)
    go (inr e) further = let r = further e in omega (arith, r)

pub up_to-length : (k : ℕ) → length (up_to k) ≡ k
up_to-length zero = refl
up_to-length (suc k) = let r = up_to-length k in omega (arith, r)
