-- Ascending lists of the numbers of a range that pass a test.
use Rattle.std.proofs.Common.{◌≡◌, ℕ, ◌+◌, inl, inr, ◌<◌, ◌≤◌, Bool, true, false, not, ◌&&◌, ◌||◌, ◌==◌, nat_eq, ltb, leb, cond, List, [], ◌∷◌, length, refl, sym, ap, ◌∙◌, arith, zero, suc}
use Rattle.std.specs.Prelude.{nat_le, filter, Some, None}
use Rattle.std.specs.List.{range_with_len, AllByRecursion}
use Rattle.std.proofs.lemmas.Bool.Decides.{nat_tests, eqb_tells}
use Rattle.std.proofs.lemmas.Bool.{cases_lt, cases_eq, eq-eqb, ne_eqb}
use Rattle.script_tree.proofs.Lists.{any_cond, range_step}
use Rattle.signal_graph.specs.Graph.{is_in}
use Rattle.flow_model.specs.Machine.Sets.{put, take_out, least, IsSet}
use Rattle.flow_model.specs.Machine.Lists.{is_empty}
use Rattle.node_set.specs.Members.{first_from}

-- the numbers from a on, n of them, that pass
abbrev pub chosen : (ℕ → Bool) → ℕ → ℕ → List ℕ
chosen p a n = filter p (range_with_len a n)

pub in_chosen : (p : ℕ → Bool) (a n q : ℕ) → is_in q (chosen p a n) ≡ ((leb a q && ltb q (a + n)) && p q)
in_chosen p a zero q = grind (arith, nat_tests)
in_chosen p a (suc n) q =
    any_cond (λ y. nat_eq y q) (p a) a (chosen p (a + 1) n)
    ∙ ap (λ b. (p a && nat_eq a q) || b) (in_chosen p (a + 1) n q)
    ∙ range_step p a n q

-- tests that agree on the range choose the same
pub chosen-same : (p r : ℕ → Bool) (a n : ℕ) → ((q : ℕ) → a ≤ q → q < a + n → p q ≡ r q) → chosen p a n ≡ chosen r a n
chosen-same p r a zero h = refl
chosen-same p r a (suc n) h =
    let here = h a (omega arith) (omega arith) in
    let rest = chosen-same p r (a + 1) n (λ q from below. h q (omega arith) (omega arith)) in
    ap (λ b. cond b (a ∷ chosen p (a + 1) n) (chosen p (a + 1) n)) here ∙ ap (λ xs. cond (r a) (a ∷ xs) xs) rest

pub chosen-none : (p : ℕ → Bool) (a n : ℕ) → ((q : ℕ) → a ≤ q → q < a + n → p q ≡ false) → chosen p a n ≡ []
chosen-none p a zero h = refl
chosen-none p a (suc n) h =
    let here = h a (omega arith) (omega arith) in
    ap (λ b. cond b (a ∷ chosen p (a + 1) n) (chosen p (a + 1) n)) here ∙ chosen-none p (a + 1) n (λ q from below. h q (omega arith) (omega arith))

-- all that a range chooses is at or above its start
chosen-above : (p : ℕ → Bool) (x a n : ℕ) → x < a → AllByRecursion (λ y. x < y) (chosen p a n)
chosen-above p x a zero h = tt
chosen-above p x a (suc n) h = go (p a) (chosen-above p x (a + 1) n (omega arith))
  where
    go : (b : Bool) → AllByRecursion (λ y. x < y) (chosen p (a + 1) n) → AllByRecursion (λ y. x < y) (cond b (a ∷ chosen p (a + 1) n) (chosen p (a + 1) n))
    go true r = (h, r)
    go false r = r

pub chosen-IsSet : (p : ℕ → Bool) (a n : ℕ) → IsSet (chosen p a n)
chosen-IsSet p a zero = tt
chosen-IsSet p a (suc n) = go (p a) (chosen-IsSet p (a + 1) n)
  where
    go : (b : Bool) → IsSet (chosen p (a + 1) n) → IsSet (cond b (a ∷ chosen p (a + 1) n) (chosen p (a + 1) n))
    go true r = (chosen-above p a (a + 1) n (omega arith), r)
    go false r = r

-- ---- put

-- a number below all of a list goes before it
put-before : (q : ℕ) (xs : List ℕ) → AllByRecursion (λ y. q < y) xs → put q xs ≡ q ∷ xs
put-before q [] h = refl
put-before q (x ∷ xs) h = let l = h.0 in grind (arith, nat_tests)

put-there : (q : ℕ) (xs : List ℕ) → put q (q ∷ xs) ≡ q ∷ xs
put-there q xs = grind (arith, nat_tests)

put-behind : (q a : ℕ) (xs : List ℕ) → a < q → put q (a ∷ xs) ≡ a ∷ put q xs
put-behind q a xs h = grind (arith, nat_tests)

pub put-chosen : (p : ℕ → Bool) (a n q : ℕ) → a ≤ q → q < a + n → put q (chosen p a n) ≡ chosen (λ y. (y == q) || p y) a n
put-chosen p a zero q from below = absurd (omega arith)
put-chosen p a (suc n) q from below = elim (cases_eq a q) [
  | inl same ↦
      let above : AllByRecursion (λ y. q < y) (chosen p (a + 1) n) = chosen-above p q (a + 1) n (omega arith) in
      let rest : chosen (λ y. (y == q) || p y) (a + 1) n ≡ chosen p (a + 1) n = chosen-same _ _ (a + 1) n (λ y lo hi. ap (λ b. b || p y) (ne_eqb y q (λ e. absurd (omega arith)))) in
      put-first (p a) same above ∙ sym (ap (λ b. cond (b || p a) (a ∷ chosen (λ y. (y == q) || p y) (a + 1) n) (chosen (λ y. (y == q) || p y) (a + 1) n)) (eq-eqb a q same) ∙ ap (λ xs. a ∷ xs) rest)
  | inr other ↦
      let rest = put-chosen p (a + 1) n q (omega arith) (omega arith) in
      put-later (p a) (omega arith) ∙ ap (λ xs. cond (p a) (a ∷ xs) xs) rest ∙ sym (ap (λ b. cond (b || p a) (a ∷ chosen (λ y. (y == q) || p y) (a + 1) n) (chosen (λ y. (y == q) || p y) (a + 1) n)) (ne_eqb a q other))
]
  where
    put-first : (b : Bool) → a ≡ q → AllByRecursion (λ y. q < y) (chosen p (a + 1) n) → put q (cond b (a ∷ chosen p (a + 1) n) (chosen p (a + 1) n)) ≡ a ∷ chosen p (a + 1) n
    put-first true same above = ap (λ x. put q (x ∷ chosen p (a + 1) n)) same ∙ put-there q (chosen p (a + 1) n) ∙ ap (λ x. x ∷ chosen p (a + 1) n) (sym same)
    put-first false same above = put-before q (chosen p (a + 1) n) above ∙ ap (λ x. x ∷ chosen p (a + 1) n) (sym same)

    put-later : (b : Bool) → a < q → put q (cond b (a ∷ chosen p (a + 1) n) (chosen p (a + 1) n)) ≡ cond b (a ∷ put q (chosen p (a + 1) n)) (put q (chosen p (a + 1) n))
    put-later true h = put-behind q a (chosen p (a + 1) n) h
    put-later false h = refl

-- ---- take_out

pub take_out-chosen : (p : ℕ → Bool) (a n q : ℕ) → take_out q (chosen p a n) ≡ chosen (λ y. not (y == q) && p y) a n
take_out-chosen p a zero q = refl
take_out-chosen p a (suc n) q = step (p a) (a == q) ∙ ap (λ xs. cond (not (a == q) && p a) (a ∷ xs) xs) (take_out-chosen p (a + 1) n q)
  where
    step : (b e : Bool) → take_out q (cond b (a ∷ chosen p (a + 1) n) (chosen p (a + 1) n)) ≡ cond (not (a == q) && b) (a ∷ take_out q (chosen p (a + 1) n)) (take_out q (chosen p (a + 1) n))
    step true e = grind (arith, nat_tests)
    step false e = grind (arith, nat_tests)

-- ---- lengths

pub length-put : (q : ℕ) (xs : List ℕ) → is_in q xs ≡ false → length (put q xs) ≡ suc (length xs)
length-put q [] h = refl
length-put q (x ∷ xs) h = let r = length-put q xs in grind (arith, eqb_tells, r)

pub put-in : (q : ℕ) (xs : List ℕ) → IsSet xs → is_in q xs ≡ true → put q xs ≡ xs
put-in q [] ok h = grind arith
put-in q (x ∷ xs) ok h = let r = put-in q xs ok.1 in let m = in-above q x xs ok.0 in grind (arith, eqb_tells, nat_tests, r, m)
  where
    in-above : (q x : ℕ) (xs : List ℕ) → AllByRecursion (λ y. x < y) xs → is_in q xs ≡ true → x < q
    in-above q x [] all h = grind arith
    in-above q x (y ∷ ys) all h = let r = in-above q x ys all.1 in let l = all.0 in grind (arith, eqb_tells, nat_tests, r, l)

pub take_out-missing : (q : ℕ) (xs : List ℕ) → is_in q xs ≡ false → take_out q xs ≡ xs
take_out-missing q [] h = refl
take_out-missing q (x ∷ xs) h = let r = take_out-missing q xs in grind (arith, eqb_tells, r)

-- ---- the first from a number on

pub first_from-is : (p : ℕ → Bool) (a n from q : ℕ) → a ≤ q → q < a + n → p q ≡ true → from ≤ q → ((y : ℕ) → from ≤ y → y < q → p y ≡ false) → first_from from (chosen p a n) ≡ Some q
first_from-is p a zero from q lo hi h at least = absurd (omega arith)
first_from-is p a (suc n) from q lo hi h at least = elim (cases_eq a q) [
  | inl same ↦ here (p a) (ap p same ∙ h) same
  | inr other ↦ later (p a) refl (omega arith) (first_from-is p (a + 1) n from q (omega arith) (omega arith) h at least)
]
  where
    here : (b : Bool) → b ≡ true → a ≡ q → first_from from (cond b (a ∷ chosen p (a + 1) n) (chosen p (a + 1) n)) ≡ Some q
    here true e same = grind (arith, nat_tests)
    here false e same = grind arith

    skip : (p a ≡ true) → a < q → nat_le from a ≡ false
    skip e l = elim (cases_lt a from) [ inl below ↦ grind (arith, nat_tests) | inr above ↦ let f = least a above l in grind arith ]

    later : (b : Bool) → p a ≡ b → a < q → first_from from (chosen p (a + 1) n) ≡ Some q → first_from from (cond b (a ∷ chosen p (a + 1) n) (chosen p (a + 1) n)) ≡ Some q
    later true e l r = let s = skip e l in grind (arith, s, r)
    later false e l r = r

pub first_from-none : (p : ℕ → Bool) (a n from : ℕ) → ((y : ℕ) → from ≤ y → y < a + n → p y ≡ false) → first_from from (chosen p a n) ≡ None
first_from-none p a zero from none = refl
first_from-none p a (suc n) from none = go (p a) refl (first_from-none p (a + 1) n from (λ y at below. none y at (omega arith)))
  where
    skip : p a ≡ true → nat_le from a ≡ false
    skip e = elim (cases_lt a from) [ inl below ↦ grind (arith, nat_tests) | inr above ↦ let f = none a above (omega arith) in grind arith ]

    go : (b : Bool) → p a ≡ b → first_from from (chosen p (a + 1) n) ≡ None → first_from from (cond b (a ∷ chosen p (a + 1) n) (chosen p (a + 1) n)) ≡ None
    go true e r = let s = skip e in grind (arith, s, r)
    go false e r = r

pub first_from-zero : (xs : List ℕ) → first_from 0 xs ≡ least xs
first_from-zero [] = refl
first_from-zero (x ∷ xs) = grind (arith, nat_tests)

pub empty-length : (xs : List ℕ) → is_empty xs ≡ (length xs == 0)
empty-length [] = refl
empty-length (x ∷ xs) = grind (arith, nat_tests)

pub length-chosen : (p : ℕ → Bool) (a n : ℕ) → length (chosen p a n) ≤ n
length-chosen p a zero = omega arith
length-chosen p a (suc n) = go (p a) (length-chosen p (a + 1) n)
  where
    go : (b : Bool) → length (chosen p (a + 1) n) ≤ n → length (cond b (a ∷ chosen p (a + 1) n) (chosen p (a + 1) n)) ≤ suc n
    go true r = omega (arith, r)
    go false r = omega (arith, r)
