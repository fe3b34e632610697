-- Going over an ascending list from one node to the next, and what a list of calls says of the least that passes a test.
use Rattle.std.proofs.Common.{◌≡◌, ℕ, ◌+◌, ◌<◌, ◌≤◌, Bool, true, false, not, ◌||◌, List, [], ◌∷◌, Option, Some, None, refl, sym, ap, ◌∙◌, arith, subst, true≢false}
use Rattle.std.specs.Prelude.{nat_le, is_none, is_some}
use Rattle.std.specs.List.{list_any, AllByRecursion}
use Rattle.std.proofs.lemmas.Bool.Decides.{nat_tests}
use Rattle.std.proofs.lemmas.Bool.{or_left, or_right, eq-eqb}
use Rattle.signal_graph.specs.Graph.{is_in}
use Rattle.node_set.specs.Members.{first_from}
use Rattle.flow_model.specs.Machine.Sets.{IsSet}

-- the nodes of an ascending list from the first one at or above a node on
abbrev pub nodes_from : ℕ → List ℕ → List ℕ
nodes_from n [] = []
nodes_from n (x ∷ xs) = elim (nat_le n x) [ true ↦ x ∷ xs | false ↦ nodes_from n xs ]

pub all_nodes : (xs : List ℕ) → nodes_from 0 xs ≡ xs
all_nodes [] = refl
all_nodes (x ∷ xs) = let k : nat_le 0 x ≡ true = grind (arith, nat_tests) in ap (λ (b : Bool). elim b as (λ _. List ℕ) [ true ↦ x ∷ xs | false ↦ nodes_from 0 xs ]) k

pub from_in : (n : ℕ) (xs : List ℕ) (m : ℕ) → first_from n xs ≡ Some m → is_in m xs ≡ true
from_in n [] m h = absurd (cc)
from_in n (x ∷ xs) m h = go (nat_le n x) h (from_in n xs m)
  where
    go : (b : Bool) → elim b as (λ _. Option ℕ) [ true ↦ Some x | false ↦ first_from n xs ] ≡ Some m → (first_from n xs ≡ Some m → is_in m xs ≡ true) → is_in m (x ∷ xs) ≡ true
    go true e r = or_left _ _ (eq-eqb x m (cc))
    go false e r = or_right _ _ (r e)

pub from_above : (n : ℕ) (xs : List ℕ) (m : ℕ) → first_from n xs ≡ Some m → n ≤ m
from_above n [] m h = absurd (cc)
from_above n (x ∷ xs) m h = go (nat_le n x) refl h (from_above n xs m)
  where
    go : (b : Bool) → nat_le n x ≡ b → elim b as (λ _. Option ℕ) [ true ↦ Some x | false ↦ first_from n xs ] ≡ Some m → (first_from n xs ≡ Some m → n ≤ m) → n ≤ m
    go true k e r = let same : x ≡ m = cc in grind (arith, nat_tests, k, same)
    go false k e r = r e

next-whole : (x : ℕ) (xs : List ℕ) → AllByRecursion (λ y. x < y) xs → nodes_from (x + 1) xs ≡ xs
next-whole x [] a = refl
next-whole x (y ∷ ys) a = let l = a.0 in let k : nat_le (x + 1) y ≡ true = grind (arith, nat_tests, l) in ap (λ (b : Bool). elim b as (λ _. List ℕ) [ true ↦ y ∷ ys | false ↦ nodes_from (x + 1) ys ]) k

past-one : (m x : ℕ) (xs : List ℕ) → x < m + 1 → nodes_from (m + 1) (x ∷ xs) ≡ nodes_from (m + 1) xs
past-one m x xs l = let k : nat_le (m + 1) x ≡ false = grind (arith, nat_tests, l) in ap (λ (b : Bool). elim b as (λ _. List ℕ) [ true ↦ x ∷ xs | false ↦ nodes_from (m + 1) xs ]) k

-- what comes from a node on is the first one there, and what comes behind it
pub from_splits : (n : ℕ) (xs : List ℕ) (m : ℕ) → IsSet xs → first_from n xs ≡ Some m → nodes_from n xs ≡ m ∷ nodes_from (m + 1) xs
from_splits n [] m a h = absurd (cc)
from_splits n (x ∷ xs) m a h = go (nat_le n x) refl h (from_splits n xs m a.1)
  where
    go : (b : Bool) → nat_le n x ≡ b → elim b as (λ _. Option ℕ) [ true ↦ Some x | false ↦ first_from n xs ] ≡ Some m → (first_from n xs ≡ Some m → nodes_from n xs ≡ m ∷ nodes_from (m + 1) xs)
        → elim b as (λ _. List ℕ) [ true ↦ x ∷ xs | false ↦ nodes_from n xs ] ≡ m ∷ nodes_from (m + 1) (x ∷ xs)
    go true k e r = subst (λ (j : ℕ). x ∷ xs ≡ j ∷ nodes_from (j + 1) (x ∷ xs)) (cc) (ap (λ (ys : List ℕ). x ∷ ys) (sym (past-one x x xs (omega arith) ∙ next-whole x xs a.0)))
    go false k e r = let above = from_above n xs m e in r e ∙ ap (λ (ys : List ℕ). m ∷ ys) (sym (past-one m x xs (grind (arith, nat_tests, k, above))))

pub from_none : (n : ℕ) (xs : List ℕ) → first_from n xs ≡ None → nodes_from n xs ≡ []
from_none n [] h = refl
from_none n (x ∷ xs) h = go (nat_le n x) h (from_none n xs)
  where
    go : (b : Bool) → elim b as (λ _. Option ℕ) [ true ↦ Some x | false ↦ first_from n xs ] ≡ None → (first_from n xs ≡ None → nodes_from n xs ≡ []) → elim b as (λ _. List ℕ) [ true ↦ x ∷ xs | false ↦ nodes_from n xs ] ≡ []
    go true e r = absurd (cc)
    go false e r = r e

pub from_more : (test : ℕ → Bool) (n : ℕ) (xs : List ℕ) (m : ℕ) (whole : Bool) → IsSet xs → first_from n xs ≡ Some m → list_any test (nodes_from n xs) ≡ whole → test m ≡ false → list_any test (nodes_from (m + 1) xs) ≡ whole
from_more test n xs m whole a h so k = sym (ap (λ (b : Bool). b || list_any test (nodes_from (m + 1) xs)) k) ∙ sym (ap (list_any test) (from_splits n xs m a h)) ∙ so

pub from_found : (test : ℕ → Bool) (n : ℕ) (xs : List ℕ) (m : ℕ) (whole : Bool) → IsSet xs → first_from n xs ≡ Some m → list_any test (nodes_from n xs) ≡ whole → test m ≡ true → true ≡ whole
from_found test n xs m whole a h so k = sym (ap (λ (b : Bool). b || list_any test (nodes_from (m + 1) xs)) k) ∙ sym (ap (list_any test) (from_splits n xs m a h)) ∙ so

pub from_over : (test : ℕ → Bool) (n : ℕ) (xs : List ℕ) (whole : Bool) → first_from n xs ≡ None → list_any test (nodes_from n xs) ≡ whole → false ≡ whole
from_over test n xs whole h so = sym (ap (list_any test) (from_none n xs h)) ∙ so

-- ---- the least version

pub none_is : (o : Option ℕ) (r : Bool) → is_some o ≡ not r → r ≡ is_none o
none_is None true h = refl
none_is None false h = absurd (true≢false (sym h))
none_is (Some n) true h = absurd (true≢false h)
none_is (Some n) false h = refl
