-- Some member of a list passes a test, or none does; all do, or one doesn't; and equal tests of members are equal of the list.
use Rattle.std.proofs.Common.{◌≡◌, ℕ, zero, suc, ◌<◌, Bool, true, false, ◌||◌, ◌==◌, ◌⊎◌, inl, inr, refl, sym, ap, arith, List, [], ◌∷◌, true≢false, ◌∙◌, subst, Option, Some, None}
use Rattle.std.proofs.lemmas.Bool.{or_cases, or_left, or_right, and_parts, eqb-true, eq-eqb, false_from_ne_true, both_ways}
use Rattle.std.specs.Prelude.{filter, take, slice_get}
use Rattle.std.specs.List.{list_any, list_all}
use Rattle.signal_graph.specs.Graph.{is_in}
use Rattle.flow_model.specs.Machine.Words.{is_some_of}

-- ---- some member passes, or none does

pub any-in : (test : ℕ → Bool) (xs : List ℕ) (m : ℕ) → is_in m xs ≡ true → test m ≡ true → list_any test xs ≡ true
any-in test [] m h k = absurd (true≢false (sym h))
any-in test (x ∷ xs) m h k = go (or_cases _ _ h) (any-in test xs m)
  where
    go : ((x == m) ≡ true) ⊎ (is_in m xs ≡ true) → (is_in m xs ≡ true → test m ≡ true → list_any test xs ≡ true) → list_any test (x ∷ xs) ≡ true
    go (inl e) further = or_left _ _ (subst (λ (w : ℕ). test w ≡ true) (sym (eqb-true x m e)) k)
    go (inr e) further = or_right _ _ (further e k)

-- a member that passes
pub record AnyIn (test : ℕ → Bool) (ns : List ℕ) : Type 0 where
  pub one : ℕ
  pub there : is_in one ns ≡ true
  pub passes : test one ≡ true

pub any-one : (test : ℕ → Bool) (ns : List ℕ) → list_any test ns ≡ true → AnyIn test ns
any-one test [] h = absurd (true≢false (sym h))
any-one test (n ∷ ns) h = go (or_cases _ _ h) (any-one test ns)
  where
    go : (test n ≡ true) ⊎ (list_any test ns ≡ true) → (list_any test ns ≡ true → AnyIn test ns) → AnyIn test (n ∷ ns)
    go (inl k) further = record { one = n; there = or_left _ _ (eq-eqb n n refl); passes = k }
    go (inr k) further = let r = further k in record { one = r.one; there = or_right _ _ r.there; passes = r.passes }

pub any-some : (test : ℕ → Bool) (xs : List ℕ) → list_any test xs ≡ true → (m : ℕ) × (test m ≡ true)
any-some test xs k = let r = any-one test xs k in (r.one, r.passes)

pub any-none : (test : ℕ → Bool) (ns : List ℕ) (m : ℕ) → list_any test ns ≡ false → is_in m ns ≡ true → test m ≡ false
any-none test ns m h k = false_from_ne_true _ (λ x. both_ways _ h (any-in test ns m k x))

pub any-false : (test : ℕ → Bool) (ns : List ℕ) → ((m : ℕ) → is_in m ns ≡ true → test m ≡ false) → list_any test ns ≡ false
any-false test ns f = false_from_ne_true _ (λ k. let o = any-one test ns k in both_ways _ (f o.one o.there) o.passes)

pub any-more : (test test2 : ℕ → Bool) (xs : List ℕ) → ((m : ℕ) → test m ≡ true → test2 m ≡ true) → list_any test xs ≡ true → list_any test2 xs ≡ true
any-more test test2 [] f h = h
any-more test test2 (x ∷ xs) f h = go (or_cases _ _ h) (any-more test test2 xs f)
  where
    go : (test x ≡ true) ⊎ (list_any test xs ≡ true) → (list_any test xs ≡ true → list_any test2 xs ≡ true) → list_any test2 (x ∷ xs) ≡ true
    go (inl k) further = or_left _ _ (f x k)
    go (inr k) further = or_right _ _ (further k)

pub any-alike : (test other : ℕ → Bool) (ns : List ℕ) → ((m : ℕ) → is_in m ns ≡ true → test m ≡ other m) → list_any test ns ≡ list_any other ns
any-alike test other [] e = refl
any-alike test other (n ∷ ns) e = ap (λ (b : Bool). b || list_any test ns) (e n (or_left _ _ (eq-eqb n n refl))) ∙ ap (λ (b : Bool). other n || b) (any-alike test other ns (λ m k. e m (or_right _ _ k)))

pub only : (a : Bool) → (a || false) ≡ true → a ≡ true
only true k = refl
only false k = k

-- ---- all members pass

pub all-in : (test : ℕ → Bool) (xs : List ℕ) (m : ℕ) → list_all test xs ≡ true → is_in m xs ≡ true → test m ≡ true
all-in test [] m a h = absurd (true≢false (sym h))
all-in test (x ∷ xs) m a h = go (and_parts (test x) (list_all test xs) a) (or_cases _ _ h) (all-in test xs m)
  where
    go : (test x ≡ true) × (list_all test xs ≡ true) → ((x == m) ≡ true) ⊎ (is_in m xs ≡ true) → (list_all test xs ≡ true → is_in m xs ≡ true → test m ≡ true) → test m ≡ true
    go b (inl e) further = subst (λ (w : ℕ). test w ≡ true) (eqb-true x m e) b.0
    go b (inr e) further = further b.1 e

-- ---- parts of a list

pub in-filter : (test : ℕ → Bool) (ns : List ℕ) (n : ℕ) → is_in n ns ≡ true → test n ≡ true → is_in n (filter test ns) ≡ true
in-filter test [] n h k = h
in-filter test (x ∷ ns) n h k = go (test x) refl (or_cases _ _ h) (in-filter test ns n)
  where
    go : (b : Bool) → test x ≡ b → ((x == n) ≡ true) ⊎ (is_in n ns ≡ true) → (is_in n ns ≡ true → test n ≡ true → is_in n (filter test ns) ≡ true) → is_in n (filter test (x ∷ ns)) ≡ true
    go true e (inl w) further = grind (arith, e, w)
    go true e (inr w) further = let f = further w k in grind (arith, e, f)
    go false e (inl w) further = absurd (both_ways _ e (subst (λ (v : ℕ). test v ≡ true) (sym (eqb-true x n w)) k))
    go false e (inr w) further = let f = further w k in grind (arith, e, f)

pub get-take : (xs : List ℕ) (k j m : ℕ) → slice_get xs k ≡ Some m → k < j → is_in m (take j xs) ≡ true
get-take [] k j m h l = cc
get-take (x ∷ xs) k zero m h l = absurd (omega (arith, l))
get-take (x ∷ xs) zero (suc j) m h l = or_left _ _ (eq-eqb x m (same h))
  where
    same : Some x ≡ Some m → x ≡ m
    same e = cc
get-take (x ∷ xs) (suc k) (suc j) m h l = or_right (x == m) (is_in m (take j xs)) (get-take xs k j m h (omega (arith, l)))

-- ---- a number, or none

pub some-is : (o : Option ℕ) (t : ℕ) → is_some_of o t ≡ true → o ≡ Some t
some-is None t h = absurd (true≢false (sym h))
some-is (Some u) t h = ap (λ (v : ℕ). Some v) (eqb-true u t h)

pub is-some : (o : Option ℕ) (t : ℕ) → o ≡ Some t → is_some_of o t ≡ true
is-some o t e = subst (λ (x : Option ℕ). is_some_of x t ≡ true) (sym e) (eq-eqb t t refl)

pub some-same : (a b : ℕ) → Some a ≡ Some b → a ≡ b
some-same a b h = cc
