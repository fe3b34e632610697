-- Which calls a list has after an entry is placed, gets another state, or ended entries are collected, and that each has one entry.
use Rattle.std.proofs.Common.{◌≡◌, ℕ, suc, ◌+◌, ◌≤◌, Bool, true, false, ◌&&◌, ◌||◌, not, ◌==◌, ◌⊎◌, ◌≢◌, inl, inr, refl, sym, ap, arith, List, [], ◌∷◌, ◌++◌, length, true≢false, ◌∙◌, subst, Option, Some, None}
use Rattle.std.specs.Prelude.{filter, if◌then◌else◌}
use Rattle.std.specs.List.{cons_option}
use Rattle.std.specs.Option.{option_or}
use Rattle.std.proofs.lemmas.Bool.Decides.{eqb_tells}
use Rattle.std.proofs.lemmas.Bool.{or_right, eqb-true, eq-eqb, false_from_ne_true, both_ways, cases_Bool}
use Rattle.node_versions.specs.declared.entry.State.{State}
use Rattle.node_versions.specs.declared.entry.Entry.{Entry}
use Rattle.node_versions.specs.Entries.{IsUnique, behind, is_done, has, at, front, rest, placed, only_done, last_done, collected}
use Rattle.node_versions.proofs.Lists.{has-append}
use Rattle.node_versions.proofs.KeptLemmas.{has-put}
use Rattle.node_versions.proofs.Collecting.{last_is_done}
use Rattle.flow_model.proofs.OneList.InOrder.{on_calls, front-rest, filter-has, last_done-has}
use Rattle.flow_model.proofs.OneList.StatesAndPlaces.{more-at, more-at_it}

-- ---- one entry more

pub placed-has : (stops : ℕ → Bool) (e : Entry) (es : List Entry) (u : ℕ) → has (placed (on_calls stops) e es) u ≡ ((e.version == u) || has es u)
placed-has stops e es u = has-put (front (on_calls stops) es) (rest (on_calls stops) es) e u ∙ ap (λ (xs : List Entry). (e.version == u) || has xs u) (front-rest stops es)

pub placed-at_other : (test : State → Bool) (stops : ℕ → Bool) (e : Entry) (es : List Entry) (u : ℕ) → u ≢ e.version → at test (placed (on_calls stops) e es) u ≡ at test es u
placed-at_other test stops e es u ne = more-at test (front (on_calls stops) es) (rest (on_calls stops) es) e u ne ∙ ap (λ (xs : List Entry). at test xs u) (front-rest stops es)

pub placed-at : (test : State → Bool) (stops : ℕ → Bool) (e : Entry) (es : List Entry) → has es e.version ≡ false → at test (placed (on_calls stops) e es) e.version ≡ test e.state
placed-at test stops e es h =
    let joined = front-rest stops es in
    let hx = has-append (front (on_calls stops) es) (rest (on_calls stops) es) e.version in
    let hj = ap (λ (xs : List Entry). has xs e.version) joined in
    more-at_it test (front (on_calls stops) es) (rest (on_calls stops) es) e (grind (arith, hx, hj, h))

more-unique : (xs ys : List Entry) (e : Entry) → has (xs ++ ys) e.version ≡ false → IsUnique (xs ++ ys) → IsUnique (xs ++ e ∷ ys)
more-unique [] ys e h q = (h, q)
more-unique (x ∷ xs) ys e h q =
    let r = has-put xs ys e x.version in
    let a = q.0 in
    ((grind (arith, eqb_tells, r, a, h)), more-unique xs ys e (tail h) q.1)
  where
    tail : ((x.version == e.version) || has (xs ++ ys) e.version) ≡ false → has (xs ++ ys) e.version ≡ false
    tail k = false_from_ne_true (has (xs ++ ys) e.version) (λ y. both_ways ((x.version == e.version) || has (xs ++ ys) e.version) k (or_right (x.version == e.version) (has (xs ++ ys) e.version) y))

pub placed-unique : (stops : ℕ → Bool) (e : Entry) (es : List Entry) → has es e.version ≡ false → IsUnique es → IsUnique (placed (on_calls stops) e es)
placed-unique stops e es h q =
    let joined = front-rest stops es in
    more-unique (front (on_calls stops) es) (rest (on_calls stops) es) e (ap (λ (xs : List Entry). has xs e.version) joined ∙ h) (subst IsUnique (sym joined) q)

more-length : (xs ys : List Entry) (e : Entry) → length (xs ++ e ∷ ys) ≡ suc (length (xs ++ ys))
more-length [] ys e = refl
more-length (x ∷ xs) ys e = ap suc (more-length xs ys e)

pub placed-length : (stops : ℕ → Bool) (e : Entry) (es : List Entry) → length (placed (on_calls stops) e es) ≡ suc (length es)
placed-length stops e es = more-length (front (on_calls stops) es) (rest (on_calls stops) es) e ∙ ap (λ (xs : List Entry). suc (length xs)) (front-rest stops es)

-- ---- another state

-- ---- what Collect leaves

pub filter-at : (test : State → Bool) (p : ℕ → Bool) (es : List Entry) (u : ℕ) → at test (filter (on_calls p) es) u ≡ (p u && at test es u)
filter-at test p [] u = grind arith
filter-at test p (e ∷ es) u = let r = filter-at test p es u in grind (arith, eqb_tells, r)

pub filter-unique : (p : ℕ → Bool) (es : List Entry) → IsUnique es → IsUnique (filter (on_calls p) es)
filter-unique p [] q = tt
filter-unique p (e ∷ es) q = go (p e.version) (filter-unique p es q.1)
  where
    absent : has (filter (on_calls p) es) e.version ≡ false
    absent = false_from_ne_true _ (λ y. both_ways _ q.0 (filter-has p es e.version y).0)

    go : (b : Bool) → IsUnique (filter (on_calls p) es) → IsUnique (if b then e ∷ filter (on_calls p) es else filter (on_calls p) es)
    go true r = (absent, r)
    go false r = r

filter-length : (p : Entry → Bool) (es : List Entry) → length (filter p es) ≤ length es
filter-length p [] = omega arith
filter-length p (e ∷ es) = go (p e) (filter-length p es)
  where
    go : (b : Bool) → length (filter p es) ≤ length es → length (if b then e ∷ filter p es else filter p es) ≤ suc (length es)
    go true r = omega (arith, r)
    go false r = omega (arith, r)

-- how many entries end and how many don't
both-lengths : (p : Entry → Bool) (es : List Entry) → length (filter p es) + length (filter (λ e. not (p e)) es) ≡ length es
both-lengths p [] = refl
both-lengths p (e ∷ es) = go (p e) (both-lengths p es)
  where
    go : (b : Bool) → length (filter p es) + length (filter (λ e. not (p e)) es) ≡ length es → length (if b then e ∷ filter p es else filter p es) + length (if not b then e ∷ filter (λ e. not (p e)) es else filter (λ e. not (p e)) es) ≡ suc (length es)
    go true r = omega (arith, r)
    go false r = omega (arith, r)

last_done-some : (es : List Entry) (x : Entry) → last_done es ≡ Some x → 1 ≤ length es
last_done-some [] x h = cc
last_done-some (e ∷ es) x h = omega arith

pub collected-length : (ended : ℕ → Bool) (es : List Entry) → length (collected (on_calls ended) es) ≤ length es
collected-length ended es = go (last_done (filter (on_calls ended) es)) refl
  where
    go : (o : Option Entry) → last_done (filter (on_calls ended) es) ≡ o → length (cons_option o (filter (on_calls (λ v. not (ended v))) es)) ≤ length es
    go None e = filter-length (on_calls (λ v. not (ended v))) es
    go (Some x) e = let a = last_done-some (filter (on_calls ended) es) x e in let b = both-lengths (on_calls ended) es in omega (arith, a, b)

pub collected-unique : (ended : ℕ → Bool) (es : List Entry) → IsUnique es → IsUnique (collected (on_calls ended) es)
collected-unique ended es q = go (last_done (filter (on_calls ended) es)) refl
  where
    live : (v : ℕ) → not (ended v) ≡ true → ended v ≡ true → ⊥
    live v k j = grind (arith, k, j)

    go : (o : Option Entry) → last_done (filter (on_calls ended) es) ≡ o → IsUnique (cons_option o (filter (on_calls (λ v. not (ended v))) es))
    go None e = filter-unique (λ v. not (ended v)) es q
    go (Some x) e = (false_from_ne_true _ (λ y. live x.version (filter-has (λ v. not (ended v)) es x.version y).1 (filter-has ended es x.version (last_done-has (filter (on_calls ended) es) x e)).1), filter-unique (λ v. not (ended v)) es q)

-- the last Done is an entry of the list, and a Done
pub only_done-is : (e x : Entry) → only_done e ≡ Some x → (x ≡ e) × (is_done e.state ≡ true)
only_done-is e x h = go (is_done e.state) refl h
  where
    go : (b : Bool) → is_done e.state ≡ b → elim b as (λ _. Option Entry) [ true ↦ Some e | false ↦ None ] ≡ Some x → (x ≡ e) × (is_done e.state ≡ true)
    go true d k = (cc, d)
    go false d k = (cc, cc)

pub last_done-at : (test : State → Bool) (es : List Entry) (x : Entry) → IsUnique es → last_done es ≡ Some x → at test es x.version ≡ test x.state
last_done-at test [] x q h = cc
last_done-at test (e ∷ es) x q h = go (last_done es) refl h (last_done-at test es x q.1)
  where
    go : (o : Option Entry) → last_done es ≡ o → option_or o (only_done e) ≡ Some x → (last_done es ≡ Some x → at test es x.version ≡ test x.state) → at test (e ∷ es) x.version ≡ test x.state
    go None k j further = let s = (only_done-is e x j).0 in subst (λ (y : Entry). at test (e ∷ es) y.version ≡ test y.state) (sym s) (let w = eq-eqb e.version e.version refl in rw (w, at) refl)
    go (Some y) k j further =
        let f = further (k ∙ j) in
        let hx = last_done-has es x (k ∙ j) in
        let ne : (e.version == x.version) ≡ false = false_from_ne_true _ (λ w. both_ways _ q.0 (subst (λ (v : ℕ). has es v ≡ true) (sym (eqb-true e.version x.version w)) hx)) in
        rw (ne, at) f

-- What a collected list shows, the list showed before.
pub collected-at : (test : State → Bool) (ended : ℕ → Bool) (es : List Entry) (u : ℕ) → IsUnique es → at test (collected (on_calls ended) es) u ≡ true → at test es u ≡ true
collected-at test ended es u q h = go (last_done (filter (on_calls ended) es)) refl h
  where
    go : (o : Option Entry) → last_done (filter (on_calls ended) es) ≡ o → at test (cons_option o (filter (on_calls (λ v. not (ended v))) es)) u ≡ true → at test es u ≡ true
    go None e k = let f = filter-at test (λ v. not (ended v)) es u in grind (arith, f, k)
    go (Some x) e k = cases (cases_Bool (x.version == u))
      where
        cases : ((x.version == u) ≡ true) ⊎ ((x.version == u) ≡ false) → at test es u ≡ true
        cases (inl w) =
            let l = last_done-at test (filter (on_calls ended) es) x (filter-unique ended es q) e in
            let f = filter-at test ended es x.version in
            let k2 : test x.state ≡ true = rw (w, at) at k in
            subst (λ (v : ℕ). at test es v ≡ true) (eqb-true x.version u w) (grind (arith, l, f, k2))
        cases (inr w) = let f = filter-at test (λ v. not (ended v)) es u in let k2 : at test (filter (on_calls (λ v. not (ended v))) es) u ≡ true = rw (w, at) at k in grind (arith, f, k2)

-- A Done among the ended ones stays in some entry of an ended call.
pub collected-done : (ended : ℕ → Bool) (es : List Entry) (u : ℕ) → ended u ≡ true → at is_done es u ≡ true → (v : ℕ) × (ended v ≡ true) × (at is_done (collected (on_calls ended) es) v ≡ true)
collected-done ended es u x d = go (last_done (filter (on_calls ended) es)) refl
  where
    there : (xs : List Entry) → last_done xs ≡ None → at is_done xs u ≡ true → ⊥
    there [] e k = true≢false (sym k)
    there (y ∷ ys) e k = more (last_done ys) refl e k (there ys)
      where
        more : (o : Option Entry) → last_done ys ≡ o → option_or o (only_done y) ≡ None → at is_done (y ∷ ys) u ≡ true → (last_done ys ≡ None → at is_done ys u ≡ true → ⊥) → ⊥
        more (Some z) a b c f = cc
        more None a b c f = last (is_done y.state) refl (y.version == u) refl
          where
            last : (p : Bool) → is_done y.state ≡ p → (w : Bool) → (y.version == u) ≡ w → ⊥
            last true g w i = cc
            last false g true i = both_ways _ g (rw (i, at) at c)
            last false g false i = f a (rw (i, at) at c)

    go : (o : Option Entry) → last_done (filter (on_calls ended) es) ≡ o → (v : ℕ) × (ended v ≡ true) × (at is_done (cons_option o (filter (on_calls (λ v. not (ended v))) es)) v ≡ true)
    go None e = let f = filter-at is_done ended es u in absurd (there (filter (on_calls ended) es) e (grind (arith, f, x, d)))
    go (Some y) e = (y.version, (filter-has ended es y.version (last_done-has (filter (on_calls ended) es) y e)).1, (let w = eq-eqb y.version y.version refl in rw (w, at) (last_is_done (filter (on_calls ended) es) y e)))

-- ---- in which order a collected list stands

pub filter-has_both : (p : ℕ → Bool) (es : List Entry) (v : ℕ) → has (filter (on_calls p) es) v ≡ (p v && has es v)
filter-has_both p [] v = grind arith
filter-has_both p (e ∷ es) v = let r = filter-has_both p es v in grind (arith, eqb_tells, r)

pub filter-behind : (p : ℕ → Bool) (es : List Entry) (u v : ℕ) → behind (filter (on_calls p) es) u v ≡ ((p u && p v) && behind es u v)
filter-behind p [] u v = grind arith
filter-behind p (e ∷ es) u v = let r = filter-behind p es u v in let h = filter-has_both p es v in grind (arith, eqb_tells, r, h)

-- Of a call that has not ended, a collected list shows what the list showed.
pub collected-at_live : (test : State → Bool) (ended : ℕ → Bool) (es : List Entry) (u : ℕ) → ended u ≡ false → at test (collected (on_calls ended) es) u ≡ at test es u
collected-at_live test ended es u h = go (last_done (filter (on_calls ended) es)) refl
  where
    shown : at test (filter (on_calls (λ v. not (ended v))) es) u ≡ at test es u
    shown = let f = filter-at test (λ v. not (ended v)) es u in grind (arith, f, h)

    go : (o : Option Entry) → last_done (filter (on_calls ended) es) ≡ o → at test (cons_option o (filter (on_calls (λ v. not (ended v))) es)) u ≡ at test es u
    go None e = shown
    go (Some x) e =
        let hx = (filter-has ended es x.version (last_done-has (filter (on_calls ended) es) x e)).1 in
        let ne : (x.version == u) ≡ false = false_from_ne_true _ (λ w. both_ways _ h (subst (λ (v : ℕ). ended v ≡ true) (eqb-true x.version u w) hx)) in
        rw (ne, at) shown

pub collected-behind_live : (ended : ℕ → Bool) (es : List Entry) (u v : ℕ) → ended u ≡ false → behind (collected (on_calls ended) es) u v ≡ true → behind es u v ≡ true
collected-behind_live ended es u v h k = go (last_done (filter (on_calls ended) es)) refl k
  where
    shown : behind (filter (on_calls (λ v. not (ended v))) es) u v ≡ true → behind es u v ≡ true
    shown j = let f = filter-behind (λ v. not (ended v)) es u v in grind (arith, f, j)

    go : (o : Option Entry) → last_done (filter (on_calls ended) es) ≡ o → behind (cons_option o (filter (on_calls (λ v. not (ended v))) es)) u v ≡ true → behind es u v ≡ true
    go None e j = shown j
    go (Some x) e j =
        let hx = (filter-has ended es x.version (last_done-has (filter (on_calls ended) es) x e)).1 in
        let ne : (x.version == u) ≡ false = false_from_ne_true _ (λ w. both_ways _ h (subst (λ (v : ℕ). ended v ≡ true) (eqb-true x.version u w) hx)) in
        shown (rw (ne, behind) at j)
