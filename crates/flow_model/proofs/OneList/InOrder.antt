-- A list of which each call is before those behind it stays so where an entry is put at its place.
use Rattle.std.proofs.Common.{◌≡◌, ℕ, Bool, true, false, not, ◌||◌, ◌==◌, ◌⊎◌, inl, inr, refl, sym, ap, arith, List, [], ◌∷◌, ◌++◌, true≢false, ◌∙◌, subst, Option, Some, None}
use Rattle.std.specs.Prelude.{filter, if◌then◌else◌}
use Rattle.std.specs.List.{cons_option}
use Rattle.std.specs.Option.{option_or}
use Rattle.std.proofs.lemmas.Bool.Decides.{eqb_tells}
use Rattle.std.proofs.lemmas.Bool.{or_cases, or_left, or_right, eqb-true, eq-eqb, cases_Bool}
use Rattle.node_versions.specs.declared.entry.State.{State}
use Rattle.node_versions.specs.declared.entry.Entry.{Entry}
use Rattle.node_versions.specs.Entries.{has, behind, front, rest, placed, with_state, is_done, last_done, only_done, collected}
use Rattle.node_versions.proofs.Lists.{has-append}
use Rattle.node_versions.proofs.KeptLemmas.{has-with_state}
use Rattle.flow_model.specs.Machine.Changes.{first_version, last_version}

-- a test of calls as a test of entries
abbrev pub on_calls : (ℕ → Bool) → Entry → Bool
on_calls stops e = stops e.version

-- P of the call of each entry
abbrev pub Each : (ℕ → Type 0) → List Entry → Type 0
Each P es = (u : ℕ) → has es u ≡ true → P u

-- Each call stands in the relation to each call behind it.
abbrev pub Ascends : (ℕ → ℕ → Type 0) → List Entry → Type 0
Ascends R [] = Unit {0}
Ascends R (e ∷ es) = Each (R e.version) es × Ascends R es

pub front-rest : (stops : ℕ → Bool) (es : List Entry) → front (on_calls stops) es ++ rest (on_calls stops) es ≡ es
front-rest stops [] = refl
front-rest stops (e ∷ es) = let r = front-rest stops es in grind (arith, r)

-- No call of the front stops, and the head of the rest does.
pub front-goes : (stops : ℕ → Bool) (es : List Entry) (u : ℕ) → has (front (on_calls stops) es) u ≡ true → stops u ≡ false
front-goes stops [] u h = absurd (true≢false (sym h))
front-goes stops (e ∷ es) u h = let r = front-goes stops es u in grind (arith, r, eqb_tells)

pub rest-stops : (stops : ℕ → Bool) (es : List Entry) (u : ℕ) → first_version (rest (on_calls stops) es) ≡ Some u → stops u ≡ true
rest-stops stops [] u h = cc
rest-stops stops (e ∷ es) u h = let r = rest-stops stops es u in grind (arith, r)

pub Ascends-map : (R S : ℕ → ℕ → Type 0) → ((u v : ℕ) → R u v → S u v) → (es : List Entry) → Ascends R es → Ascends S es
Ascends-map R S f [] h = tt
Ascends-map R S f (e ∷ es) h = (λ v k. f e.version v (h.0 v k), Ascends-map R S f es h.1)

-- What is true of two joined lists.
Ascends-left : (R : ℕ → ℕ → Type 0) (xs ys : List Entry) → Ascends R (xs ++ ys) → Ascends R xs
Ascends-left R [] ys h = tt
Ascends-left R (e ∷ es) ys h = (λ v k. h.0 v (has-append es ys v ∙ or_left _ _ k), Ascends-left R es ys h.1)

pub Ascends-right : (R : ℕ → ℕ → Type 0) (xs ys : List Entry) → Ascends R (xs ++ ys) → Ascends R ys
Ascends-right R [] ys h = h
Ascends-right R (e ∷ es) ys h = Ascends-right R es ys h.1

pub Ascends-across : (R : ℕ → ℕ → Type 0) (xs ys : List Entry) (u v : ℕ) → Ascends R (xs ++ ys) → has xs u ≡ true → has ys v ≡ true → R u v
Ascends-across R [] ys u v h k l = absurd (true≢false (sym k))
Ascends-across R (e ∷ es) ys u v h k l = go (or_cases _ _ k) (λ x. Ascends-across R es ys u v h.1 x l)
  where
    go : ((e.version == u) ≡ true) ⊎ (has es u ≡ true) → (has es u ≡ true → R u v) → R u v
    go (inl x) further = subst (λ (w : ℕ). R w v) (eqb-true _ _ x) (h.0 v (has-append es ys v ∙ or_right _ _ l))
    go (inr x) further = further x

-- An entry between two parts.
Ascends-put : (R : ℕ → ℕ → Type 0) (e : Entry) (xs ys : List Entry) → Ascends R (xs ++ ys) → Each (λ u. R u e.version) xs → Each (R e.version) ys → Ascends R (xs ++ e ∷ ys)
Ascends-put R e [] ys h f b = (b, h)
Ascends-put R e (x ∷ xs) ys h f b = (λ v k. go v (or_cases _ _ (sym (has-append xs (e ∷ ys) v) ∙ k)), Ascends-put R e xs ys h.1 (λ u k. f u (or_right _ _ k)) b)
  where
    go : (v : ℕ) → (has xs v ≡ true) ⊎ (((e.version == v) || has ys v) ≡ true) → R x.version v
    go v (inl k) = h.0 v (has-append xs ys v ∙ or_left _ _ k)
    go v (inr k) = last v (or_cases _ _ k)
      where
        last : (v : ℕ) → ((e.version == v) ≡ true) ⊎ (has ys v ≡ true) → R x.version v
        last v (inl l) = subst (R x.version) (eqb-true _ _ l) (f x.version (or_left _ _ (eq-eqb x.version x.version refl)))
        last v (inr l) = h.0 v (has-append xs ys v ∙ or_right _ _ l)

-- What stands in the relation to the neighbour stands in it to all beyond it.
abbrev pub IsTransitive : (ℕ → ℕ → Type 0) → Type 0
IsTransitive R = (u v w : ℕ) → R u v → R v w → R u w

Each-rest : (R : ℕ → ℕ → Type 0) → IsTransitive R → (t : ℕ) (ys : List Entry) → Ascends R ys → ((v : ℕ) → first_version ys ≡ Some v → R t v) → Each (R t) ys
Each-rest R trans t [] h n u k = absurd (true≢false (sym k))
Each-rest R trans t (e ∷ es) h n u k = go (or_cases _ _ k)
  where
    go : ((e.version == u) ≡ true) ⊎ (has es u ≡ true) → R t u
    go (inl x) = subst (R t) (eqb-true _ _ x) (n e.version refl)
    go (inr x) = trans t e.version u (n e.version refl) (h.0 u x)

Each-from : (R : ℕ → ℕ → Type 0) → IsTransitive R → (t : ℕ) (e : Entry) (xs : List Entry) → Ascends R (e ∷ xs) → ((v : ℕ) → last_version (Some e.version) xs ≡ Some v → R v t) → R e.version t
Each-from R trans t e [] h n = n e.version refl
Each-from R trans t e (x ∷ xs) h n = trans e.version x.version t (h.0 x.version (or_left _ _ (eq-eqb x.version x.version refl))) (Each-from R trans t x xs h.1 n)

Each-front : (R : ℕ → ℕ → Type 0) → IsTransitive R → (t : ℕ) (xs : List Entry) (seen : Option ℕ) → Ascends R xs → ((v : ℕ) → last_version seen xs ≡ Some v → R v t) → Each (λ u. R u t) xs
Each-front R trans t [] seen h n u k = absurd (true≢false (sym k))
Each-front R trans t (e ∷ es) seen h n u k = go (or_cases _ _ k) (Each-front R trans t es (Some e.version) h.1 n u)
  where
    go : ((e.version == u) ≡ true) ⊎ (has es u ≡ true) → (has es u ≡ true → R u t) → R u t
    go (inl x) further = subst (λ (w : ℕ). R w t) (eqb-true _ _ x) (Each-from R trans t e es h n)
    go (inr x) further = further x

-- The list with an entry put in at its place.
pub placed-Ascends : (R : ℕ → ℕ → Type 0) → IsTransitive R → (stops : ℕ → Bool) (e : Entry) (es : List Entry) → Ascends R es
    → ((v : ℕ) → last_version None (front (on_calls stops) es) ≡ Some v → R v e.version) → ((v : ℕ) → first_version (rest (on_calls stops) es) ≡ Some v → R e.version v)
    → Ascends R (placed (on_calls stops) e es)
placed-Ascends R trans stops e es h l r =
    let both = subst (Ascends R) (sym (front-rest stops es)) h in
    Ascends-put R e (front (on_calls stops) es) (rest (on_calls stops) es) both
    (Each-front R trans e.version (front (on_calls stops) es) None (Ascends-left R (front (on_calls stops) es) (rest (on_calls stops) es) both) l)
    (Each-rest R trans e.version (rest (on_calls stops) es) (Ascends-right R (front (on_calls stops) es) (rest (on_calls stops) es) both) r)

-- Where u stands before v, by `behind`.
pub Ascends-behind : (R : ℕ → ℕ → Type 0) (es : List Entry) (u v : ℕ) → Ascends R es → behind es u v ≡ true → R u v
Ascends-behind R [] u v h k = absurd (true≢false (sym k))
Ascends-behind R (e ∷ es) u v h k = go (cases_Bool (e.version == u)) (Ascends-behind R es u v h.1)
  where
    go : ((e.version == u) ≡ true) ⊎ ((e.version == u) ≡ false) → (behind es u v ≡ true → R u v) → R u v
    go (inl x) further = subst (λ (w : ℕ). R w v) (eqb-true _ _ x) (h.0 v (rw (x, behind) at k))
    go (inr x) further = further (rw (x, behind) at k)

pub first-has : (ys : List Entry) (u : ℕ) → first_version ys ≡ Some u → has ys u ≡ true
first-has [] u h = cc
first-has (e ∷ es) u h = grind (arith, eqb_tells)

last_version-has : (xs : List Entry) (w u : ℕ) → last_version (Some w) xs ≡ Some u → ((w == u) || has xs u) ≡ true
last_version-has [] w u h = grind (arith, eqb_tells)
last_version-has (e ∷ es) w u h = let r = last_version-has es e.version u h in grind (arith, r)

pub last-has : (xs : List Entry) (u : ℕ) → last_version None xs ≡ Some u → has xs u ≡ true
last-has [] u h = cc
last-has (e ∷ es) u h = last_version-has es e.version u h

pub front-has : (stops : ℕ → Bool) (es : List Entry) (u : ℕ) → has (front (on_calls stops) es) u ≡ true → has es u ≡ true
front-has stops es u h = subst (λ (xs : List Entry). has xs u ≡ true) (front-rest stops es) (has-append (front (on_calls stops) es) (rest (on_calls stops) es) u ∙ or_left _ _ h)

pub rest-has : (stops : ℕ → Bool) (es : List Entry) (u : ℕ) → has (rest (on_calls stops) es) u ≡ true → has es u ≡ true
rest-has stops es u h = subst (λ (xs : List Entry). has xs u ≡ true) (front-rest stops es) (has-append (front (on_calls stops) es) (rest (on_calls stops) es) u ∙ or_right _ _ h)

-- ---- Lists with the same calls

pub with_state-Ascends : (R : ℕ → ℕ → Type 0) (t : ℕ) (state : State) (es : List Entry) → Ascends R es → Ascends R (with_state t state es)
with_state-Ascends R t state [] h = h
with_state-Ascends R t state (e ∷ es) h = go (e.version == t) (with_state-Ascends R t state es h.1)
  where
    go : (b : Bool) → Ascends R (with_state t state es) → Ascends R (elim b [ true ↦ record e { state = state } ∷ es | false ↦ e ∷ with_state t state es ])
    go true k = h
    go false k = (λ v x. h.0 v (sym (has-with_state t state es v) ∙ x), k)

pub Ascends-map-in : (R S : ℕ → ℕ → Type 0) (es : List Entry) → ((u v : ℕ) → has es u ≡ true → has es v ≡ true → R u v → S u v) → Ascends R es → Ascends S es
Ascends-map-in R S [] f h = tt
Ascends-map-in R S (e ∷ es) f h = (λ v k. f e.version v (or_left _ _ (eq-eqb e.version e.version refl)) (or_right _ _ k) (h.0 v k), Ascends-map-in R S es (λ u v j k. f u v (or_right _ _ j) (or_right _ _ k)) h.1)

-- ---- What Collect leaves

pub filter-has : (test : ℕ → Bool) (es : List Entry) (u : ℕ) → has (filter (on_calls test) es) u ≡ true → (has es u ≡ true) × (test u ≡ true)
filter-has test [] u h = absurd (true≢false (sym h))
filter-has test (e ∷ es) u h = let r = filter-has test es u in grind (arith, eqb_tells, r)

filter-Ascends : (R : ℕ → ℕ → Type 0) (test : ℕ → Bool) (es : List Entry) → Ascends R es → Ascends R (filter (on_calls test) es)
filter-Ascends R test [] h = h
filter-Ascends R test (e ∷ es) h = go (test e.version) (filter-Ascends R test es h.1)
  where
    go : (b : Bool) → Ascends R (filter (on_calls test) es) → Ascends R (if b then e ∷ filter (on_calls test) es else filter (on_calls test) es)
    go true k = (λ v x. h.0 v (filter-has test es v x).0, k)
    go false k = k

only_done-has : (e x : Entry) → only_done e ≡ Some x → x ≡ e
only_done-has e x h = go (is_done e.state) h
  where
    go : (b : Bool) → elim b as (λ _. Option Entry) [ true ↦ Some e | false ↦ None ] ≡ Some x → x ≡ e
    go true k = cc
    go false k = cc

pub last_done-has : (es : List Entry) (x : Entry) → last_done es ≡ Some x → has es x.version ≡ true
last_done-has [] x h = cc
last_done-has (e ∷ es) x h = go (last_done es) refl h (last_done-has es x)
  where
    go : (o : Option Entry) → last_done es ≡ o → option_or o (only_done e) ≡ Some x → (last_done es ≡ Some x → has es x.version ≡ true) → has (e ∷ es) x.version ≡ true
    go None k j further = let s = only_done-has e x j in or_left _ _ (eq-eqb e.version x.version (ap (λ (y : Entry). y.version) (sym s)))
    go (Some y) k j further = or_right _ _ (further (k ∙ j))

-- The ended entry that stays has ended, and the others are live and ascend.
pub collected-Ascends : (R : ℕ → ℕ → Type 0) (ended : ℕ → Bool) → ((u v : ℕ) → ended u ≡ true → ended v ≡ false → R u v) → (es : List Entry) → Ascends R es → Ascends R (collected (on_calls ended) es)
collected-Ascends R ended first es h = go (last_done (filter (on_calls ended) es)) refl
  where
    live : (v : ℕ) → not (ended v) ≡ true → ended v ≡ false
    live v k = grind arith

    go : (o : Option Entry) → last_done (filter (on_calls ended) es) ≡ o → Ascends R (cons_option o (filter (on_calls (λ v. not (ended v))) es))
    go None e = filter-Ascends R (λ v. not (ended v)) es h
    go (Some x) e = (λ v k. first x.version v (filter-has ended es x.version (last_done-has (filter (on_calls ended) es) x e)).1 (live v (filter-has (λ v. not (ended v)) es v k).1), filter-Ascends R (λ v. not (ended v)) es h)
