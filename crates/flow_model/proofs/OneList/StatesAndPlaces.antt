-- Which state an entry has and what stands behind it, after an entry comes, gets another state, or lists are joined.
use Rattle.std.proofs.Common.{◌≡◌, ℕ, Bool, true, false, ◌&&◌, ◌||◌, ◌==◌, ◌≢◌, refl, sym, arith, List, [], ◌∷◌, ◌++◌, true≢false, Some, Option}
use Rattle.script_tree.specs.declared.value.Value.{Value}
use Rattle.std.proofs.lemmas.Bool.Decides.{eqb_tells}
use Rattle.node_versions.specs.declared.entry.State.{State}
use Rattle.node_versions.specs.declared.entry.State.TheVariants as state
use Rattle.node_versions.specs.declared.entry.Entry.{Entry}
use Rattle.node_versions.specs.Entries.{IsUnique, has, at, behind, with_state, is_frame, is_done, first_open}
use Rattle.node_versions.proofs.Lists.{has-append}
use Rattle.node_versions.proofs.KeptLemmas.{has-with_state, has-put}
use Rattle.node_versions.proofs.Places.{at-has}

-- ---- Another mode

pub with_state-at : (test : State → Bool) (t : ℕ) (s : State) (es : List Entry) (u : ℕ) → at test (with_state t s es) u ≡ elim (u == t) as (λ _. Bool) [ true ↦ has es t && test s | false ↦ at test es u ]
with_state-at test t s [] u = grind arith
with_state-at test t s (e ∷ es) u = let r = with_state-at test t s es u in grind (arith, eqb_tells, r)

pub with_state-behind : (t : ℕ) (s : State) (es : List Entry) (u v : ℕ) → behind (with_state t s es) u v ≡ behind es u v
with_state-behind t s [] u v = refl
with_state-behind t s (e ∷ es) u v = let r = with_state-behind t s es u v in let h = has-with_state t s es v in grind (arith, eqb_tells, r, h)

-- ---- Joined lists

pub at-append : (test : State → Bool) (xs ys : List Entry) (u : ℕ) → at test (xs ++ ys) u ≡ elim (has xs u) as (λ _. Bool) [ true ↦ at test xs u | false ↦ at test ys u ]
at-append test [] ys u = refl
at-append test (e ∷ es) ys u = let r = at-append test es ys u in grind (arith, eqb_tells, r)

behind-append : (xs ys : List Entry) (u v : ℕ) → behind (xs ++ ys) u v ≡ elim (has xs u) as (λ _. Bool) [ true ↦ behind xs u v || has ys v | false ↦ behind ys u v ]
behind-append [] ys u v = refl
behind-append (e ∷ es) ys u v = let r = behind-append es ys u v in let h = has-append es ys v in grind (arith, eqb_tells, r, h)

pub behind-has : (es : List Entry) (u v : ℕ) → behind es u v ≡ true → (has es u ≡ true) × (has es v ≡ true)
behind-has [] u v h = absurd (true≢false (sym h))
behind-has (e ∷ es) u v h = let r = behind-has es u v in grind (arith, eqb_tells, r)

-- ---- One entry a call

pub behind-total : (es : List Entry) (u v : ℕ) → has es u ≡ true → has es v ≡ true → u ≢ v → (behind es u v || behind es v u) ≡ true
behind-total [] u v h k ne = h
behind-total (e ∷ es) u v h k ne = let r = behind-total es u v in grind (arith, eqb_tells, r)

pub behind-trans : (es : List Entry) (u v w : ℕ) → IsUnique es → behind es u v ≡ true → behind es v w ≡ true → behind es u w ≡ true
behind-trans [] u v w q h k = h
behind-trans (e ∷ es) u v w q h k = let r = behind-trans es u v w q.1 in let b = behind-has es u v in let c = behind-has es v w in grind (arith, eqb_tells, r, b, c)

-- ---- No Done behind a Frame

pub record FramesLast (es : List Entry) : Type 0 where
  pub last : (u v : ℕ) → behind es u v ≡ true → at is_frame es u ≡ true → at is_done es v ≡ false

pub raise-FramesLast : (t : ℕ) (es : List Entry) → FramesLast es → ((v : ℕ) → behind es t v ≡ true → at is_done es v ≡ false) → FramesLast (with_state t state.Frame es)
raise-FramesLast t es h none = record {
  last = λ u v b f.
      let b1 = with_state-behind t state.Frame es u v in
      let a1 = with_state-at is_frame t state.Frame es u in
      let a2 = with_state-at is_done t state.Frame es v in
      let l = h.last u v in
      let n = none v in
      grind (arith, eqb_tells, b1, a1, a2, l, n);
}

pub finish-FramesLast : (t : ℕ) (x : Value) (c : Bool) (ps : List (Option ℕ)) (es : List Entry) → FramesLast es → ((u : ℕ) → behind es u t ≡ true → at is_frame es u ≡ false) → FramesLast (with_state t (state.Done x c ps) es)
finish-FramesLast t x c ps es h none = record {
  last = λ u v b f.
      let b1 = with_state-behind t (state.Done x c ps) es u v in
      let a1 = with_state-at is_frame t (state.Done x c ps) es u in
      let a2 = with_state-at is_done t (state.Done x c ps) es v in
      let l = h.last u v in
      let n = none u in
      grind (arith, eqb_tells, b1, a1, a2, l, n);
}

-- ---- An entry more

pub more-at : (test : State → Bool) (xs ys : List Entry) (e : Entry) (u : ℕ) → u ≢ e.version → at test (xs ++ e ∷ ys) u ≡ at test (xs ++ ys) u
more-at test [] ys e u ne = grind (arith, eqb_tells)
more-at test (x ∷ xs) ys e u ne = let r = more-at test xs ys e u ne in grind (arith, r)

pub more-at_it : (test : State → Bool) (xs ys : List Entry) (e : Entry) → has xs e.version ≡ false → at test (xs ++ e ∷ ys) e.version ≡ test e.state
more-at_it test [] ys e h = grind (arith, eqb_tells)
more-at_it test (x ∷ xs) ys e h = let r = more-at_it test xs ys e in grind (arith, r)

pub more-behind : (xs ys : List Entry) (e : Entry) (u v : ℕ) → u ≢ e.version → v ≢ e.version → behind (xs ++ e ∷ ys) u v ≡ behind (xs ++ ys) u v
more-behind [] ys e u v a b = grind (arith, eqb_tells)
more-behind (x ∷ xs) ys e u v a b = let r = more-behind xs ys e u v a b in let h = has-put xs ys e v in grind (arith, eqb_tells, r, h)

pub more-behind_it : (xs ys : List Entry) (e : Entry) (v : ℕ) → has xs e.version ≡ false → behind (xs ++ e ∷ ys) e.version v ≡ has ys v
more-behind_it [] ys e v h = grind (arith, eqb_tells)
more-behind_it (x ∷ xs) ys e v h = let r = more-behind_it xs ys e v in grind (arith, r)

-- An entry that is no Done is put in; a Frame has no Done in the part behind it.
pub more-FramesLast : (xs ys : List Entry) (e : Entry) → is_done e.state ≡ false → has (xs ++ ys) e.version ≡ false → FramesLast (xs ++ ys)
    → (is_frame e.state ≡ true → (v : ℕ) → has ys v ≡ true → at is_done (xs ++ ys) v ≡ false) → FramesLast (xs ++ e ∷ ys)
more-FramesLast xs ys e no_done no_entry h none = record {
  last = λ u v b f.
      let hx = has-append xs ys e.version in
      let hv = has-append xs ys v in
      let b1 = more-behind xs ys e u v in
      let b2 = more-behind_it xs ys e v in
      let bh = behind-has (xs ++ e ∷ ys) u v b in
      let a1 = more-at is_frame xs ys e u in
      let a2 = more-at is_done xs ys e v in
      let a3 = more-at_it is_done xs ys e in
      let a4 = more-at_it is_frame xs ys e in
      let l = h.last u v in
      let n = λ (x : is_frame e.state ≡ true). none x v in
      grind (arith, eqb_tells, hx, hv, b1, b2, a1, a2, a3, a4, l, n);
}

pub across-behind : (xs ys : List Entry) (u v : ℕ) → has xs u ≡ true → has ys v ≡ true → behind (xs ++ ys) u v ≡ true
across-behind xs ys u v h k = let r = behind-append xs ys u v in grind (arith, r)

-- Before the first Frame stands none.
pub first_open-none : (es : List Entry) (t u : ℕ) → IsUnique es → first_open es ≡ Some t → behind es u t ≡ true → at is_frame es u ≡ false
first_open-none [] t u q h k = cc
first_open-none (e ∷ es) t u q h k = let r = first_open-none es t u q.1 in let b = behind-has es u t in grind (arith, eqb_tells, r, b)

pub first_open-frame : (es : List Entry) (t : ℕ) → IsUnique es → first_open es ≡ Some t → at is_frame es t ≡ true
first_open-frame [] t q h = cc
first_open-frame (e ∷ es) t q h = let r = first_open-frame es t q.1 in let b = at-has is_frame es t in grind (arith, eqb_tells, r, b)
