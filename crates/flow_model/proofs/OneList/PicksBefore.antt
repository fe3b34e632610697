-- The picks at a call's Done and before it stay where another call enters the list, frames or finishes there, or entries go.
use Rattle.std.proofs.Common.{◌≡◌, ℕ, Bool, true, false, ◌&&◌, not, ◌==◌, ◌⊎◌, inl, inr, refl, sym, ap, arith, List, [], ◌∷◌, ◌++◌, true≢false, ◌∙◌, subst, Option, Some, None}
use Rattle.std.specs.Prelude.{filter}
use Rattle.std.specs.List.{cons_option}
use Rattle.std.specs.Option.{option_or}
use Rattle.std.proofs.lemmas.Bool.Decides.{eqb_tells}
use Rattle.std.proofs.lemmas.Bool.{eqb-true, eq-eqb, false_from_ne_true, both_ways, cases_Bool}
use Rattle.script_tree.specs.declared.value.Value.{Value}
use Rattle.node_versions.specs.declared.entry.State.{State}
use Rattle.node_versions.specs.declared.entry.State.TheVariants.{Done}
use Rattle.node_versions.specs.declared.entry.Entry.{Entry}
use Rattle.node_versions.specs.Entries.{IsUnique, has, at, is_frame, is_done, behind, before, up_to, first_open, front, rest, placed, with_state, last_done, only_done, state_of, picks_of, picks_at, picks_before, collected}
use Rattle.node_versions.proofs.KeptLemmas.{IsUnique-with_state}
use Rattle.node_versions.proofs.Collecting.{last_is_done}
use Rattle.node_versions.proofs.Lists.{last_done-append}
use Rattle.node_versions.proofs.Places.{at-has}
use Rattle.flow_model.proofs.OneList.InOrder.{on_calls, front-rest, last_done-has}
use Rattle.flow_model.proofs.OneList.OneEntryACall.{placed-at_other, placed-at, filter-has_both, collected-at}
use Rattle.flow_model.proofs.OneList.StatesAndPlaces.{behind-has, with_state-at, with_state-behind, first_open-frame, first_open-none}
use Rattle.flow_model.proofs.Reactions.WhereRunsBegin.{or-none, before-last, no_done-none}
use Rattle.flow_model.proofs.Reactions.WhoReacts.{more-first_open}
use Rattle.flow_model.proofs.FramesSpread.AfterCollect.{split, collected-first_open}
use Rattle.flow_model.proofs.Values.NothingComesBefore.{with_state-before}

-- The call's Done stood before, and shows the same picks, as does the last Done before it.
pub record KeepsDone (es fs : List Entry) (u : ℕ) : Type 0 where
  pub done : at is_done es u ≡ true
  pub now : picks_at fs u ≡ picks_at es u
  pub prior : picks_before fs u ≡ picks_before es u

-- A call's Done was there, and so was its place as the first open call, with the same picks.
pub record KeepsPicks (es fs : List Entry) (u : ℕ) : Type 0 where
  pub done : at is_done fs u ≡ true → KeepsDone es fs u
  pub head : first_open fs ≡ Some u → (first_open es ≡ Some u) × (picks_before fs u ≡ picks_before es u)

pub same-picks : (es fs : List Entry) (u : ℕ) → fs ≡ es → KeepsPicks es fs u
same-picks es fs u e = record {
  done = λ d. record { done = ap (λ (xs : List Entry). at is_done xs u) (sym e) ∙ d; now = ap (λ (xs : List Entry). picks_at xs u) e; prior = ap (λ (xs : List Entry). picks_before xs u) e };
  head = λ f. (ap first_open (sym e) ∙ f, ap (λ (xs : List Entry). picks_before xs u) e);
}

-- The picks of an optional Done.
abbrev shown : Option Entry → List (Option ℕ)
shown o = picks_of (state_of o)

-- ---- joined lists

pub before-append : (xs ys : List Entry) (u : ℕ) → has xs u ≡ false → before (xs ++ ys) u ≡ xs ++ before ys u
before-append [] ys u h = refl
before-append (e ∷ es) ys u h = let r = before-append es ys u in grind (arith, r, h)

pub up_to-append : (xs ys : List Entry) (u : ℕ) → has xs u ≡ false → up_to (xs ++ ys) u ≡ xs ++ up_to ys u
up_to-append [] ys u h = refl
up_to-append (e ∷ es) ys u h = let r = up_to-append es ys u in grind (arith, r, h)

-- ---- an entry more that is no Done

more-last : (xs ys : List Entry) (e : Entry) → only_done e ≡ None → last_done (xs ++ e ∷ ys) ≡ last_done (xs ++ ys)
more-last [] ys e o = ap (option_or (last_done ys)) o ∙ or-none (last_done ys)
more-last (x ∷ xs) ys e o = ap (λ (z : Option Entry). option_or z (only_done x)) (more-last xs ys e o)

more-before : (xs ys : List Entry) (e : Entry) (u : ℕ) → (e.version == u) ≡ false → only_done e ≡ None → last_done (before (xs ++ e ∷ ys) u) ≡ last_done (before (xs ++ ys) u)
more-before [] ys e u ne o = rw (ne, before) (ap (option_or (last_done (before ys u))) o ∙ or-none (last_done (before ys u)))
more-before (x ∷ xs) ys e u ne o = go (x.version == u) (more-before xs ys e u ne o)
  where
    go : (b : Bool) → last_done (before (xs ++ e ∷ ys) u) ≡ last_done (before (xs ++ ys) u) → last_done (elim b as (λ _. List Entry) [ true ↦ [] | false ↦ x ∷ before (xs ++ e ∷ ys) u ]) ≡ last_done (elim b as (λ _. List Entry) [ true ↦ [] | false ↦ x ∷ before (xs ++ ys) u ])
    go true r = refl
    go false r = ap (λ (z : Option Entry). option_or z (only_done x)) r

more-up_to : (xs ys : List Entry) (e : Entry) (u : ℕ) → (e.version == u) ≡ false → only_done e ≡ None → last_done (up_to (xs ++ e ∷ ys) u) ≡ last_done (up_to (xs ++ ys) u)
more-up_to [] ys e u ne o = rw (ne, up_to) (ap (option_or (last_done (up_to ys u))) o ∙ or-none (last_done (up_to ys u)))
more-up_to (x ∷ xs) ys e u ne o = go (x.version == u) (more-up_to xs ys e u ne o)
  where
    go : (b : Bool) → last_done (up_to (xs ++ e ∷ ys) u) ≡ last_done (up_to (xs ++ ys) u) → last_done (elim b as (λ _. List Entry) [ true ↦ x ∷ [] | false ↦ x ∷ up_to (xs ++ e ∷ ys) u ]) ≡ last_done (elim b as (λ _. List Entry) [ true ↦ x ∷ [] | false ↦ x ∷ up_to (xs ++ ys) u ])
    go true r = refl
    go false r = ap (λ (z : Option Entry). option_or z (only_done x)) r

pub placed-last_done : (stops : ℕ → Bool) (e : Entry) (es : List Entry) → only_done e ≡ None → last_done (placed (on_calls stops) e es) ≡ last_done es
placed-last_done stops e es o = more-last (front (on_calls stops) es) (rest (on_calls stops) es) e o ∙ ap last_done (front-rest stops es)

pub placed-before : (stops : ℕ → Bool) (e : Entry) (es : List Entry) (u : ℕ) → (e.version == u) ≡ false → only_done e ≡ None → picks_before (placed (on_calls stops) e es) u ≡ picks_before es u
placed-before stops e es u ne o = ap shown (more-before (front (on_calls stops) es) (rest (on_calls stops) es) e u ne o) ∙ ap (λ (xs : List Entry). picks_before xs u) (front-rest stops es)

placed-now : (stops : ℕ → Bool) (e : Entry) (es : List Entry) (u : ℕ) → (e.version == u) ≡ false → only_done e ≡ None → picks_at (placed (on_calls stops) e es) u ≡ picks_at es u
placed-now stops e es u ne o = ap shown (more-up_to (front (on_calls stops) es) (rest (on_calls stops) es) e u ne o) ∙ ap (λ (xs : List Entry). picks_at xs u) (front-rest stops es)

-- The Done of a call stays as it was, where an entry joins that is none.
pub placed-done : (stops : ℕ → Bool) (e : Entry) (es : List Entry) (u : ℕ) → has es e.version ≡ false → is_done e.state ≡ false → only_done e ≡ None → at is_done (placed (on_calls stops) e es) u ≡ true → KeepsDone es (placed (on_calls stops) e es) u
placed-done stops e es u fresh f o d = go (cases_Bool (e.version == u))
  where
    go : ((e.version == u) ≡ true) ⊎ ((e.version == u) ≡ false) → KeepsDone es (placed (on_calls stops) e es) u
    go (inl x) = absurd (both_ways _ f (sym (placed-at is_done stops e es fresh) ∙ subst (λ (w : ℕ). at is_done (placed (on_calls stops) e es) w ≡ true) (sym (eqb-true e.version u x)) d))
    go (inr x) = record {
      done = sym (placed-at_other is_done stops e es u (λ y. both_ways _ x (eq-eqb e.version u (sym y)))) ∙ d;
      now = placed-now stops e es u x o;
      prior = placed-before stops e es u x o;
    }

-- A call gets a Mark.
pub marked-picks : (stops : ℕ → Bool) (e : Entry) (es : List Entry) (u : ℕ) → IsUnique es → has es e.version ≡ false → is_done e.state ≡ false → is_frame e.state ≡ false → only_done e ≡ None → KeepsPicks es (placed (on_calls stops) e es) u
marked-picks stops e es u q fresh f g o = record {
  done = λ d. placed-done stops e es u fresh f o d;
  head = λ k. let first = sym same ∙ k in (first, placed-before stops e es u (other first) o);
}
  where
    same : first_open (placed (on_calls stops) e es) ≡ first_open es
    same = more-first_open (front (on_calls stops) es) (rest (on_calls stops) es) e g ∙ ap first_open (front-rest stops es)

    other : first_open es ≡ Some u → (e.version == u) ≡ false
    other k = false_from_ne_true _ (λ x. both_ways _ fresh (subst (λ (w : ℕ). has es w ≡ true) (sym (eqb-true e.version u x)) (at-has is_frame es u (first_open-frame es u q k))))

-- ---- a Mark becomes a Frame

raised-before : (t : ℕ) (x : State) (es : List Entry) (u : ℕ) → at is_done es t ≡ false → is_done x ≡ false → last_done (before (with_state t x es) u) ≡ last_done (before es u)
raised-before t x [] u d f = refl
raised-before t x (e ∷ es) u d f = go (cases_Bool (e.version == t)) (raised-before t x es u)
  where
    go : ((e.version == t) ≡ true) ⊎ ((e.version == t) ≡ false) → (at is_done es t ≡ false → is_done x ≡ false → last_done (before (with_state t x es) u) ≡ last_done (before es u)) → last_done (before (with_state t x (e ∷ es)) u) ≡ last_done (before (e ∷ es) u)
    go (inl w) further =
        let de : is_done e.state ≡ false = rw (w, at) at d in
        rw (w, with_state) (cases (e.version == u) de)
      where
        cases : (b : Bool) → is_done e.state ≡ false → last_done (elim b as (λ _. List Entry) [ true ↦ [] | false ↦ record e { state = x } ∷ before es u ]) ≡ last_done (elim b as (λ _. List Entry) [ true ↦ [] | false ↦ e ∷ before es u ])
        cases true k = refl
        cases false k = grind (arith, k, f)
    go (inr w) further = rw (w, with_state) (cases (e.version == u) (further (rw (w, at) at d) f))
      where
        cases : (b : Bool) → last_done (before (with_state t x es) u) ≡ last_done (before es u) → last_done (elim b as (λ _. List Entry) [ true ↦ [] | false ↦ e ∷ before (with_state t x es) u ]) ≡ last_done (elim b as (λ _. List Entry) [ true ↦ [] | false ↦ e ∷ before es u ])
        cases true r = refl
        cases false r = ap (λ (z : Option Entry). option_or z (only_done e)) r

raised-up_to : (t : ℕ) (x : State) (es : List Entry) (u : ℕ) → at is_done es t ≡ false → is_done x ≡ false → last_done (up_to (with_state t x es) u) ≡ last_done (up_to es u)
raised-up_to t x [] u d f = refl
raised-up_to t x (e ∷ es) u d f = go (cases_Bool (e.version == t)) (raised-up_to t x es u)
  where
    go : ((e.version == t) ≡ true) ⊎ ((e.version == t) ≡ false) → (at is_done es t ≡ false → is_done x ≡ false → last_done (up_to (with_state t x es) u) ≡ last_done (up_to es u)) → last_done (up_to (with_state t x (e ∷ es)) u) ≡ last_done (up_to (e ∷ es) u)
    go (inl w) further =
        let de : is_done e.state ≡ false = rw (w, at) at d in
        rw (w, with_state) (cases (e.version == u) de)
      where
        cases : (b : Bool) → is_done e.state ≡ false → last_done (elim b as (λ _. List Entry) [ true ↦ record e { state = x } ∷ [] | false ↦ record e { state = x } ∷ up_to es u ]) ≡ last_done (elim b as (λ _. List Entry) [ true ↦ e ∷ [] | false ↦ e ∷ up_to es u ])
        cases true k = grind (arith, k, f)
        cases false k = grind (arith, k, f)
    go (inr w) further = rw (w, with_state) (cases (e.version == u) (further (rw (w, at) at d) f))
      where
        cases : (b : Bool) → last_done (up_to (with_state t x es) u) ≡ last_done (up_to es u) → last_done (elim b as (λ _. List Entry) [ true ↦ e ∷ [] | false ↦ e ∷ up_to (with_state t x es) u ]) ≡ last_done (elim b as (λ _. List Entry) [ true ↦ e ∷ [] | false ↦ e ∷ up_to es u ])
        cases true r = refl
        cases false r = ap (λ (z : Option Entry). option_or z (only_done e)) r

pub raised-last_done : (t : ℕ) (x : State) (es : List Entry) → at is_done es t ≡ false → is_done x ≡ false → last_done (with_state t x es) ≡ last_done es
raised-last_done t x [] d f = refl
raised-last_done t x (e ∷ es) d f = go (cases_Bool (e.version == t)) (raised-last_done t x es)
  where
    go : ((e.version == t) ≡ true) ⊎ ((e.version == t) ≡ false) → (at is_done es t ≡ false → is_done x ≡ false → last_done (with_state t x es) ≡ last_done es) → last_done (with_state t x (e ∷ es)) ≡ last_done (e ∷ es)
    go (inl w) further = let de : is_done e.state ≡ false = rw (w, at) at d in rw (w, with_state) (grind (arith, de, f))
    go (inr w) further = rw (w, with_state) (ap (λ (z : Option Entry). option_or z (only_done e)) (further (rw (w, at) at d) f))

pub raised-picks_before : (t : ℕ) (x : State) (es : List Entry) (u : ℕ) → at is_done es t ≡ false → is_done x ≡ false → picks_before (with_state t x es) u ≡ picks_before es u
raised-picks_before t x es u d f = ap shown (raised-before t x es u d f)

pub raised-done : (t : ℕ) (x : State) (es : List Entry) (u : ℕ) → at is_done es t ≡ false → is_done x ≡ false → at is_done (with_state t x es) u ≡ true → KeepsDone es (with_state t x es) u
raised-done t x es u d f k = record {
  done = go (cases_Bool (u == t)) (with_state-at is_done t x es u);
  now = ap shown (raised-up_to t x es u d f);
  prior = raised-picks_before t x es u d f;
}
  where
    go : ((u == t) ≡ true) ⊎ ((u == t) ≡ false) → at is_done (with_state t x es) u ≡ elim (u == t) as (λ _. Bool) [ true ↦ has es t && is_done x | false ↦ at is_done es u ] → at is_done es u ≡ true
    go (inl w) e = let z : at is_done (with_state t x es) u ≡ (has es t && is_done x) = rw w at e in absurd (both_ways _ f (both _ _ (sym z ∙ k)))
      where
        both : (a b : Bool) → (a && b) ≡ true → b ≡ true
        both true b j = j
        both false b j = absurd (true≢false (sym j))
    go (inr w) e = let z : at is_done (with_state t x es) u ≡ at is_done es u = rw w at e in sym z ∙ k

-- ---- a Frame becomes a Done

stated-up_to : (t : ℕ) (x : State) (es : List Entry) (u : ℕ) → has es u ≡ true → (u == t) ≡ false → behind es t u ≡ false → up_to (with_state t x es) u ≡ up_to es u
stated-up_to t x [] u h ne b = refl
stated-up_to t x (e ∷ es) u h ne b = let r = stated-up_to t x es u in grind (arith, eqb_tells, r, h, ne, b)

-- The picks before an entry whose own state changes are as before.
pub own-before : (t : ℕ) (x : State) (es : List Entry) → picks_before (with_state t x es) t ≡ picks_before es t
own-before t x es = ap (λ (xs : List Entry). shown (last_done xs)) (same es)
  where
    same : (es : List Entry) → before (with_state t x es) t ≡ before es t
    same [] = refl
    same (e ∷ es) = let r = same es in grind (arith, eqb_tells, r)

-- The last Done is in this state.
pub record LastIs (o : Option Entry) (x : State) : Type 0 where
  pub entry : Entry
  pub here : o ≡ Some entry
  pub state : entry.state ≡ x

later-last : (o : Option Entry) (e : Entry) (x : State) → LastIs o x → LastIs (option_or o (only_done e)) x
later-last o e x k = record { entry = k.entry; here = ap (λ (z : Option Entry). option_or z (only_done e)) k.here; state = k.state }

last-shown : (o : Option Entry) (v : Value) (c : Bool) (ps : List (Option ℕ)) → LastIs o (Done v c ps) → shown o ≡ ps
last-shown o v c ps k = ap shown k.here ∙ ap picks_of k.state

own-last : (t : ℕ) (v : Value) (c : Bool) (ps : List (Option ℕ)) (es : List Entry) → has es t ≡ true → LastIs (last_done (up_to (with_state t (Done v c ps) es) t)) (Done v c ps)
own-last t v c ps [] h = absurd (true≢false (sym h))
own-last t v c ps (e ∷ es) h = go (cases_Bool (e.version == t)) (own-last t v c ps es)
  where
    go : ((e.version == t) ≡ true) ⊎ ((e.version == t) ≡ false) → (has es t ≡ true → LastIs (last_done (up_to (with_state t (Done v c ps) es) t)) (Done v c ps)) → LastIs (last_done (up_to (with_state t (Done v c ps) (e ∷ es)) t)) (Done v c ps)
    go (inl w) further = rw (w, with_state) (rw (w, up_to) (record { entry = record e { state = Done v c ps }; here = refl; state = refl }))
    go (inr w) further = rw (w, with_state) (rw (w, up_to) (later-last _ e (Done v c ps) (further (rw (w, has) at h))))

-- and those up to it are the new Done's
pub own-now : (t : ℕ) (v : Value) (c : Bool) (ps : List (Option ℕ)) (es : List Entry) → has es t ≡ true → picks_at (with_state t (Done v c ps) es) t ≡ ps
own-now t v c ps es h = last-shown _ v c ps (own-last t v c ps es h)

finished-last : (t : ℕ) (v : Value) (c : Bool) (ps : List (Option ℕ)) (es : List Entry) → IsUnique es → has es t ≡ true → ((x : ℕ) → behind es t x ≡ true → at is_done es x ≡ false) → LastIs (last_done (with_state t (Done v c ps) es)) (Done v c ps)
finished-last t v c ps [] q h l = absurd (true≢false (sym h))
finished-last t v c ps (e ∷ es) q h l = go (cases_Bool (e.version == t)) (finished-last t v c ps es q.1)
  where
    other : (x : ℕ) → has es x ≡ true → (e.version == x) ≡ false
    other x k = false_from_ne_true _ (λ y. both_ways _ q.0 (subst (λ (w : ℕ). has es w ≡ true) (sym (eqb-true e.version x y)) k))

    go : ((e.version == t) ≡ true) ⊎ ((e.version == t) ≡ false) → (has es t ≡ true → ((x : ℕ) → behind es t x ≡ true → at is_done es x ≡ false) → LastIs (last_done (with_state t (Done v c ps) es)) (Done v c ps)) → LastIs (last_done (with_state t (Done v c ps) (e ∷ es))) (Done v c ps)
    go (inl w) further =
        let a : last_done es ≡ None = no_done-none es q.1 (λ x k. let n = l x (rw (w, behind) k) in rw (other x k, at) at n) in
        rw (w, with_state) (record { entry = record e { state = Done v c ps }; here = ap (λ (z : Option Entry). option_or z (Some (record e { state = Done v c ps }))) a; state = refl })
    go (inr w) further = rw (w, with_state) (later-last _ e (Done v c ps) (further (rw (w, has) at h) (λ x k. let n = l x (rw (w, behind) k) in rw (other x (behind-has es t x k).1, at) at n)))

-- Of another call with a Done all is as it was, since that stands before the Frame.
pub finished-done : (t : ℕ) (v : Value) (c : Bool) (ps : List (Option ℕ)) (es : List Entry) (u : ℕ) → (u == t) ≡ false → ((x : ℕ) → behind es t x ≡ true → at is_done es x ≡ false) → at is_done (with_state t (Done v c ps) es) u ≡ true → KeepsDone es (with_state t (Done v c ps) es) u
finished-done t v c ps es u ne l k = record {
  done = d;
  now = ap (λ (xs : List Entry). shown (last_done xs)) (stated-up_to t (Done v c ps) es u hu ne before_it);
  prior = ap (λ (xs : List Entry). shown (last_done xs)) (with_state-before t (Done v c ps) es u hu before_it);
}
  where
    d : at is_done es u ≡ true
    d = let w = with_state-at is_done t (Done v c ps) es u in grind (arith, w, ne, k)

    hu : has es u ≡ true
    hu = at-has is_done es u d

    before_it : behind es t u ≡ false
    before_it = false_from_ne_true _ (λ b. both_ways _ (l u b) d)

-- The next open call finds the new Done's picks.
pub finished-next : (t : ℕ) (v : Value) (c : Bool) (ps : List (Option ℕ)) (es : List Entry) (u : ℕ) → IsUnique es → has es t ≡ true → ((x : ℕ) → behind es t x ≡ true → at is_done es x ≡ false) → first_open es ≡ Some t
    → ((x y : ℕ) → behind es x y ≡ true → at is_frame es x ≡ true → at is_done es y ≡ false) → first_open (with_state t (Done v c ps) es) ≡ Some u → picks_before (with_state t (Done v c ps) es) u ≡ ps
finished-next t v c ps es u q h l first frames k = ap shown (before-last after u (IsUnique-with_state t (Done v c ps) es q) frame last) ∙ last-shown (last_done after) v c ps (finished-last t v c ps es q h l)
  where
    after : List Entry
    after = with_state t (Done v c ps) es

    frame : at is_frame after u ≡ true
    frame = first_open-frame after u (IsUnique-with_state t (Done v c ps) es q) k

    last : (x : ℕ) → behind after u x ≡ true → at is_done after x ≡ false
    last x b =
        let b2 = with_state-behind t (Done v c ps) es u x in
        let f = with_state-at is_frame t (Done v c ps) es u in
        let d = with_state-at is_done t (Done v c ps) es x in
        let y = frames u x in
        let n = λ (z : behind es u t ≡ true). first_open-none es t u q first z in
        grind (arith, eqb_tells, b, b2, f, d, y, n, frame)

-- ---- ended entries are collected

pub collected-picks : (p : ℕ → Bool) (es : List Entry) (u : ℕ) → IsUnique es → ((x y : ℕ) → behind es x y ≡ true → p y ≡ true → p x ≡ true) → ((x : ℕ) → at is_frame es x ≡ true → p x ≡ false) → p u ≡ false → KeepsPicks es (collected (on_calls p) es) u
collected-picks p es u q h f pu = record {
  done = λ d. record { done = collected-at is_done p es u q d; now = now; prior = prior };
  head = λ k. (sym (collected-first_open p es q f) ∙ k, prior);
}
  where
    xs : List Entry
    xs = filter (on_calls p) es

    ys : List Entry
    ys = filter (on_calls (λ v. not (p v))) es

    absent : has xs u ≡ false
    absent = filter-has_both p es u ∙ ap (λ (b : Bool). b && has es u) pu

    joined : xs ++ ys ≡ es
    joined = split p es q h

    -- the last Done of the ended entries is in none of the call's
    one : (o : Option Entry) → last_done xs ≡ o → (part : List Entry → List Entry) → ((e : Entry) → (e.version == u) ≡ false → part (e ∷ ys) ≡ e ∷ part ys) → last_done (xs ++ part ys) ≡ last_done (part (cons_option o ys))
    one None e part over = last_done-append xs (part ys) ∙ ap (option_or (last_done (part ys))) e ∙ or-none (last_done (part ys))
    one (Some x) e part over = last_done-append xs (part ys) ∙ ap (option_or (last_done (part ys))) (e ∙ sym (only x (last_is_done xs x e))) ∙ ap last_done (sym (over x other))
      where
        only : (x : Entry) → is_done x.state ≡ true → only_done x ≡ Some x
        only x d = rw (d, only_done) refl

        other : (x.version == u) ≡ false
        other = false_from_ne_true _ (λ z. both_ways _ absent (subst (λ (w : ℕ). has xs w ≡ true) (eqb-true x.version u z) (last_done-has xs x e)))

    prior : picks_before (collected (on_calls p) es) u ≡ picks_before es u
    prior = ap shown (sym (one (last_done xs) refl (λ zs. before zs u) (λ e ne. rw (ne, before) refl)) ∙ ap last_done (sym (before-append xs ys u absent))) ∙ ap (λ (zs : List Entry). picks_before zs u) joined

    now : picks_at (collected (on_calls p) es) u ≡ picks_at es u
    now = ap shown (sym (one (last_done xs) refl (λ zs. up_to zs u) (λ e ne. rw (ne, up_to) refl)) ∙ ap last_done (sym (up_to-append xs ys u absent))) ∙ ap (λ (zs : List Entry). picks_at zs u) joined

-- Of an ended call a Done that stays is the first entry.
pub collected-first : (p : ℕ → Bool) (es : List Entry) (u : ℕ) → p u ≡ true → at is_done (collected (on_calls p) es) u ≡ true → picks_before (collected (on_calls p) es) u ≡ []
collected-first p es u pu d = go (last_done (filter (on_calls p) es)) refl d
  where
    ys : List Entry
    ys = filter (on_calls (λ v. not (p v))) es

    absent : has ys u ≡ false
    absent = filter-has_both (λ v. not (p v)) es u ∙ ap (λ (b : Bool). not b && has es u) pu

    go : (o : Option Entry) → last_done (filter (on_calls p) es) ≡ o → at is_done (cons_option o ys) u ≡ true → picks_before (cons_option o ys) u ≡ []
    go None e k = absurd (both_ways _ absent (at-has is_done ys u k))
    go (Some x) e k = cases (cases_Bool (x.version == u))
      where
        cases : ((x.version == u) ≡ true) ⊎ ((x.version == u) ≡ false) → picks_before (x ∷ ys) u ≡ []
        cases (inl w) = rw (w, before) refl
        cases (inr w) = absurd (both_ways _ absent (at-has is_done ys u (rw (w, at) at k)))
