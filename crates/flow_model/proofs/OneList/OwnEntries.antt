-- A call's own entry stays where another call's comes or changes, and the last Done stays but where one is made.
use Rattle.std.proofs.Common.{◌≡◌, ℕ, Bool, true, false, not, ◌==◌, ◌⊎◌, ◌≢◌, inl, inr, refl, sym, ap, arith, List, [], ◌∷◌, ◌++◌, true≢false, ◌∙◌, subst, Option, Some, None}
use Rattle.std.specs.Prelude.{filter}
use Rattle.std.specs.List.{cons_option}
use Rattle.std.specs.Option.{option_or}
use Rattle.std.proofs.lemmas.Bool.Decides.{eqb_tells}
use Rattle.std.proofs.lemmas.Bool.{eqb-true, eq-eqb, false_from_ne_true, both_ways, cases_Bool}
use Rattle.script_tree.specs.declared.value.Value.{Value}
use Rattle.node_versions.specs.declared.entry.State.{State}
use Rattle.node_versions.specs.declared.entry.State.TheVariants.{Mark, Frame, Done}
use Rattle.node_versions.specs.declared.entry.Entry.{Entry}
use Rattle.node_versions.specs.Entries.{IsUnique, is_done, is_mark, is_frame, has, at, behind, front, rest, placed, with_state, up_to, only_done, last_done, state_of, done_at, collected}
use Rattle.node_versions.proofs.Collecting.{last_is_done}
use Rattle.node_versions.proofs.Lists.{last_done-append}
use Rattle.flow_model.proofs.OneList.InOrder.{on_calls, front-rest, filter-has, last_done-has}
use Rattle.flow_model.proofs.OneList.StatesAndPlaces.{behind-has}
use Rattle.flow_model.proofs.OneList.OneEntryACall.{filter-unique, only_done-is, last_done-at}
use Rattle.flow_model.proofs.FramesSpread.AfterCollect.{split}
use Rattle.flow_model.proofs.Values.NothingComesBefore.{not_done-only}

-- ---- the state of the call's entry

-- a Mark where it has none
abbrev pub own : List Entry → ℕ → State
own [] t = Mark
own (e ∷ es) t = elim (e.version == t) [ true ↦ e.state | false ↦ own es t ]

own-test : (test : State → Bool) (es : List Entry) (u : ℕ) → at test es u ≡ true → test (own es u) ≡ true
own-test test [] u h = absurd (true≢false (sym h))
own-test test (e ∷ es) u h = let r = own-test test es u in grind (arith, h, r)

-- What a call's Done gives is its own.
pub own-done_at : (es : List Entry) (u : ℕ) → at is_done es u ≡ true → done_at es u ≡ own es u
own-done_at [] u h = absurd (true≢false (sym h))
own-done_at (e ∷ es) u h = go (cases_Bool (e.version == u)) (own-done_at es u)
  where
    here : (b : Bool) → is_done e.state ≡ b → b ≡ true → state_of (elim b as (λ _. Option Entry) [ true ↦ Some e | false ↦ None ]) ≡ e.state
    here true k j = refl
    here false k j = absurd (true≢false (sym j))

    later : (o : Option Entry) → last_done (up_to es u) ≡ o → at is_done es u ≡ true → state_of o ≡ own es u → state_of (option_or o (only_done e)) ≡ own es u
    later (Some x) k d j = j
    later None k d j = absurd (true≢false (sym (ap is_done j ∙ own-test is_done es u d)))

    go : ((e.version == u) ≡ true) ⊎ ((e.version == u) ≡ false) → (at is_done es u ≡ true → done_at es u ≡ own es u) → done_at (e ∷ es) u ≡ own (e ∷ es) u
    go (inl w) further = let d : is_done e.state ≡ true = rw (w, at) at h in rw (w, up_to, own) (here (is_done e.state) refl d)
    go (inr w) further = let d : at is_done es u ≡ true = rw (w, at) at h in rw (w, up_to, own) (later (last_done (up_to es u)) refl d (further d))

-- ---- an entry more

more-own : (xs ys : List Entry) (e : Entry) (u : ℕ) → u ≢ e.version → own (xs ++ e ∷ ys) u ≡ own (xs ++ ys) u
more-own [] ys e u ne = grind (arith, eqb_tells)
more-own (x ∷ xs) ys e u ne = let r = more-own xs ys e u ne in grind (arith, r)

pub placed-own : (stops : ℕ → Bool) (e : Entry) (es : List Entry) (u : ℕ) → u ≢ e.version → own (placed (on_calls stops) e es) u ≡ own es u
placed-own stops e es u ne = more-own (front (on_calls stops) es) (rest (on_calls stops) es) e u ne ∙ ap (λ (xs : List Entry). own xs u) (front-rest stops es)

-- ---- another state

pub with_state-own : (t : ℕ) (x : State) (es : List Entry) (u : ℕ) → (u == t) ≡ false → own (with_state t x es) u ≡ own es u
with_state-own t x [] u ne = refl
with_state-own t x (e ∷ es) u ne = let r = with_state-own t x es u ne in grind (arith, eqb_tells, r, ne)

pub with_state-own_it : (t : ℕ) (x : State) (es : List Entry) → has es t ≡ true → own (with_state t x es) t ≡ x
with_state-own_it t x [] h = absurd (true≢false (sym h))
with_state-own_it t x (e ∷ es) h = let r = with_state-own_it t x es in grind (arith, eqb_tells, r, h)

-- ---- a collected list

pub last_done-own : (es : List Entry) (x : Entry) → IsUnique es → last_done es ≡ Some x → own es x.version ≡ x.state
last_done-own [] x q h = cc
last_done-own (e ∷ es) x q h = go (last_done es) refl h (last_done-own es x q.1)
  where
    go : (o : Option Entry) → last_done es ≡ o → option_or o (only_done e) ≡ Some x → (last_done es ≡ Some x → own es x.version ≡ x.state) → own (e ∷ es) x.version ≡ x.state
    go None k j further = let s = (only_done-is e x j).0 in subst (λ (y : Entry). own (e ∷ es) y.version ≡ y.state) (sym s) (let w = eq-eqb e.version e.version refl in rw (w, own) refl)
    go (Some y) k j further =
        let f = further (k ∙ j) in
        let hx = last_done-has es x (k ∙ j) in
        let ne : (e.version == x.version) ≡ false = false_from_ne_true _ (λ w. both_ways _ q.0 (subst (λ (v : ℕ). has es v ≡ true) (sym (eqb-true e.version x.version w)) hx)) in
        rw (ne, own) f

filter-own : (p : ℕ → Bool) (es : List Entry) (u : ℕ) → p u ≡ true → own (filter (on_calls p) es) u ≡ own es u
filter-own p [] u h = refl
filter-own p (e ∷ es) u h = let r = filter-own p es u in grind (arith, eqb_tells, r, h)

pub collected-own : (p : ℕ → Bool) (es : List Entry) (u : ℕ) → IsUnique es → has (collected (on_calls p) es) u ≡ true → own (collected (on_calls p) es) u ≡ own es u
collected-own p es u q h = go (last_done (filter (on_calls p) es)) refl h
  where
    rest_part : has (filter (on_calls (λ v. not (p v))) es) u ≡ true → own (filter (on_calls (λ v. not (p v))) es) u ≡ own es u
    rest_part k = filter-own (λ v. not (p v)) es u (filter-has (λ v. not (p v)) es u k).1

    go : (o : Option Entry) → last_done (filter (on_calls p) es) ≡ o → has (cons_option o (filter (on_calls (λ v. not (p v))) es)) u ≡ true → own (cons_option o (filter (on_calls (λ v. not (p v))) es)) u ≡ own es u
    go None e k = rest_part k
    go (Some x) e k = cases (cases_Bool (x.version == u))
      where
        px : p x.version ≡ true
        px = (filter-has p es x.version (last_done-has (filter (on_calls p) es) x e)).1

        cases : ((x.version == u) ≡ true) ⊎ ((x.version == u) ≡ false) → own (x ∷ filter (on_calls (λ v. not (p v))) es) u ≡ own es u
        cases (inl w) = rw (w, own) (sym (last_done-own (filter (on_calls p) es) x (filter-unique p es q) e) ∙ filter-own p es x.version px ∙ ap (own es) (eqb-true x.version u w))
        cases (inr w) = rw (w, own) (rest_part (rw (w, has) at k))

-- ---- the last Done

pub placed-last_done : (stops : ℕ → Bool) (e : Entry) (es : List Entry) → is_done e.state ≡ false → last_done (placed (on_calls stops) e es) ≡ last_done es
placed-last_done stops e es h =
    let xs = front (on_calls stops) es in
    let ys = rest (on_calls stops) es in
    last_done-append xs (e ∷ ys)
    ∙ ap (λ (o : Option Entry). option_or o (last_done xs)) (ap (option_or (last_done ys)) (not_done-only e h) ∙ none (last_done ys))
    ∙ sym (last_done-append xs ys) ∙ ap last_done (front-rest stops es)
  where
    none : (o : Option Entry) → option_or o None ≡ o
    none None = refl
    none (Some x) = refl

pub raised-last_done : (t : ℕ) (es : List Entry) → at is_mark es t ≡ true → last_done (with_state t Frame es) ≡ last_done es
raised-last_done t [] h = refl
raised-last_done t (e ∷ es) h = go (cases_Bool (e.version == t)) (raised-last_done t es)
  where
    mark : (x : State) → is_mark x ≡ true → is_done x ≡ false
    mark Mark k = refl
    mark Frame k = refl
    mark (Done v c ps) k = absurd (true≢false (sym k))

    go : ((e.version == t) ≡ true) ⊎ ((e.version == t) ≡ false) → (at is_mark es t ≡ true → last_done (with_state t Frame es) ≡ last_done es) → last_done (with_state t Frame (e ∷ es)) ≡ last_done (e ∷ es)
    go (inl w) further = let m : is_mark e.state ≡ true = rw (w, at) at h in rw (w, with_state) (sym (ap (option_or (last_done es)) (not_done-only e (mark e.state m))))
    go (inr w) further = rw (w, with_state) (ap (λ (o : Option Entry). option_or o (only_done e)) (further (rw (w, at) at h)))

pub collected-last_done : (p : ℕ → Bool) (es : List Entry) → IsUnique es → ((u v : ℕ) → behind es u v ≡ true → p v ≡ true → p u ≡ true) → last_done (collected (on_calls p) es) ≡ last_done es
collected-last_done p es u h = go (last_done xs) refl ∙ sym (last_done-append xs ys) ∙ ap last_done (split p es u h)
  where
    xs : List Entry
    xs = filter (on_calls p) es

    ys : List Entry
    ys = filter (on_calls (λ v. not (p v))) es

    none : (o : Option Entry) → o ≡ option_or o None
    none None = refl
    none (Some x) = refl

    go : (o : Option Entry) → last_done xs ≡ o → last_done (cons_option o ys) ≡ option_or (last_done ys) o
    go None e = none (last_done ys)
    go (Some x) e = let d = last_is_done xs x e in ap (option_or (last_done ys)) (rw (d, only_done) refl)

-- Where no Done stands behind the call's Frame, its Done is the last one.
pub finished-last_done : (t : ℕ) (v : Value) (c : Bool) (ps : List (Option ℕ)) (es : List Entry) → IsUnique es → at is_frame es t ≡ true → ((x : ℕ) → behind es t x ≡ true → at is_done es x ≡ false) → state_of (last_done (with_state t (Done v c ps) es)) ≡ Done v c ps
finished-last_done t v c ps [] q f none = absurd (true≢false (sym f))
finished-last_done t v c ps (e ∷ es) q f none = go (cases_Bool (e.version == t)) (finished-last_done t v c ps es q.1)
  where
    none_behind : (es : List Entry) → IsUnique es → ((x : ℕ) → has es x ≡ true → at is_done es x ≡ false) → last_done es ≡ None
    none_behind es q k = cases (last_done es) refl
      where
        cases : (o : Option Entry) → last_done es ≡ o → last_done es ≡ None
        cases None e = e
        cases (Some x) e = absurd (true≢false (sym (sym (k x.version (last_done-has es x e)) ∙ shown x e)))
          where
            shown : (x : Entry) → last_done es ≡ Some x → at is_done es x.version ≡ true
            shown x e = last_done-at is_done es x q e ∙ last_is_done es x e

    later : (x : ℕ) → has es x ≡ true → (e.version == x) ≡ false
    later x k = false_from_ne_true _ (λ y. both_ways _ q.0 (subst (λ (w : ℕ). has es w ≡ true) (sym (eqb-true e.version x y)) k))

    still : (o : Option Entry) → state_of o ≡ Done v c ps → state_of (option_or o (only_done e)) ≡ Done v c ps
    still None k = absurd (true≢false (sym (ap is_done k)))
    still (Some x) k = k

    go : ((e.version == t) ≡ true) ⊎ ((e.version == t) ≡ false) → (at is_frame es t ≡ true → ((x : ℕ) → behind es t x ≡ true → at is_done es x ≡ false) → state_of (last_done (with_state t (Done v c ps) es)) ≡ Done v c ps) → state_of (last_done (with_state t (Done v c ps) (e ∷ es))) ≡ Done v c ps
    go (inl w) further =
        let n = none_behind es q.1 (λ x k. let b = none x (rw (w, behind) k) in rw (later x k, at) at b) in
        rw (w, with_state) (ap (λ (o : Option Entry). state_of (option_or o (Some (record e { state = Done v c ps })))) n)
    go (inr w) further = rw (w, with_state) (still (last_done (with_state t (Done v c ps) es)) (further (rw (w, at) at f) (λ x k. let b = none x (rw (w, behind) k) in rw (later x (behind-has es t x k).1, at) at b)))
