-- What stands before an entry stays, where no Frame stands before it: no step changes what its call reads there.
use Rattle.std.proofs.Common.{◌≡◌, ℕ, Bool, true, false, not, ◌==◌, ◌⊎◌, inl, inr, refl, sym, ap, arith, List, [], ◌∷◌, ◌++◌, true≢false, ◌∙◌, subst, Option, Some, None}
use Rattle.std.specs.Prelude.{filter, if◌then◌else◌}
use Rattle.std.specs.List.{cons_option}
use Rattle.std.specs.Option.{option_or}
use Rattle.std.proofs.lemmas.Bool.Decides.{eqb_tells}
use Rattle.std.proofs.lemmas.Bool.{or_cases, or_left, or_right, eqb-true, eq-eqb, false_from_ne_true, both_ways}
use Rattle.signal_graph.specs.Graph.{Graph}
use Rattle.node_versions.specs.declared.entry.State.{State}
use Rattle.node_versions.specs.declared.entry.State.TheVariants.{Mark, Frame, Done}
use Rattle.node_versions.specs.declared.entry.Entry.{Entry}
use Rattle.node_versions.specs.Entries.{has, at, behind, before, up_to, is_frame, is_mark, is_done, front, rest, with_state, last_done, only_done, collected}
use Rattle.node_versions.proofs.Collecting.{last_is_done}
use Rattle.node_versions.proofs.Places.{at-has}
use Rattle.flow_model.specs.Machine.State.{Core, live, entries}
use Rattle.flow_model.specs.Machine.Words.{heads}
use Rattle.flow_model.specs.Machine.Changes.{stops, stops_call, new_entry}
use Rattle.flow_model.specs.Kept.Runs.{IsSettled}
use Rattle.flow_model.specs.Kept.Lawful.{IsLawful}
use Rattle.flow_model.proofs.OneStep.WhoMayStep.{at_front-heads}
use Rattle.flow_model.proofs.OneList.InOrder.{on_calls, front-rest, filter-has, last_done-has, Ascends, Each}
use Rattle.flow_model.proofs.OneList.StatesAndPlaces.{first_open-none, first_open-frame}
use Rattle.flow_model.proofs.OrderStays.NoFrameBeforeDones.{head-first}
use Rattle.flow_model.proofs.Reactions.WhereRunsBegin.{or-or, or-none}
use Rattle.flow_model.proofs.Reactions.RunsThatHaveEnded.{not_both}
use Rattle.flow_model.proofs.OrderStays.AfterEachStep.{Ascends-from}
use Rattle.flow_model.proofs.OneStep.ChangesOfOneList.{ListStep, stays, marks, frames, raises, finishes, collects}

-- ---- entries with no Frame before them

-- The call has an entry, and no Frame stands before it.
pub record IsUnblocked (es : List Entry) (u : ℕ) : Type 0 where
  pub entry : has es u ≡ true
  pub none_before : (v : ℕ) → behind es v u ≡ true → at is_frame es v ≡ false

pub head-unblocked : (graph : Graph) (s : Core) → IsLawful graph s → (u n : ℕ) → heads s u n ≡ true → IsUnblocked (entries s n) u
head-unblocked graph s h u n k = record {
  entry = at-has is_frame (entries s n) u (first_open-frame (entries s n) u (h.one_entry n) (head-first (entries s n) u k));
  none_before = λ v b. first_open-none (entries s n) u v (h.one_entry n) (head-first (entries s n) u k) b;
}

pub done-unblocked : (graph : Graph) (s : Core) → IsLawful graph s → (u n : ℕ) → at is_done (entries s n) u ≡ true → IsUnblocked (entries s n) u
done-unblocked graph s h u n d = record {
  entry = at-has is_done (entries s n) u d;
  none_before = λ v b. false_from_ne_true _ (λ f. both_ways _ (h.frames_are_open.behind_dones n v u b f) d);
}

pub done-no_frame : (es : List Entry) (u : ℕ) → at is_done es u ≡ true → at is_frame es u ≡ false
done-no_frame es u d = false_from_ne_true _ (λ f. both_ways _ (not_both es u f) d)

pub settled-unblocked : (graph : Graph) (s : Core) → IsLawful graph s → (u m : ℕ) → live s u ≡ true → IsSettled graph s u m → IsUnblocked (entries s m) u
settled-unblocked graph s h u m l k = record {
  entry = h.settled_has_entry u m l k;
  none_before = λ v b. h.settled_is_kept.none_before v u m k b;
}

-- ---- one entry more

pub not_done-only : (e : Entry) → is_done e.state ≡ false → only_done e ≡ None
not_done-only e d = rw (d, only_done) refl

more-before : (xs ys : List Entry) (e : Entry) (u : ℕ) → (e.version == u) ≡ false → is_done e.state ≡ false → last_done (before (xs ++ e ∷ ys) u) ≡ last_done (before (xs ++ ys) u)
more-before [] ys e u ne d = rw (ne, before) (ap (option_or (last_done (before ys u))) (not_done-only e d) ∙ or-none (last_done (before ys u)))
more-before (x ∷ xs) ys e u ne d = go (x.version == u) (more-before xs ys e u ne d)
  where
    go : (b : Bool) → last_done (before (xs ++ e ∷ ys) u) ≡ last_done (before (xs ++ ys) u) → last_done (elim b as (λ _. List Entry) [ true ↦ [] | false ↦ x ∷ before (xs ++ e ∷ ys) u ]) ≡ last_done (elim b as (λ _. List Entry) [ true ↦ [] | false ↦ x ∷ before (xs ++ ys) u ])
    go true r = refl
    go false r = ap (λ (o : Option Entry). option_or o (only_done x)) r

more-up_to : (xs ys : List Entry) (e : Entry) (u : ℕ) → (e.version == u) ≡ false → is_done e.state ≡ false → last_done (up_to (xs ++ e ∷ ys) u) ≡ last_done (up_to (xs ++ ys) u)
more-up_to [] ys e u ne d = rw (ne, up_to) (ap (option_or (last_done (up_to ys u))) (not_done-only e d) ∙ or-none (last_done (up_to ys u)))
more-up_to (x ∷ xs) ys e u ne d = go (x.version == u) (more-up_to xs ys e u ne d)
  where
    go : (b : Bool) → last_done (up_to (xs ++ e ∷ ys) u) ≡ last_done (up_to (xs ++ ys) u) → last_done (elim b as (λ _. List Entry) [ true ↦ x ∷ [] | false ↦ x ∷ up_to (xs ++ e ∷ ys) u ]) ≡ last_done (elim b as (λ _. List Entry) [ true ↦ x ∷ [] | false ↦ x ∷ up_to (xs ++ ys) u ])
    go true r = refl
    go false r = ap (λ (o : Option Entry). option_or o (only_done x)) r

-- ---- another state

-- of an entry that does not stand before
pub with_state-before : (t : ℕ) (x : State) (es : List Entry) (u : ℕ) → has es u ≡ true → behind es t u ≡ false → before (with_state t x es) u ≡ before es u
with_state-before t x [] u h b = refl
with_state-before t x (e ∷ es) u h b = let r = with_state-before t x es u in grind (arith, eqb_tells, h, b, r)

with_state-up_to_same : (t : ℕ) (x : State) (es : List Entry) (u : ℕ) → has es u ≡ true → (t == u) ≡ false → behind es t u ≡ false → up_to (with_state t x es) u ≡ up_to es u
with_state-up_to_same t x [] u h ne b = refl
with_state-up_to_same t x (e ∷ es) u h ne b = let r = with_state-up_to_same t x es u in grind (arith, eqb_tells, h, ne, b, r)

-- of a Mark
raised-before : (t : ℕ) (es : List Entry) (u : ℕ) → at is_mark es t ≡ true → last_done (before (with_state t Frame es) u) ≡ last_done (before es u)
raised-before t [] u h = refl
raised-before t (e ∷ es) u h = go (e.version == t) (e.version == u) refl h (raised-before t es u)
  where
    mark-only : is_mark e.state ≡ true → only_done e ≡ None
    mark-only k = not_done-only e (not_done e.state k)
      where
        not_done : (x : State) → is_mark x ≡ true → is_done x ≡ false
        not_done Mark j = refl
        not_done Frame j = refl
        not_done (Done v c ps) j = absurd (true≢false (sym j))

    f : Entry
    f = record e { state = Frame }

    go : (b c : Bool) → (e.version == u) ≡ c → elim b as (λ _. Bool) [ true ↦ is_mark e.state | false ↦ at is_mark es t ] ≡ true → (at is_mark es t ≡ true → last_done (before (with_state t Frame es) u) ≡ last_done (before es u))
        → last_done (before (elim b as (λ _. List Entry) [ true ↦ f ∷ es | false ↦ e ∷ with_state t Frame es ]) u) ≡ last_done (before (e ∷ es) u)
    go true true k j r = rw (k, before) refl
    go true false k j r = rw (k, before) (sym (ap (option_or (last_done (before es u))) (mark-only j)))
    go false true k j r = rw (k, before) refl
    go false false k j r = rw (k, before) (ap (λ (o : Option Entry). option_or o (only_done e)) (r j))

raised-up_to : (t : ℕ) (es : List Entry) (u : ℕ) → at is_mark es t ≡ true → last_done (up_to (with_state t Frame es) u) ≡ last_done (up_to es u)
raised-up_to t [] u h = refl
raised-up_to t (e ∷ es) u h = go (e.version == t) (e.version == u) refl h (raised-up_to t es u)
  where
    mark-only : is_mark e.state ≡ true → only_done e ≡ None
    mark-only k = not_done-only e (not_done e.state k)
      where
        not_done : (x : State) → is_mark x ≡ true → is_done x ≡ false
        not_done Mark j = refl
        not_done Frame j = refl
        not_done (Done v c ps) j = absurd (true≢false (sym j))

    f : Entry
    f = record e { state = Frame }

    go : (b c : Bool) → (e.version == u) ≡ c → elim b as (λ _. Bool) [ true ↦ is_mark e.state | false ↦ at is_mark es t ] ≡ true → (at is_mark es t ≡ true → last_done (up_to (with_state t Frame es) u) ≡ last_done (up_to es u))
        → last_done (up_to (elim b as (λ _. List Entry) [ true ↦ f ∷ es | false ↦ e ∷ with_state t Frame es ]) u) ≡ last_done (up_to (e ∷ es) u)
    go true true k j r = rw (k, up_to) (sym (mark-only j))
    go true false k j r = rw (k, up_to) (sym (ap (option_or (last_done (up_to es u))) (mark-only j)))
    go false true k j r = rw (k, up_to) refl
    go false false k j r = rw (k, up_to) (ap (λ (o : Option Entry). option_or o (only_done e)) (r j))

-- ---- what Collect leaves

filter-before : (p : ℕ → Bool) (es : List Entry) (u : ℕ) → p u ≡ true → before (filter (on_calls p) es) u ≡ filter (on_calls p) (before es u)
filter-before p [] u k = refl
filter-before p (e ∷ es) u k = let r = filter-before p es u k in grind (arith, eqb_tells, r)

filter-up_to : (p : ℕ → Bool) (es : List Entry) (u : ℕ) → p u ≡ true → up_to (filter (on_calls p) es) u ≡ filter (on_calls p) (up_to es u)
filter-up_to p [] u k = refl
filter-up_to p (e ∷ es) u k = let r = filter-up_to p es u k in grind (arith, eqb_tells, r)

pub none-filter : (p : ℕ → Bool) (es : List Entry) → Each (λ v. p v ≡ false) es → filter (on_calls p) es ≡ []
none-filter p [] h = refl
none-filter p (e ∷ es) h = let a = h e.version (or_left _ _ (eq-eqb e.version e.version refl)) in let r = none-filter p es (λ v k. h v (or_right _ _ k)) in grind (arith, a, r)

-- whoever passes stands before all that don't
abbrev pub Firsts : (ℕ → Bool) → List Entry → Type 0
Firsts p es = Ascends (λ u v. p v ≡ true → p u ≡ true) es

none-behind : (p : ℕ → Bool) (e : Entry) (es : List Entry) → Firsts p (e ∷ es) → p e.version ≡ false → Each (λ v. p v ≡ false) es
none-behind p e es h k v j = false_from_ne_true _ (λ w. both_ways _ k (h.0 v j w))

-- All that passes stands before a call that doesn't.
first-before : (p : ℕ → Bool) (es : List Entry) (u : ℕ) → Firsts p es → p u ≡ false → filter (on_calls p) (before es u) ≡ filter (on_calls p) es
first-before p [] u h k = refl
first-before p (e ∷ es) u h k = go (e.version == u) refl (p e.version) refl (first-before p es u h.1 k)
  where
    go : (b : Bool) → (e.version == u) ≡ b → (c : Bool) → p e.version ≡ c → filter (on_calls p) (before es u) ≡ filter (on_calls p) es → filter (on_calls p) (elim b as (λ _. List Entry) [ true ↦ [] | false ↦ e ∷ before es u ]) ≡ filter (on_calls p) (e ∷ es)
    go true x c y r = sym (none-filter p (e ∷ es) (λ v j. cases v (or_cases _ _ j)))
      where
        here : p e.version ≡ false
        here = subst (λ (w : ℕ). p w ≡ false) (sym (eqb-true e.version u x)) k

        cases : (v : ℕ) → ((e.version == v) ≡ true) ⊎ (has es v ≡ true) → p v ≡ false
        cases v (inl w) = subst (λ (z : ℕ). p z ≡ false) (eqb-true e.version v w) here
        cases v (inr w) = none-behind p e es h here v w
    go false x true y r = rw y (ap (λ (xs : List Entry). e ∷ xs) r)
    go false x false y r = rw y r

first-up_to : (p : ℕ → Bool) (es : List Entry) (u : ℕ) → Firsts p es → p u ≡ false → filter (on_calls p) (up_to es u) ≡ filter (on_calls p) es
first-up_to p [] u h k = refl
first-up_to p (e ∷ es) u h k = go (e.version == u) refl (p e.version) refl (first-up_to p es u h.1 k)
  where
    go : (b : Bool) → (e.version == u) ≡ b → (c : Bool) → p e.version ≡ c → filter (on_calls p) (up_to es u) ≡ filter (on_calls p) es → filter (on_calls p) (elim b as (λ _. List Entry) [ true ↦ e ∷ [] | false ↦ e ∷ up_to es u ]) ≡ filter (on_calls p) (e ∷ es)
    go true x c y r = rw here (sym (none-filter p es (none-behind p e es h here)))
      where
        here : p e.version ≡ false
        here = subst (λ (w : ℕ). p w ≡ false) (sym (eqb-true e.version u x)) k
    go false x true y r = rw y (ap (λ (xs : List Entry). e ∷ xs) r)
    go false x false y r = rw y r

-- The last Done is that of the rest, or else that of what passes.
last-parts : (p : ℕ → Bool) (es : List Entry) → Firsts p es → last_done es ≡ option_or (last_done (filter (on_calls (λ v. not (p v))) es)) (last_done (filter (on_calls p) es))
last-parts p [] h = refl
last-parts p (e ∷ es) h = go (p e.version) refl (last-parts p es h.1)
  where
    rest_of : List Entry
    rest_of = filter (on_calls (λ v. not (p v))) es

    all_left : (es : List Entry) → Each (λ v. p v ≡ false) es → filter (on_calls (λ v. not (p v))) es ≡ es
    all_left [] k = refl
    all_left (x ∷ xs) k = let a = k x.version (or_left _ _ (eq-eqb x.version x.version refl)) in let r = all_left xs (λ v j. k v (or_right _ _ j)) in grind (arith, a, r)

    go : (b : Bool) → p e.version ≡ b → last_done es ≡ option_or (last_done rest_of) (last_done (filter (on_calls p) es))
        → option_or (last_done es) (only_done e) ≡ option_or (last_done (if not b then e ∷ rest_of else rest_of)) (last_done (if b then e ∷ filter (on_calls p) es else filter (on_calls p) es))
    go true x r = ap (λ (o : Option Entry). option_or o (only_done e)) r ∙ or-or (last_done rest_of) (last_done (filter (on_calls p) es)) (only_done e)
    go false x r =
        let n = none-behind p e es h x in
        let a = none-filter p es n in
        let b = all_left es n in
        sym (ap (λ (xs : List Entry). option_or (option_or (last_done xs) (only_done e)) (last_done (filter (on_calls p) es))) b ∙ ap (λ (xs : List Entry). option_or (option_or (last_done es) (only_done e)) (last_done xs)) a ∙ or-none (option_or (last_done es) (only_done e)))

before-Firsts : (p : ℕ → Bool) (es : List Entry) (u : ℕ) → Firsts p es → Firsts p (before es u)
before-Firsts p [] u h = tt
before-Firsts p (e ∷ es) u h = go (e.version == u) (before-Firsts p es u h.1)
  where
    inside : (es : List Entry) (v : ℕ) → has (before es u) v ≡ true → has es v ≡ true
    inside [] v k = k
    inside (x ∷ xs) v k = let r = inside xs v in grind (arith, k, r)

    go : (b : Bool) → Firsts p (before es u) → Firsts p (elim b as (λ _. List Entry) [ true ↦ [] | false ↦ e ∷ before es u ])
    go true r = tt
    go false r = (λ v k. h.0 v (inside es v k), r)

up_to-Firsts : (p : ℕ → Bool) (es : List Entry) (u : ℕ) → Firsts p es → Firsts p (up_to es u)
up_to-Firsts p [] u h = tt
up_to-Firsts p (e ∷ es) u h = go (e.version == u) (up_to-Firsts p es u h.1)
  where
    inside : (es : List Entry) (v : ℕ) → has (up_to es u) v ≡ true → has es v ≡ true
    inside [] v k = k
    inside (x ∷ xs) v k = let r = inside xs v in grind (arith, k, r)

    go : (b : Bool) → Firsts p (up_to es u) → Firsts p (elim b as (λ _. List Entry) [ true ↦ e ∷ [] | false ↦ e ∷ up_to es u ])
    go true r = (λ v k. absurd (true≢false (sym k)), tt)
    go false r = (λ v k. h.0 v (inside es v k), r)

collected-before : (p : ℕ → Bool) (es : List Entry) (u : ℕ) → Firsts p es → p u ≡ false → last_done (before (collected (on_calls p) es) u) ≡ last_done (before es u)
collected-before p es u h k = go (last_done (filter (on_calls p) es)) refl
  where
    others : List Entry
    others = filter (on_calls (λ v. not (p v))) es

    parts : last_done (before es u) ≡ option_or (last_done (before others u)) (last_done (filter (on_calls p) es))
    parts = last-parts p (before es u) (before-Firsts p es u h)
        ∙ ap (λ (xs : List Entry). option_or (last_done xs) (last_done (filter (on_calls p) (before es u)))) (sym (filter-before (λ v. not (p v)) es u (ap not k)))
        ∙ ap (λ (xs : List Entry). option_or (last_done (before others u)) (last_done xs)) (first-before p es u h k)

    go : (o : Option Entry) → last_done (filter (on_calls p) es) ≡ o → last_done (before (cons_option o others) u) ≡ last_done (before es u)
    go None e = sym (parts ∙ ap (option_or (last_done (before others u))) e ∙ or-none (last_done (before others u)))
    go (Some x) e =
        let passes = (filter-has p es x.version (last_done-has (filter (on_calls p) es) x e)).1 in
        let ne : (x.version == u) ≡ false = false_from_ne_true _ (λ w. both_ways _ k (subst (λ (z : ℕ). p z ≡ true) (eqb-true x.version u w) passes)) in
        let d = last_is_done (filter (on_calls p) es) x e in
        let only : only_done x ≡ Some x = rw (d, only_done) refl in
        rw (ne, before) (ap (option_or (last_done (before others u))) (only ∙ sym e) ∙ sym parts)

collected-up_to : (p : ℕ → Bool) (es : List Entry) (u : ℕ) → Firsts p es → p u ≡ false → last_done (up_to (collected (on_calls p) es) u) ≡ last_done (up_to es u)
collected-up_to p es u h k = go (last_done (filter (on_calls p) es)) refl
  where
    others : List Entry
    others = filter (on_calls (λ v. not (p v))) es

    parts : last_done (up_to es u) ≡ option_or (last_done (up_to others u)) (last_done (filter (on_calls p) es))
    parts = last-parts p (up_to es u) (up_to-Firsts p es u h)
        ∙ ap (λ (xs : List Entry). option_or (last_done xs) (last_done (filter (on_calls p) (up_to es u)))) (sym (filter-up_to (λ v. not (p v)) es u (ap not k)))
        ∙ ap (λ (xs : List Entry). option_or (last_done (up_to others u)) (last_done xs)) (first-up_to p es u h k)

    go : (o : Option Entry) → last_done (filter (on_calls p) es) ≡ o → last_done (up_to (cons_option o others) u) ≡ last_done (up_to es u)
    go None e = sym (parts ∙ ap (option_or (last_done (up_to others u))) e ∙ or-none (last_done (up_to others u)))
    go (Some x) e =
        let passes = (filter-has p es x.version (last_done-has (filter (on_calls p) es) x e)).1 in
        let ne : (x.version == u) ≡ false = false_from_ne_true _ (λ w. both_ways _ k (subst (λ (z : ℕ). p z ≡ true) (eqb-true x.version u w) passes)) in
        let d = last_is_done (filter (on_calls p) es) x e in
        let only : only_done x ≡ Some x = rw (d, only_done) refl in
        rw (ne, up_to) (ap (option_or (last_done (up_to others u))) (only ∙ sym e) ∙ sym parts)

-- Ended calls stand first.
pub ended-Firsts : (graph : Graph) (s : Core) → IsLawful graph s → (n : ℕ) → Firsts (λ v. not (live s v)) (entries s n)
ended-Firsts graph s h n = Ascends-from (λ u v. not (live s v) ≡ true → not (live s u) ≡ true) (entries s n) (h.one_entry n) (λ u v b k. ap not (h.ended_is_prefix.prefix n u v b (ended_it (live s v) k)))
  where
    ended_it : (b : Bool) → not b ≡ true → b ≡ false
    ended_it true k = sym k
    ended_it false k = refl

-- ---- the step

other_version : (t u : ℕ) (es : List Entry) → has es t ≡ false → has es u ≡ true → (t == u) ≡ false
other_version t u es a b = false_from_ne_true _ (λ k. both_ways _ a (subst (λ (w : ℕ). has es w ≡ true) (sym (eqb-true t u k)) b))

-- The first open call doesn't stand before an entry with no Frame before it.
finisher-not_before : (graph : Graph) (s : Core) → IsLawful graph s → (t n u : ℕ) → heads s t n ≡ true → IsUnblocked (entries s n) u → behind (entries s n) t u ≡ false
finisher-not_before graph s h t n u hd k = false_from_ne_true _ (λ b. both_ways _ (k.none_before t b) (first_open-frame (entries s n) t (h.one_entry n) (head-first (entries s n) t hd)))

pub kept-before : (graph : Graph) (s : Core) → IsLawful graph s → (n u : ℕ) → live s u ≡ true → IsUnblocked (entries s n) u → (es : List Entry) → ListStep graph s n es → last_done (before es u) ≡ last_done (before (entries s n) u)
kept-before graph s h n u l k es (stays e) = ap (λ (xs : List Entry). last_done (before xs u)) e
kept-before graph s h n u l k es (marks t x fresh r e) = ap (λ (xs : List Entry). last_done (before xs u)) e
    ∙ more-before (front (stops s t) (entries s n)) (rest (stops s t) (entries s n)) (new_entry s t Mark) u (other_version t u (entries s n) fresh k.entry) refl
    ∙ ap (λ (xs : List Entry). last_done (before xs u)) (front-rest (stops_call s t) (entries s n))
kept-before graph s h n u l k es (frames t w fresh r e) = ap (λ (xs : List Entry). last_done (before xs u)) e
    ∙ more-before (front (stops s t) (entries s n)) (rest (stops s t) (entries s n)) (new_entry s t Frame) u (other_version t u (entries s n) fresh k.entry) refl
    ∙ ap (λ (xs : List Entry). last_done (before xs u)) (front-rest (stops_call s t) (entries s n))
kept-before graph s h n u l k es (raises t w m e) = ap (λ (xs : List Entry). last_done (before xs u)) e ∙ raised-before t (entries s n) u m
kept-before graph s h n u l k es (finishes t v c ps f e) = ap (λ (xs : List Entry). last_done (before xs u)) e
    ∙ ap last_done (with_state-before t (Done v c ps) (entries s n) u k.entry (finisher-not_before graph s h t n u (at_front-heads graph s t n f) k))
kept-before graph s h n u l k es (collects e) = ap (λ (xs : List Entry). last_done (before xs u)) e ∙ collected-before (λ v. not (live s v)) (entries s n) u (ended-Firsts graph s h n) (ap not l)

pub kept-up_to : (graph : Graph) (s : Core) → IsLawful graph s → (n u : ℕ) → live s u ≡ true → IsUnblocked (entries s n) u → at is_frame (entries s n) u ≡ false → (es : List Entry) → ListStep graph s n es → last_done (up_to es u) ≡ last_done (up_to (entries s n) u)
kept-up_to graph s h n u l k nf es (stays e) = ap (λ (xs : List Entry). last_done (up_to xs u)) e
kept-up_to graph s h n u l k nf es (marks t x fresh r e) = ap (λ (xs : List Entry). last_done (up_to xs u)) e
    ∙ more-up_to (front (stops s t) (entries s n)) (rest (stops s t) (entries s n)) (new_entry s t Mark) u (other_version t u (entries s n) fresh k.entry) refl
    ∙ ap (λ (xs : List Entry). last_done (up_to xs u)) (front-rest (stops_call s t) (entries s n))
kept-up_to graph s h n u l k nf es (frames t w fresh r e) = ap (λ (xs : List Entry). last_done (up_to xs u)) e
    ∙ more-up_to (front (stops s t) (entries s n)) (rest (stops s t) (entries s n)) (new_entry s t Frame) u (other_version t u (entries s n) fresh k.entry) refl
    ∙ ap (λ (xs : List Entry). last_done (up_to xs u)) (front-rest (stops_call s t) (entries s n))
kept-up_to graph s h n u l k nf es (raises t w m e) = ap (λ (xs : List Entry). last_done (up_to xs u)) e ∙ raised-up_to t (entries s n) u m
kept-up_to graph s h n u l k nf es (finishes t v c ps f e) =
    let hd = at_front-heads graph s t n f in
    let fr = first_open-frame (entries s n) t (h.one_entry n) (head-first (entries s n) t hd) in
    let ne : (t == u) ≡ false = false_from_ne_true _ (λ x. both_ways _ nf (subst (λ (w : ℕ). at is_frame (entries s n) w ≡ true) (eqb-true t u x) fr)) in
    ap (λ (xs : List Entry). last_done (up_to xs u)) e ∙ ap last_done (with_state-up_to_same t (Done v c ps) (entries s n) u k.entry ne (finisher-not_before graph s h t n u hd k))
kept-up_to graph s h n u l k nf es (collects e) = ap (λ (xs : List Entry). last_done (up_to xs u)) e ∙ collected-up_to (λ v. not (live s v)) (entries s n) u (ended-Firsts graph s h n) (ap not l)
