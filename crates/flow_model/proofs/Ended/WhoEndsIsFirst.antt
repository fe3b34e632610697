-- A call that ends is the first live one in each list: what it reads there is what the ended calls leave with it.
use Rattle.std.proofs.Common.{◌≡◌, ℕ, Bool, true, false, ◌&&◌, not, ◌==◌, ◌⊎◌, inl, inr, refl, sym, ap, arith, List, [], ◌∷◌, ◌++◌, true≢false, ◌∙◌, subst, Option, Some}
use Rattle.std.proofs.lemmas.Bool.{or_cases, or_left, or_right, and_from, eqb-true, eq-eqb, false_from_ne_true, both_ways, not-true}
use Rattle.std.specs.Prelude.{is_some}
use Rattle.std.specs.Prelude.{filter, if◌then◌else◌, is_none}
use Rattle.std.specs.Option.{option_or}
use Rattle.script_tree.proofs.Truths.{and_right}
use Rattle.signal_graph.specs.Graph.{Graph, is_in}
use Rattle.signal_graph.specs.Values.{nodes_in}
use Rattle.order_graph.specs.Order.{reaches}
use Rattle.node_versions.specs.declared.entry.State.{State}
use Rattle.node_versions.specs.declared.entry.State.TheVariants.{Mark, Frame, Done}
use Rattle.node_versions.specs.declared.entry.Entry.{Entry}
use Rattle.node_versions.specs.Entries.{IsUnique, has, at, is_done, changed_of, behind, before, up_to, is_active, last_done, only_done, picks_of, state_of}
use Rattle.node_versions.proofs.Places.{at-has}
use Rattle.flow_model.specs.declared.step.Step.TheVariants as steps
use Rattle.flow_model.specs.Machine.State.{Core, live, ended, entries, changes, opens}
use Rattle.flow_model.specs.Machine.Words.{heads, is_idle, next_look}
use Rattle.flow_model.specs.Machine.Steps.{allowed, apply, any_before}
use Rattle.flow_model.specs.Kept.Runs.{reacts, settles, by_node}
use Rattle.flow_model.specs.Kept.Lawful.{IsLawful, last_ended, ended_before}
use Rattle.flow_model.proofs.OneStep.WhoMayStep.{end-idle, idle-executes, executes-live, opens-live}
use Rattle.flow_model.proofs.OneList.InOrder.{on_calls, filter-has}
use Rattle.flow_model.proofs.OneList.StatesAndPlaces.{behind-has, behind-total}
use Rattle.flow_model.proofs.OneList.Chains.{none-reaches}
use Rattle.flow_model.proofs.OrderStays.AfterEachStep.{lawful-Standing}
use Rattle.flow_model.proofs.OrderStays.PartsOfStepsKeepOrder.{not_before, reads_without}
use Rattle.flow_model.proofs.OrderStays.EntriesAndRoom.{idle-no_frame}
use Rattle.flow_model.proofs.Wants.FramedWith.{heads-opens, not_up_to-behind}
use Rattle.flow_model.proofs.Reactions.WhereRunsBegin.{BeginsRun}
use Rattle.flow_model.proofs.Values.NothingComesBefore.{Firsts, ended-Firsts, none-filter}
use Rattle.flow_model.proofs.Ended.PicksAreCovered.{picks-react}

-- ---- lists

pub filter-alike : (p q : ℕ → Bool) (es : List Entry) → ((v : ℕ) → has es v ≡ true → p v ≡ q v) → filter (on_calls p) es ≡ filter (on_calls q) es
filter-alike p q [] h = refl
filter-alike p q (e ∷ es) h = let a = h e.version (or_left _ _ (eq-eqb e.version e.version refl)) in let r = filter-alike p q es (λ v k. h v (or_right _ _ k)) in grind (arith, a, r)

-- what passes is what stands before a call, or what stands before it and the call
before-part : (p : ℕ → Bool) (es : List Entry) (t : ℕ) → IsUnique es → has es t ≡ true → p t ≡ false → ((v : ℕ) → behind es v t ≡ true → p v ≡ true) → ((v : ℕ) → behind es t v ≡ true → p v ≡ false) → before es t ≡ filter (on_calls p) es
before-part p [] t u h k f b = refl
before-part p (e ∷ es) t u h k f b = go (e.version == t) refl (before-part p es t u.1)
  where
    go : (c : Bool) → (e.version == t) ≡ c → (has es t ≡ true → p t ≡ false → ((v : ℕ) → behind es v t ≡ true → p v ≡ true) → ((v : ℕ) → behind es t v ≡ true → p v ≡ false) → before es t ≡ filter (on_calls p) es)
        → elim c as (λ _. List Entry) [ true ↦ [] | false ↦ e ∷ before es t ] ≡ filter (on_calls p) (e ∷ es)
    go true x further =
        let here : p e.version ≡ false = subst (λ (w : ℕ). p w ≡ false) (sym (eqb-true e.version t x)) k in
        let none = none-filter p es (λ v j. b v (rw (x, behind) j)) in
        rw here (sym none)
    go false x further =
        let ht : has es t ≡ true = rw x at h in
        let self = eq-eqb e.version e.version refl in
        let here : p e.version ≡ true = f e.version (rw (self, behind) ht) in
        let apart = λ (v : ℕ) (j : has es v ≡ true). false_from_ne_true (e.version == v) (λ w. both_ways _ u.0 (subst (λ (z : ℕ). has es z ≡ true) (sym (eqb-true e.version v w)) j)) in
        rw here (ap (λ (xs : List Entry). e ∷ xs) (further ht k (λ v j. f v (let a = apart v (behind-has es v t j).0 in rw (a, behind) j)) (λ v j. b v (rw (x, behind) j))))

up_to-part : (p : ℕ → Bool) (es : List Entry) (t : ℕ) → IsUnique es → has es t ≡ true → p t ≡ true → ((v : ℕ) → behind es v t ≡ true → p v ≡ true) → ((v : ℕ) → behind es t v ≡ true → p v ≡ false) → up_to es t ≡ filter (on_calls p) es
up_to-part p [] t u h k f b = refl
up_to-part p (e ∷ es) t u h k f b = go (e.version == t) refl (up_to-part p es t u.1)
  where
    go : (c : Bool) → (e.version == t) ≡ c → (has es t ≡ true → p t ≡ true → ((v : ℕ) → behind es v t ≡ true → p v ≡ true) → ((v : ℕ) → behind es t v ≡ true → p v ≡ false) → up_to es t ≡ filter (on_calls p) es)
        → elim c as (λ _. List Entry) [ true ↦ e ∷ [] | false ↦ e ∷ up_to es t ] ≡ filter (on_calls p) (e ∷ es)
    go true x further =
        let here : p e.version ≡ true = subst (λ (w : ℕ). p w ≡ true) (sym (eqb-true e.version t x)) k in
        let none = none-filter p es (λ v j. b v (rw (x, behind) j)) in
        rw here (ap (λ (xs : List Entry). e ∷ xs) (sym none))
    go false x further =
        let ht : has es t ≡ true = rw x at h in
        let self = eq-eqb e.version e.version refl in
        let here : p e.version ≡ true = f e.version (rw (self, behind) ht) in
        let apart = λ (v : ℕ) (j : has es v ≡ true). false_from_ne_true (e.version == v) (λ w. both_ways _ u.0 (subst (λ (z : ℕ). has es z ≡ true) (sym (eqb-true e.version v w)) j)) in
        rw here (ap (λ (xs : List Entry). e ∷ xs) (further ht k (λ v j. f v (let a = apart v (behind-has es v t j).0 in rw (a, behind) j)) (λ v j. b v (rw (x, behind) j))))

-- A call without a Done reads what stands before its entry.
no_done-before : (es : List Entry) (t : ℕ) → at is_done es t ≡ false → last_done (up_to es t) ≡ last_done (before es t)
no_done-before [] t h = refl
no_done-before (e ∷ es) t h = go (e.version == t) h (no_done-before es t)
  where
    go : (b : Bool) → elim b as (λ _. Bool) [ true ↦ is_done e.state | false ↦ at is_done es t ] ≡ false → (at is_done es t ≡ false → last_done (up_to es t) ≡ last_done (before es t))
        → last_done (elim b as (λ _. List Entry) [ true ↦ e ∷ [] | false ↦ e ∷ up_to es t ]) ≡ last_done (elim b as (λ _. List Entry) [ true ↦ [] | false ↦ e ∷ before es t ])
    go true k further = rw (k, only_done) refl
    go false k further = ap (λ (o : Option Entry). option_or o (only_done e)) (further k)

-- A call with a Done reads it.
pub record OwnDone (es : List Entry) (t : ℕ) : Type 0 where
  pub entry : Entry
  pub last : last_done (up_to es t) ≡ Some entry
  pub shown : (test : State → Bool) → at test es t ≡ test entry.state

pub own_done : (es : List Entry) (t : ℕ) → at is_done es t ≡ true → OwnDone es t
own_done [] t h = absurd (true≢false (sym h))
own_done (e ∷ es) t h = go (e.version == t) refl h (own_done es t)
  where
    go : (b : Bool) → (e.version == t) ≡ b → elim b as (λ _. Bool) [ true ↦ is_done e.state | false ↦ at is_done es t ] ≡ true → (at is_done es t ≡ true → OwnDone es t) → OwnDone (e ∷ es) t
    go true x k further = record { entry = e; last = rw (x, up_to) (only k); shown = λ test. rw (x, at) refl }
      where
        only : is_done e.state ≡ true → only_done e ≡ Some e
        only j = rw (j, only_done) refl
    go false x k further =
        let o = further k in
        record { entry = o.entry; last = rw (x, up_to) (ap (λ (z : Option Entry). option_or z (only_done e)) o.last); shown = λ test. rw (x, at) (o.shown test) }

-- What a Done alone shows, an entry that is none doesn't show.
only_dones : (test : State → Bool) → ((x : State) → test x ≡ true → is_done x ≡ true) → (es : List Entry) (t : ℕ) → at test es t ≡ true → at is_done es t ≡ true
only_dones test f [] t h = h
only_dones test f (e ∷ es) t h = go (e.version == t) h (only_dones test f es t)
  where
    go : (b : Bool) → elim b as (λ _. Bool) [ true ↦ test e.state | false ↦ at test es t ] ≡ true → (at test es t ≡ true → at is_done es t ≡ true) → elim b as (λ _. Bool) [ true ↦ is_done e.state | false ↦ at is_done es t ] ≡ true
    go true k further = f e.state k
    go false k further = further k

pub changed-done : (es : List Entry) (t : ℕ) → at changed_of es t ≡ true → at is_done es t ≡ true
changed-done es t h = only_dones changed_of (λ x. one x) es t h
  where
    one : (x : State) → changed_of x ≡ true → is_done x ≡ true
    one Mark k = absurd (true≢false (sym k))
    one Frame k = absurd (true≢false (sym k))
    one (Done v c ps) k = refl

-- Whatever passes stands first: the list is what passes and then the rest.
first-split : (p : ℕ → Bool) (es : List Entry) → Firsts p es → filter (on_calls p) es ++ filter (on_calls (λ v. not (p v))) es ≡ es
first-split p [] h = refl
first-split p (e ∷ es) h = go (p e.version) refl (first-split p es h.1)
  where
    others : List Entry
    others = filter (on_calls (λ v. not (p v))) es

    go : (b : Bool) → p e.version ≡ b → filter (on_calls p) es ++ others ≡ es → (if b then e ∷ filter (on_calls p) es else filter (on_calls p) es) ++ (if not b then e ∷ others else others) ≡ e ∷ es
    go true x r = ap (λ (xs : List Entry). e ∷ xs) r
    go false x r =
        let n = none-filter p es (λ v j. false_from_ne_true (p v) (λ w. both_ways _ x (h.0 v j w))) in
        let left : filter (on_calls p) es ++ e ∷ others ≡ e ∷ others = ap (λ (xs : List Entry). xs ++ e ∷ others) n in
        let right : others ≡ es = sym (ap (λ (xs : List Entry). xs ++ others) n) ∙ r in
        left ∙ ap (λ (xs : List Entry). e ∷ xs) right

-- ---- the call that ends

module _ (graph : Graph) (s : Core) (h : IsLawful graph s) (t : ℕ) (a : allowed graph s (steps.End t) ≡ true) where
  abbrev pub after_end : Core
  after_end = apply graph s (steps.End t)

  pub end-live : live s t ≡ true
  end-live = executes-live s t (idle-executes s t (end-idle graph s t a))

  pub live-after_end : (u : ℕ) → live after_end u ≡ (not (u == t) && live s u)
  live-after_end u = reads_without is_some refl t s.calls u

  -- All before it have ended, and all behind it live.
  pub first-ended : (n v : ℕ) → behind (entries s n) v t ≡ true → live s v ≡ false
  first-ended n v b = false_from_ne_true _ (λ l.
      let p = h.order_is_kept.lists n v t b end-live in
      let r : reaches s.pairs v t ≡ false = none-reaches s.pairs t v (not_before s (ended_before s.log) t (lawful-Standing graph s h) (not-true (any_before s t) (and_right (is_idle s t && is_none (next_look s t)) (not (any_before s t)) a))) in
      grind (arith, p, r, l))

  pub later-live : (n v : ℕ) → behind (entries s n) t v ≡ true → live s v ≡ true
  later-live n v b = go (live s v) refl
    where
      go : (c : Bool) → live s v ≡ c → live s v ≡ true
      go true e = e
      go false e = absurd (both_ways _ (h.ended_is_prefix.prefix n t v b e) end-live)

  not_live : (b : Bool) → b ≡ false → not b ≡ true
  not_live b e = ap not e

  before-ended : (n : ℕ) → has (entries s n) t ≡ true → before (entries s n) t ≡ filter (ended s) (entries s n)
  before-ended n k = before-part (λ v. not (live s v)) (entries s n) t (h.one_entry n) k (ap not end-live) (λ v b. not_live _ (first-ended n v b)) (λ v b. ap not (later-live n v b))

  up_to-ended : (n : ℕ) → has (entries s n) t ≡ true → up_to (entries s n) t ≡ filter (ended after_end) (entries s n)
  up_to-ended n k = up_to-part (λ v. not (live after_end v)) (entries s n) t (h.one_entry n) k
      (let l = live-after_end t in let e = eq-eqb t t refl in grind (arith, l, e))
      (λ v b. let l = live-after_end v in let f = first-ended n v b in grind (arith, l, f))
      (λ v b. let l = live-after_end v in let f = later-live n v b in let ne = apart n v b in grind (arith, l, f, ne))
    where
      apart : (n v : ℕ) → behind (entries s n) t v ≡ true → (v == t) ≡ false
      apart n v b = false_from_ne_true _ (λ e. both_ways _ (first-ended n v (subst (λ (w : ℕ). behind (entries s n) v w ≡ true) (eqb-true v t e) (subst (λ (w : ℕ). behind (entries s n) w v ≡ true) (sym (eqb-true v t e)) b))) (later-live n v b))

  -- The last Done of the ended calls, with this one among them, is what it reads; the one before is what stood before it.
  pub last-at : (n : ℕ) → has (entries s n) t ≡ true → last_ended after_end n ≡ last_done (up_to (entries s n) t)
  last-at n k = ap last_done (sym (up_to-ended n k))

  pub last-before : (n : ℕ) → has (entries s n) t ≡ true → last_ended s n ≡ last_done (before (entries s n) t)
  last-before n k = ap last_done (sym (before-ended n k))

  -- Where it has no Done, the last Done of the ended calls stays.
  pub last-same : (n : ℕ) → at is_done (entries s n) t ≡ false → last_ended after_end n ≡ last_ended s n
  last-same n d = go (has (entries s n) t) refl
    where
      go : (b : Bool) → has (entries s n) t ≡ b → last_ended after_end n ≡ last_ended s n
      go true e = last-at n e ∙ no_done-before (entries s n) t d ∙ sym (last-before n e)
      go false e = ap last_done (filter-alike (λ v. not (live after_end v)) (λ v. not (live s v)) (entries s n) (λ v k. other v k))
        where
          other : (v : ℕ) → has (entries s n) v ≡ true → not (live after_end v) ≡ not (live s v)
          other v k =
              let ne : (v == t) ≡ false = false_from_ne_true _ (λ x. both_ways _ e (subst (λ (w : ℕ). has (entries s n) w ≡ true) (eqb-true v t x) k)) in
              let l = live-after_end v in
              grind (arith, ne, l)

  pub idle-opens : (n : ℕ) → opens s t n ≡ false
  idle-opens n = h.frames_are_open.opens_frames t n ∙ idle-no_frame graph s h t n (end-idle graph s t a)

  -- A node without a Done of the call whose last ended Done picks what the call has changed reacts to it.
  pub end-reacts : (n m : ℕ) → changes s t m ≡ true → at is_done (entries s n) t ≡ false → is_in m (nodes_in (picks_of (state_of (last_ended s n)))) ≡ true → reacts graph s t m n ≡ true
  end-reacts n m c none picked = picks-react graph s h t m n
      (filter (on_calls (λ v. not (live s v))) (entries s n)) (filter (on_calls (λ v. not (not (live s v)))) (entries s n))
      (first-split (λ v. not (live s v)) (entries s n) (ended-Firsts graph s h n)) picked entry from until
    where
      entry : has (entries s m) t ≡ true
      entry = at-has changed_of (entries s m) t (sym (h.dones_are_right.changed t m end-live) ∙ c)

      is_ended : (b : Bool) → not b ≡ true → b ≡ false
      is_ended true k = sym k
      is_ended false k = refl

      is_live : (b : Bool) → not (not b) ≡ true → b ≡ true
      is_live true k = refl
      is_live false k = k

      from : (b : ℕ) → has (filter (on_calls (λ v. not (live s v))) (entries s n)) b ≡ true → BeginsRun m (entries s n) b → is_active (entries s m) b t ≡ true
      from b k w = go (is_active (entries s m) b t) refl
        where
          go : (c : Bool) → is_active (entries s m) b t ≡ c → is_active (entries s m) b t ≡ true
          go true e = e
          go false e = absurd (both_ways _ (is_ended (live s b) (filter-has (λ v. not (live s v)) (entries s n) b k).1) (later-live m b (not_up_to-behind (entries s m) t b entry e)))

      until : (z : ℕ) → ((has (filter (on_calls (λ v. not (not (live s v)))) (entries s n)) z ≡ true) × (at is_done (entries s n) z ≡ true)) ⊎ (heads s z n ≡ true) → settles graph s z m n ≡ true → (live s z && behind (entries s m) t z) ≡ true
      until z k settled = and_from _ _ (lives k) (order (or_cases _ _ (behind-total (entries s m) t z entry there (λ e. apart k e))))
        where
          lives : ((has (filter (on_calls (λ v. not (not (live s v)))) (entries s n)) z ≡ true) × (at is_done (entries s n) z ≡ true)) ⊎ (heads s z n ≡ true) → live s z ≡ true
          lives (inl x) = is_live (live s z) (filter-has (λ v. not (not (live s v))) (entries s n) z x.0).1
          lives (inr x) = opens-live s z n (heads-opens graph s h z n x)

          apart : ((has (filter (on_calls (λ v. not (not (live s v)))) (entries s n)) z ≡ true) × (at is_done (entries s n) z ≡ true)) ⊎ (heads s z n ≡ true) → t ≡ z → ⊥
          apart (inl x) e = both_ways _ none (subst (λ (w : ℕ). at is_done (entries s n) w ≡ true) (sym e) x.1)
          apart (inr x) e = both_ways _ (idle-opens n) (subst (λ (w : ℕ). opens s w n ≡ true) (sym e) (heads-opens graph s h z n x))

          there : has (entries s m) z ≡ true
          there = h.settled_has_entry z m (lives k) (by_node n settled)

          order : (behind (entries s m) t z ≡ true) ⊎ (behind (entries s m) z t ≡ true) → behind (entries s m) t z ≡ true
          order (inl b) = b
          order (inr b) = absurd (both_ways _ (first-ended m z b) (lives k))
