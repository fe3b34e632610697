-- After each step a Done node rests on nothing that is open or wanted: an earlier call with it open would have kept it from being Done.
use Rattle.std.proofs.Common.{◌≡◌, ℕ, ◌<◌, Bool, true, false, ◌&&◌, ◌||◌, not, ◌==◌, ◌⊎◌, inl, inr, refl, sym, ap, arith, List, [], ◌∷◌, length, true≢false, ◌∙◌, subst, Option}
use Rattle.std.proofs.lemmas.List.Folds.{list_any-append}
use Rattle.std.proofs.lemmas.Bool.{or_cases, or_left, or_right, and_from, eqb-true, eqb-false, false_from_ne_true, both_ways, cases_Bool, true_from_ne_false}
use Rattle.script_tree.proofs.Truths.{and_left, and_right}
use Rattle.signal_graph.specs.Graph.{Graph, is_in, node_at, inputs_of, is_source, static_outs}
use Rattle.order_graph.specs.Order.{reaches}
use Rattle.order_graph.proofs.Reaching.{reaches-join}
use Rattle.node_versions.specs.declared.entry.Entry.{Entry}
use Rattle.node_versions.specs.Entries.{has, at, is_frame, is_done, behind, before, front, rest, is_active, picks_at, picks_before, last_done}
use Rattle.node_versions.proofs.Places.{at-has}
use Rattle.signal_graph.specs.Values.{nodes_in}
use Rattle.flow_model.specs.declared.step.Step.{Step}
use Rattle.flow_model.specs.declared.step.Step.TheVariants as steps
use Rattle.flow_model.specs.Machine.Lists.{is_empty}
use Rattle.flow_model.specs.Machine.State.{Core, LiveCall, call, call_or, live, executes, is_framing, entries, opens, wants, precedes}
use Rattle.flow_model.specs.Machine.Words.{deps, prior_picks, heads}
use Rattle.flow_model.specs.Machine.Steps.{allowed, apply, started}
use Rattle.flow_model.specs.Kept.Runs.{reacts, settles, by_node, was_due}
use Rattle.flow_model.specs.Kept.Lawful.{IsLawful, OrderIsKept, FramingComesLast, FramesAreOpen}
use Rattle.flow_model.proofs.OneStep.WhoMayStep.{opens-live}
use Rattle.flow_model.proofs.OneList.InOrder.{on_calls, front-rest}
use Rattle.flow_model.proofs.OneList.StatesAndPlaces.{behind-total}
use Rattle.flow_model.proofs.OrderStays.AfterEachStep.{step-OrderIsKept}
use Rattle.flow_model.proofs.OneStep.WhoLivesAndFrames.{PhaseStep, stays, starts, ends, step-phases}
use Rattle.flow_model.proofs.OneStep.SameCallers.{phase-live}
use Rattle.flow_model.proofs.OrderStays.EntriesAndRoom.{step-FramingComesLast, idle-no_frame}
use Rattle.flow_model.proofs.OneStep.ChangesOfOneList.{step-list}
use Rattle.flow_model.proofs.OrderStays.OpenNodesHaveFrames.{step-FramesAreOpen, entry-there}
use Rattle.flow_model.proofs.Wants.FramedWith.{opens-frame, heads-opens, not_up_to-behind}
use Rattle.flow_model.proofs.Wants.WantsAreFree.{list-no_done}
use Rattle.flow_model.proofs.Wants.WantsAreCovered.{step-WantsAreCovered}
use Rattle.flow_model.proofs.Reactions.RunsThatHaveEnded.{not_both}
use Rattle.flow_model.proofs.Reactions.WhereRunsBegin.{picked_in, BeginsRun}
use Rattle.flow_model.proofs.Ended.PicksAreCovered.{picks-react}
use Rattle.flow_model.proofs.General.AnyAndAll.{any-none}
use Rattle.flow_model.proofs.Ended.AfterEnd.{input-static}
use Rattle.flow_model.proofs.OneList.CallsAndCells.{change_call-other}
use Rattle.flow_model.proofs.Values.WorkersStayFirst.{Finishes, FrameBefore, old, executing, framing, frame-before, step-grows, open-stays}
use Rattle.flow_model.proofs.OneStep.WhatStepsLeave.{step-field}

-- ---- lists

-- what stands before a call's entry is the list up to it
before-front : (es : List Entry) (u : ℕ) → before es u ≡ front (on_calls (λ v. v == u)) es
before-front [] u = refl
before-front (e ∷ es) u = let r = before-front es u in grind (arith, r)

rest-cases : (es : List Entry) (u z : ℕ) → has (rest (on_calls (λ v. v == u)) es) z ≡ true → (z ≡ u) ⊎ (behind es u z ≡ true)
rest-cases [] u z h = absurd (true≢false (sym h))
rest-cases (e ∷ es) u z h = go (e.version == u) refl h (rest-cases es u z)
  where
    go : (b : Bool) → (e.version == u) ≡ b → has (elim b as (λ _. List Entry) [ true ↦ e ∷ es | false ↦ rest (on_calls (λ v. v == u)) es ]) z ≡ true → (has (rest (on_calls (λ v. v == u)) es) z ≡ true → (z ≡ u) ⊎ (behind es u z ≡ true))
        → (z ≡ u) ⊎ (elim b as (λ _. Bool) [ true ↦ has es z | false ↦ behind es u z ] ≡ true)
    go false x k further = further k
    go true x k further = two (or_cases _ _ k)
      where
        two : ((e.version == z) ≡ true) ⊎ (has es z ≡ true) → (z ≡ u) ⊎ (has es z ≡ true)
        two (inl y) = inl (sym (eqb-true e.version z y) ∙ eqb-true e.version u x)
        two (inr y) = inr y

-- ---- calls

-- Whoever executes after a step and wanted a node before it executed before it: a call that starts wants nothing.
executed : (graph : Graph) (s : Core) (step : Step) → allowed graph s step ≡ true → (v m : ℕ) → live (apply graph s step) v ≡ true → executes (apply graph s step) v ≡ true → wants s v m ≡ true → executes s v ≡ true
executed graph s (steps.Frame t n) a v m l x w = sym (step-field (λ c. c.executing) graph s (steps.Frame t n) (λ m outs c. refl) v l) ∙ x
executed graph s (steps.Start t) a v m l x w = true_from_ne_false _ (λ e. go e (cases_Bool (v == t)))
  where
    none : (ns : List ℕ) → is_empty ns ≡ true → is_in m ns ≡ true → ⊥
    none [] e k = true≢false (sym k)
    none (y ∷ ys) e k = true≢false (sym e)

    go : executes s v ≡ false → ((v == t) ≡ true) ⊎ ((v == t) ≡ false) → ⊥
    go e (inl k) = none (call s t).wanted (and_right _ _ (and_left _ _ a)) (subst (λ (j : ℕ). wants s j m ≡ true) (eqb-true v t k) w)
    go e (inr k) = both_ways _ e (sym other ∙ x)
      where
        other : executes (apply graph s (steps.Start t)) v ≡ executes s v
        other = ap (λ (o : Option LiveCall). (call_or o).executing) (change_call-other t v started (λ c. refl) s.calls (eqb-false v t k))
executed graph s (steps.Skip t n) a v m l x w = sym (step-field (λ c. c.executing) graph s (steps.Skip t n) (λ c. refl) v l) ∙ x
executed graph s (steps.Gather t n i) a v m l x w = x
executed graph s (steps.Evaluate t n) a v m l x w = sym (step-field (λ c. c.executing) graph s (steps.Evaluate t n) (λ c. refl) v l) ∙ x
executed graph s (steps.Body t n) a v m l x w = x
executed graph s (steps.Resolve t n) a v m l x w = sym (step-field (λ c. c.executing) graph s (steps.Resolve t n) (λ b c. refl) v l) ∙ x
executed graph s (steps.Discover t n i) a v m l x w = sym (step-field (λ c. c.executing) graph s (steps.Discover t n i) (λ es c. refl) v l) ∙ x
executed graph s (steps.Drop t n i) a v m l x w = sym (step-field (λ c. c.executing) graph s (steps.Drop t n i) tt v l) ∙ x
executed graph s (steps.Mark t i) a v m l x w = x
executed graph s (steps.Look t) a v m l x w = sym (step-field (λ c. c.executing) graph s (steps.Look t) (λ y c. refl) v l) ∙ x
executed graph s (steps.End t) a v m l x w = sym (step-field (λ c. c.executing) graph s (steps.End t) tt v l) ∙ x
executed graph s (steps.Collect n) a v m l x w = x

module _ (graph : Graph) (s : Core) (step : Step) (h : IsLawful graph s) (a : allowed graph s step ≡ true) where
  abbrev q : Core
  q = apply graph s step

  order_q : OrderIsKept (apply graph s step)
  order_q = step-OrderIsKept graph s step h a

  framing_q : FramingComesLast (apply graph s step)
  framing_q = step-FramingComesLast graph s step h a

  open_q : FramesAreOpen (apply graph s step)
  open_q = step-FramesAreOpen graph s step h a

  pub was-live : (u : ℕ) → live (apply graph s step) u ≡ true → live s u ≡ true
  was-live u l = phase-live s (apply graph s step) (step-phases graph s step a) u l

  -- a call with an open node lives on
  open-lives : (v n : ℕ) → opens s v n ≡ true → live (apply graph s step) v ≡ true
  open-lives v n o = go (step-phases graph s step a)
    where
      lv : live s v ≡ true
      lv = opens-live s v n o

      go : PhaseStep s (apply graph s step) → live (apply graph s step) v ≡ true
      go (stays p) = ap (λ (f : ℕ → Bool). f v) p.lives ∙ lv
      go (starts t f l x) = ap (λ (f : ℕ → Bool). f v) l ∙ lv
      go (ends t i same l x) = l v ∙ and_from (not (v == t)) (live s v) (ap not (false_from_ne_true (v == t) (λ e. both_ways _ (idle-no_frame graph s h t n i) (subst (λ (j : ℕ). at is_frame (entries s n) j ≡ true) (eqb-true v t e) (opens-frame graph s h v n o))))) lv

  -- A Done after a step was one before it, or the call finishes there.
  pub done-before : (u n : ℕ) → at is_done (entries (apply graph s step) n) u ≡ true → (at is_done (entries s n) u ≡ true) ⊎ Finishes step u n
  done-before u n d = go (at is_done (entries s n) u) refl
    where
      go : (b : Bool) → at is_done (entries s n) u ≡ b → (at is_done (entries s n) u ≡ true) ⊎ Finishes step u n
      go true e = inl e
      go false e = inr (finish (open-stays graph s step h a u n (true_from_ne_false (opens s u n) (λ c. both_ways _ (list-no_done graph s h n u c e (entries (apply graph s step) n) (step-list graph s step h a n)) d))))
        where
          finish : (opens (apply graph s step) u n ≡ true) ⊎ Finishes step u n → Finishes step u n
          finish (inr f) = f
          finish (inl o) = absurd (both_ways _ (not_both (entries (apply graph s step) n) u (sym (open_q.opens_frames u n) ∙ o)) d)

  -- A call with a Done executes.
  pub done-executes : (u n : ℕ) → live s u ≡ true → at is_done (entries s n) u ≡ true → executes s u ≡ true
  done-executes u n l d = true_from_ne_false _ (λ e. both_ways _ (h.framing_comes_last.no_done u n (let f : is_framing s u ≡ true = grind (arith, e, l) in f)) d)

  -- No call that has the node open leads to a call that is Done there.
  not_open : (u n v : ℕ) → live (apply graph s step) u ≡ true → at is_done (entries s n) u ≡ true → reaches (apply graph s step).pairs v u ≡ true → opens s v n ≡ true → ⊥
  not_open u n v l d r o = go (or_cases _ _ (behind-total (entries s n) u v (at-has is_done (entries s n) u d) (at-has is_frame (entries s n) v fv) (λ e. both_ways _ (not_both (entries s n) v fv) (subst (λ (j : ℕ). at is_done (entries s n) j ≡ true) e d))))
    where
      fv : at is_frame (entries s n) v ≡ true
      fv = opens-frame graph s h v n o

      lu : live s u ≡ true
      lu = was-live u l

      go : (behind (entries s n) u v ≡ true) ⊎ (behind (entries s n) v u ≡ true) → ⊥
      go (inr b) = both_ways _ (h.frames_are_open.behind_dones n v u b fv) d
      go (inl b) =
          let p = h.order_is_kept.lists n u v b (opens-live s v n o) in
          let k : reaches s.pairs u v ≡ true = grind (arith, p, lu) in
          both_ways _ (order_q.no_cycle u) (reaches-join (apply graph s step).pairs u v u (step-grows graph s step h a u v l k) r)

  -- Nor does one that has open what the node reacts to.
  not_reacting : (u n m v : ℕ) → live (apply graph s step) u ≡ true → at is_done (entries s n) u ≡ true → executes (apply graph s step) u ≡ true → reaches (apply graph s step).pairs v u ≡ true → opens s v m ≡ true → reacts graph s v m n ≡ true → ⊥
  not_reacting u n m v l d xu r o k = go (or_cases _ _ (h.frames_spread v m n (opens-frame graph s h v m o) k))
    where
      lv : live (apply graph s step) v ≡ true
      lv = open-lives v m o

      xv : executes (apply graph s step) v ≡ true
      xv = true_from_ne_false _ (λ e. both_ways _ (framing_q.before v u (let f : is_framing (apply graph s step) v ≡ true = grind (arith, e, lv) in f) xu) (or_left _ _ r))

      covered : (w : ℕ) → precedes s w v ≡ true → opens s w n ≡ true → ⊥
      covered w p ow =
          let lw = opens-live s w n ow in
          let c : reaches s.pairs w v ≡ true = grind (arith, p, lw) in
          not_open u n w l d (reaches-join (apply graph s step).pairs w v u (step-grows graph s step h a w v (open-lives w n ow) c) r) ow

      go : (opens s v n ≡ true) ⊎ (wants s v n ≡ true) → ⊥
      go (inl x) = not_open u n v l d r x
      go (inr x) = let c = h.wants_are_covered v n (executed graph s step a v n lv xv x) x in covered c.by.0 c.by.1 c.by.2

  -- The node reacts to changes of its prior picks by earlier calls.
  prior-reacts : (u n m v : ℕ) → live (apply graph s step) u ≡ true → at is_done (entries s n) u ≡ true → is_in m (prior_picks s u n) ≡ true → reaches (apply graph s step).pairs v u ≡ true → opens s v m ≡ true → reacts graph s v m n ≡ true
  prior-reacts u n m v l d p r o = picks-react graph s h v m n (front (on_calls (λ w. w == u)) (entries s n)) (rest (on_calls (λ w. w == u)) (entries s n)) (front-rest (λ w. w == u) (entries s n))
      (ap (λ (es : List Entry). picked_in m (last_done es)) (sym (before-front (entries s n) u)) ∙ p) entry from until
    where
      fv : at is_frame (entries s m) v ≡ true
      fv = opens-frame graph s h v m o

      entry : has (entries s m) v ≡ true
      entry = at-has is_frame (entries s m) v fv

      lv : live s v ≡ true
      lv = opens-live s v m o

      lu : live s u ≡ true
      lu = was-live u l

      from : (b : ℕ) → has (front (on_calls (λ w. w == u)) (entries s n)) b ≡ true → BeginsRun m (entries s n) b → is_active (entries s m) b v ≡ true
      from b k w = go (is_active (entries s m) b v) refl
        where
          go : (c : Bool) → is_active (entries s m) b v ≡ c → is_active (entries s m) b v ≡ true
          go true e = e
          go false e = absurd (new (h.entries_are_kept.new_picks b n lb w.done))
            where
              after : behind (entries s m) v b ≡ true
              after = not_up_to-behind (entries s m) v b entry e

              lb : live s b ≡ true
              lb = true_from_ne_false _ (λ x. both_ways _ (h.ended_is_prefix.prefix m v b after x) lv)

              new : (was_due graph s b n ≡ true) ⊎ (picks_at (entries s n) b ≡ picks_before (entries s n) b) → ⊥
              new (inr x) = both_ways _ w.prior (ap (λ (ps : List (Option ℕ)). is_in m (nodes_in ps)) (sym x) ∙ w.now)
              new (inl x) =
                  let settled : settles graph s b m n ≡ true = or_right _ _ (and_from _ _ x (or_right _ _ w.now)) in
                  both_ways _ (h.settled_is_kept.none_before v b m (by_node n settled) after) fv

      until : (z : ℕ) → ((has (rest (on_calls (λ w. w == u)) (entries s n)) z ≡ true) × (at is_done (entries s n) z ≡ true)) ⊎ (heads s z n ≡ true) → settles graph s z m n ≡ true → (live s z && behind (entries s m) v z) ≡ true
      until z k settled = and_from _ _ (lives (place k)) (order (or_cases _ _ (behind-total (entries s m) v z entry (h.settled_has_entry z m (lives (place k)) (by_node n settled)) (λ e. both_ways _ (h.settled_is_kept.no_frame z m (by_node n settled)) (subst (λ (j : ℕ). at is_frame (entries s m) j ≡ true) e fv)))))
        where
          place : ((has (rest (on_calls (λ w. w == u)) (entries s n)) z ≡ true) × (at is_done (entries s n) z ≡ true)) ⊎ (heads s z n ≡ true) → (z ≡ u) ⊎ (behind (entries s n) u z ≡ true)
          place (inl x) = rest-cases (entries s n) u z x.0
          place (inr x) = inr (two (or_cases _ _ (behind-total (entries s n) u z (at-has is_done (entries s n) u d) (at-has is_frame (entries s n) z fz) (λ e. both_ways _ (not_both (entries s n) z fz) (subst (λ (j : ℕ). at is_done (entries s n) j ≡ true) e d)))))
            where
              fz : at is_frame (entries s n) z ≡ true
              fz = opens-frame graph s h z n (heads-opens graph s h z n x)

              two : (behind (entries s n) u z ≡ true) ⊎ (behind (entries s n) z u ≡ true) → behind (entries s n) u z ≡ true
              two (inl b) = b
              two (inr b) = absurd (both_ways _ (h.frames_are_open.behind_dones n z u b fz) d)

          lives : (z ≡ u) ⊎ (behind (entries s n) u z ≡ true) → live s z ≡ true
          lives (inl e) = subst (λ (j : ℕ). live s j ≡ true) (sym e) lu
          lives (inr b) = true_from_ne_false _ (λ x. both_ways _ (h.ended_is_prefix.prefix n u z b x) lu)

          order : (behind (entries s m) v z ≡ true) ⊎ (behind (entries s m) z v ≡ true) → behind (entries s m) v z ≡ true
          order (inl b) = b
          order (inr b) = absurd (cycle (place k))
            where
              lz : live s z ≡ true
              lz = lives (place k)

              zv : reaches s.pairs z v ≡ true
              zv = let x = h.order_is_kept.lists m z v b lv in grind (arith, x, lz)

              cycle : (z ≡ u) ⊎ (behind (entries s n) u z ≡ true) → ⊥
              cycle (inl e) = both_ways _ (order_q.no_cycle u) (reaches-join (apply graph s step).pairs u v u (step-grows graph s step h a u v l (subst (λ (j : ℕ). reaches s.pairs j v ≡ true) e zv)) r)
              cycle (inr c) =
                  let x = h.order_is_kept.lists n u z c lz in
                  let uz : reaches s.pairs u z ≡ true = grind (arith, x, lu) in
                  both_ways _ (order_q.no_cycle u) (reaches-join (apply graph s step).pairs u v u (step-grows graph s step h a u v l (reaches-join s.pairs u z v uz zv)) r)

  dep-reacts : (u n m v : ℕ) → live (apply graph s step) u ≡ true → at is_done (entries s n) u ≡ true → is_in m (deps graph s u n) ≡ true → ((is_in m (inputs_of (node_at graph n)) ≡ true) → is_in n (static_outs graph m) ≡ true) → reaches (apply graph s step).pairs v u ≡ true → opens s v m ≡ true → reacts graph s v m n ≡ true
  dep-reacts u n m v l d k static r o = go (or_cases _ _ (sym (list_any-append (λ x. x == m) (inputs_of (node_at graph n)) (prior_picks s u n)) ∙ k))
    where
      go : (is_in m (inputs_of (node_at graph n)) ≡ true) ⊎ (is_in m (prior_picks s u n) ≡ true) → reacts graph s v m n ≡ true
      go (inl x) = or_left _ _ (static x)
      go (inr x) = prior-reacts u n m v l d x r o

  -- an executing call that lives on executes
  still-executes : (u : ℕ) → executes s u ≡ true → live (apply graph s step) u ≡ true → executes (apply graph s step) u ≡ true
  still-executes u x l = go (step-phases graph s step a)
    where
      go : PhaseStep s (apply graph s step) → executes (apply graph s step) u ≡ true
      go (stays p) = ap (λ (f : ℕ → Bool). f u) p.executing ∙ x
      go (starts t f k y) = y u ∙ or_right (u == t) (executes s u) x
      go (ends t i same k y) = y u ∙ and_from (not (u == t)) (executes s u) (and_left (not (u == t)) (live s u) (sym (k u) ∙ l)) x

  -- What the Done node rests on stays neither open nor wanted.
  pub deps-closed : (u n m : ℕ) → live (apply graph s step) u ≡ true → at is_done (entries s n) u ≡ true → is_source (node_at graph n) ≡ false → is_in m (deps graph s u n) ≡ true → (opens (apply graph s step) u m || wants (apply graph s step) u m) ≡ false
  deps-closed u n m l d ns k = neither closed unwanted
    where
      before : (opens s u m || wants s u m) ≡ false
      before = any-none (λ j. opens s u j || wants s u j) (deps graph s u n) m (h.dones_are_right.other u n (was-live u l) d ns).no_open k

      not_opened : opens s u m ≡ false
      not_opened = false_from_ne_true (opens s u m) (λ x. both_ways _ before (or_left _ _ x))

      not_wanted : wants s u m ≡ false
      not_wanted = false_from_ne_true (wants s u m) (λ x. both_ways _ before (or_right _ _ x))

      neither : opens (apply graph s step) u m ≡ false → wants (apply graph s step) u m ≡ false → (opens (apply graph s step) u m || wants (apply graph s step) u m) ≡ false
      neither x y = ap (λ (b : Bool). b || wants (apply graph s step) u m) x ∙ y

      there : n < length graph.nodes
      there = let e = entry-there s n u (at-has is_done (entries s n) u d) in let j = h.lists in omega (arith, e, j)

      closed : opens (apply graph s step) u m ≡ false
      closed = false_from_ne_true (opens (apply graph s step) u m) (λ o. go (frame-before graph s h m u (entries (apply graph s step) m) (step-list graph s step h a m) (sym (open_q.opens_frames u m) ∙ o)))
        where
          go : FrameBefore s m u (entries (apply graph s step) m) → ⊥
          go (old f) = both_ways _ not_opened (h.frames_are_open.opens_frames u m ∙ f)
          go (executing w x) = both_ways _ not_wanted w
          go (framing w f) = both_ways _ not_wanted w

      xu : executes (apply graph s step) u ≡ true
      xu = still-executes u (done-executes u n (was-live u l) d) l

      away : (v : ℕ) → reaches (apply graph s step).pairs v u ≡ true → opens s v m ≡ true → ⊥
      away v r o = not_reacting u n m v l d xu r o (dep-reacts u n m v l d k (input-static graph n m there) r o)

      unwanted : wants (apply graph s step) u m ≡ false
      unwanted = false_from_ne_true (wants (apply graph s step) u m) (λ w. let c = step-WantsAreCovered graph s step h a u m xu w in covered c.by.0 c.by.1 c.by.2)
        where
          covered : (v : ℕ) → precedes (apply graph s step) v u ≡ true → opens (apply graph s step) v m ≡ true → ⊥
          covered v p o = go (frame-before graph s h m v (entries (apply graph s step) m) (step-list graph s step h a m) (sym (open_q.opens_frames v m) ∙ o))
            where
              lv : live (apply graph s step) v ≡ true
              lv = opens-live (apply graph s step) v m o

              r : reaches (apply graph s step).pairs v u ≡ true
              r = grind (arith, p, lv)

              xv : executes (apply graph s step) v ≡ true
              xv = true_from_ne_false _ (λ e. both_ways _ (framing_q.before v u (let f : is_framing (apply graph s step) v ≡ true = grind (arith, e, lv) in f) xu) p)

              further : wants s v m ≡ true → executes s v ≡ true → ⊥
              further w x = let c = h.wants_are_covered v m x w in next c.by.0 c.by.1 c.by.2
                where
                  next : (z : ℕ) → precedes s z v ≡ true → opens s z m ≡ true → ⊥
                  next z y oz =
                      let lz = opens-live s z m oz in
                      let i : reaches s.pairs z v ≡ true = grind (arith, y, lz) in
                      away z (reaches-join (apply graph s step).pairs z v u (step-grows graph s step h a z v (open-lives z m oz) i) r) oz

              go : FrameBefore s m v (entries (apply graph s step) m) → ⊥
              go (old f) = away v r (h.frames_are_open.opens_frames v m ∙ f)
              go (executing w x) = further w x
              go (framing w f) = further w (executed graph s step a v m lv xv w)
