-- What calls have read stays what they read, under every step.
use Rattle.std.proofs.Common.{◌≡◌, ℕ, ◌<◌, Bool, true, false, ◌==◌, ◌⊎◌, inl, inr, refl, sym, ap, arith, List, [], ◌∷◌, ◌++◌, length, true≢false, ◌∙◌, subst, Option, Some, None}
use Rattle.std.proofs.lemmas.Bool.{or_left, and_from, eqb-true, eq-eqb, both_ways, cases_Bool, not-true}
use Rattle.std.proofs.lemmas.Option.{slice_get_within}
use Rattle.std.specs.Prelude.{map, is_some, slice_get}
use Rattle.script_tree.specs.declared.value.Value.{Value}
use Rattle.script_tree.proofs.Truths.{and_left, and_right}
use Rattle.signal_graph.specs.Graph.{Graph, node_at}
use Rattle.signal_graph.specs.Values.{nodes_in, taken}
use Rattle.node_versions.specs.declared.entry.State.{State}
use Rattle.node_versions.specs.Entries.{state_of, value_of, value_before, done_at, done_before}
use Rattle.flow_model.specs.declared.step.Step.{Step}
use Rattle.flow_model.specs.declared.step.Step.TheVariants as steps
use Rattle.flow_model.specs.Machine.State.{Core, Found, Gives, Selects, call, cell, live, entries}
use Rattle.flow_model.specs.Machine.Words.{heads, gathered_of, is_gathered, value_gathered, finds, selections_of, picks_of_found, touched}
use Rattle.flow_model.specs.Machine.Steps.{allowed, apply}
use Rattle.flow_model.specs.Kept.Runs.{IsSettled, by_node, by_look}
use Rattle.flow_model.specs.Kept.Lawful.{IsLawful, IsWorking, SomeHead, value_for}
use Rattle.flow_model.proofs.OneStep.WhoMayStep.{opens-live}
use Rattle.flow_model.proofs.Wants.FramedWith.{heads-opens}
use Rattle.flow_model.proofs.OneStep.ChangesOfOneList.{step-list}
use Rattle.flow_model.proofs.OrderStays.OpenNodesHaveFrames.{entry-there}
use Rattle.flow_model.proofs.Values.NothingComesBefore.{head-unblocked, settled-unblocked, kept-before, kept-up_to}
use Rattle.flow_model.proofs.Values.WorkersStayFirst.{Finishes, head-step}
use Rattle.flow_model.proofs.General.AnyAndAll.{get-take}

-- ---- what is gathered

-- The longer list gives what the shorter one gave.
pub gathered-more : (m : ℕ) (xs ys : List (ℕ × Value)) → is_some (gathered_of m xs) ≡ true → gathered_of m (xs ++ ys) ≡ gathered_of m xs
gathered-more m [] ys h = absurd (true≢false (sym h))
gathered-more m (x ∷ xs) ys h = go (x.0 == m) h (gathered-more m xs ys)
  where
    go : (b : Bool) → is_some (elim b as (λ _. Option Value) [ true ↦ Some x.1 | false ↦ gathered_of m xs ]) ≡ true → (is_some (gathered_of m xs) ≡ true → gathered_of m (xs ++ ys) ≡ gathered_of m xs)
        → elim b as (λ _. Option Value) [ true ↦ Some x.1 | false ↦ gathered_of m (xs ++ ys) ] ≡ elim b as (λ _. Option Value) [ true ↦ Some x.1 | false ↦ gathered_of m xs ]
    go true k further = refl
    go false k further = further k

pub gathered-last : (m i : ℕ) (v w : Value) (xs : List (ℕ × Value)) → gathered_of m (xs ++ (i, w) ∷ []) ≡ Some v → (gathered_of m xs ≡ Some v) ⊎ ((i ≡ m) × (w ≡ v))
gathered-last m i v w [] h = go (i == m) refl h
  where
    some : {A : Type 0} {x y : A} → Some x ≡ Some y → x ≡ y
    some e = cc

    go : (b : Bool) → (i == m) ≡ b → elim b as (λ _. Option Value) [ true ↦ Some w | false ↦ None ] ≡ Some v → (gathered_of m [] ≡ Some v) ⊎ ((i ≡ m) × (w ≡ v))
    go true e k = inr (eqb-true i m e, some k)
    go false e k = inl k
gathered-last m i v w (x ∷ xs) h = go (x.0 == m) h (gathered-last m i v w xs)
  where
    go : (b : Bool) → elim b as (λ _. Option Value) [ true ↦ Some x.1 | false ↦ gathered_of m (xs ++ (i, w) ∷ []) ] ≡ Some v → (gathered_of m (xs ++ (i, w) ∷ []) ≡ Some v → (gathered_of m xs ≡ Some v) ⊎ ((i ≡ m) × (w ≡ v)))
        → (elim b as (λ _. Option Value) [ true ↦ Some x.1 | false ↦ gathered_of m xs ] ≡ Some v) ⊎ ((i ≡ m) × (w ≡ v))
    go true k further = inl k
    go false k further = further k

-- the nodes that are selected are those that are picked
pub selected-picks : (o : Option Found) → nodes_in (map taken (selections_of o)) ≡ nodes_in (picks_of_found o)
selected-picks None = refl
selected-picks (Some (Gives v)) = refl
selected-picks (Some (Selects rs)) = refl

-- ---- the step

-- The step is the one that forgets what was gathered at the node.
abbrev pub Resolves : Step → ℕ → Type 0
Resolves (steps.Resolve t n) m = m ≡ n
Resolves step m = ⊥

pub resolves-or : (step : Step) (n : ℕ) → Resolves step n ⊎ (Resolves step n → ⊥)
resolves-or (steps.Resolve t m) n = go (cases_Bool (n == m))
  where
    go : ((n == m) ≡ true) ⊎ ((n == m) ≡ false) → (n ≡ m) ⊎ (n ≡ m → ⊥)
    go (inl x) = inl (eqb-true n m x)
    go (inr x) = inr (λ k. both_ways _ x (eq-eqb n m k))
resolves-or (steps.Frame t m) n = inr (λ k. k)
resolves-or (steps.Start t) n = inr (λ k. k)
resolves-or (steps.Skip t m) n = inr (λ k. k)
resolves-or (steps.Gather t m i) n = inr (λ k. k)
resolves-or (steps.Evaluate t m) n = inr (λ k. k)
resolves-or (steps.Body t m) n = inr (λ k. k)
resolves-or (steps.Discover t m i) n = inr (λ k. k)
resolves-or (steps.Drop t m i) n = inr (λ k. k)
resolves-or (steps.Mark t i) n = inr (λ k. k)
resolves-or (steps.Look t) n = inr (λ k. k)
resolves-or (steps.End t) n = inr (λ k. k)
resolves-or (steps.Collect m) n = inr (λ k. k)

module _ (graph : Graph) (s : Core) (step : Step) (h : IsLawful graph s) (a : allowed graph s step ≡ true) where
  -- What a live call reads at a settled entry stays.
  pub settled-stays : (u m : ℕ) → live s u ≡ true → IsSettled graph s u m → done_at (entries (apply graph s step) m) u ≡ done_at (entries s m) u
  settled-stays u m l k = ap state_of (kept-up_to graph s h m u l (settled-unblocked graph s h u m l k) (h.settled_is_kept.no_frame u m k) (entries (apply graph s step) m) (step-list graph s step h a m))

  pub settled-value : (u m : ℕ) → live s u ≡ true → IsSettled graph s u m → value_for (apply graph s step) u m ≡ value_for s u m
  settled-value u m l k = ap value_of (settled-stays u m l k)

  -- What the first open call reads before its entry stays.
  pub head-stays : (u n : ℕ) → heads s u n ≡ true → done_before (entries (apply graph s step) n) u ≡ done_before (entries s n) u
  head-stays u n k = ap state_of (kept-before graph s h n u (opens-live s u n (heads-opens graph s h u n k)) (head-unblocked graph s h u n k) (entries (apply graph s step) n) (step-list graph s step h a n))

  pub head-there : (u n : ℕ) → heads s u n ≡ true → n < length graph.nodes
  head-there u n k = let e = entry-there s n u (head-unblocked graph s h u n k).entry in let l = h.lists in omega (arith, e, l)

  -- Whoever is the first open call at a node at which a call worked is that call.
  pub work-head : (u n : ℕ) → SomeHead s n (IsWorking graph s n) → heads (apply graph s step) u n ≡ true → (heads s u n ≡ true) ⊎ Resolves step n
  work-head u n w k = go (head-step graph s step h a n w.head u w.first w.holds.executing k)
    where
      done : (x : Step) → allowed graph s x ≡ true → Finishes x w.head n → Resolves x n
      done (steps.Skip t m) b f = absurd (both_ways (touched graph s t m) (not-true _ (and_right _ _ (and_left _ _ b))) (subst (λ (j : ℕ). touched graph s t j ≡ true) f.1 (subst (λ (j : ℕ). touched graph s j n ≡ true) f.0 w.holds.changed)))
      done (steps.Resolve t m) b f = f.1
      done (steps.Frame t m) b f = f
      done (steps.Start t) b f = f
      done (steps.Gather t m i) b f = f
      done (steps.Evaluate t m) b f = f
      done (steps.Body t m) b f = f
      done (steps.Discover t m i) b f = f
      done (steps.Drop t m i) b f = f
      done (steps.Mark t m) b f = f
      done (steps.Look t) b f = f
      done (steps.End t) b f = f
      done (steps.Collect m) b f = f

      go : (u ≡ w.head) ⊎ Finishes step w.head n → (heads s u n ≡ true) ⊎ Resolves step n
      go (inl e) = inl (subst (λ (j : ℕ). heads s j n ≡ true) (sym e) w.first)
      go (inr f) = inr (done step a f)

  -- What was gathered is what the first open call reads after the step.
  pub old-gathered : (u n m : ℕ) (v : Value) → (Resolves step n → ⊥) → heads (apply graph s step) u n ≡ true → gathered_of m (cell s n).gathered ≡ Some v → v ≡ value_for (apply graph s step) u m
  old-gathered u n m v ne k e = go (work-head u n (h.work_is_kept.gathers n m is) k)
    where
      is : is_gathered s n m ≡ true
      is = ap is_some e

      go : (heads s u n ≡ true) ⊎ Resolves step n → v ≡ value_for (apply graph s step) u m
      go (inr x) = absurd (ne x)
      go (inl x) =
          let l = opens-live s u n (heads-opens graph s h u n x) in
          h.values_are_read.gathered u n m v x e ∙ sym (settled-value u m l (by_node n (or_left _ _ (or_left _ _ (and_from _ _ x is)))))

  -- What was found follows from what was gathered.
  pub old-found : (u n : ℕ) (f : Found) → (Resolves step n → ⊥) → heads (apply graph s step) u n ≡ true → (cell s n).found ≡ Some f → (heads s u n ≡ true) × (f ≡ finds (node_at graph n) (value_gathered s n) (value_before (entries (apply graph s step) n) u))
  old-found u n f ne k e = go (work-head u n (h.work_is_kept.finds n (ap is_some e)) k)
    where
      go : (heads s u n ≡ true) ⊎ Resolves step n → (heads s u n ≡ true) × (f ≡ finds (node_at graph n) (value_gathered s n) (value_before (entries (apply graph s step) n) u))
      go (inr x) = absurd (ne x)
      go (inl x) = (x, h.values_are_read.found u n f x e ∙ ap (λ (y : State). finds (node_at graph n) (value_gathered s n) (value_of y)) (sym (head-stays u n x)))

  -- What was looked at is what the call reads there.
  pub old-looked : (u k m : ℕ) (v : Value) → live s u ≡ true → slice_get (call s u).looks k ≡ Some m → slice_get (call s u).looked k ≡ Some v → v ≡ value_for (apply graph s step) u m
  old-looked u k m v l e f = h.values_are_read.looked u k m v l e f
      ∙ sym (settled-value u m l (by_look (get-take (call s u).looks k (length (call s u).looked) m e (slice_get_within (call s u).looked k v f))))
