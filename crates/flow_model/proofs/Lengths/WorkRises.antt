-- Where a node's last Done stays, no step but Resolve lowers the amount of work there, and each step that works there raises it.
use Rattle.std.proofs.Common.{◌≡◌, ℕ, ◌+◌, ◌≤◌, ◌<◌, Bool, true, false, ◌==◌, ◌⊎◌, inl, inr, refl, sym, ap, arith, List, [], ◌∷◌, ◌++◌, length, true≢false, ◌∙◌, subst, Option, Some, None}
use Rattle.std.proofs.lemmas.Bool.{or_cases, eqb-true, eq-eqb, cases_Bool, not-true}
use Rattle.std.specs.Prelude.{is_some, is_none}
use Rattle.script_tree.specs.declared.value.Value.{Value}
use Rattle.script_tree.proofs.Truths.{and_left, and_right}
use Rattle.signal_graph.specs.Graph.{Graph, node_at, is_in, inputs_of}
use Rattle.node_versions.specs.declared.entry.State.TheVariants.{Mark, Done}
use Rattle.node_versions.specs.Entries.{OutEdge, value_at, value_before, picks_before, has_node}
use Rattle.flow_model.specs.declared.step.Step.{Step}
use Rattle.flow_model.specs.declared.step.Step.TheVariants as steps
use Rattle.flow_model.specs.Machine.State.{Core, Cell, Found, cell, entries}
use Rattle.flow_model.specs.Machine.Words.{gathered_of, is_candidate, is_gathered, found_now, body_now, value_now, found_picks}
use Rattle.flow_model.specs.Machine.Changes.{place_entry, set_state, finish, cleared}
use Rattle.flow_model.specs.Machine.Steps.{allowed, apply, gather, keep_found, keep_body, is_change, collect}
use Rattle.flow_model.specs.Kept.Lawful.{IsLawful}
use Rattle.flow_model.proofs.OneStep.WhoMayStep.{at_front-heads, can_work-at_front, due-can_work, gather-due, evaluate-at_front, body-at_front}
use Rattle.flow_model.proofs.OneList.Entering.{with_cell-cell}
use Rattle.flow_model.proofs.OrderStays.OpenNodesHaveFrames.{cell-there, cell-other, entry-there}
use Rattle.flow_model.proofs.FramesSpread.AfterOtherSteps.{same_outs}
use Rattle.flow_model.proofs.Histories.FoundUntilDone.{heads-entry}
use Rattle.flow_model.proofs.Lengths.WorkDone.{Further, Rises, by_input, by_candidate, by_body, progress, work, has_gathered, work-stays, work-rises, work-found}
use Rattle.flow_model.proofs.Lengths.SameWork.{SameWork, SameLast, same-last, same-further, same-part, listed, frame-work}
use Rattle.flow_model.proofs.Lengths.EdgesAreWork.{discovered-further, dropped-further}

-- ---- Gather

more-gathered : (g : List (ℕ × Value)) (m i : ℕ) (v : Value) → has_gathered g m ≡ true → has_gathered (g ++ (i, v) ∷ []) m ≡ true
more-gathered [] m i v h = absurd (true≢false (sym h))
more-gathered (p ∷ ps) m i v h = go (p.0 == m) h (more-gathered ps m i v)
  where
    go : (b : Bool) → is_some (elim b as (λ _. Option Value) [ true ↦ Some p.1 | false ↦ gathered_of m ps ]) ≡ true → (has_gathered ps m ≡ true → has_gathered (ps ++ (i, v) ∷ []) m ≡ true) → is_some (elim b as (λ _. Option Value) [ true ↦ Some p.1 | false ↦ gathered_of m (ps ++ (i, v) ∷ []) ]) ≡ true
    go true k r = refl
    go false k r = r k

now-gathered : (g : List (ℕ × Value)) (i : ℕ) (v : Value) → has_gathered (g ++ (i, v) ∷ []) i ≡ true
now-gathered [] i v = let e = eq-eqb i i refl in rw (e, gathered_of) refl
now-gathered (p ∷ ps) i v = go (p.0 == i) (now-gathered ps i v)
  where
    go : (b : Bool) → has_gathered (ps ++ (i, v) ∷ []) i ≡ true → is_some (elim b as (λ _. Option Value) [ true ↦ Some p.1 | false ↦ gathered_of i (ps ++ (i, v) ∷ []) ]) ≡ true
    go true r = refl
    go false r = r

gathered-further : (graph : Graph) (s : Core) (t n0 i n : ℕ) → SameLast s (apply graph s (steps.Gather t n0 i)) n → Further (progress s n) (progress (apply graph s (steps.Gather t n0 i)) n)
gathered-further graph s t n0 i n e = record {
  gathered = λ m k. go m k (with_cell-cell s n0 f n);
  found = same-part (λ (c : Cell). c.found) s n0 f (λ c. refl) n;
  body = λ k. ap is_some (same-part (λ (c : Cell). c.body) s n0 f (λ c. refl) n) ∙ k;
  last = same-last s q n e;
  added = λ c a b k. ap (λ (os : List OutEdge). has_node os n) (same_outs s n0 f (λ c. refl) c) ∙ k;
  taken = λ o a k. ap (λ (os : List OutEdge). has_node os n) (same_outs s n0 f (λ c. refl) o) ∙ k;
}
  where
    f : Cell → Cell
    f = gather i (value_at (entries s i) t)

    q : Core
    q = apply graph s (steps.Gather t n0 i)

    go : (m : ℕ) → has_gathered (cell s n).gathered m ≡ true → (cell q n ≡ cell s n) ⊎ ((n ≡ n0) × (cell q n ≡ f (cell s n))) → has_gathered (cell q n).gathered m ≡ true
    go m k (inl x) = ap (λ (c : Cell). has_gathered c.gathered m) x ∙ k
    go m k (inr x) = ap (λ (c : Cell). has_gathered c.gathered m) x.1 ∙ more-gathered (cell s n).gathered m i (value_at (entries s i) t) k

pub gather-fresh : (graph : Graph) (s : Core) (t n i : ℕ) → allowed graph s (steps.Gather t n i) ≡ true → is_gathered s n i ≡ false
gather-fresh graph s t n i a = not-true _ (and_right _ _ (and_left _ _ a))

gather-rises : (graph : Graph) (s : Core) → IsLawful graph s → (t n i : ℕ) → allowed graph s (steps.Gather t n i) ≡ true → Rises (inputs_of (node_at graph n)) (progress s n) (progress (apply graph s (steps.Gather t n i)) n)
gather-rises graph s h t n i a = go (or_cases _ _ (and_right _ _ (and_left _ _ (and_left _ _ a))))
  where
    f : Cell → Cell
    f = gather i (value_at (entries s i) t)

    q : Core
    q = apply graph s (steps.Gather t n i)

    there : n < length s.cells
    there = entry-there s n t (heads-entry graph s h t n (at_front-heads graph s t n (can_work-at_front graph s t n (due-can_work graph s t n (gather-due graph s t n i a)))))

    fresh : is_gathered s n i ≡ false
    fresh = gather-fresh graph s t n i a

    now : has_gathered (cell q n).gathered i ≡ true
    now = ap (λ (c : Cell). has_gathered c.gathered i) (cell-there s n f there) ∙ now-gathered (cell s n).gathered i (value_at (entries s i) t)

    go : (is_in i (inputs_of (node_at graph n)) ≡ true) ⊎ (is_candidate s n i ≡ true) → Rises (inputs_of (node_at graph n)) (progress s n) (progress q n)
    go (inl k) = by_input i k fresh now
    go (inr k) = by_candidate i k fresh now

-- ---- Body

bodied-further : (graph : Graph) (s : Core) (t n0 n : ℕ) → SameLast s (apply graph s (steps.Body t n0)) n → Further (progress s n) (progress (apply graph s (steps.Body t n0)) n)
bodied-further graph s t n0 n e = record {
  gathered = λ m k. ap (λ (g : List (ℕ × Value)). has_gathered g m) (same-part (λ (c : Cell). c.gathered) s n0 f (λ c. refl) n) ∙ k;
  found = same-part (λ (c : Cell). c.found) s n0 f (λ c. refl) n;
  body = λ k. go k (with_cell-cell s n0 f n);
  last = same-last s q n e;
  added = λ c a b k. ap (λ (os : List OutEdge). has_node os n) (same_outs s n0 f (λ c. refl) c) ∙ k;
  taken = λ o a k. ap (λ (os : List OutEdge). has_node os n) (same_outs s n0 f (λ c. refl) o) ∙ k;
}
  where
    f : Cell → Cell
    f = keep_body (body_now graph s n0)

    q : Core
    q = apply graph s (steps.Body t n0)

    go : is_some (cell s n).body ≡ true → (cell q n ≡ cell s n) ⊎ ((n ≡ n0) × (cell q n ≡ f (cell s n))) → is_some (cell q n).body ≡ true
    go k (inl x) = ap (λ (c : Cell). is_some c.body) x ∙ k
    go k (inr x) = ap (λ (c : Cell). is_some c.body) x.1

body-rises : (graph : Graph) (s : Core) → IsLawful graph s → (t n : ℕ) → allowed graph s (steps.Body t n) ≡ true → Rises (inputs_of (node_at graph n)) (progress s n) (progress (apply graph s (steps.Body t n)) n)
body-rises graph s h t n a = by_body (and_right _ _ (and_left _ _ (and_left _ _ a))) (none (cell s n).body (and_right _ _ a))
    (ap (λ (c : Cell). is_some c.body) (cell-there s n (keep_body (body_now graph s n)) (entry-there s n t (heads-entry graph s h t n (at_front-heads graph s t n (body-at_front graph s t n a))))))
  where
    none : (o : Option Value) → is_none o ≡ true → is_some o ≡ false
    none None k = refl
    none (Some v) k = absurd (true≢false (sym k))

-- ---- Evaluate

evaluate-fresh : (graph : Graph) (s : Core) (t n : ℕ) → allowed graph s (steps.Evaluate t n) ≡ true → (cell s n).found ≡ None
evaluate-fresh graph s t n a = none (cell s n).found (not-true _ (and_right _ _ a))
  where
    none : (o : Option Found) → is_some o ≡ false → o ≡ None
    none None k = refl
    none (Some f) k = absurd (true≢false k)

evaluated-rises : (graph : Graph) (s : Core) → IsLawful graph s → (t n : ℕ) → allowed graph s (steps.Evaluate t n) ≡ true → work graph s n + 1 ≤ work graph (apply graph s (steps.Evaluate t n)) n
evaluated-rises graph s h t n a =
    let f = keep_found (found_now graph s t n) in
    let q = apply graph s (steps.Evaluate t n) in
    let l = entry-there s n t (heads-entry graph s h t n (at_front-heads graph s t n (evaluate-at_front graph s t n a))) in
    work-found (inputs_of (node_at graph n)) (progress s n) (progress q n) (ap has_gathered (same-part (λ (c : Cell). c.gathered) s n f (λ c. refl) n)) (evaluate-fresh graph s t n a) (ap (λ (c : Cell). is_some c.found) (cell-there s n f l))

evaluated-stays : (graph : Graph) (s : Core) → IsLawful graph s → (t n0 n : ℕ) → allowed graph s (steps.Evaluate t n0) ≡ true → SameLast s (apply graph s (steps.Evaluate t n0)) n → work graph s n ≤ work graph (apply graph s (steps.Evaluate t n0)) n
evaluated-stays graph s h t n0 n a e = go (cases_Bool (n == n0))
  where
    f : Cell → Cell
    f = keep_found (found_now graph s t n0)

    q : Core
    q = apply graph s (steps.Evaluate t n0)

    go : ((n == n0) ≡ true) ⊎ ((n == n0) ≡ false) → work graph s n ≤ work graph q n
    go (inl w) = subst (λ (m : ℕ). work graph s m ≤ work graph q m) (sym (eqb-true n n0 w)) (let r = evaluated-rises graph s h t n0 a in omega (arith, r))
    go (inr w) =
        let c = cell-other s n0 n f w in
        work-stays (inputs_of (node_at graph n)) (progress s n) (progress q n) (same-further s q n (record { gathered = ap (λ (x : Cell). x.gathered) c; found = ap (λ (x : Cell). x.found) c; body = ap (λ (x : Cell). x.body) c; edges = same_outs s n0 f (λ x. refl) }) e)

-- ---- all steps

-- The step is the Resolve of this node, which forgets all that was done there.
abbrev pub resolves : Step → ℕ → Bool
resolves (steps.Resolve t m) n = n == m
resolves step n = false

same-stays : (graph : Graph) (s q : Core) (n : ℕ) → SameWork s q n → SameLast s q n → work graph s n ≤ work graph q n
same-stays graph s q n w e = work-stays (inputs_of (node_at graph n)) (progress s n) (progress q n) (same-further s q n w e)

resolved-work : (graph : Graph) (s : Core) (t m n : ℕ) → (n == m) ≡ false → SameWork s (apply graph s (steps.Resolve t m)) n
resolved-work graph s t m n ne =
    let f = set_state t (Done (value_now graph s t m) (is_change graph s t m) (found_picks s m)) in
    let fin = finish s t m (value_now graph s t m) (is_change graph s t m) (found_picks s m) in
    let c = cell-other fin m n cleared ne ∙ cell-other s m n f ne in
    record {
      gathered = ap (λ (x : Cell). x.gathered) c;
      found = ap (λ (x : Cell). x.found) c;
      body = ap (λ (x : Cell). x.body) c;
      edges = λ k. same_outs fin m cleared (λ x. refl) k ∙ same_outs s m f (λ x. refl) k;
    }

-- Where the last Done stays, the work stays, but for a Resolve.
pub step-work : (graph : Graph) (s : Core) (step : Step) → IsLawful graph s → allowed graph s step ≡ true → (n : ℕ) → resolves step n ≡ false → SameLast s (apply graph s step) n → work graph s n ≤ work graph (apply graph s step) n
step-work graph s (steps.Frame t m) h a n r e = same-stays graph s (apply graph s (steps.Frame t m)) n (frame-work graph s t m n) e
step-work graph s (steps.Start t) h a n r e = omega arith
step-work graph s (steps.Skip t m) h a n r e =
    let w = listed s m (set_state t (Done (value_before (entries s m) t) false (picks_before (entries s m) t))) (record { gathered = λ c. refl; found = λ c. refl; body = λ c. refl }) (λ c. refl) n in
    same-stays graph s (apply graph s (steps.Skip t m)) n (record { gathered = w.gathered; found = w.found; body = w.body; edges = w.edges }) e
step-work graph s (steps.Gather t m i) h a n r e = work-stays (inputs_of (node_at graph n)) (progress s n) (progress (apply graph s (steps.Gather t m i)) n) (gathered-further graph s t m i n e)
step-work graph s (steps.Evaluate t m) h a n r e = evaluated-stays graph s h t m n a e
step-work graph s (steps.Body t m) h a n r e = work-stays (inputs_of (node_at graph n)) (progress s n) (progress (apply graph s (steps.Body t m)) n) (bodied-further graph s t m n e)
step-work graph s (steps.Resolve t m) h a n r e = same-stays graph s (apply graph s (steps.Resolve t m)) n (resolved-work graph s t m n r) e
step-work graph s (steps.Discover t m c) h a n r e = work-stays (inputs_of (node_at graph n)) (progress s n) (progress (apply graph s (steps.Discover t m c)) n) (discovered-further graph s h t m c n a e)
step-work graph s (steps.Drop t m o) h a n r e = work-stays (inputs_of (node_at graph n)) (progress s n) (progress (apply graph s (steps.Drop t m o)) n) (dropped-further graph s t m o n a e)
step-work graph s (steps.Mark t m) h a n r e =
    let w = listed s m (place_entry s t Mark) (record { gathered = λ c. refl; found = λ c. refl; body = λ c. refl }) (λ c. refl) n in
    same-stays graph s (apply graph s (steps.Mark t m)) n (record { gathered = w.gathered; found = w.found; body = w.body; edges = w.edges }) e
step-work graph s (steps.Look t) h a n r e = omega arith
step-work graph s (steps.End t) h a n r e = omega arith
step-work graph s (steps.Collect m) h a n r e = same-stays graph s (apply graph s (steps.Collect m)) n (listed s m (collect s) (record { gathered = λ c. refl; found = λ c. refl; body = λ c. refl }) (λ c. refl) n) e

-- the steps that work at a node raise the work there
pub gather-works : (graph : Graph) (s : Core) → IsLawful graph s → (t n i : ℕ) → allowed graph s (steps.Gather t n i) ≡ true → SameLast s (apply graph s (steps.Gather t n i)) n → work graph s n + 1 ≤ work graph (apply graph s (steps.Gather t n i)) n
gather-works graph s h t n i a e = work-rises (inputs_of (node_at graph n)) (progress s n) (progress (apply graph s (steps.Gather t n i)) n) (gathered-further graph s t n i n e) (gather-rises graph s h t n i a)

pub evaluate-works : (graph : Graph) (s : Core) → IsLawful graph s → (t n : ℕ) → allowed graph s (steps.Evaluate t n) ≡ true → SameLast s (apply graph s (steps.Evaluate t n)) n → work graph s n + 1 ≤ work graph (apply graph s (steps.Evaluate t n)) n
evaluate-works graph s h t n a e = evaluated-rises graph s h t n a

pub body-works : (graph : Graph) (s : Core) → IsLawful graph s → (t n : ℕ) → allowed graph s (steps.Body t n) ≡ true → SameLast s (apply graph s (steps.Body t n)) n → work graph s n + 1 ≤ work graph (apply graph s (steps.Body t n)) n
body-works graph s h t n a e = work-rises (inputs_of (node_at graph n)) (progress s n) (progress (apply graph s (steps.Body t n)) n) (bodied-further graph s t n n e) (body-rises graph s h t n a)
