-- After each step a call's number evaluated is the number of nodes that it has evaluated.
use Rattle.std.proofs.Common.{◌≡◌, ℕ, suc, ◌+◌, ◌<◌, ◌≤◌, Bool, true, false, ◌&&◌, ◌||◌, not, ◌==◌, ◌⊎◌, inl, inr, refl, sym, ap, arith, List, [], ◌∷◌, ◌++◌, length, true≢false, ◌∙◌, subst, Option, Some}
use Rattle.std.proofs.lemmas.Bool.{or_cases, or_left, or_right, and_parts, and_from, eqb-true, eq-eqb, eqb-false, false_from_ne_true, both_ways, cases_Bool, not-true}
use Rattle.std.specs.Prelude.{filter, is_some, if◌then◌else◌}
use Rattle.std.specs.List.{list_any}
use Rattle.std.specs.Cmp.{both_ways as same_truth}
use Rattle.script_tree.proofs.Truths.{and_left, and_right}
use Rattle.signal_graph.specs.declared.node.Node.{Node}
use Rattle.signal_graph.specs.Graph.{Graph, IsGraph, is_in, node_at, numbers, numbers_from, inputs_of, is_source}
use Rattle.signal_graph.specs.Values.{nodes_in}
use Rattle.node_versions.specs.declared.entry.State.TheVariants.{Done}
use Rattle.node_versions.specs.declared.entry.Entry.{Entry}
use Rattle.node_versions.specs.Entries.{IsUnique, at, is_frame, is_done, first_open, picks_before, value_at}
use Rattle.flow_model.specs.declared.step.Step.{Step}
use Rattle.flow_model.specs.declared.step.Step.TheVariants as steps
use Rattle.flow_model.specs.Machine.State.{Core, Cell, Found, call, cell, live, executes, entries, opens, changes, with_cell}
use Rattle.flow_model.specs.Machine.Words.{touched, heads, is_found, is_some_of, at_front, found_now, value_now, found_picks, deps, body_now}
use Rattle.flow_model.specs.Machine.Changes.{finish, cleared, set_state}
use Rattle.flow_model.specs.Machine.Steps.{allowed, apply, counted, gather, keep_found, keep_body, is_change}
use Rattle.flow_model.specs.Kept.Runs.{was_due}
use Rattle.flow_model.specs.Kept.Lawful.{IsLawful, has_evaluated}
use Rattle.flow_model.proofs.OneStep.WhoMayStep.{executes-live, at_front-executes, at_front-heads, can_work-at_front, skip-can_work, resolve-can_work, evaluate-at_front}
use Rattle.flow_model.proofs.OneList.StatesAndPlaces.{first_open-frame}
use Rattle.flow_model.proofs.OneList.CallsAndCells.{with_call-field}
use Rattle.flow_model.proofs.OneList.Entering.{with_cell-cell}
use Rattle.flow_model.proofs.OneStep.SameLengths.{change_at-length}
use Rattle.flow_model.proofs.OneStep.ChangesOfOneList.{same_cell}
use Rattle.flow_model.proofs.OrderStays.EntriesAndRoom.{step-one_entry}
use Rattle.flow_model.proofs.OrderStays.OpenNodesHaveFrames.{cell-there, cell-other, entry-there, step-FramesAreOpen}
use Rattle.flow_model.proofs.OrderStays.NoFrameBeforeDones.{head-first}
use Rattle.flow_model.proofs.Reactions.RunsThatHaveEnded.{not_both}
use Rattle.flow_model.proofs.Wants.FramedWith.{opens-frame, heads-opens}
use Rattle.flow_model.proofs.Values.NothingComesBefore.{head-unblocked, done-no_frame}
use Rattle.flow_model.proofs.Values.WorkersStayFirst.{Finishes, finish-or, head-step, open-stays}
use Rattle.flow_model.proofs.FramesSpread.AfterDones.{heads-same, found-touched}
use Rattle.flow_model.proofs.OneStep.WhatStepsLeave.{IsEvaluate, step-field, step-work, evaluated-stays, changed-stays}
use Rattle.flow_model.proofs.Values.ReadsStay.{Resolves, resolves-or, work-head}
use Rattle.flow_model.proofs.Values.DonesRestOnClosed.{was-live, done-before}
use Rattle.flow_model.proofs.Values.RightDonesStay.{touched-kept, shown-kept}
use Rattle.flow_model.proofs.Values.NewDonesAreRight.{IsFinished, resolve-worked, resolve-due, skip-finished, resolve-finished}
use Rattle.flow_model.proofs.Work.WorkAtOneNode.{evaluate-not_found}

-- ---- lists

first-some : (es : List Entry) (u : ℕ) → at is_frame es u ≡ true → (x : ℕ) × (first_open es ≡ Some x)
first-some [] u h = absurd (true≢false (sym h))
first-some (e ∷ es) u h = go (is_frame e.state) refl (e.version == u) h (first-some es u)
  where
    go : (b : Bool) → is_frame e.state ≡ b → (c : Bool) → elim c as (λ _. Bool) [ true ↦ is_frame e.state | false ↦ at is_frame es u ] ≡ true → (at is_frame es u ≡ true → (x : ℕ) × (first_open es ≡ Some x)) → (x : ℕ) × (elim b as (λ _. Option ℕ) [ true ↦ Some e.version | false ↦ first_open es ] ≡ Some x)
    go true y c k further = (e.version, refl)
    go false y true k further = absurd (true≢false (sym k ∙ y))
    go false y false k further = further k

pub filter-same : (p q : ℕ → Bool) (ns : List ℕ) → ((n : ℕ) → is_in n ns ≡ true → p n ≡ q n) → filter p ns ≡ filter q ns
filter-same p q [] h = refl
filter-same p q (n ∷ ns) h = go (p n) refl (h n (or_left _ _ (eq-eqb n n refl))) (filter-same p q ns (λ m k. h m (or_right _ _ k)))
  where
    go : (b : Bool) → p n ≡ b → p n ≡ q n → filter p ns ≡ filter q ns → (if p n then n ∷ filter p ns else filter p ns) ≡ (if q n then n ∷ filter q ns else filter q ns)
    go b x y r = ap (λ (c : Bool). if c then n ∷ filter p ns else filter p ns) y ∙ ap (λ (xs : List ℕ). if q n then n ∷ xs else xs) r

pub below-apart : (k : ℕ) (nodes : List Node) (n : ℕ) → is_in n (numbers_from k nodes) ≡ true → k ≤ n
below-apart k [] n h = absurd (true≢false (sym h))
below-apart k (x ∷ xs) n h = go (or_cases _ _ h) (below-apart (k + 1) xs n)
  where
    go : ((k == n) ≡ true) ⊎ (is_in n (numbers_from (k + 1) xs) ≡ true) → (is_in n (numbers_from (k + 1) xs) ≡ true → k + 1 ≤ n) → k ≤ n
    go (inl e) further = let y = eqb-true k n e in omega (arith, y)
    go (inr e) further = let y = further e in omega (arith, y)

-- One number more passes.
count-one : (p q : ℕ → Bool) (k : ℕ) (nodes : List Node) (n0 : ℕ) → k ≤ n0 → n0 < k + length nodes → ((n : ℕ) → (n == n0) ≡ false → q n ≡ p n) → p n0 ≡ false → q n0 ≡ true → length (filter q (numbers_from k nodes)) ≡ suc (length (filter p (numbers_from k nodes)))
count-one p q k [] n0 a b same no_p yes_q = absurd (omega arith)
count-one p q k (x ∷ xs) n0 a b same no_p yes_q = go (cases_Bool (k == n0)) (λ (y : k + 1 ≤ n0). count-one p q (k + 1) xs n0 y (omega arith) same no_p yes_q)
  where
    ps : List ℕ
    ps = filter p (numbers_from (k + 1) xs)

    qs : List ℕ
    qs = filter q (numbers_from (k + 1) xs)

    go : ((k == n0) ≡ true) ⊎ ((k == n0) ≡ false) → (k + 1 ≤ n0 → length qs ≡ suc (length ps)) → length (if q k then k ∷ qs else qs) ≡ suc (length (if p k then k ∷ ps else ps))
    go (inl e) further =
        let y = eqb-true k n0 e in
        let pk : p k ≡ false = subst (λ (j : ℕ). p j ≡ false) (sym y) no_p in
        let qk : q k ≡ true = subst (λ (j : ℕ). q j ≡ true) (sym y) yes_q in
        let rest = filter-same q p (numbers_from (k + 1) xs) (λ n i. same n (false_from_ne_true (n == n0) (λ z. let m = below-apart (k + 1) xs n i in let w = eqb-true n n0 z in let f : ⊥ = absurd (omega (arith, m, w, y)) in f))) in
        rw (qk, pk) (ap (λ (ms : List ℕ). suc (length ms)) rest)
    go (inr e) further =
        let y : k + 1 ≤ n0 = other_le (eqb-false k n0 e) in
        let r = further y in
        let s = same k e in
        cases (p k) refl s r
      where
        other_le : (k ≡ n0 → ⊥) → k + 1 ≤ n0
        other_le ne = grind (arith, ne, a)

        cases : (c : Bool) → p k ≡ c → q k ≡ p k → length qs ≡ suc (length ps) → length (if q k then k ∷ qs else qs) ≡ suc (length (if p k then k ∷ ps else ps))
        cases true x s r = let z = s ∙ x in rw (z, x) (ap suc r)
        cases false x s r = let z = s ∙ x in rw (z, x) r

-- ---- what is found

-- The step finds nothing new at a node.
kept-found : (graph : Graph) (s : Core) (step : Step) → (IsEvaluate step → ⊥) → (n : ℕ) → (Resolves step n → ⊥) → is_found (apply graph s step) n ≡ is_found s n
kept-found graph s (steps.Frame t m) ne n nr = ap (λ (o : Option Found). is_some o) (step-work graph s (steps.Frame t m) (λ k. k) n).found
kept-found graph s (steps.Start t) ne n nr = refl
kept-found graph s (steps.Skip t m) ne n nr = ap (λ (o : Option Found). is_some o) (step-work graph s (steps.Skip t m) (λ k. k) n).found
kept-found graph s (steps.Gather t m i) ne n nr = go (with_cell-cell s m (gather i (value_at (entries s i) t)) n)
  where
    go : (cell (apply graph s (steps.Gather t m i)) n ≡ cell s n) ⊎ ((n ≡ m) × (cell (apply graph s (steps.Gather t m i)) n ≡ gather i (value_at (entries s i) t) (cell s n))) → is_found (apply graph s (steps.Gather t m i)) n ≡ is_found s n
    go (inl e) = ap (λ (c : Cell). is_some c.found) e
    go (inr e) = ap (λ (c : Cell). is_some c.found) e.1
kept-found graph s (steps.Evaluate t m) ne n nr = absurd (ne tt)
kept-found graph s (steps.Body t m) ne n nr = go (with_cell-cell s m (keep_body (body_now graph s m)) n)
  where
    go : (cell (apply graph s (steps.Body t m)) n ≡ cell s n) ⊎ ((n ≡ m) × (cell (apply graph s (steps.Body t m)) n ≡ keep_body (body_now graph s m) (cell s n))) → is_found (apply graph s (steps.Body t m)) n ≡ is_found s n
    go (inl e) = ap (λ (c : Cell). is_some c.found) e
    go (inr e) = ap (λ (c : Cell). is_some c.found) e.1
kept-found graph s (steps.Resolve t m) ne n nr =
    let e : (n == m) ≡ false = false_from_ne_true (n == m) (λ k. nr (eqb-true n m k)) in
    ap (λ (c : Cell). is_some c.found) (cell-other (finish s t m (value_now graph s t m) (is_change graph s t m) (found_picks s m)) m n cleared e ∙ cell-other s m n (set_state t (Done (value_now graph s t m) (is_change graph s t m) (found_picks s m))) e)
kept-found graph s (steps.Discover t m i) ne n nr = ap (λ (o : Option Found). is_some o) (step-work graph s (steps.Discover t m i) (λ k. k) n).found
kept-found graph s (steps.Drop t m i) ne n nr = ap (λ (o : Option Found). is_some o) (step-work graph s (steps.Drop t m i) (λ k. k) n).found
kept-found graph s (steps.Mark t i) ne n nr = ap (λ (o : Option Found). is_some o) (step-work graph s (steps.Mark t i) (λ k. k) n).found
kept-found graph s (steps.Look t) ne n nr = refl
kept-found graph s (steps.End t) ne n nr = refl
kept-found graph s (steps.Collect m) ne n nr = ap (λ (o : Option Found). is_some o) (step-work graph s (steps.Collect m) (λ k. k) n).found

resolved-found : (graph : Graph) (s : Core) → IsLawful graph s → (t n : ℕ) → allowed graph s (steps.Resolve t n) ≡ true → is_found (apply graph s (steps.Resolve t n)) n ≡ false
resolved-found graph s h t n a = ap (λ (c : Cell). is_some c.found) (cell-there (finish s t n (value_now graph s t n) (is_change graph s t n) (found_picks s n)) n cleared (subst (λ (k : ℕ). n < k) (sym (change_at-length n (set_state t (Done (value_now graph s t n) (is_change graph s t n) (found_picks s n))) s.cells)) inside))
  where
    inside : n < length s.cells
    inside = entry-there s n t (head-unblocked graph s h t n (at_front-heads graph s t n (can_work-at_front graph s t n (resolve-can_work graph s t n a)))).entry

-- ---- what a call has evaluated

done-no_head : (es : List Entry) (u : ℕ) → IsUnique es → at is_done es u ≡ true → is_some_of (first_open es) u ≡ false
done-no_head es u un d = false_from_ne_true _ (λ k. both_ways _ (done-no_frame es u d) (first_open-frame es u un (head-first es u k)))

module _ (graph : Graph) (g : IsGraph graph) (s : Core) (step : Step) (h : IsLawful graph s) (a : allowed graph s step ≡ true) (ne : IsEvaluate step → ⊥) (u : ℕ) (l : live (apply graph s step) u ≡ true) where
  -- where the call doesn't finish
  due-same : (n : ℕ) → (Finishes step u n → ⊥) → was_due graph (apply graph s step) u n ≡ was_due graph s u n
  due-same n nf = go (at is_done (entries s n) u) refl
    where
      go : (b : Bool) → at is_done (entries s n) u ≡ b → (at is_done (entries (apply graph s step) n) u && touched graph (apply graph s step) u n) ≡ (at is_done (entries s n) u && touched graph s u n)
      go true d = ap (λ (x : Bool). x && touched graph (apply graph s step) u n) (shown-kept graph g s step h a u n l d is_done) ∙ ap (λ (x : Bool). at is_done (entries s n) u && x) (touched-kept graph g s step h a u n l d)
      go false d =
          let e : at is_done (entries (apply graph s step) n) u ≡ false = false_from_ne_true _ (λ k. new (done-before graph s step h a u n k)) in
          ap (λ (x : Bool). x && touched graph (apply graph s step) u n) e ∙ sym (ap (λ (x : Bool). x && touched graph s u n) d)
        where
          new : (at is_done (entries s n) u ≡ true) ⊎ Finishes step u n → ⊥
          new (inl k) = both_ways _ d k
          new (inr k) = nf k

  found-same : (n : ℕ) → (Finishes step u n → ⊥) → (heads (apply graph s step) u n && is_found (apply graph s step) n) ≡ (heads s u n && is_found s n)
  found-same n nf = go (resolves-or step n)
    where
      forth : (Resolves step n → ⊥) → (heads (apply graph s step) u n && is_found (apply graph s step) n) ≡ true → (heads s u n && is_found s n) ≡ true
      forth nr k = two (work-head graph s step h a u n (h.work_is_kept.finds n f) (and_parts (heads (apply graph s step) u n) (is_found (apply graph s step) n) k).0)
        where
          f : is_found s n ≡ true
          f = sym (kept-found graph s step ne n nr) ∙ (and_parts (heads (apply graph s step) u n) (is_found (apply graph s step) n) k).1

          two : (heads s u n ≡ true) ⊎ Resolves step n → (heads s u n && is_found s n) ≡ true
          two (inl x) = and_from _ _ x f
          two (inr x) = absurd (nr x)

      back : (Resolves step n → ⊥) → (heads s u n && is_found s n) ≡ true → (heads (apply graph s step) u n && is_found (apply graph s step) n) ≡ true
      back nr k = and_from _ _ (stays (open-stays graph s step h a u n (heads-opens graph s h u n hd))) (kept-found graph s step ne n nr ∙ f)
        where
          hd : heads s u n ≡ true
          hd = (and_parts (heads s u n) (is_found s n) k).0

          f : is_found s n ≡ true
          f = (and_parts (heads s u n) (is_found s n) k).1

          xu : executes s u ≡ true
          xu = let w = h.work_is_kept.finds n f in subst (λ (j : ℕ). executes s j ≡ true) (heads-same s u w.head n hd w.first) w.holds.executing

          stays : (opens (apply graph s step) u n ≡ true) ⊎ Finishes step u n → heads (apply graph s step) u n ≡ true
          stays (inr x) = absurd (nf x)
          stays (inl x) = first (first-some (entries (apply graph s step) n) u (sym ((step-FramesAreOpen graph s step h a).opens_frames u n) ∙ x))
            where
              first : (y : ℕ) × (first_open (entries (apply graph s step) n) ≡ Some y) → heads (apply graph s step) u n ≡ true
              first (y, e) = same (head-step graph s step h a n u y hd xu head)
                where
                  head : heads (apply graph s step) y n ≡ true
                  head = rw e (eq-eqb y y refl)

                  same : (y ≡ u) ⊎ Finishes step u n → heads (apply graph s step) u n ≡ true
                  same (inl z) = subst (λ (j : ℕ). heads (apply graph s step) j n ≡ true) z head
                  same (inr z) = absurd (nf z)

      resolved : (x : Step) → allowed graph s x ≡ true → (Finishes x u n → ⊥) → Resolves x n → (heads (apply graph s x) u n && is_found (apply graph s x) n) ≡ (heads s u n && is_found s n)
      resolved (steps.Resolve t m) b nf r = false_from_ne_true _ (λ k. both_ways _ (subst (λ (j : ℕ). is_found (apply graph s (steps.Resolve t m)) j ≡ false) (sym r) (resolved-found graph s h t m b)) (and_parts (heads (apply graph s (steps.Resolve t m)) u n) (is_found (apply graph s (steps.Resolve t m)) n) k).1)
          ∙ sym (false_from_ne_true _ (λ k. nf (heads-same s t u n (subst (λ (j : ℕ). heads s t j ≡ true) (sym r) (at_front-heads graph s t m (can_work-at_front graph s t m (resolve-can_work graph s t m b)))) (and_parts (heads s u n) (is_found s n) k).0, r)))
      resolved (steps.Frame t m) b nf r = absurd r
      resolved (steps.Start t) b nf r = absurd r
      resolved (steps.Skip t m) b nf r = absurd r
      resolved (steps.Gather t m i) b nf r = absurd r
      resolved (steps.Evaluate t m) b nf r = absurd r
      resolved (steps.Body t m) b nf r = absurd r
      resolved (steps.Discover t m i) b nf r = absurd r
      resolved (steps.Drop t m i) b nf r = absurd r
      resolved (steps.Mark t m) b nf r = absurd r
      resolved (steps.Look t) b nf r = absurd r
      resolved (steps.End t) b nf r = absurd r
      resolved (steps.Collect m) b nf r = absurd r

      go : Resolves step n ⊎ (Resolves step n → ⊥) → (heads (apply graph s step) u n && is_found (apply graph s step) n) ≡ (heads s u n && is_found s n)
      go (inl r) = resolved step a nf r
      go (inr r) = same_truth _ _ (forth r) (back r)

-- where the call finishes
frame-not_due : (graph : Graph) (s : Core) → IsLawful graph s → (t n : ℕ) → heads s t n ≡ true → was_due graph s t n ≡ false
frame-not_due graph s h t n k = false_from_ne_true _ (λ x. both_ways _ (not_both (entries s n) t (opens-frame graph s h t n (heads-opens graph s h t n k))) (and_left _ _ x))

source-not_touched : (graph : Graph) (s : Core) (t n : ℕ) → is_source (node_at graph n) ≡ true → touched graph s t n ≡ false
source-not_touched graph s t n e = ap (λ (b : Bool). not b && list_any (changes s t) (deps graph s t n)) e

-- what the call has evaluated at a node at which it has finished
finished-same : (graph : Graph) (s q : Core) → IsLawful graph s → (t n : ℕ) → IsUnique (entries q n) → heads s t n ≡ true → IsFinished graph s q t n → is_found s n ≡ touched graph s t n → has_evaluated graph q t n ≡ has_evaluated graph s t n
finished-same graph s q h t n un hd f e =
    let a : heads q t n ≡ false = done-no_head (entries q n) t un f.done in
    let b : was_due graph s t n ≡ false = frame-not_due graph s h t n hd in
    join (at is_done (entries q n) t) (touched graph q t n) (touched graph s t n) (heads q t n) (is_found q n) (was_due graph s t n) (heads s t n) (is_found s n) f.done f.due a b hd e
  where
    join : (d tq ts hq fq ws hs fs : Bool) → d ≡ true → tq ≡ ts → hq ≡ false → ws ≡ false → hs ≡ true → fs ≡ ts → ((d && tq) || (hq && fq)) ≡ (ws || (hs && fs))
    join d tq ts hq fq ws hs fs a b c e f i = grind (arith, a, b, c, e, f, i)

resolve-sources : (graph : Graph) (s : Core) → IsLawful graph s → (t n : ℕ) → allowed graph s (steps.Resolve t n) ≡ true → is_found s n ≡ touched graph s t n
resolve-sources graph s h t n a = go (is_source (node_at graph n)) refl
  where
    hd : heads s t n ≡ true
    hd = at_front-heads graph s t n (can_work-at_front graph s t n (resolve-can_work graph s t n a))

    go : (b : Bool) → is_source (node_at graph n) ≡ b → is_found s n ≡ touched graph s t n
    go true e = false_from_ne_true (is_found s n) (λ f. both_ways _ (source-not_touched graph s t n e) (found-touched graph s h t n hd f)) ∙ sym (source-not_touched graph s t n e)
    go false e = and_left _ _ (and_left _ _ (and_left _ _ (and_left _ _ (resolve-worked graph s t n a e)))) ∙ sym (resolve-due graph s t n a e)

skip-found : (graph : Graph) (s : Core) → IsLawful graph s → (t n : ℕ) → allowed graph s (steps.Skip t n) ≡ true → is_found s n ≡ touched graph s t n
skip-found graph s h t n a =
    let hd = at_front-heads graph s t n (can_work-at_front graph s t n (skip-can_work graph s t n a)) in
    let e : touched graph s t n ≡ false = not-true _ (and_right _ _ (and_left _ _ a)) in
    false_from_ne_true (is_found s n) (λ f. both_ways _ e (found-touched graph s h t n hd f)) ∙ sym e

-- What a step says of the Done by which a call finishes.
pub step-finished : (graph : Graph) → IsGraph graph → (s : Core) (step : Step) → IsLawful graph s → allowed graph s step ≡ true → (u n : ℕ) → Finishes step u n → IsFinished graph s (apply graph s step) u n × (is_found s n ≡ touched graph s u n)
step-finished graph g s (steps.Skip t m) h a u n f = subst (λ (j : ℕ). IsFinished graph s (apply graph s (steps.Skip t m)) j n × (is_found s n ≡ touched graph s j n)) (sym f.0)
    (subst (λ (j : ℕ). IsFinished graph s (apply graph s (steps.Skip t m)) t j × (is_found s j ≡ touched graph s t j)) (sym f.1) (skip-finished graph s t m h a, skip-found graph s h t m a))
step-finished graph g s (steps.Resolve t m) h a u n f = subst (λ (j : ℕ). IsFinished graph s (apply graph s (steps.Resolve t m)) j n × (is_found s n ≡ touched graph s j n)) (sym f.0)
    (subst (λ (j : ℕ). IsFinished graph s (apply graph s (steps.Resolve t m)) t j × (is_found s j ≡ touched graph s t j)) (sym f.1) (resolve-finished graph g s t m h a, resolve-sources graph s h t m a))
step-finished graph g s (steps.Frame t m) h a u n f = absurd f
step-finished graph g s (steps.Start t) h a u n f = absurd f
step-finished graph g s (steps.Gather t m i) h a u n f = absurd f
step-finished graph g s (steps.Evaluate t m) h a u n f = absurd f
step-finished graph g s (steps.Body t m) h a u n f = absurd f
step-finished graph g s (steps.Discover t m i) h a u n f = absurd f
step-finished graph g s (steps.Drop t m i) h a u n f = absurd f
step-finished graph g s (steps.Mark t m) h a u n f = absurd f
step-finished graph g s (steps.Look t) h a u n f = absurd f
step-finished graph g s (steps.End t) h a u n f = absurd f
step-finished graph g s (steps.Collect m) h a u n f = absurd f

finish-heads : (graph : Graph) (s : Core) (step : Step) → allowed graph s step ≡ true → (u n : ℕ) → Finishes step u n → heads s u n ≡ true
finish-heads graph s (steps.Skip t m) a u n f = subst (λ (j : ℕ). heads s j n ≡ true) (sym f.0) (subst (λ (j : ℕ). heads s t j ≡ true) (sym f.1) (at_front-heads graph s t m (can_work-at_front graph s t m (skip-can_work graph s t m a))))
finish-heads graph s (steps.Resolve t m) a u n f = subst (λ (j : ℕ). heads s j n ≡ true) (sym f.0) (subst (λ (j : ℕ). heads s t j ≡ true) (sym f.1) (at_front-heads graph s t m (can_work-at_front graph s t m (resolve-can_work graph s t m a))))
finish-heads graph s (steps.Frame t m) a u n f = absurd f
finish-heads graph s (steps.Start t) a u n f = absurd f
finish-heads graph s (steps.Gather t m i) a u n f = absurd f
finish-heads graph s (steps.Evaluate t m) a u n f = absurd f
finish-heads graph s (steps.Body t m) a u n f = absurd f
finish-heads graph s (steps.Discover t m i) a u n f = absurd f
finish-heads graph s (steps.Drop t m i) a u n f = absurd f
finish-heads graph s (steps.Mark t m) a u n f = absurd f
finish-heads graph s (steps.Look t) a u n f = absurd f
finish-heads graph s (steps.End t) a u n f = absurd f
finish-heads graph s (steps.Collect m) a u n f = absurd f

-- ---- the counts

abbrev Counts : Graph → Core → ℕ → Type 0
Counts graph q u = (call q u).evaluated ≡ length (filter (has_evaluated graph q u) (numbers graph))

plain-counts : (graph : Graph) → IsGraph graph → (s : Core) (step : Step) → IsLawful graph s → allowed graph s step ≡ true → (IsEvaluate step → ⊥) → (u : ℕ) → live (apply graph s step) u ≡ true → Counts graph (apply graph s step) u
plain-counts graph g s step h a ne u l =
    step-field (λ c. c.evaluated) graph s step (evaluated-stays step ne) u l
    ∙ h.dones_are_right.evaluated u (was-live graph s step h a u l)
    ∙ ap length (filter-same (has_evaluated graph s u) (has_evaluated graph (apply graph s step) u) (numbers graph) (λ n k. sym (same n (finish-or step u n))))
  where
    same : (n : ℕ) → Finishes step u n ⊎ (Finishes step u n → ⊥) → has_evaluated graph (apply graph s step) u n ≡ has_evaluated graph s u n
    same n (inl f) = let r = step-finished graph g s step h a u n f in finished-same graph s (apply graph s step) h u n (step-one_entry graph s step h a n) (finish-heads graph s step a u n f) r.0 r.1
    same n (inr f) = ap (λ (b : Bool). b || (heads (apply graph s step) u n && is_found (apply graph s step) n)) (due-same graph g s step h a ne u l n f) ∙ ap (λ (b : Bool). was_due graph s u n || b) (found-same graph g s step h a ne u l n f)

evaluate-counts : (graph : Graph) (s : Core) (t n0 : ℕ) → IsLawful graph s → allowed graph s (steps.Evaluate t n0) ≡ true → (u : ℕ) → live (apply graph s (steps.Evaluate t n0)) u ≡ true → Counts graph (apply graph s (steps.Evaluate t n0)) u
evaluate-counts graph s t n0 h a u l = go (cases_Bool (u == t)) (with_call-field (λ c. c.evaluated) (with_cell s n0 (keep_found (found_now graph s t n0))) t counted (λ c. refl) u lt)
  where
    front : at_front graph s t n0 ≡ true
    front = evaluate-at_front graph s t n0 a

    lt : live s t ≡ true
    lt = executes-live s t (at_front-executes graph s t n0 front)

    hd : heads s t n0 ≡ true
    hd = at_front-heads graph s t n0 front

    ls : live s u ≡ true
    ls = was-live graph s (steps.Evaluate t n0) h a u l

    inside : n0 < length s.cells
    inside = entry-there s n0 t (head-unblocked graph s h t n0 hd).entry

    lists : (n : ℕ) → entries (apply graph s (steps.Evaluate t n0)) n ≡ entries s n
    lists n = same_cell graph s n0 (keep_found (found_now graph s t n0)) (λ c. refl) n

    changed : (call (apply graph s (steps.Evaluate t n0)) u).changed ≡ (call s u).changed
    changed = step-field (λ c. c.changed) graph s (steps.Evaluate t n0) (changed-stays (steps.Evaluate t n0) (λ k. k)) u l

    due : (n : ℕ) → was_due graph (apply graph s (steps.Evaluate t n0)) u n ≡ was_due graph s u n
    due n = ap (λ (es : List Entry). at is_done es u && (not (is_source (node_at graph n)) && list_any (changes (apply graph s (steps.Evaluate t n0)) u) (inputs_of (node_at graph n) ++ nodes_in (picks_before es u)))) (lists n)
        ∙ ap (λ (ms : List ℕ). at is_done (entries s n) u && (not (is_source (node_at graph n)) && list_any (λ m. is_in m ms) (deps graph s u n))) changed

    head : (n : ℕ) → heads (apply graph s (steps.Evaluate t n0)) u n ≡ heads s u n
    head n = ap (λ (es : List Entry). is_some_of (first_open es) u) (lists n)

    found_other : (n : ℕ) → (n == n0) ≡ false → is_found (apply graph s (steps.Evaluate t n0)) n ≡ is_found s n
    found_other n e = ap (λ (c : Cell). is_some c.found) (cell-other s n0 n (keep_found (found_now graph s t n0)) e)

    other : (n : ℕ) → (n == n0) ≡ false → has_evaluated graph (apply graph s (steps.Evaluate t n0)) u n ≡ has_evaluated graph s u n
    other n e = ap (λ (b : Bool). b || (heads (apply graph s (steps.Evaluate t n0)) u n && is_found (apply graph s (steps.Evaluate t n0)) n)) (due n)
        ∙ ap (λ (b : Bool). was_due graph s u n || (b && is_found (apply graph s (steps.Evaluate t n0)) n)) (head n)
        ∙ ap (λ (b : Bool). was_due graph s u n || (heads s u n && b)) (found_other n e)

    go : ((u == t) ≡ true) ⊎ ((u == t) ≡ false) → (call (apply graph s (steps.Evaluate t n0)) u).evaluated ≡ elim (u == t) as (λ _. ℕ) [ true ↦ suc (call s t).evaluated | false ↦ (call s u).evaluated ] → Counts graph (apply graph s (steps.Evaluate t n0)) u
    go (inr e) w = rw e at w ∙ h.dones_are_right.evaluated u ls ∙ ap length (filter-same (has_evaluated graph s u) (has_evaluated graph (apply graph s (steps.Evaluate t n0)) u) (numbers graph) (λ n k. sym (same n (cases_Bool (n == n0)))))
      where
        away : heads s u n0 ≡ false
        away = false_from_ne_true _ (λ k. both_ways _ e (eq-eqb u t (heads-same s t u n0 hd k)))

        same : (n : ℕ) → ((n == n0) ≡ true) ⊎ ((n == n0) ≡ false) → has_evaluated graph (apply graph s (steps.Evaluate t n0)) u n ≡ has_evaluated graph s u n
        same n (inr k) = other n k
        same n (inl k) = subst (λ (j : ℕ). has_evaluated graph (apply graph s (steps.Evaluate t n0)) u j ≡ has_evaluated graph s u j) (sym (eqb-true n n0 k))
            (ap (λ (b : Bool). b || (heads (apply graph s (steps.Evaluate t n0)) u n0 && is_found (apply graph s (steps.Evaluate t n0)) n0)) (due n0)
            ∙ ap (λ (b : Bool). was_due graph s u n0 || (b && is_found (apply graph s (steps.Evaluate t n0)) n0)) (head n0 ∙ away)
            ∙ sym (ap (λ (b : Bool). was_due graph s u n0 || (b && is_found s n0)) away))
    go (inl e) w = rw e at w ∙ ap suc (ap (λ (j : ℕ). (call s j).evaluated) (sym it) ∙ h.dones_are_right.evaluated u ls)
        ∙ sym (count-one (has_evaluated graph s u) (has_evaluated graph (apply graph s (steps.Evaluate t n0)) u) 0 graph.nodes n0 (omega arith) (let j = h.lists in omega (arith, j, inside)) other none some)
      where
        it : u ≡ t
        it = eqb-true u t e

        hu : heads s u n0 ≡ true
        hu = subst (λ (j : ℕ). heads s j n0 ≡ true) (sym it) hd

        none : has_evaluated graph s u n0 ≡ false
        none = ap (λ (b : Bool). b || (heads s u n0 && is_found s n0)) (frame-not_due graph s h u n0 hu)
            ∙ ap (λ (b : Bool). heads s u n0 && b) (evaluate-not_found graph s t n0 a) ∙ ap (λ (b : Bool). b && false) hu

        some : has_evaluated graph (apply graph s (steps.Evaluate t n0)) u n0 ≡ true
        some = or_right (was_due graph (apply graph s (steps.Evaluate t n0)) u n0) (heads (apply graph s (steps.Evaluate t n0)) u n0 && is_found (apply graph s (steps.Evaluate t n0)) n0)
            (and_from _ _ (head n0 ∙ hu) (ap (λ (c : Cell). is_some c.found) (cell-there s n0 (keep_found (found_now graph s t n0)) inside)))

pub step-evaluated : (graph : Graph) → IsGraph graph → (s : Core) (step : Step) → IsLawful graph s → allowed graph s step ≡ true → (u : ℕ) → live (apply graph s step) u ≡ true → (call (apply graph s step) u).evaluated ≡ length (filter (has_evaluated graph (apply graph s step) u) (numbers graph))
step-evaluated graph g s (steps.Evaluate t n) h a u l = evaluate-counts graph s t n h a u l
step-evaluated graph g s (steps.Frame t n) h a u l = plain-counts graph g s (steps.Frame t n) h a (λ k. k) u l
step-evaluated graph g s (steps.Start t) h a u l = plain-counts graph g s (steps.Start t) h a (λ k. k) u l
step-evaluated graph g s (steps.Skip t n) h a u l = plain-counts graph g s (steps.Skip t n) h a (λ k. k) u l
step-evaluated graph g s (steps.Gather t n i) h a u l = plain-counts graph g s (steps.Gather t n i) h a (λ k. k) u l
step-evaluated graph g s (steps.Body t n) h a u l = plain-counts graph g s (steps.Body t n) h a (λ k. k) u l
step-evaluated graph g s (steps.Resolve t n) h a u l = plain-counts graph g s (steps.Resolve t n) h a (λ k. k) u l
step-evaluated graph g s (steps.Discover t n i) h a u l = plain-counts graph g s (steps.Discover t n i) h a (λ k. k) u l
step-evaluated graph g s (steps.Drop t n i) h a u l = plain-counts graph g s (steps.Drop t n i) h a (λ k. k) u l
step-evaluated graph g s (steps.Mark t i) h a u l = plain-counts graph g s (steps.Mark t i) h a (λ k. k) u l
step-evaluated graph g s (steps.Look t) h a u l = plain-counts graph g s (steps.Look t) h a (λ k. k) u l
step-evaluated graph g s (steps.End t) h a u l = plain-counts graph g s (steps.End t) h a (λ k. k) u l
step-evaluated graph g s (steps.Collect n) h a u l = plain-counts graph g s (steps.Collect n) h a (λ k. k) u l
