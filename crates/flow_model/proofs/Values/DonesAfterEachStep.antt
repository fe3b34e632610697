-- After each step and each beginning all Dones are right, and calls count what they have changed and evaluated.
use Rattle.std.proofs.Common.{◌≡◌, ℕ, suc, Bool, true, false, ◌&&◌, ◌||◌, not, ◌==◌, ◌⊎◌, inl, inr, refl, sym, ap, List, [], ◌∷◌, length, ◌∙◌, subst, Option, Some}
use Rattle.std.proofs.lemmas.Bool.{false_from_ne_true, both_ways}
use Rattle.std.specs.Prelude.{is_some}
use Rattle.std.specs.Prelude.{filter}
use Rattle.std.specs.List.{list_any}
use Rattle.script_tree.specs.declared.value.Fault.TheVariants.{NoChoice}
use Rattle.script_tree.specs.declared.value.Value.TheVariants.{Fault as Faulty}
use Rattle.signal_graph.specs.declared.call.Call.{Call}
use Rattle.signal_graph.specs.Graph.{Graph, IsGraph, is_in, node_at, numbers, is_source}
use Rattle.signal_graph.specs.Machine.{same}
use Rattle.node_versions.specs.declared.entry.State.{State}
use Rattle.node_versions.specs.Entries.{has, at, is_done, changed_of, done_at, value_before}
use Rattle.node_versions.proofs.Places.{at-has}
use Rattle.flow_model.specs.declared.step.Step.{Step}
use Rattle.flow_model.specs.Machine.State.{Core, LiveCall, call, call_of, call_or, live, entries, changes}
use Rattle.flow_model.specs.Machine.Words.{deps, touched, heads, is_found, set_value}
use Rattle.flow_model.specs.Machine.Steps.{allowed, apply, begin, new_call}
use Rattle.flow_model.specs.Kept.Lawful.{IsLawful, DonesAreRight, IsDoneRight, HasDone, value_for, has_evaluated}
use Rattle.flow_model.proofs.OrderStays.AfterEachStep.{not_begun-entry}
use Rattle.flow_model.proofs.OneStep.BegunCalls.{begin-call}
use Rattle.flow_model.proofs.Values.NothingComesBefore.{head-unblocked}
use Rattle.flow_model.proofs.Ended.WhoEndsIsFirst.{changed-done}
use Rattle.flow_model.proofs.Values.WorkersStayFirst.{Finishes, finish-or}
use Rattle.flow_model.proofs.Values.DonesRestOnClosed.{was-live, done-before}
use Rattle.flow_model.proofs.Values.RightDonesStay.{shown-kept, source-kept, flag-kept, other-kept, changes-kept}
use Rattle.flow_model.proofs.Values.EvaluatedIsCounted.{filter-same, step-finished, step-evaluated}

-- ---- the step

module _ (graph : Graph) (g : IsGraph graph) (s : Core) (step : Step) (h : IsLawful graph s) (a : allowed graph s step ≡ true) where
  source-right : (u n : ℕ) → live (apply graph s step) u ≡ true → HasDone (apply graph s step) u n → is_source (node_at graph n) ≡ true → value_for (apply graph s step) u n ≡ set_value n (Faulty NoChoice) (call (apply graph s step) u).sets
  source-right u n l d e = go (done-before graph s step h a u n d)
    where
      go : (at is_done (entries s n) u ≡ true) ⊎ Finishes step u n → value_for (apply graph s step) u n ≡ set_value n (Faulty NoChoice) (call (apply graph s step) u).sets
      go (inl x) = source-kept graph g s step h a u n l x e
      go (inr x) = (step-finished graph g s step h a u n x).0.source e

  other-right : (u n : ℕ) → live (apply graph s step) u ≡ true → HasDone (apply graph s step) u n → is_source (node_at graph n) ≡ false → IsDoneRight graph (apply graph s step) u n
  other-right u n l d e = go (done-before graph s step h a u n d)
    where
      go : (at is_done (entries s n) u ≡ true) ⊎ Finishes step u n → IsDoneRight graph (apply graph s step) u n
      go (inl x) = other-kept graph g s step h a u n l x e
      go (inr x) = (step-finished graph g s step h a u n x).0.other e

  flag-right : (u n : ℕ) → live (apply graph s step) u ≡ true → HasDone (apply graph s step) u n → changed_of (done_at (entries (apply graph s step) n) u) ≡ not (same (value_for (apply graph s step) u n) (value_before (entries (apply graph s step) n) u))
  flag-right u n l d = go (done-before graph s step h a u n d)
    where
      go : (at is_done (entries s n) u ≡ true) ⊎ Finishes step u n → changed_of (done_at (entries (apply graph s step) n) u) ≡ not (same (value_for (apply graph s step) u n) (value_before (entries (apply graph s step) n) u))
      go (inl x) = flag-kept graph g s step h a u n l x
      go (inr x) = (step-finished graph g s step h a u n x).0.flag

  changed-right : (u n : ℕ) → live (apply graph s step) u ≡ true → changes (apply graph s step) u n ≡ at changed_of (entries (apply graph s step) n) u
  changed-right u n l = go (finish-or step u n)
    where
      ls : live s u ≡ true
      ls = was-live graph s step h a u l

      go : Finishes step u n ⊎ (Finishes step u n → ⊥) → changes (apply graph s step) u n ≡ at changed_of (entries (apply graph s step) n) u
      go (inl x) = (step-finished graph g s step h a u n x).0.changed
      go (inr x) = changes-kept graph s step a u n l x ∙ h.dones_are_right.changed u n ls ∙ shown (at is_done (entries s n) u) refl
        where
          shown : (b : Bool) → at is_done (entries s n) u ≡ b → at changed_of (entries s n) u ≡ at changed_of (entries (apply graph s step) n) u
          shown true d = sym (shown-kept graph g s step h a u n l d changed_of)
          shown false d =
              false_from_ne_true (at changed_of (entries s n) u) (λ k. both_ways _ d (changed-done (entries s n) u k))
              ∙ sym (false_from_ne_true (at changed_of (entries (apply graph s step) n) u) (λ k. new (done-before graph s step h a u n (changed-done (entries (apply graph s step) n) u k))))
            where
              new : (at is_done (entries s n) u ≡ true) ⊎ Finishes step u n → ⊥
              new (inl k) = both_ways _ d k
              new (inr k) = x k

  pub step-DonesAreRight : DonesAreRight graph (apply graph s step)
  step-DonesAreRight = record {
    source = source-right;
    other = other-right;
    flag = flag-right;
    changed = changed-right;
    evaluated = step-evaluated graph g s step h a;
  }

-- ---- a call begins

module _ (graph : Graph) (s : Core) (caller : ℕ) (c : Call) (h : IsLawful graph s) where
  abbrev begun_state : Core
  begun_state = begin graph s caller c

  abbrev New : ℕ → Type 0
  New u = (u ≡ suc s.begun) × (call_of (begin graph s caller c).calls u ≡ Some (new_call graph s caller c))

  abbrev Old : ℕ → Type 0
  Old u = call_of (begin graph s caller c).calls u ≡ call_of s.calls u

  old_or_new : (u : ℕ) → Old u ⊎ New u
  old_or_new u = go (begin-call graph s h caller c u)
    where
      go : (Old u × ((suc s.begun == u) ≡ false)) ⊎ New u → Old u ⊎ New u
      go (inl e) = inl e.0
      go (inr e) = inr e

  -- the new call has no entries
  no_entry : (u n : ℕ) → New u → has (entries s n) u ≡ false
  no_entry u n e = subst (λ (j : ℕ). has (entries s n) j ≡ false) (sym e.0) (not_begun-entry graph s h n)

  none-at : (test : State → Bool) (u n : ℕ) → New u → at test (entries s n) u ≡ false
  none-at test u n e = false_from_ne_true _ (λ k. both_ways _ (no_entry u n e) (at-has test (entries s n) u k))

  -- A call with a Done is no new one.
  done-old : (u n : ℕ) → HasDone s u n → Old u
  done-old u n d = go (old_or_new u)
    where
      go : Old u ⊎ New u → Old u
      go (inl e) = e
      go (inr e) = absurd (both_ways _ (none-at is_done u n e) d)

  old-live : (u : ℕ) → Old u → live (begin graph s caller c) u ≡ true → live s u ≡ true
  old-live u e l = sym (ap is_some e) ∙ l

  touched-old : (u n : ℕ) → Old u → touched graph (begin graph s caller c) u n ≡ touched graph s u n
  touched-old u n e = ap (λ (o : Option LiveCall). not (is_source (node_at graph n)) && list_any (λ m. is_in m (call_or o).changed) (deps graph s u n)) e

  right-old : (u n : ℕ) → Old u → IsDoneRight graph s u n → IsDoneRight graph (begin graph s caller c) u n
  right-old u n e r = record {
    no_open = ap (λ (o : Option LiveCall). list_any (λ m. is_in m (call_or o).open_nodes || is_in m (call_or o).wanted) (deps graph s u n)) e ∙ r.no_open;
    kept_value = λ k. r.kept_value (sym (touched-old u n e) ∙ k);
    kept_picks = λ k. r.kept_picks (sym (touched-old u n e) ∙ k);
    new_value = λ k. r.new_value (sym (touched-old u n e) ∙ k);
    new_picks = λ k. r.new_picks (sym (touched-old u n e) ∙ k);
  }

  changed-begun : (u n : ℕ) → live (begin graph s caller c) u ≡ true → changes (begin graph s caller c) u n ≡ at changed_of (entries s n) u
  changed-begun u n l = go (old_or_new u)
    where
      go : Old u ⊎ New u → changes (begin graph s caller c) u n ≡ at changed_of (entries s n) u
      go (inl e) = ap (λ (o : Option LiveCall). is_in n (call_or o).changed) e ∙ h.dones_are_right.changed u n (old-live u e l)
      go (inr e) = ap (λ (o : Option LiveCall). is_in n (call_or o).changed) e.1 ∙ sym (none-at changed_of u n e)

  nothing : (p : ℕ → Bool) (ns : List ℕ) → ((n : ℕ) → p n ≡ false) → length (filter p ns) ≡ 0
  nothing p [] f = refl
  nothing p (n ∷ ns) f = rw (f n) (nothing p ns f)

  evaluated-begun : (u : ℕ) → live (begin graph s caller c) u ≡ true → (call (begin graph s caller c) u).evaluated ≡ length (filter (has_evaluated graph (begin graph s caller c) u) (numbers graph))
  evaluated-begun u l = go (old_or_new u)
    where
      go : Old u ⊎ New u → (call (begin graph s caller c) u).evaluated ≡ length (filter (has_evaluated graph (begin graph s caller c) u) (numbers graph))
      go (inl e) = ap (λ (o : Option LiveCall). (call_or o).evaluated) e ∙ h.dones_are_right.evaluated u (old-live u e l)
          ∙ ap length (filter-same (has_evaluated graph s u) (has_evaluated graph (begin graph s caller c) u) (numbers graph) (λ n k. sym (ap (λ (b : Bool). (at is_done (entries s n) u && b) || (heads s u n && is_found s n)) (touched-old u n e))))
      go (inr e) = ap (λ (o : Option LiveCall). (call_or o).evaluated) e.1 ∙ sym (nothing (has_evaluated graph (begin graph s caller c) u) (numbers graph) (λ n. none n))
        where
          no_head : (n : ℕ) → heads s u n ≡ false
          no_head n = false_from_ne_true _ (λ k. both_ways _ (no_entry u n e) (head-unblocked graph s h u n k).entry)

          none : (n : ℕ) → has_evaluated graph (begin graph s caller c) u n ≡ false
          none n = ap (λ (b : Bool). (b && touched graph (begin graph s caller c) u n) || (heads s u n && is_found s n)) (none-at is_done u n e) ∙ ap (λ (b : Bool). b && is_found s n) (no_head n)

  pub begin-DonesAreRight : DonesAreRight graph (begin graph s caller c)
  begin-DonesAreRight = record {
    source = λ u n l d e. let o = done-old u n d in h.dones_are_right.source u n (old-live u o l) d e ∙ ap (λ (x : Option LiveCall). set_value n (Faulty NoChoice) (call_or x).sets) (sym o);
    other = λ u n l d e. let o = done-old u n d in right-old u n o (h.dones_are_right.other u n (old-live u o l) d e);
    flag = λ u n l d. let o = done-old u n d in h.dones_are_right.flag u n (old-live u o l) d;
    changed = changed-begun;
    evaluated = evaluated-begun;
  }
