-- A Done that is right stays right under every step.
use Rattle.std.proofs.Common.{◌≡◌, ℕ, ◌<◌, Bool, true, false, ◌&&◌, ◌||◌, not, ◌==◌, ◌⊎◌, inl, inr, refl, sym, ap, arith, List, [], ◌∷◌, ◌++◌, length, true≢false, ◌∙◌, subst, Option, Some}
use Rattle.std.proofs.lemmas.Bool.{or_left, or_right, and_from, eqb-true, false_from_ne_true, both_ways, cases_Bool}
use Rattle.std.specs.List.{list_any}
use Rattle.script_tree.specs.declared.value.Fault.TheVariants.{NoChoice}
use Rattle.script_tree.specs.declared.value.Value.TheVariants.{Fault as Faulty}
use Rattle.script_tree.proofs.Truths.{and_left}
use Rattle.signal_graph.specs.Graph.{Graph, IsGraph, is_in, node_at, inputs_of, is_source, body_of}
use Rattle.signal_graph.specs.Values.{nodes_in}
use Rattle.signal_graph.specs.Machine.{same}
use Rattle.node_versions.specs.declared.entry.State.{State}
use Rattle.node_versions.specs.declared.entry.State.TheVariants.{Mark, Frame, Done}
use Rattle.node_versions.specs.declared.entry.Entry.{Entry}
use Rattle.node_versions.specs.Entries.{has, at, is_mark, is_done, changed_of, done_at, done_before, state_of, value_of, picks_of, value_before}
use Rattle.node_versions.proofs.Places.{at-has}
use Rattle.flow_model.specs.declared.step.Step.{Step}
use Rattle.flow_model.specs.declared.step.Step.TheVariants as steps
use Rattle.flow_model.specs.Machine.State.{Core, Found, call, live, entries, opens, wants, changes, with_cell}
use Rattle.flow_model.specs.Machine.Words.{deps, touched, finds, value_over, picks_of_found, value_now, found_picks, set_value}
use Rattle.flow_model.specs.Machine.Changes.{stops_call, new_entry, set_state, closed}
use Rattle.flow_model.specs.Machine.Sets.{put}
use Rattle.flow_model.specs.Machine.Steps.{allowed, apply, is_change}
use Rattle.flow_model.specs.Kept.Runs.{by_node, was_due, picks_it}
use Rattle.flow_model.specs.Kept.Lawful.{IsLawful, IsDoneRight, value_for, found_for}
use Rattle.flow_model.proofs.OneStep.WhoMayStep.{executes-live, at_front-executes, at_front-heads, can_work-at_front, resolve-can_work}
use Rattle.flow_model.proofs.General.Sets.{in-put}
use Rattle.flow_model.proofs.OneList.OneEntryACall.{placed-at_other, collected-at_live}
use Rattle.flow_model.proofs.OneList.StatesAndPlaces.{with_state-at}
use Rattle.flow_model.proofs.OneList.CallsAndCells.{with_call-field}
use Rattle.flow_model.proofs.OneStep.ChangesOfOneList.{ListStep, stays, marks, frames, raises, finishes, collects, step-list}
use Rattle.flow_model.proofs.OrderStays.OpenNodesHaveFrames.{entry-there}
use Rattle.flow_model.proofs.Reactions.RunsThatHaveEnded.{not_both}
use Rattle.flow_model.proofs.Wants.FramedWith.{opens-frame, heads-opens}
use Rattle.flow_model.proofs.Values.NothingComesBefore.{done-unblocked, done-no_frame, kept-before, kept-up_to}
use Rattle.flow_model.proofs.Values.FoundByReads.{finds-same, value-same}
use Rattle.flow_model.proofs.General.AnyAndAll.{any-alike, any-none, any-false}
use Rattle.flow_model.proofs.Values.WorkersStayFirst.{Finishes}
use Rattle.flow_model.proofs.OneStep.WhatStepsLeave.{step-field, changed-stays, sets-stay}
use Rattle.flow_model.proofs.Values.ReadsStay.{settled-value}
use Rattle.flow_model.proofs.Values.DonesRestOnClosed.{was-live, deps-closed}

-- ---- the entry of a Done

not_mark : (es : List Entry) (u : ℕ) → at is_done es u ≡ true → at is_mark es u ≡ true → ⊥
not_mark [] u d m = true≢false (sym d)
not_mark (e ∷ es) u d m = go (e.version == u) d m (not_mark es u)
  where
    one : (x : State) → is_done x ≡ true → is_mark x ≡ true → ⊥
    one Mark j k = true≢false (sym j)
    one Frame j k = true≢false (sym j)
    one (Done v c ps) j k = true≢false (sym k)

    go : (b : Bool) → elim b as (λ _. Bool) [ true ↦ is_done e.state | false ↦ at is_done es u ] ≡ true → elim b as (λ _. Bool) [ true ↦ is_mark e.state | false ↦ at is_mark es u ] ≡ true → (at is_done es u ≡ true → at is_mark es u ≡ true → ⊥) → ⊥
    go true j k further = one e.state j k
    go false j k further = further j k

-- A live call's Done shows what it showed.
done-shown : (graph : Graph) (s : Core) → IsLawful graph s → (test : State → Bool) (n u : ℕ) → live s u ≡ true → at is_done (entries s n) u ≡ true → (es : List Entry) → ListStep graph s n es → at test es u ≡ at test (entries s n) u
done-shown graph s h test n u l d es (stays e) = ap (λ (xs : List Entry). at test xs u) e
done-shown graph s h test n u l d es (marks t x fresh r e) = ap (λ (xs : List Entry). at test xs u) e
    ∙ placed-at_other test (stops_call s t) (new_entry s t Mark) (entries s n) u (λ k. both_ways _ fresh (subst (λ (j : ℕ). has (entries s n) j ≡ true) k (at-has is_done (entries s n) u d)))
done-shown graph s h test n u l d es (frames t w fresh r e) = ap (λ (xs : List Entry). at test xs u) e
    ∙ placed-at_other test (stops_call s t) (new_entry s t Frame) (entries s n) u (λ k. both_ways _ fresh (subst (λ (j : ℕ). has (entries s n) j ≡ true) k (at-has is_done (entries s n) u d)))
done-shown graph s h test n u l d es (raises t w m e) =
    let ne : (u == t) ≡ false = false_from_ne_true _ (λ k. not_mark (entries s n) u d (subst (λ (j : ℕ). at is_mark (entries s n) j ≡ true) (sym (eqb-true u t k)) m)) in
    ap (λ (xs : List Entry). at test xs u) e ∙ rw ne at (with_state-at test t Frame (entries s n) u)
done-shown graph s h test n u l d es (finishes t v c ps f e) =
    let ft = opens-frame graph s h t n (heads-opens graph s h t n (at_front-heads graph s t n f)) in
    let ne : (u == t) ≡ false = false_from_ne_true _ (λ k. both_ways _ (not_both (entries s n) t ft) (subst (λ (j : ℕ). at is_done (entries s n) j ≡ true) (eqb-true u t k) d)) in
    ap (λ (xs : List Entry). at test xs u) e ∙ rw ne at (with_state-at test t (Done v c ps) (entries s n) u)
done-shown graph s h test n u l d es (collects e) = ap (λ (xs : List Entry). at test xs u) e ∙ collected-at_live test (λ v. not (live s v)) (entries s n) u (ap not l)

-- ---- what calls have changed

resolved-changes : (graph : Graph) (s : Core) (t n : ℕ) (u m : ℕ) → allowed graph s (steps.Resolve t n) ≡ true → ((u ≡ t) × (m ≡ n) → ⊥) → changes (apply graph s (steps.Resolve t n)) u m ≡ changes s u m
resolved-changes graph s t n u m a ne = go (cases_Bool (u == t)) (with_call-field (λ c. is_in m c.changed) (with_cell s n (set_state t (Done (value_now graph s t n) (is_change graph s t n) (found_picks s n)))) t (closed n (is_change graph s t n)) (λ c. refl) u lt)
  where
    lt : live s t ≡ true
    lt = executes-live s t (at_front-executes graph s t n (can_work-at_front graph s t n (resolve-can_work graph s t n a)))

    added : u ≡ t → (b : Bool) → is_in m (elim b as (λ _. List ℕ) [ true ↦ put n (call s t).changed | false ↦ (call s t).changed ]) ≡ is_in m (call s t).changed
    added e false = refl
    added e true = let p = in-put m n (call s t).changed in let k : (m == n) ≡ false = false_from_ne_true _ (λ x. ne (e, eqb-true m n x)) in grind (arith, p, k)

    go : ((u == t) ≡ true) ⊎ ((u == t) ≡ false) → changes (apply graph s (steps.Resolve t n)) u m ≡ elim (u == t) as (λ _. Bool) [
      | true ↦ is_in m (closed n (is_change graph s t n) (call s t)).changed
      | false ↦ changes s u m
    ] → changes (apply graph s (steps.Resolve t n)) u m ≡ changes s u m
    go (inr k) w = rw k at w
    go (inl k) w = rw k at w ∙ added (eqb-true u t k) (is_change graph s t n) ∙ ap (λ (j : ℕ). changes s j m) (sym (eqb-true u t k))

-- A step changes what a call has changed only where the call finishes.
pub changes-kept : (graph : Graph) (s : Core) (step : Step) → allowed graph s step ≡ true → (u m : ℕ) → live (apply graph s step) u ≡ true → (Finishes step u m → ⊥) → changes (apply graph s step) u m ≡ changes s u m
changes-kept graph s (steps.Resolve t n) a u m l ne = resolved-changes graph s t n u m a ne
changes-kept graph s (steps.Frame t n) a u m l ne = ap (is_in m) (step-field (λ c. c.changed) graph s (steps.Frame t n) (changed-stays (steps.Frame t n) (λ k. k)) u l)
changes-kept graph s (steps.Start t) a u m l ne = ap (is_in m) (step-field (λ c. c.changed) graph s (steps.Start t) (changed-stays (steps.Start t) (λ k. k)) u l)
changes-kept graph s (steps.Skip t n) a u m l ne = ap (is_in m) (step-field (λ c. c.changed) graph s (steps.Skip t n) (changed-stays (steps.Skip t n) (λ k. k)) u l)
changes-kept graph s (steps.Gather t n i) a u m l ne = refl
changes-kept graph s (steps.Evaluate t n) a u m l ne = ap (is_in m) (step-field (λ c. c.changed) graph s (steps.Evaluate t n) (changed-stays (steps.Evaluate t n) (λ k. k)) u l)
changes-kept graph s (steps.Body t n) a u m l ne = refl
changes-kept graph s (steps.Discover t n i) a u m l ne = ap (is_in m) (step-field (λ c. c.changed) graph s (steps.Discover t n i) (changed-stays (steps.Discover t n i) (λ k. k)) u l)
changes-kept graph s (steps.Drop t n i) a u m l ne = ap (is_in m) (step-field (λ c. c.changed) graph s (steps.Drop t n i) tt u l)
changes-kept graph s (steps.Mark t i) a u m l ne = refl
changes-kept graph s (steps.Look t) a u m l ne = ap (is_in m) (step-field (λ c. c.changed) graph s (steps.Look t) (changed-stays (steps.Look t) (λ k. k)) u l)
changes-kept graph s (steps.End t) a u m l ne = ap (is_in m) (step-field (λ c. c.changed) graph s (steps.End t) tt u l)
changes-kept graph s (steps.Collect n) a u m l ne = refl

-- A call that finishes at a node has it open.
finishes-opens : (graph : Graph) (s : Core) (step : Step) → IsLawful graph s → allowed graph s step ≡ true → (u m : ℕ) → Finishes step u m → opens s u m ≡ true
finishes-opens graph s (steps.Skip t n) h a u m f = subst (λ (j : ℕ). opens s j m ≡ true) (sym f.0) (subst (λ (j : ℕ). opens s t j ≡ true) (sym f.1) (heads-opens graph s h t n (at_front-heads graph s t n (can_work-at_front graph s t n (and_left _ _ (and_left _ _ (and_left _ _ a)))))))
finishes-opens graph s (steps.Resolve t n) h a u m f = subst (λ (j : ℕ). opens s j m ≡ true) (sym f.0) (subst (λ (j : ℕ). opens s t j ≡ true) (sym f.1) (heads-opens graph s h t n (at_front-heads graph s t n (can_work-at_front graph s t n (resolve-can_work graph s t n a)))))
finishes-opens graph s (steps.Frame t n) h a u m f = absurd f
finishes-opens graph s (steps.Start t) h a u m f = absurd f
finishes-opens graph s (steps.Gather t n i) h a u m f = absurd f
finishes-opens graph s (steps.Evaluate t n) h a u m f = absurd f
finishes-opens graph s (steps.Body t n) h a u m f = absurd f
finishes-opens graph s (steps.Discover t n i) h a u m f = absurd f
finishes-opens graph s (steps.Drop t n i) h a u m f = absurd f
finishes-opens graph s (steps.Mark t i) h a u m f = absurd f
finishes-opens graph s (steps.Look t) h a u m f = absurd f
finishes-opens graph s (steps.End t) h a u m f = absurd f
finishes-opens graph s (steps.Collect n) h a u m f = absurd f

-- ---- a Done that was there

module _ (graph : Graph) (g : IsGraph graph) (s : Core) (step : Step) (h : IsLawful graph s) (a : allowed graph s step ≡ true) (u n : ℕ) (l : live (apply graph s step) u ≡ true) (d : at is_done (entries s n) u ≡ true) where
  abbrev after_it : Core
  after_it = apply graph s step

  ls : live s u ≡ true
  ls = was-live graph s step h a u l

  at-kept : done_at (entries (apply graph s step) n) u ≡ done_at (entries s n) u
  at-kept = ap state_of (kept-up_to graph s h n u ls (done-unblocked graph s h u n d) (done-no_frame (entries s n) u d) (entries (apply graph s step) n) (step-list graph s step h a n))

  before-kept : done_before (entries (apply graph s step) n) u ≡ done_before (entries s n) u
  before-kept = ap state_of (kept-before graph s h n u ls (done-unblocked graph s h u n d) (entries (apply graph s step) n) (step-list graph s step h a n))

  pub shown-kept : (test : State → Bool) → at test (entries (apply graph s step) n) u ≡ at test (entries s n) u
  shown-kept test = done-shown graph s h test n u ls d (entries (apply graph s step) n) (step-list graph s step h a n)

  deps-kept : deps graph (apply graph s step) u n ≡ deps graph s u n
  deps-kept = ap (λ (x : State). inputs_of (node_at graph n) ++ nodes_in (picks_of x)) before-kept

  unopened : (m : ℕ) → is_source (node_at graph n) ≡ false → is_in m (deps graph s u n) ≡ true → opens s u m ≡ false
  unopened m ns k = false_from_ne_true (opens s u m) (λ x. both_ways _ (any-none (λ j. opens s u j || wants s u j) (deps graph s u n) m (h.dones_are_right.other u n ls d ns).no_open k) (or_left _ _ x))

  pub touched-kept : touched graph (apply graph s step) u n ≡ touched graph s u n
  touched-kept = go (is_source (node_at graph n)) refl
    where
      same_any : is_source (node_at graph n) ≡ false → list_any (changes (apply graph s step) u) (deps graph (apply graph s step) u n) ≡ list_any (changes s u) (deps graph s u n)
      same_any ns = ap (list_any (changes (apply graph s step) u)) deps-kept
          ∙ any-alike (changes (apply graph s step) u) (changes s u) (deps graph s u n) (λ m k. changes-kept graph s step a u m l (λ f. both_ways _ (unopened m ns k) (finishes-opens graph s step h a u m f)))

      go : (b : Bool) → is_source (node_at graph n) ≡ b → (not (is_source (node_at graph n)) && list_any (changes (apply graph s step) u) (deps graph (apply graph s step) u n)) ≡ (not (is_source (node_at graph n)) && list_any (changes s u) (deps graph s u n))
      go true e = rw e refl
      go false e = ap (λ (b : Bool). not (is_source (node_at graph n)) && b) (same_any e)

  pub source-kept : is_source (node_at graph n) ≡ true → value_for (apply graph s step) u n ≡ set_value n (Faulty NoChoice) (call (apply graph s step) u).sets
  source-kept e = ap value_of at-kept ∙ h.dones_are_right.source u n ls d e ∙ ap (set_value n (Faulty NoChoice)) (sym (step-field (λ c. c.sets) graph s step (sets-stay step) u l))

  pub flag-kept : changed_of (done_at (entries (apply graph s step) n) u) ≡ not (same (value_for (apply graph s step) u n) (value_before (entries (apply graph s step) n) u))
  flag-kept = ap changed_of at-kept ∙ h.dones_are_right.flag u n ls d
      ∙ ap (λ (x : State). not (same (value_of x) (value_before (entries s n) u))) (sym at-kept)
      ∙ ap (λ (x : State). not (same (value_for (apply graph s step) u n) (value_of x))) (sym before-kept)

  right-kept : is_source (node_at graph n) ≡ false → IsDoneRight graph s u n → IsDoneRight graph (apply graph s step) u n
  right-kept ns r = record {
    no_open = any-false (λ m. opens (apply graph s step) u m || wants (apply graph s step) u m) (deps graph (apply graph s step) u n) (λ m k. deps-closed graph s step h a u n m l d ns (subst (λ (ms : List ℕ). is_in m ms ≡ true) deps-kept k));
    kept_value = λ e. ap value_of at-kept ∙ r.kept_value (sym touched-kept ∙ e) ∙ ap value_of (sym before-kept);
    kept_picks = λ e. ap picks_of at-kept ∙ r.kept_picks (sym touched-kept ∙ e) ∙ ap picks_of (sym before-kept);
    new_value = λ e. ap value_of at-kept ∙ r.new_value (sym touched-kept ∙ e) ∙ made (sym touched-kept ∙ e);
    new_picks = λ e. ap picks_of at-kept ∙ r.new_picks (sym touched-kept ∙ e) ∙ ap (λ (f : Found). picks_of_found (Some f)) (found (sym touched-kept ∙ e));
  }
    where
      there : n < length graph.nodes
      there = let e = entry-there s n u (at-has is_done (entries s n) u d) in let j = h.lists in omega (arith, e, j)

      due : touched graph s u n ≡ true → was_due graph s u n ≡ true
      due e = and_from _ _ d e

      settled : (m : ℕ) → touched graph s u n ≡ true → (is_in m (inputs_of (node_at graph n)) || picks_it s u n m) ≡ true → value_for s u m ≡ value_for (apply graph s step) u m
      settled m e k = sym (settled-value graph s step h a u m ls (by_node n (or_right _ _ (and_from _ _ (due e) k))))

      found : touched graph s u n ≡ true → found_for graph s u n ≡ found_for graph (apply graph s step) u n
      found e = finds-same graph g n there (value_for s u) (value_for (apply graph s step) u) (value_before (entries s n) u) (λ m k. settled m e (or_left _ _ k))
          ∙ ap (λ (x : State). finds (node_at graph n) (value_for (apply graph s step) u) (value_of x)) (sym before-kept)

      made : touched graph s u n ≡ true → value_over (body_of (node_at graph n)) (value_for s u) (found_for graph s u n) ≡ value_over (body_of (node_at graph n)) (value_for (apply graph s step) u) (found_for graph (apply graph s step) u n)
      made e = value-same (body_of (node_at graph n)) (value_for s u) (value_for (apply graph s step) u) (found_for graph s u n)
          (λ m k. settled m e (or_right (is_in m (inputs_of (node_at graph n))) (picks_it s u n m) (subst (λ (ps : List (Option ℕ)). is_in m (nodes_in ps) ≡ true) (sym (r.new_picks e)) k)))
          ∙ ap (value_over (body_of (node_at graph n)) (value_for (apply graph s step) u)) (found e)

  pub other-kept : is_source (node_at graph n) ≡ false → IsDoneRight graph (apply graph s step) u n
  other-kept ns = right-kept ns (h.dones_are_right.other u n ls d ns)
