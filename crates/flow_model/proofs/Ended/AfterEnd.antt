-- When a call ends, the last Dones of the ended calls are the one-thread machine's after the longer log.
use Rattle.std.proofs.Common.{◌≡◌, ℕ, ◌+◌, ◌<◌, Bool, true, false, ◌&&◌, ◌||◌, not, ◌==◌, ◌⊎◌, inl, inr, refl, sym, ap, arith, List, [], ◌∷◌, ◌++◌, length, map, true≢false, ◌∙◌, subst, Option, Some, None, get_or-set_same, get_or-set_other, length-set}
use Rattle.std.specs.Prelude.{slice_set}
use Rattle.std.specs.List.{list_any, AllZip}
use Rattle.std.proofs.lemmas.List.Folds.{list_any-append}
use Rattle.std.proofs.lemmas.List.{length-map}
use Rattle.std.proofs.lemmas.Bool.{or_cases, or_left, or_right, and_from, eqb-true, eq-eqb, false_from_ne_true, both_ways, true_from_ne_false}
use Rattle.script_tree.specs.declared.value.Fault.TheVariants.{NoChoice}
use Rattle.script_tree.specs.declared.value.Value.{Value}
use Rattle.script_tree.specs.declared.value.Value.TheVariants.{Fault as Faulty}
use Rattle.script_tree.proofs.Truths.{and_left, and_right}
use Rattle.signal_graph.specs.declared.call.Call.{Call}
use Rattle.signal_graph.specs.declared.log.Logged.{Logged}
use Rattle.signal_graph.specs.declared.node.Selector.{Selector}
use Rattle.signal_graph.specs.declared.node.Node.{Node}
use Rattle.signal_graph.specs.declared.node.Node.TheVariants.{Source, Signal, Fold, Choose}
use Rattle.signal_graph.specs.Graph.{Graph, IsGraph, node_at, number_of, numbers, is_in, is_source, inputs_of, selectors_of, body_of, static_outs}
use Rattle.signal_graph.specs.Values.{Values, at as value_in, node_value, values, val, picks, picks_of as node_picks, nodes_in, start}
use Rattle.signal_graph.specs.Machine.{same, with_sets, sets_of, misnamed, after}
use Rattle.signal_graph.specs.Legal.{state_from, state_after}
use Rattle.signal_graph.specs.OnePass.{new_value}
use Rattle.signal_graph.proofs.Members.{number-in}
use Rattle.signal_graph.proofs.SameValues.{same-self}
use Rattle.signal_graph.proofs.LegalLogs.{state_more}
use Rattle.node_versions.specs.Entries.{has, at, is_frame, is_done, changed_of, state_of, value_of, picks_of, picks_at, picks_before, value_before}
use Rattle.node_versions.proofs.Places.{at-has}
use Rattle.flow_model.specs.declared.step.Step.TheVariants as steps
use Rattle.flow_model.specs.Machine.Lists.{is_empty}
use Rattle.flow_model.specs.Machine.State.{Core, call, live, entries, changes, wants}
use Rattle.flow_model.specs.Machine.Words.{deps, prior_picks, touched, finds, value_over, picks_of_found, set_value}
use Rattle.flow_model.specs.Machine.Steps.{allowed, apply, logged, nodes_set}
use Rattle.flow_model.specs.Kept.Runs.{framed, is_framed_state, reacts, was_due, picks_it}
use Rattle.flow_model.specs.Kept.Lawful.{IsLawful, IsDoneRight, IsPickOf, EndedIsMachine, last_ended, value_for}
use Rattle.flow_model.proofs.OneStep.WhoMayStep.{end-idle}
use Rattle.flow_model.proofs.General.AnyAndAll.{in-filter, any-one}
use Rattle.flow_model.proofs.Wants.EarlierNodes.{dep-earlier}
use Rattle.flow_model.proofs.Ended.OneCallIsOneStep.{IsMade, IsCallDone, source-picks, call-right}
use Rattle.flow_model.proofs.Ended.WhoEndsIsFirst.{own_done, changed-done, after_end, end-live, last-at, last-before, last-same, idle-opens, end-reacts}

-- The laws of the one-thread machine that the step of a call rests on.
pub record MachineLaws (graph : Graph) : Type 0 where
  pub values_are : (kept : Values) (n : ℕ) → n < length graph.nodes → val graph kept n ≡ node_value (node_at graph n) (value_in kept n) (values graph kept)
  pub values_size : (kept : Values) → length (values graph kept) ≡ length graph.nodes
  pub new_values_are : (kept : Values) → length kept ≡ length graph.nodes → (c : Call) → misnamed graph c ≡ None → (n : ℕ) → n < length graph.nodes
      → val graph (after graph kept c) n ≡ new_value (node_at graph n) (value_in (with_sets graph (values graph kept) (sets_of c)) n) (val graph kept n) (values graph kept) (values graph (after graph kept c))
  pub after_size : (kept : Values) (c : Call) → length (after graph kept c) ≡ length kept

-- ---- the state after a log

state-size : (graph : Graph) → MachineLaws graph → (log : List Logged) (kept : Values) → length kept ≡ length graph.nodes → length (state_from graph kept log) ≡ length graph.nodes
state-size graph laws [] kept e = e
state-size graph laws (x ∷ xs) kept e = state-size graph laws xs (after graph kept x.call) (laws.after_size kept x.call ∙ e)

log-size : (graph : Graph) → MachineLaws graph → (log : List Logged) → length (state_after graph log) ≡ length graph.nodes
log-size graph laws log = state-size graph laws log (start graph) (length-map graph.nodes _)

-- ---- what a call sets

-- of the values that a list of sets gives a node the last one counts
set-kept : (n : ℕ) (v : Value) (sets : List (ℕ × Value)) → is_in n (nodes_set sets) ≡ false → set_value n v sets ≡ v
set-kept n v [] h = refl
set-kept n v (p ∷ ps) h = go (p.0 == n) h (set-kept n v ps)
  where
    go : (b : Bool) → (b || is_in n (nodes_set ps)) ≡ false → (is_in n (nodes_set ps) ≡ false → set_value n v ps ≡ v) → elim b as (λ _. Value) [ true ↦ set_value n p.1 ps | false ↦ set_value n v ps ] ≡ v
    go true k further = absurd (true≢false k)
    go false k further = further k

set-given : (n : ℕ) (v w : Value) (sets : List (ℕ × Value)) → is_in n (nodes_set sets) ≡ true → set_value n v sets ≡ set_value n w sets
set-given n v w [] h = absurd (true≢false (sym h))
set-given n v w (p ∷ ps) h = go (p.0 == n) h (set-given n v w ps)
  where
    go : (b : Bool) → (b || is_in n (nodes_set ps)) ≡ true → (is_in n (nodes_set ps) ≡ true → set_value n v ps ≡ set_value n w ps)
        → elim b as (λ _. Value) [ true ↦ set_value n p.1 ps | false ↦ set_value n v ps ] ≡ elim b as (λ _. Value) [ true ↦ set_value n p.1 ps | false ↦ set_value n w ps ]
    go true k further = refl
    go false k further = further k

-- by name as by node
sets-are : (graph : Graph) (vals : Values) (sets : List (List ℕ × Value)) (n : ℕ) → n < length vals
    → value_in (with_sets graph vals sets) n ≡ set_value n (value_in vals n) (map (λ (set : List ℕ × Value). (number_of graph set.0, set.1)) sets)
sets-are graph vals [] n h = refl
sets-are graph vals (p ∷ ps) n h = go (number_of graph p.0 == n) refl (sets-are graph (slice_set vals (number_of graph p.0) p.1) ps n (subst (λ (l : ℕ). n < l) (sym (length-set vals (number_of graph p.0) p.1)) h))
  where
    given : List (ℕ × Value)
    given = map (λ (set : List ℕ × Value). (number_of graph set.0, set.1)) ps

    now : Values
    now = slice_set vals (number_of graph p.0) p.1

    go : (b : Bool) → (number_of graph p.0 == n) ≡ b → value_in (with_sets graph now ps) n ≡ set_value n (value_in now n) given
        → value_in (with_sets graph now ps) n ≡ elim b as (λ _. Value) [ true ↦ set_value n p.1 given | false ↦ set_value n (value_in vals n) given ]
    go true e r = r ∙ ap (λ (v : Value). set_value n v given) (subst (λ (k : ℕ). value_in now k ≡ p.1) (eqb-true (number_of graph p.0) n e) (get_or-set_same vals (number_of graph p.0) p.1 (Faulty NoChoice) (subst (λ (k : ℕ). k < length vals) (sym (eqb-true (number_of graph p.0) n e)) h)))
    go false e r = r ∙ ap (λ (v : Value). set_value n v given) (get_or-set_other vals (number_of graph p.0) n p.1 (Faulty NoChoice) (λ k. both_ways _ e (eq-eqb (number_of graph p.0) n (sym k))))

-- ---- lists of numbers

no_selectors : (ss : List Selector) (ps : List (Option ℕ)) → ss ≡ [] → AllZip IsPickOf ss ps → ps ≡ []
no_selectors [] [] e f = refl
no_selectors [] (p ∷ ps) e f = absurd f
no_selectors (x ∷ xs) ps e f = cc

pub source-selectors : (node : Node) → is_source node ≡ true → selectors_of node ≡ []
source-selectors (Source v) e = refl
source-selectors (Signal script inputs) e = refl
source-selectors (Fold v script inputs) e = refl
source-selectors (Choose selectors body inputs) e = absurd (true≢false (sym e))

pub number-there : (graph : Graph) (n : ℕ) → n < length graph.nodes → is_in n (numbers graph) ≡ true
number-there graph n h = let e : 0 + n ≡ n = omega arith in subst (λ (j : ℕ). is_in j (numbers graph) ≡ true) e (number-in 0 graph.nodes n h)

-- a node whose scripts name another reacts to it
pub input-static : (graph : Graph) (n m : ℕ) → n < length graph.nodes → is_in m (inputs_of (node_at graph n)) ≡ true → is_in n (static_outs graph m) ≡ true
input-static graph n m h k = in-filter (λ j. is_in m (inputs_of (node_at graph j))) (numbers graph) n (number-there graph n h) k

pub empty-none : (ns : List ℕ) (n : ℕ) → is_empty ns ≡ true → is_in n ns ≡ false
empty-none [] n h = refl
empty-none (x ∷ xs) n h = absurd (true≢false (sym h))

pub framed-done : (s : Core) (u n : ℕ) → framed s u n ≡ true → at is_frame (entries s n) u ≡ false → at is_done (entries s n) u ≡ true
framed-done s u n h k = go (entries s n) h k
  where
    go : (es : List _) → at is_framed_state es u ≡ true → at is_frame es u ≡ false → at is_done es u ≡ true
    go [] a b = a
    go (e ∷ es) a b = let r = go es in grind (arith, a, b, r)

done-framed : (s : Core) (u n : ℕ) → at is_done (entries s n) u ≡ true → framed s u n ≡ true
done-framed s u n h = go (entries s n) h
  where
    go : (es : List _) → at is_done es u ≡ true → at is_framed_state es u ≡ true
    go [] a = a
    go (e ∷ es) a = let r = go es in grind (arith, a, r)

-- ---- the call that ends

module _ (graph : Graph) (g : IsGraph graph) (laws : MachineLaws graph) (s : Core) (h : IsLawful graph s) (t : ℕ) (a : allowed graph s (steps.End t) ≡ true) where
  -- the state before the call, all values before it, and the state after it
  abbrev pub state_before : Values
  state_before = state_after graph s.log

  abbrev pub old_values : Values
  old_values = values graph state_before

  abbrev pub next_state : Values
  next_state = after graph state_before (call s t).call

  abbrev ended_q : Core
  ended_q = after_end graph s h t a

  abbrev pub new_value_of : ℕ → Value
  new_value_of n = value_of (state_of (last_ended ended_q n))

  abbrev pub new_picks_of : ℕ → List (Option ℕ)
  new_picks_of n = picks_of (state_of (last_ended ended_q n))

  lt : live s t ≡ true
  lt = end-live graph s h t a

  there : (n : ℕ) → n < length graph.nodes → n < length s.cells
  there n k = let e = h.lists in omega (arith, e, k)

  old-value : (n : ℕ) → n < length graph.nodes → value_of (state_of (last_ended s n)) ≡ value_in old_values n
  old-value n k = h.ended_is_machine.value n (there n k)

  old-picks : (n : ℕ) → n < length graph.nodes → picks_of (state_of (last_ended s n)) ≡ node_picks (node_at graph n) old_values
  old-picks n k = h.ended_is_machine.picks n (there n k)

  entered : (n : ℕ) → at is_done (entries s n) t ≡ true → has (entries s n) t ≡ true
  entered n d = at-has is_done (entries s n) t d

  -- What the call reads at its entry is the new value, and what it read before it the old one.
  pub reads-new : (n : ℕ) → has (entries s n) t ≡ true → value_for s t n ≡ new_value_of n
  reads-new n k = ap (λ (o : Option _). value_of (state_of o)) (sym (last-at graph s h t a n k))

  pub picks-new : (n : ℕ) → has (entries s n) t ≡ true → picks_at (entries s n) t ≡ new_picks_of n
  picks-new n k = ap (λ (o : Option _). picks_of (state_of o)) (sym (last-at graph s h t a n k))

  pub reads-old : (n : ℕ) → n < length graph.nodes → has (entries s n) t ≡ true → value_before (entries s n) t ≡ value_in old_values n
  reads-old n l k = ap (λ (o : Option _). value_of (state_of o)) (sym (last-before graph s h t a n k)) ∙ old-value n l

  pub picks-old : (n : ℕ) → n < length graph.nodes → has (entries s n) t ≡ true → picks_before (entries s n) t ≡ node_picks (node_at graph n) old_values
  picks-old n l k = ap (λ (o : Option _). picks_of (state_of o)) (sym (last-before graph s h t a n k)) ∙ old-picks n l

  unchanged-value : (n : ℕ) → n < length graph.nodes → at is_done (entries s n) t ≡ false → new_value_of n ≡ value_in old_values n
  unchanged-value n l d = ap (λ (o : Option _). value_of (state_of o)) (last-same graph s h t a n d) ∙ old-value n l

  unchanged-picks : (n : ℕ) → n < length graph.nodes → at is_done (entries s n) t ≡ false → new_picks_of n ≡ node_picks (node_at graph n) old_values
  unchanged-picks n l d = ap (λ (o : Option _). picks_of (state_of o)) (last-same graph s h t a n d) ∙ old-picks n l

  -- Of an idle call nothing is wanted or open, so that what it has framed is Done.
  idle-wants : (n : ℕ) → wants s t n ≡ false
  idle-wants n = empty-none (call s t).wanted n (and_right _ _ (and_left _ _ (end-idle graph s t a)))

  idle-done : (n : ℕ) → (framed s t n || wants s t n) ≡ true → at is_done (entries s n) t ≡ true
  idle-done n k = framed-done s t n (one (framed s t n) (wants s t n) k (idle-wants n)) (sym (h.frames_are_open.opens_frames t n) ∙ idle-opens graph s h t a n)
    where
      one : (x y : Bool) → (x || y) ≡ true → y ≡ false → x ≡ true
      one true y j e = refl
      one false y j e = absurd (true≢false (sym j ∙ e))

  -- whether the call changed a node
  pub changed-is : (n : ℕ) → n < length graph.nodes → changes s t n ≡ not (same (new_value_of n) (value_in old_values n))
  changed-is n l = h.dones_are_right.changed t n lt ∙ go (at is_done (entries s n) t) refl
    where
      go : (b : Bool) → at is_done (entries s n) t ≡ b → at changed_of (entries s n) t ≡ not (same (new_value_of n) (value_in old_values n))
      go true d =
          let o = own_done (entries s n) t d in
          o.shown changed_of ∙ sym (ap (λ (x : Option _). changed_of (state_of x)) o.last) ∙ h.dones_are_right.flag t n lt d
          ∙ ap (λ (v : Value). not (same v (value_before (entries s n) t))) (reads-new n (entered n d))
          ∙ ap (λ (v : Value). not (same (new_value_of n) v)) (reads-old n l (entered n d))
      go false d = false_from_ne_true (at changed_of (entries s n) t) (λ k. both_ways _ d (changed-done (entries s n) t k))
          ∙ sym (ap not (ap (λ (v : Value). same v (value_in old_values n)) (unchanged-value n l d) ∙ same-self (value_in old_values n)))

  -- A node that rests on what the call has changed is Done.
  pub rests-done : (n m : ℕ) → n < length graph.nodes → changes s t m ≡ true → (is_in m (inputs_of (node_at graph n)) ≡ true) ⊎ (is_in m (nodes_in (node_picks (node_at graph n) old_values)) ≡ true) → at is_done (entries s n) t ≡ true
  rests-done n m l c k = true_from_ne_false (at is_done (entries s n) t) (λ d. both_ways _ d (idle-done n (h.changes_spread.reaction t m n c (reacts_it d k))))
    where
      reacts_it : at is_done (entries s n) t ≡ false → (is_in m (inputs_of (node_at graph n)) ≡ true) ⊎ (is_in m (nodes_in (node_picks (node_at graph n) old_values)) ≡ true) → reacts graph s t m n ≡ true
      reacts_it d (inl x) = or_left _ _ (input-static graph n m l x)
      reacts_it d (inr x) = end-reacts graph s h t a n m c d (subst (λ (ps : List (Option ℕ)). is_in m (nodes_in ps) ≡ true) (sym (old-picks n l)) x)

  abbrev pub rest_of : ℕ → List ℕ
  rest_of n = inputs_of (node_at graph n) ++ nodes_in (node_picks (node_at graph n) old_values)

  pub touched-is : (n : ℕ) → n < length graph.nodes → is_source (node_at graph n) ≡ false → has (entries s n) t ≡ true → touched graph s t n ≡ list_any (changes s t) (rest_of n)
  touched-is n l e k =
      ap (λ (b : Bool). not b && list_any (changes s t) (deps graph s t n)) e
      ∙ ap (λ (ps : List (Option ℕ)). list_any (changes s t) (inputs_of (node_at graph n) ++ nodes_in ps)) (picks-old n l k)

  pub touched-done : (n : ℕ) → n < length graph.nodes → list_any (changes s t) (rest_of n) ≡ true → at is_done (entries s n) t ≡ true
  touched-done n l k =
      let o = any-one (changes s t) (rest_of n) k in
      rests-done n o.one l o.passes (or_cases _ _ (sym (list_any-append (λ x. x == o.one) (inputs_of (node_at graph n)) (nodes_in (node_picks (node_at graph n) old_values))) ∙ o.there))

  -- ---- sources

  abbrev set_values : Values
  set_values = with_sets graph old_values (sets_of (call s t).call)

  set-is : (n : ℕ) → n < length graph.nodes → value_in set_values n ≡ set_value n (value_in old_values n) (call s t).sets
  set-is n l = sets-are graph old_values (sets_of (call s t).call) n (let z = laws.values_size state_before in omega (arith, z, l)) ∙ ap (set_value n (value_in old_values n)) (sym (h.calls_are_right t lt).sets)

  source-right : (n : ℕ) → n < length graph.nodes → is_source (node_at graph n) ≡ true → new_value_of n ≡ value_in set_values n
  source-right n l e = go (at is_done (entries s n) t) refl
    where
      go : (b : Bool) → at is_done (entries s n) t ≡ b → new_value_of n ≡ value_in set_values n
      go true d = sym (reads-new n (entered n d)) ∙ h.dones_are_right.source t n lt d e
          ∙ set-given n (Faulty NoChoice) (value_in old_values n) (call s t).sets (h.entries_are_kept.sources t n lt e (or_right (wants s t n) (framed s t n) (done-framed s t n d)))
          ∙ sym (set-is n l)
      go false d = unchanged-value n l d
          ∙ sym (set-kept n (value_in old_values n) (call s t).sets (false_from_ne_true _ (λ k. both_ways _ d (idle-done n (h.changes_spread.set t n lt k)))))
          ∙ sym (set-is n l)

  source-no_picks : (n : ℕ) → n < length graph.nodes → is_source (node_at graph n) ≡ true → new_picks_of n ≡ []
  source-no_picks n l e = go (at is_done (entries s n) t) refl
    where
      go : (b : Bool) → at is_done (entries s n) t ≡ b → new_picks_of n ≡ []
      go true d = sym (picks-new n (entered n d)) ∙ no_selectors (selectors_of (node_at graph n)) (picks_at (entries s n) t) (source-selectors (node_at graph n) e) (h.picks_fit t n d)
      go false d = unchanged-picks n l d ∙ source-picks (node_at graph n) old_values e

  -- ---- all other nodes

  keeps : (n : ℕ) → n < length graph.nodes → is_source (node_at graph n) ≡ false → list_any (changes s t) (rest_of n) ≡ false → (new_value_of n ≡ value_in old_values n) × (new_picks_of n ≡ node_picks (node_at graph n) old_values)
  keeps n l e none = go (at is_done (entries s n) t) refl
    where
      go : (b : Bool) → at is_done (entries s n) t ≡ b → (new_value_of n ≡ value_in old_values n) × (new_picks_of n ≡ node_picks (node_at graph n) old_values)
      go false d = (unchanged-value n l d, unchanged-picks n l d)
      go true d =
          let k = entered n d in
          let r = h.dones_are_right.other t n lt d e in
          let z = touched-is n l e k ∙ none in
          (sym (reads-new n k) ∙ r.kept_value z ∙ reads-old n l k, sym (picks-new n k) ∙ r.kept_picks z ∙ picks-old n l k)

  makes : (n : ℕ) → n < length graph.nodes → is_source (node_at graph n) ≡ false → list_any (changes s t) (rest_of n) ≡ true → IsMade (node_at graph n) (value_in old_values n) new_value_of (new_value_of n) (new_picks_of n)
  makes n l e some = record {
    read = value_for s t;
    inputs = λ m j. reads-new m (h.entries_are_kept.dues t n m lt due (or_left (is_in m (inputs_of (node_at graph n))) (picks_it s t n m) j));
    picked = λ m j. reads-new m (h.entries_are_kept.dues t n m lt due (or_right (is_in m (inputs_of (node_at graph n))) (picks_it s t n m) (subst (λ (ps : List (Option ℕ)). is_in m (nodes_in ps) ≡ true) (sym (picks-new n k)) j)));
    value_is = sym (reads-new n k) ∙ r.new_value z ∙ ap (λ (v : Value). value_over (body_of (node_at graph n)) (value_for s t) (finds (node_at graph n) (value_for s t) v)) (reads-old n l k);
    picks_are = sym (picks-new n k) ∙ r.new_picks z ∙ ap (λ (v : Value). picks_of_found (Some (finds (node_at graph n) (value_for s t) v))) (reads-old n l k);
  }
    where
      d : at is_done (entries s n) t ≡ true
      d = touched-done n l some

      k : has (entries s n) t ≡ true
      k = entered n d

      r : IsDoneRight graph s t n
      r = h.dones_are_right.other t n lt d e

      z : touched graph s t n ≡ true
      z = touched-is n l e k ∙ some

      due : was_due graph s t n ≡ true
      due = and_from _ _ d z

  pub input-lower : (n m : ℕ) → n < length graph.nodes → is_in m (inputs_of (node_at graph n)) ≡ true → m < n
  input-lower n m l k = dep-earlier graph g s h t n m l (list_any-append (λ x. x == m) (inputs_of (node_at graph n)) (prior_picks s t n) ∙ or_left _ _ k)

  pub end-done : IsCallDone graph state_before old_values set_values (values graph next_state) new_value_of new_picks_of (changes s t)
  end-done = record {
    before_is = laws.values_are state_before;
    after_is = laws.new_values_are state_before (log-size graph laws s.log) (call s t).call (h.calls_are_right t lt).well_named;
    changed_is = changed-is;
    source = source-right;
    no_picks = source-no_picks;
    keeps = keeps;
    makes = makes;
  }

  pub end-right : (n : ℕ) → n < length graph.nodes → (new_value_of n ≡ val graph next_state n) × (new_picks_of n ≡ picks graph next_state n)
  end-right n l = call-right graph g state_before set_values next_state new_value_of new_picks_of (changes s t) input-lower end-done n l

  pub next-log : state_after graph (after_end graph s h t a).log ≡ next_state
  next-log = state_more graph (start graph) s.log (logged (call s t))

  pub end-EndedIsMachine : EndedIsMachine graph (apply graph s (steps.End t))
  end-EndedIsMachine = record {
    value = λ n k. (end-right n (inside n k)).0 ∙ ap (λ (vs : Values). val graph vs n) (sym next-log);
    picks = λ n k. (end-right n (inside n k)).1 ∙ ap (λ (vs : Values). picks graph vs n) (sym next-log);
  }
    where
      inside : (n : ℕ) → n < length s.cells → n < length graph.nodes
      inside n k = let e = h.lists in omega (arith, e, k)
