-- A Done that Skip or Resolve makes is right: it has the value and picks before it, or what the scripts give over what is read.
use Rattle.std.proofs.Common.{◌≡◌, ℕ, ◌<◌, Bool, true, false, ◌&&◌, ◌||◌, not, ◌==◌, refl, sym, ap, arith, List, [], ◌∷◌, ◌++◌, length, true≢false, ◌∙◌, subst, Option, Some, None}
use Rattle.std.proofs.lemmas.Bool.{or_left, and_from, eqb-true, eq-eqb, false_from_ne_true, both_ways, not-true}
use Rattle.std.specs.Prelude.{is_some, is_none}
use Rattle.std.specs.List.{list_any}
use Rattle.std.specs.Option.{option_or}
use Rattle.script_tree.specs.declared.value.Fault.TheVariants.{NoChoice}
use Rattle.script_tree.specs.declared.value.Value.{Value}
use Rattle.script_tree.specs.declared.value.Value.TheVariants.{Fault as Faulty}
use Rattle.script_tree.specs.Scripts.{Scripted}
use Rattle.script_tree.proofs.Truths.{and_left, and_right}
use Rattle.signal_graph.specs.declared.node.Node.{Node}
use Rattle.signal_graph.specs.declared.node.Node.TheVariants.{Source, Signal, Fold, Choose}
use Rattle.signal_graph.specs.Graph.{Graph, IsGraph, is_in, node_at, inputs_of, is_source, body_of}
use Rattle.signal_graph.specs.Values.{nodes_in}
use Rattle.signal_graph.specs.Machine.{same}
use Rattle.signal_graph.proofs.SameValues.{same-self}
use Rattle.node_versions.specs.declared.entry.State.{State}
use Rattle.node_versions.specs.declared.entry.State.TheVariants.{Done}
use Rattle.node_versions.specs.declared.entry.Entry.{Entry}
use Rattle.node_versions.specs.Entries.{has, at, is_done, changed_of, done_at, done_before, state_of, value_of, picks_of, value_before, picks_before, up_to, last_done, only_done, with_state}
use Rattle.flow_model.specs.declared.step.Step.{Step}
use Rattle.flow_model.specs.declared.step.Step.TheVariants as steps
use Rattle.flow_model.specs.Machine.Lists.{is_empty}
use Rattle.flow_model.specs.Machine.State.{Core, Cell, Found, call, cell, live, entries, opens, wants, changes, with_cell}
use Rattle.flow_model.specs.Machine.Words.{deps, touched, heads, can_work, finds, body_over, value_over, value_by, value_without, value_or, value_gathered, gathered_of, is_gathered, found_candidates, picks_of_found, selections_of, value_now, found_picks, set_value}
use Rattle.flow_model.specs.Machine.Sets.{put}
use Rattle.flow_model.specs.Machine.Changes.{set_state, closed, finish, cleared}
use Rattle.flow_model.specs.Machine.Steps.{allowed, apply, is_change, is_worked_out, has_body_value}
use Rattle.flow_model.specs.Kept.Runs.{by_node}
use Rattle.flow_model.specs.Kept.Lawful.{IsLawful, IsDoneRight, value_for, found_for}
use Rattle.flow_model.proofs.OneStep.WhoMayStep.{opens-live, executes-live, at_front-executes, at_front-heads, can_work-at_front, skip-can_work, resolve-can_work}
use Rattle.flow_model.proofs.General.Sets.{in-put}
use Rattle.flow_model.proofs.OneList.StatesAndPlaces.{with_state-at}
use Rattle.flow_model.proofs.OneList.CallsAndCells.{with_call-keeps, with_call-field, with_call-live}
use Rattle.flow_model.proofs.OneStep.ChangesOfOneList.{same_cell}
use Rattle.flow_model.proofs.OrderStays.OpenNodesHaveFrames.{entry-there, cell-there, closed-opens}
use Rattle.flow_model.proofs.Reactions.RunsThatHaveEnded.{not_both}
use Rattle.flow_model.proofs.Wants.FramedWith.{opens-frame, heads-opens}
use Rattle.flow_model.proofs.Values.NothingComesBefore.{head-unblocked}
use Rattle.flow_model.proofs.Values.FoundByReads.{finds-same, value-same}
use Rattle.flow_model.proofs.General.AnyAndAll.{any-alike, any-none, all-in, any-false}
use Rattle.flow_model.proofs.Ended.WhoEndsIsFirst.{changed-done}
use Rattle.flow_model.proofs.Values.ReadsStay.{head-stays, settled-value}
use Rattle.flow_model.proofs.Values.RightDonesStay.{changes-kept}
use Rattle.flow_model.proofs.FramesSpread.AfterDones.{skip-untouched}

-- What is said of a new Done.
pub record IsFinished (graph : Graph) (s q : Core) (u n : ℕ) : Type 0 where
  pub done : at is_done (entries q n) u ≡ true
  pub due : touched graph q u n ≡ touched graph s u n
  pub source : is_source (node_at graph n) ≡ true → value_for q u n ≡ set_value n (Faulty NoChoice) (call q u).sets
  pub other : is_source (node_at graph n) ≡ false → IsDoneRight graph q u n
  pub flag : changed_of (done_at (entries q n) u) ≡ not (same (value_for q u n) (value_before (entries q n) u))
  pub changed : changes q u n ≡ at changed_of (entries q n) u

-- A call reads the Done that it has got.
finished-at : (t : ℕ) (v : Value) (c : Bool) (ps : List (Option ℕ)) (es : List Entry) → has es t ≡ true → done_at (with_state t (Done v c ps) es) t ≡ Done v c ps
finished-at t v c ps es k = let o = found es k in ap state_of o.1 ∙ o.2
  where
    found : (es : List Entry) → has es t ≡ true → (x : Entry) × (last_done (up_to (with_state t (Done v c ps) es) t) ≡ Some x) × (x.state ≡ Done v c ps)
    found [] k = absurd (true≢false (sym k))
    found (e ∷ es) k = go (e.version == t) refl k (found es)
      where
        go : (b : Bool) → (e.version == t) ≡ b → (b || has es t) ≡ true → (has es t ≡ true → (x : Entry) × (last_done (up_to (with_state t (Done v c ps) es) t) ≡ Some x) × (x.state ≡ Done v c ps))
            → (x : Entry) × (last_done (up_to (elim b as (λ _. List Entry) [ true ↦ record e { state = Done v c ps } ∷ es | false ↦ e ∷ with_state t (Done v c ps) es ]) t) ≡ Some x) × (x.state ≡ Done v c ps)
        go true y j further = (record e { state = Done v c ps }, rw (y, up_to) refl, refl)
        go false y j further = let r = further j in (r.0, rw (y, up_to) (ap (λ (o : Option Entry). option_or o (only_done e)) r.1), r.2)

-- ---- what is found and gathered

body-found : (node : Node) (body : Scripted) (read other : ℕ → Value) (acc : Value) → body_of node ≡ Some body → body_over (Some body) other (selections_of (Some (finds node read acc))) ≡ value_over (Some body) other (finds node read acc)
body-found (Source v) body read other acc e = cc
body-found (Signal script inputs) body read other acc e = cc
body-found (Fold v script inputs) body read other acc e = cc
body-found (Choose selectors b inputs) body read other acc e = refl

-- ---- the step that finishes

module _ (graph : Graph) (s : Core) (step : Step) (h : IsLawful graph s) (a : allowed graph s step ≡ true) (t n : ℕ) (v : Value) (c : Bool) (ps : List (Option ℕ)) (f : can_work graph s t n ≡ true) (lists : entries (apply graph s step) n ≡ with_state t (Done v c ps) (entries s n))
    (opens_less : (m : ℕ) → opens (apply graph s step) t m ≡ true → opens s t m ≡ true) (wants_same : (m : ℕ) → wants (apply graph s step) t m ≡ wants s t m)
    (others : (m : ℕ) → (m == n) ≡ false → changes (apply graph s step) t m ≡ changes s t m) where
  pub hd : heads s t n ≡ true
  hd = at_front-heads graph s t n (can_work-at_front graph s t n f)

  pub lt : live s t ≡ true
  lt = executes-live s t (at_front-executes graph s t n (can_work-at_front graph s t n f))

  pub there : has (entries s n) t ≡ true
  there = (head-unblocked graph s h t n hd).entry

  pub at-new : done_at (entries (apply graph s step) n) t ≡ Done v c ps
  at-new = ap (λ (es : List Entry). done_at es t) lists ∙ finished-at t v c ps (entries s n) there

  pub before-old : done_before (entries (apply graph s step) n) t ≡ done_before (entries s n) t
  before-old = head-stays graph s step h a t n hd

  pub changed-new : at changed_of (entries (apply graph s step) n) t ≡ c
  changed-new = ap (λ (es : List Entry). at changed_of es t) lists ∙ (let w = with_state-at changed_of t (Done v c ps) (entries s n) t in let e = eq-eqb t t refl in shown (has (entries s n) t) (at changed_of (entries s n) t) (rw e at w) there)
    where
      shown : (x y : Bool) → at changed_of (with_state t (Done v c ps) (entries s n)) t ≡ (x && c) → x ≡ true → at changed_of (with_state t (Done v c ps) (entries s n)) t ≡ c
      shown x y w e = w ∙ ap (λ (b : Bool). b && c) e

  pub done-new : at is_done (entries (apply graph s step) n) t ≡ true
  done-new = ap (λ (es : List Entry). at is_done es t) lists ∙ (let w = with_state-at is_done t (Done v c ps) (entries s n) t in let e = eq-eqb t t refl in shown (has (entries s n) t) (at is_done (entries s n) t) (rw e at w) there)
    where
      shown : (x y : Bool) → at is_done (with_state t (Done v c ps) (entries s n)) t ≡ (x && true) → x ≡ true → at is_done (with_state t (Done v c ps) (entries s n)) t ≡ true
      shown x y w e = w ∙ ap (λ (b : Bool). b && true) e

  deps-old : deps graph (apply graph s step) t n ≡ deps graph s t n
  deps-old = ap (λ (x : State). inputs_of (node_at graph n) ++ nodes_in (picks_of x)) before-old

  -- it has finished at what the node rests on
  dep-closed : (m : ℕ) → is_in m (deps graph s t n) ≡ true → opens s t m ≡ false
  dep-closed m k = any-none (opens s t) (deps graph s t n) m (not-true _ (and_right _ _ (can_work-at_front graph s t n f))) k

  pub no_open-new : list_any (λ m. opens (apply graph s step) t m || wants (apply graph s step) t m) (deps graph (apply graph s step) t n) ≡ false
  no_open-new = any-false (λ m. opens (apply graph s step) t m || wants (apply graph s step) t m) (deps graph (apply graph s step) t n) (λ m k. neither m (subst (λ (ms : List ℕ). is_in m ms ≡ true) deps-old k))
    where
      empty : (ns : List ℕ) (m : ℕ) → is_empty ns ≡ true → is_in m ns ≡ false
      empty [] m e = refl
      empty (x ∷ xs) m e = absurd (true≢false (sym e))

      neither : (m : ℕ) → is_in m (deps graph s t n) ≡ true → (opens (apply graph s step) t m || wants (apply graph s step) t m) ≡ false
      neither m k = ap (λ (b : Bool). b || wants (apply graph s step) t m) (false_from_ne_true (opens (apply graph s step) t m) (λ o. both_ways _ (dep-closed m k) (opens_less m o)))
          ∙ wants_same m ∙ empty (call s t).wanted m (and_left _ _ f)

  -- whether it was due is as before
  pub touched-old : touched graph (apply graph s step) t n ≡ touched graph s t n
  touched-old = ap (λ (b : Bool). not (is_source (node_at graph n)) && b)
      (ap (list_any (changes (apply graph s step) t)) deps-old ∙ any-alike (changes (apply graph s step) t) (changes s t) (deps graph s t n) (λ m k. others m (apart m k)))
    where
      apart : (m : ℕ) → is_in m (deps graph s t n) ≡ true → (m == n) ≡ false
      apart m k = false_from_ne_true (m == n) (λ e. both_ways _ (dep-closed m k) (subst (λ (j : ℕ). opens s t j ≡ true) (sym (eqb-true m n e)) (heads-opens graph s h t n hd)))

-- ---- Skip

finish-opens : (s : Core) (t n : ℕ) (v : Value) (b : Bool) (ps : List (Option ℕ)) (m : ℕ) → live s t ≡ true → opens (finish s t n v b ps) t m ≡ true → opens s t m ≡ true
finish-opens s t n v b ps m lt o = and_left (opens s t m) (not ((t == t) && (m == n))) (sym (closed-opens (with_cell s n (set_state t (Done v b ps))) t n b t m lt) ∙ o)

pub finish-list : (s : Core) (t n : ℕ) (v : Value) (b : Bool) (ps : List (Option ℕ)) → n < length s.cells → entries (finish s t n v b ps) n ≡ with_state t (Done v b ps) (entries s n)
finish-list s t n v b ps k = ap (λ (c : Cell). c.entries) (cell-there s n (set_state t (Done v b ps)) k)

head-none : (graph : Graph) (s : Core) → IsLawful graph s → (t n : ℕ) → heads s t n ≡ true → changes s t n ≡ false
head-none graph s h t n k =
    let o = heads-opens graph s h t n k in
    let fr = opens-frame graph s h t n o in
    h.dones_are_right.changed t n (opens-live s t n o) ∙ false_from_ne_true _ (λ c. both_ways _ (not_both (entries s n) t fr) (changed-done (entries s n) t c))

pub skip-finished : (graph : Graph) (s : Core) (t n : ℕ) → IsLawful graph s → allowed graph s (steps.Skip t n) ≡ true → IsFinished graph s (apply graph s (steps.Skip t n)) t n
skip-finished graph s t n h a = record {
  done = done-new graph s (steps.Skip t n) h a t n v false ps f lists less wants_kept others;
  due = due;
  source = λ e. absurd (both_ways _ (not-true _ (and_right _ _ (and_left _ _ (and_left _ _ a)))) e);
  other = λ e. record {
    no_open = no_open-new graph s (steps.Skip t n) h a t n v false ps f lists less (λ m. wants_kept m) others;
    kept_value = λ k. ap value_of new ∙ ap value_of (sym old);
    kept_picks = λ k. ap picks_of new ∙ ap picks_of (sym old);
    new_value = λ k. absurd (both_ways _ (due ∙ skip-untouched graph s t n a) k);
    new_picks = λ k. absurd (both_ways _ (due ∙ skip-untouched graph s t n a) k);
  };
  flag = ap changed_of new ∙ sym (ap not (ap (λ (x : State). same (value_of x) (value_before (entries (apply graph s (steps.Skip t n)) n) t)) new ∙ ap (λ (x : State). same v (value_of x)) old ∙ same-self v));
  changed = with_call-keeps (λ x. is_in n x.changed) (with_cell s n (set_state t (Done v false ps))) t (closed n false) (λ x. refl) (λ x. refl) t ∙ head-none graph s h t n head ∙ sym (changed-new graph s (steps.Skip t n) h a t n v false ps f lists less wants_kept others);
}
  where
    v : Value
    v = value_before (entries s n) t

    ps : List (Option ℕ)
    ps = picks_before (entries s n) t

    f : can_work graph s t n ≡ true
    f = skip-can_work graph s t n a

    head : heads s t n ≡ true
    head = at_front-heads graph s t n (can_work-at_front graph s t n f)

    live_it : live s t ≡ true
    live_it = executes-live s t (at_front-executes graph s t n (can_work-at_front graph s t n f))

    lists : entries (apply graph s (steps.Skip t n)) n ≡ with_state t (Done (value_before (entries s n) t) false (picks_before (entries s n) t)) (entries s n)
    lists = finish-list s t n (value_before (entries s n) t) false (picks_before (entries s n) t) (entry-there s n t (head-unblocked graph s h t n head).entry)

    less : (m : ℕ) → opens (apply graph s (steps.Skip t n)) t m ≡ true → opens s t m ≡ true
    less m o = finish-opens s t n (value_before (entries s n) t) false (picks_before (entries s n) t) m live_it o

    wants_kept : (m : ℕ) → wants (apply graph s (steps.Skip t n)) t m ≡ wants s t m
    wants_kept m = with_call-keeps (λ x. is_in m x.wanted) (with_cell s n (set_state t (Done (value_before (entries s n) t) false (picks_before (entries s n) t)))) t (closed n false) (λ x. refl) (λ x. refl) t

    others : (m : ℕ) → (m == n) ≡ false → changes (apply graph s (steps.Skip t n)) t m ≡ changes s t m
    others m e = with_call-keeps (λ x. is_in m x.changed) (with_cell s n (set_state t (Done (value_before (entries s n) t) false (picks_before (entries s n) t)))) t (closed n false) (λ x. refl) (λ x. refl) t

    new : done_at (entries (apply graph s (steps.Skip t n)) n) t ≡ Done (value_before (entries s n) t) false (picks_before (entries s n) t)
    new = at-new graph s (steps.Skip t n) h a t n (value_before (entries s n) t) false (picks_before (entries s n) t) f lists less wants_kept others

    old : done_before (entries (apply graph s (steps.Skip t n)) n) t ≡ done_before (entries s n) t
    old = before-old graph s (steps.Skip t n) h a t n (value_before (entries s n) t) false (picks_before (entries s n) t) f lists less wants_kept others

    due : touched graph (apply graph s (steps.Skip t n)) t n ≡ touched graph s t n
    due = touched-old graph s (steps.Skip t n) h a t n (value_before (entries s n) t) false (picks_before (entries s n) t) f lists less wants_kept others

-- ---- Resolve

pub resolve-worked : (graph : Graph) (s : Core) (t n : ℕ) → allowed graph s (steps.Resolve t n) ≡ true → is_source (node_at graph n) ≡ false → is_worked_out graph s t n ≡ true
resolve-worked graph s t n a e = go (is_source (node_at graph n)) (touched graph s t n) (is_worked_out graph s t n) (and_right _ _ a) e
  where
    go : (x y w : Bool) → (x || (y && w)) ≡ true → x ≡ false → w ≡ true
    go x y w h k = grind (arith, h, k)

pub resolve-due : (graph : Graph) (s : Core) (t n : ℕ) → allowed graph s (steps.Resolve t n) ≡ true → is_source (node_at graph n) ≡ false → touched graph s t n ≡ true
resolve-due graph s t n a e = go (is_source (node_at graph n)) (touched graph s t n) (is_worked_out graph s t n) (and_right _ _ a) e
  where
    go : (x y w : Bool) → (x || (y && w)) ≡ true → x ≡ false → y ≡ true
    go x y w h k = grind (arith, h, k)

worked-body : (graph : Graph) (s : Core) (t n : ℕ) → is_worked_out graph s t n ≡ true → has_body_value graph s n ≡ true
worked-body graph s t n w = and_right _ _ w

-- what is worked out at the node, over what the call reads
module _ (graph : Graph) (g : IsGraph graph) (s : Core) (step : Step) (h : IsLawful graph s) (a : allowed graph s step ≡ true) (t n : ℕ) (k : heads s t n ≡ true) (w : is_worked_out graph s t n ≡ true) (fd : Found) (is : (cell s n).found ≡ Some fd)
    (old : done_before (entries (apply graph s step) n) t ≡ done_before (entries s n) t) where
  lives : live s t ≡ true
  lives = opens-live s t n (heads-opens graph s h t n k)

  inside : n < length graph.nodes
  inside = let e = entry-there s n t (head-unblocked graph s h t n k).entry in let j = h.lists in omega (arith, e, j)

  gathered-read : (m : ℕ) → is_gathered s n m ≡ true → value_gathered s n m ≡ value_for (apply graph s step) t m
  gathered-read m e = go (gathered_of m (cell s n).gathered) refl e
    where
      go : (o : Option Value) → gathered_of m (cell s n).gathered ≡ o → is_some o ≡ true → value_or (gathered_of m (cell s n).gathered) ≡ value_for (apply graph s step) t m
      go None x y = absurd (true≢false (sym y))
      go (Some v) x y = ap value_or x ∙ h.values_are_read.gathered t n m v k x ∙ sym (settled-value graph s step h a t m lives (by_node n (or_left _ _ (or_left _ _ (and_from _ _ k e)))))

  pub found-read : fd ≡ found_for graph (apply graph s step) t n
  found-read = h.values_are_read.found t n fd k is
      ∙ finds-same graph g n inside (value_gathered s n) (value_for (apply graph s step) t) (value_before (entries s n) t)
      (λ m j. gathered-read m (all-in (is_gathered s n) (inputs_of (node_at graph n)) m (h.work_is_kept.finds_last n (ap is_some is)) j))
      ∙ ap (λ (x : State). finds (node_at graph n) (value_for (apply graph s step) t) (value_of x)) (sym old)

  by-body : value_by s n (body_of (node_at graph n)) ≡ value_over (body_of (node_at graph n)) (value_gathered s n) fd
  by-body = go (body_of (node_at graph n)) refl
    where
      has_value : (has_body_value graph s n) ≡ true
      has_value = worked-body graph s t n w

      made : (body : Scripted) → body_of (node_at graph n) ≡ Some body → (o : Option Value) → (cell s n).body ≡ o → (is_none (Some body) || is_some o) ≡ true → value_or (cell s n).body ≡ value_over (Some body) (value_gathered s n) fd
      made body e None x y = absurd (true≢false (sym y))
      made body e (Some v) x y =
          ap value_or x ∙ h.values_are_read.body n v x
          ∙ ap (λ (b : Option Scripted). body_over b (value_gathered s n) (selections_of (cell s n).found)) e
          ∙ ap (λ (o : Option Found). body_over (Some body) (value_gathered s n) (selections_of o)) is
          ∙ ap (λ (z : Found). body_over (Some body) (value_gathered s n) (selections_of (Some z))) (h.values_are_read.found t n fd k is)
          ∙ body-found (node_at graph n) body (value_gathered s n) (value_gathered s n) (value_before (entries s n) t) e
          ∙ ap (value_over (Some body) (value_gathered s n)) (sym (h.values_are_read.found t n fd k is))

      go : (b : Option Scripted) → body_of (node_at graph n) ≡ b → value_by s n b ≡ value_over b (value_gathered s n) fd
      go None e = ap (value_without s n) is
      go (Some body) e = made body e (cell s n).body refl (subst (λ (b : Option Scripted). (is_none b || is_some (cell s n).body) ≡ true) e has_value)

  pub value-read : value_by s n (body_of (node_at graph n)) ≡ value_over (body_of (node_at graph n)) (value_for (apply graph s step) t) (found_for graph (apply graph s step) t n)
  value-read = by-body
      ∙ value-same (body_of (node_at graph n)) (value_gathered s n) (value_for (apply graph s step) t) fd
      (λ m j. gathered-read m (all-in (is_gathered s n) (found_candidates s n) m (and_right _ _ (and_left _ _ (and_left _ _ (and_left _ _ w)))) (subst (λ (o : Option Found). is_in m (nodes_in (picks_of_found o)) ≡ true) (sym is) j)))
      ∙ ap (value_over (body_of (node_at graph n)) (value_for (apply graph s step) t)) found-read

pub resolve-finished : (graph : Graph) → IsGraph graph → (s : Core) (t n : ℕ) → IsLawful graph s → allowed graph s (steps.Resolve t n) ≡ true → IsFinished graph s (apply graph s (steps.Resolve t n)) t n
resolve-finished graph g s t n h a = record {
  done = done-new graph s (steps.Resolve t n) h a t n (value_now graph s t n) (is_change graph s t n) (found_picks s n) f lists less wants_kept others;
  due = due;
  source = λ e. ap value_of new ∙ ap (λ (b : Bool). elim b as (λ _. Value) [ true ↦ set_value n (Faulty NoChoice) (call s t).sets | false ↦ value_by s n (body_of (node_at graph n)) ]) e ∙ ap (set_value n (Faulty NoChoice)) (sym sets);
  other = λ e. record {
    no_open = no_open-new graph s (steps.Resolve t n) h a t n (value_now graph s t n) (is_change graph s t n) (found_picks s n) f lists less wants_kept others;
    kept_value = λ k. absurd (both_ways _ (sym due ∙ k) (touched_it e));
    kept_picks = λ k. absurd (both_ways _ (sym due ∙ k) (touched_it e));
    new_value = λ k. ap value_of new ∙ ap (λ (b : Bool). elim b as (λ _. Value) [ true ↦ set_value n (Faulty NoChoice) (call s t).sets | false ↦ value_by s n (body_of (node_at graph n)) ]) e
        ∙ value-read graph g s (steps.Resolve t n) h a t n head (worked e) (found e).0 (found e).1 old;
    new_picks = λ k. ap picks_of new ∙ ap picks_of_found (found e).1 ∙ ap (λ (x : Found). picks_of_found (Some x)) (found-read graph g s (steps.Resolve t n) h a t n head (worked e) (found e).0 (found e).1 old);
  };
  flag = ap changed_of new ∙ sym (ap not (ap (λ (x : State). same (value_of x) (value_before (entries (apply graph s (steps.Resolve t n)) n) t)) new ∙ ap (λ (x : State). same (value_now graph s t n) (value_of x)) old));
  changed = shown (is_change graph s t n) (with_call-field (λ x. is_in n x.changed) (with_cell s n (set_state t (Done (value_now graph s t n) (is_change graph s t n) (found_picks s n)))) t (closed n (is_change graph s t n)) (λ x. refl) t live_it)
      ∙ sym (changed-new graph s (steps.Resolve t n) h a t n (value_now graph s t n) (is_change graph s t n) (found_picks s n) f lists less wants_kept others);
}
  where
    f : can_work graph s t n ≡ true
    f = resolve-can_work graph s t n a

    head : heads s t n ≡ true
    head = at_front-heads graph s t n (can_work-at_front graph s t n f)

    live_it : live s t ≡ true
    live_it = executes-live s t (at_front-executes graph s t n (can_work-at_front graph s t n f))

    lists : entries (apply graph s (steps.Resolve t n)) n ≡ with_state t (Done (value_now graph s t n) (is_change graph s t n) (found_picks s n)) (entries s n)
    lists = same_cell graph (finish s t n (value_now graph s t n) (is_change graph s t n) (found_picks s n)) n cleared (λ x. refl) n
        ∙ finish-list s t n (value_now graph s t n) (is_change graph s t n) (found_picks s n) (entry-there s n t (head-unblocked graph s h t n head).entry)

    less : (m : ℕ) → opens (apply graph s (steps.Resolve t n)) t m ≡ true → opens s t m ≡ true
    less m o = finish-opens s t n (value_now graph s t n) (is_change graph s t n) (found_picks s n) m live_it o

    wants_kept : (m : ℕ) → wants (apply graph s (steps.Resolve t n)) t m ≡ wants s t m
    wants_kept m = with_call-keeps (λ x. is_in m x.wanted) (with_cell s n (set_state t (Done (value_now graph s t n) (is_change graph s t n) (found_picks s n)))) t (closed n (is_change graph s t n)) (λ x. refl) (λ x. refl) t

    sets : (call (apply graph s (steps.Resolve t n)) t).sets ≡ (call s t).sets
    sets = with_call-keeps (λ x. x.sets) (with_cell s n (set_state t (Done (value_now graph s t n) (is_change graph s t n) (found_picks s n)))) t (closed n (is_change graph s t n)) (λ x. refl) (λ x. refl) t

    still : live (apply graph s (steps.Resolve t n)) t ≡ true
    still = ap (λ (l : ℕ → Bool). l t) (with_call-live (with_cell s n (set_state t (Done (value_now graph s t n) (is_change graph s t n) (found_picks s n)))) t (closed n (is_change graph s t n)) (λ x. refl)) ∙ live_it

    others : (m : ℕ) → (m == n) ≡ false → changes (apply graph s (steps.Resolve t n)) t m ≡ changes s t m
    others m e = changes-kept graph s (steps.Resolve t n) a t m still (λ x. both_ways _ e (eq-eqb m n x.1))

    new : done_at (entries (apply graph s (steps.Resolve t n)) n) t ≡ Done (value_now graph s t n) (is_change graph s t n) (found_picks s n)
    new = at-new graph s (steps.Resolve t n) h a t n (value_now graph s t n) (is_change graph s t n) (found_picks s n) f lists less wants_kept others

    old : done_before (entries (apply graph s (steps.Resolve t n)) n) t ≡ done_before (entries s n) t
    old = before-old graph s (steps.Resolve t n) h a t n (value_now graph s t n) (is_change graph s t n) (found_picks s n) f lists less wants_kept others

    due : touched graph (apply graph s (steps.Resolve t n)) t n ≡ touched graph s t n
    due = touched-old graph s (steps.Resolve t n) h a t n (value_now graph s t n) (is_change graph s t n) (found_picks s n) f lists less wants_kept others

    touched_it : is_source (node_at graph n) ≡ false → touched graph s t n ≡ true
    touched_it e = resolve-due graph s t n a e

    worked : is_source (node_at graph n) ≡ false → is_worked_out graph s t n ≡ true
    worked e = resolve-worked graph s t n a e

    found : is_source (node_at graph n) ≡ false → (fd : Found) × ((cell s n).found ≡ Some fd)
    found e = go (cell s n).found refl (and_left _ _ (and_left _ _ (and_left _ _ (and_left _ _ (worked e)))))
      where
        go : (o : Option Found) → (cell s n).found ≡ o → is_some (cell s n).found ≡ true → (fd : Found) × ((cell s n).found ≡ Some fd)
        go None x y = absurd (true≢false (sym (sym (ap is_some x) ∙ y)))
        go (Some fd) x y = (fd, x)

    shown : (b : Bool) → is_in n (call (apply graph s (steps.Resolve t n)) t).changed ≡ elim (t == t) as (λ _. Bool) [
      | true ↦ is_in n (elim b as (λ _. List ℕ) [ true ↦ put n (call s t).changed | false ↦ (call s t).changed ])
      | false ↦ is_in n (call s t).changed
    ] → changes (apply graph s (steps.Resolve t n)) t n ≡ b
    shown b w = rw (eq-eqb t t refl) at w ∙ cases b
      where
        cases : (b : Bool) → is_in n (elim b as (λ _. List ℕ) [ true ↦ put n (call s t).changed | false ↦ (call s t).changed ]) ≡ b
        cases true = in-put n n (call s t).changed ∙ or_left _ _ (eq-eqb n n refl)
        cases false = head-none graph s h t n head
