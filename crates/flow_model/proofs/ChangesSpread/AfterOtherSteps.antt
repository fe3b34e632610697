-- Where a call has changed a node, all that reacts is framed for it or wanted by it, after a beginning and most steps.
use Rattle.std.proofs.Common.{◌≡◌, ℕ, suc, Bool, true, false, ◌&&◌, ◌||◌, not, ◌==◌, ◌⊎◌, inl, inr, refl, sym, ap, arith, List, [], true≢false, ◌∙◌, subst, Option, Some, None}
use Rattle.std.proofs.lemmas.Bool.{or_cases, or_left, or_right, both_ways}
use Rattle.std.specs.Prelude.{is_some}
use Rattle.script_tree.specs.declared.value.Value.{Value}
use Rattle.script_tree.proofs.Truths.{and_left, and_right}
use Rattle.signal_graph.specs.declared.call.Call.{Call}
use Rattle.signal_graph.specs.Graph.{Graph, is_in}
use Rattle.node_versions.specs.declared.entry.State.TheVariants.{Mark, Frame, Done}
use Rattle.node_versions.specs.declared.entry.Entry.{Entry}
use Rattle.node_versions.specs.Entries.{has, at, is_mark, is_frame, changed_of, has_node, value_at}
use Rattle.node_versions.proofs.Places.{at_implies, at-has}
use Rattle.flow_model.specs.declared.step.Step.{Step}
use Rattle.flow_model.specs.declared.step.Step.TheVariants as steps
use Rattle.flow_model.specs.Machine.State.{Core, LiveCall, call, call_of, call_or, live, entries, outs, wants, changes, with_cell}
use Rattle.flow_model.specs.Machine.Words.{found_now, next_look, body_now}
use Rattle.flow_model.specs.Machine.Changes.{stops_call, new_entry, ensure_mark}
use Rattle.flow_model.specs.Machine.Steps.{allowed, apply, begin, started, counted, with_look, look_value, keep_found, gather, keep_body, new_call, nodes_set, sets_in}
use Rattle.flow_model.specs.Kept.Runs.{reacts, is_framed_state, framed}
use Rattle.flow_model.specs.Kept.Lawful.{IsLawful, ChangesSpread}
use Rattle.flow_model.proofs.OneStep.WhoMayStep.{at_front-heads, mark-no_entry}
use Rattle.flow_model.proofs.General.Sets.{in-put_all}
use Rattle.flow_model.proofs.OneList.StatesAndPlaces.{with_state-at}
use Rattle.flow_model.proofs.OneList.OneEntryACall.{placed-at_other, collected-at_live}
use Rattle.flow_model.proofs.OneList.CallsAndCells.{with_call-keeps, without_call-other, without_call-same}
use Rattle.flow_model.proofs.OrderStays.PartsOfStepsKeepOrder.{reads_without}
use Rattle.flow_model.proofs.OneStep.ChangesOfOneList.{ListStep, stays, marks, frames, raises, finishes, collects, step-list}
use Rattle.flow_model.proofs.OneStep.WhoLivesAndFrames.{step-phases}
use Rattle.flow_model.proofs.OneStep.SameCallers.{ensured, phase-live, step-stable}
use Rattle.flow_model.proofs.Wants.FramedWith.{opens-frame, heads-opens}
use Rattle.flow_model.proofs.OrderStays.AfterEachStep.{not_begun-entry}
use Rattle.flow_model.proofs.OneStep.BegunCalls.{begin-call}
use Rattle.flow_model.proofs.FramesSpread.AfterOtherSteps.{same_lists-reacts, worked-reacts, call-reacts, dropped-reacts, ensured-edges}
use Rattle.flow_model.proofs.Reactions.WhoReactsAfterSteps.{marked-reacts_at, ensured-reacts_at, collected-reacts_at}

-- ---- entries

-- A call that has changed a node lives, and has a Done there that changed.
pub changes-live : (s : Core) (u m : ℕ) → changes s u m ≡ true → live s u ≡ true
changes-live s u m h = go (call_of s.calls u) refl
  where
    go : (o : Option LiveCall) → call_of s.calls u ≡ o → live s u ≡ true
    go None e = absurd (true≢false (sym h ∙ ap (λ (o : Option LiveCall). is_in m (call_or o).changed) e))
    go (Some c) e = ap is_some e

pub changes-done : (graph : Graph) (s : Core) → IsLawful graph s → (u m : ℕ) → changes s u m ≡ true → at changed_of (entries s m) u ≡ true
changes-done graph s h u m c = sym (h.dones_are_right.changed u m (changes-live s u m c)) ∙ c

pub changes-entry : (graph : Graph) (s : Core) → IsLawful graph s → (u m : ℕ) → changes s u m ≡ true → has (entries s m) u ≡ true
changes-entry graph s h u m c = at-has changed_of (entries s m) u (changes-done graph s h u m c)

pub frame-framed : (s : Core) (u n : ℕ) → at is_frame (entries s n) u ≡ true → framed s u n ≡ true
frame-framed s u n h = at_implies is_frame is_framed_state (λ x k. or_left _ _ k) (entries s n) u h

-- ---- what is framed stays so

list-framed : (graph : Graph) (s : Core) → IsLawful graph s → (n u : ℕ) → live s u ≡ true → framed s u n ≡ true → (es : List Entry) → ListStep graph s n es → at is_framed_state es u ≡ true
list-framed graph s h n u l k es (stays e) = subst (λ (xs : List Entry). at is_framed_state xs u ≡ true) (sym e) k
list-framed graph s h n u l k es (marks t x fresh r e) = subst (λ (xs : List Entry). at is_framed_state xs u ≡ true) (sym e)
    (placed-at_other is_framed_state (stops_call s t) (new_entry s t Mark) (entries s n) u (λ z. both_ways _ fresh (subst (λ (v : ℕ). has (entries s n) v ≡ true) z (at-has is_framed_state (entries s n) u k))) ∙ k)
list-framed graph s h n u l k es (frames t w fresh r e) = subst (λ (xs : List Entry). at is_framed_state xs u ≡ true) (sym e)
    (placed-at_other is_framed_state (stops_call s t) (new_entry s t Frame) (entries s n) u (λ z. both_ways _ fresh (subst (λ (v : ℕ). has (entries s n) v ≡ true) z (at-has is_framed_state (entries s n) u k))) ∙ k)
list-framed graph s h n u l k es (raises t w m e) = subst (λ (xs : List Entry). at is_framed_state xs u ≡ true) (sym e)
    (let a = with_state-at is_framed_state t Frame (entries s n) u in let b = at-has is_mark (entries s n) t m in shown (u == t) (has (entries s n) t) _ _ a b k)
  where
    shown : (x c a b : Bool) → a ≡ elim x as (λ _. Bool) [ true ↦ c && true | false ↦ b ] → c ≡ true → b ≡ true → a ≡ true
    shown x c a b h j i = grind (arith, h, j, i)
list-framed graph s h n u l k es (finishes t v c ps f e) = subst (λ (xs : List Entry). at is_framed_state xs u ≡ true) (sym e)
    (let a = with_state-at is_framed_state t (Done v c ps) (entries s n) u in let b = at-has is_frame (entries s n) t (opens-frame graph s h t n (heads-opens graph s h t n (at_front-heads graph s t n f))) in shown (u == t) (has (entries s n) t) _ _ a b k)
  where
    shown : (x c a b : Bool) → a ≡ elim x as (λ _. Bool) [ true ↦ c && true | false ↦ b ] → c ≡ true → b ≡ true → a ≡ true
    shown x c a b h j i = grind (arith, h, j, i)
list-framed graph s h n u l k es (collects e) = subst (λ (xs : List Entry). at is_framed_state xs u ≡ true) (sym e) (collected-at_live is_framed_state (λ v. not (live s v)) (entries s n) u (ap not l) ∙ k)

pub framed-stays : (graph : Graph) (s : Core) (step : Step) → IsLawful graph s → allowed graph s step ≡ true → (u n : ℕ) → live s u ≡ true → framed s u n ≡ true → framed (apply graph s step) u n ≡ true
framed-stays graph s step h a u n l k = list-framed graph s h n u l k (entries (apply graph s step) n) (step-list graph s step h a n)

-- ---- the form of the proofs

-- What is changed and reacts after a step was changed and reacted before it, or is framed or wanted.
abbrev pub Reacted : Graph → Core → Core → ℕ → ℕ → ℕ → Type 0
Reacted graph s q u m n = ((changes s u m ≡ true) × (reacts graph s u m n ≡ true)) ⊎ ((framed q u n || wants q u n) ≡ true)

pub step-changes : (graph : Graph) (s : Core) (step : Step) → IsLawful graph s → allowed graph s step ≡ true
    → ((u n : ℕ) → live (apply graph s step) u ≡ true → wants s u n ≡ true → (framed (apply graph s step) u n || wants (apply graph s step) u n) ≡ true)
    → ((u m n : ℕ) → changes (apply graph s step) u m ≡ true → reacts graph (apply graph s step) u m n ≡ true → Reacted graph s (apply graph s step) u m n)
    → ChangesSpread graph (apply graph s step)
step-changes graph s step h a ws rs = record {
  reaction = λ u m n c r. go u m n (changes-live q u m c) (rs u m n c r);
  set = λ u n l k. still u n l (h.changes_spread.set u n (old u l) (subst (λ (sets : List (ℕ × Value)). is_in n (nodes_set sets) ≡ true) (same_sets u l) k));
}
  where
    q : Core
    q = apply graph s step

    old : (u : ℕ) → live q u ≡ true → live s u ≡ true
    old u l = phase-live s q (step-phases graph s step a) u l

    same_sets : (u : ℕ) → live q u ≡ true → (call q u).sets ≡ (call s u).sets
    same_sets u l = step-stable (λ (c : LiveCall). c.sets) (record { opens = λ n outs c. refl; starts = λ c. refl; closes = λ n b c. refl; counts = λ c. refl; looks = λ v c. refl; tells = λ es t n c. refl }) graph s step u l

    still : (u n : ℕ) → live q u ≡ true → (framed s u n || wants s u n) ≡ true → (framed q u n || wants q u n) ≡ true
    still u n l k = cases (or_cases _ _ k)
      where
        cases : (framed s u n ≡ true) ⊎ (wants s u n ≡ true) → (framed q u n || wants q u n) ≡ true
        cases (inl f) = or_left _ _ (framed-stays graph s step h a u n (old u l) f)
        cases (inr w) = ws u n l w

    go : (u m n : ℕ) → live q u ≡ true → Reacted graph s q u m n → (framed q u n || wants q u n) ≡ true
    go u m n l (inl k) = still u n l (h.changes_spread.reaction u m n k.0 k.1)
    go u m n l (inr k) = k

-- A step that leaves what calls want and have changed as it is.
pub kept-changes : (graph : Graph) (s : Core) (step : Step) → IsLawful graph s → allowed graph s step ≡ true
    → ((u n : ℕ) → live (apply graph s step) u ≡ true → wants (apply graph s step) u n ≡ wants s u n) → ((u m : ℕ) → live (apply graph s step) u ≡ true → changes (apply graph s step) u m ≡ changes s u m)
    → ((u m n : ℕ) → live s u ≡ true → has (entries s m) u ≡ true → reacts graph (apply graph s step) u m n ≡ true → reacts graph s u m n ≡ true)
    → ChangesSpread graph (apply graph s step)
kept-changes graph s step h a ws cs rs = step-changes graph s step h a (λ u n l w. or_right _ _ (ws u n l ∙ w))
    (λ u m n c r. let d = sym (cs u m (changes-live (apply graph s step) u m c)) ∙ c in inl (d, rs u m n (changes-live s u m d) (changes-entry graph s h u m d) r))

-- ---- the steps

pub started-changes : (graph : Graph) (s : Core) (t : ℕ) → IsLawful graph s → allowed graph s (steps.Start t) ≡ true → ChangesSpread graph (apply graph s (steps.Start t))
started-changes graph s t h a = kept-changes graph s (steps.Start t) h a (λ u n l. with_call-keeps (λ x. is_in n x.wanted) s t started (λ x. refl) (λ x. refl) u) (λ u m l. with_call-keeps (λ x. is_in m x.changed) s t started (λ x. refl) (λ x. refl) u)
    (λ u m n l e. call-reacts graph s t started (λ x. refl) u m n)

pub gathered-changes : (graph : Graph) (s : Core) (t n0 i : ℕ) → IsLawful graph s → allowed graph s (steps.Gather t n0 i) ≡ true → ChangesSpread graph (apply graph s (steps.Gather t n0 i))
gathered-changes graph s t n0 i h a = kept-changes graph s (steps.Gather t n0 i) h a (λ u n l. refl) (λ u m l. refl) (λ u m n l e. worked-reacts graph s n0 (gather i (value_at (entries s i) t)) (λ x. refl) (λ x. refl) u m n)

pub evaluated-changes : (graph : Graph) (s : Core) (t n0 : ℕ) → IsLawful graph s → allowed graph s (steps.Evaluate t n0) ≡ true → ChangesSpread graph (apply graph s (steps.Evaluate t n0))
evaluated-changes graph s t n0 h a =
    let q = with_cell s n0 (keep_found (found_now graph s t n0)) in
    kept-changes graph s (steps.Evaluate t n0) h a (λ u n l. with_call-keeps (λ x. is_in n x.wanted) q t counted (λ x. refl) (λ x. refl) u) (λ u m l. with_call-keeps (λ x. is_in m x.changed) q t counted (λ x. refl) (λ x. refl) u)
    (λ u m n l e k. worked-reacts graph s n0 (keep_found (found_now graph s t n0)) (λ x. refl) (λ x. refl) u m n (call-reacts graph q t counted (λ x. refl) u m n k))

pub body-changes : (graph : Graph) (s : Core) (t n0 : ℕ) → IsLawful graph s → allowed graph s (steps.Body t n0) ≡ true → ChangesSpread graph (apply graph s (steps.Body t n0))
body-changes graph s t n0 h a = kept-changes graph s (steps.Body t n0) h a (λ u n l. refl) (λ u m l. refl) (λ u m n l e. worked-reacts graph s n0 (keep_body (body_now graph s n0)) (λ x. refl) (λ x. refl) u m n)

pub marked-changes : (graph : Graph) (s : Core) (t c : ℕ) → IsLawful graph s → allowed graph s (steps.Mark t c) ≡ true → ChangesSpread graph (apply graph s (steps.Mark t c))
marked-changes graph s t c h a = kept-changes graph s (steps.Mark t c) h a (λ u n l. refl) (λ u m l. refl) (λ u m n l e k. marked-reacts_at graph s h t c (mark-no_entry graph s t c a) u m n e k)

pub looked-changes : (graph : Graph) (s : Core) (t : ℕ) → IsLawful graph s → allowed graph s (steps.Look t) ≡ true → ChangesSpread graph (apply graph s (steps.Look t))
looked-changes graph s t h a =
    let f = with_look (look_value s t (next_look s t)) in
    kept-changes graph s (steps.Look t) h a (λ u n l. with_call-keeps (λ x. is_in n x.wanted) s t f (λ x. refl) (λ x. refl) u) (λ u m l. with_call-keeps (λ x. is_in m x.changed) s t f (λ x. refl) (λ x. refl) u)
    (λ u m n l e. call-reacts graph s t f (λ x. refl) u m n)

pub dropped-changes : (graph : Graph) (s : Core) (t n0 o : ℕ) → IsLawful graph s → allowed graph s (steps.Drop t n0 o) ≡ true → ChangesSpread graph (apply graph s (steps.Drop t n0 o))
dropped-changes graph s t n0 o h a =
    let p = ensure_mark s t o in
    let d : has_node (outs s o) n0 ≡ true = and_right _ _ (and_left _ _ a) in
    kept-changes graph s (steps.Drop t n0 o) h a (λ u n l. ensured (λ x. is_in n x.wanted) s t o u) (λ u m l. ensured (λ x. is_in m x.changed) s t o u)
    (λ u m n l e k. ensured-reacts_at graph s h t o u m n e (dropped-reacts graph p o n0 (subst (λ (os : _). has_node os n0 ≡ true) (sym (ensured-edges s t o o)) d) u m n k))

pub ended-changes : (graph : Graph) (s : Core) (t : ℕ) → IsLawful graph s → allowed graph s (steps.End t) ≡ true → ChangesSpread graph (apply graph s (steps.End t))
ended-changes graph s t h a = kept-changes graph s (steps.End t) h a (λ u n l. read (λ c. is_in n c.wanted) u l) (λ u m l. read (λ c. is_in m c.changed) u l)
    (λ u m n _ _. same_lists-reacts graph s q (λ j. refl) (λ j. refl) (λ j z k l. let r = reads_without is_some refl t s.calls z in grind (arith, r, l)) u m n)
  where
    q : Core
    q = apply graph s (steps.End t)

    read : (f : LiveCall → Bool) (u : ℕ) → live q u ≡ true → f (call q u) ≡ f (call s u)
    read f u l = ap (λ (o : Option LiveCall). f (call_or o)) (without_call-other t u s.calls (λ e. both_ways _ (ap is_some (without_call-same t s.calls)) (subst (λ (v : ℕ). live q v ≡ true) e l)))

pub collected-changes : (graph : Graph) (s : Core) (n0 : ℕ) → IsLawful graph s → allowed graph s (steps.Collect n0) ≡ true → ChangesSpread graph (apply graph s (steps.Collect n0))
collected-changes graph s n0 h a = kept-changes graph s (steps.Collect n0) h a (λ u n l. refl) (λ u m l. refl) (λ u m n l e k. collected-reacts_at graph s h n0 u m n l e k)

-- A call that begins has changed nothing, and wants what it sets.
pub begin-ChangesSpread : (graph : Graph) (s : Core) (caller : ℕ) (c : Call) → IsLawful graph s → ChangesSpread graph (begin graph s caller c)
begin-ChangesSpread graph s caller c h = record { reaction = λ u m n k r. go u m n (begin-call graph s h caller c u) k r; set = λ u n l k. set u n (begin-call graph s h caller c u) l k }
  where
    q : Core
    q = begin graph s caller c

    Began : ℕ → Type 0
    Began u = ((call_of q.calls u ≡ call_of s.calls u) × ((suc s.begun == u) ≡ false)) ⊎ ((u ≡ suc s.begun) × (call_of q.calls u ≡ Some (new_call graph s caller c)))

    lived : (j z : ℕ) → has (entries s j) z ≡ true → live q z ≡ true → live s z ≡ true
    lived j z x l = cases (begin-call graph s h caller c z)
      where
        cases : Began z → live s z ≡ true
        cases (inl e) = ap is_some (sym e.0) ∙ l
        cases (inr e) = absurd (both_ways _ (not_begun-entry graph s h j) (subst (λ (v : ℕ). has (entries s j) v ≡ true) e.0 x))

    same : (u n : ℕ) → call_of q.calls u ≡ call_of s.calls u → (framed s u n || wants s u n) ≡ true → (framed q u n || wants q u n) ≡ true
    same u n e k = ap (λ (o : Option LiveCall). framed s u n || is_in n (call_or o).wanted) e ∙ k

    go : (u m n : ℕ) → Began u → changes q u m ≡ true → reacts graph q u m n ≡ true → (framed q u n || wants q u n) ≡ true
    go u m n (inl e) k r = same u n e.0 (h.changes_spread.reaction u m n (sym (ap (λ (o : Option LiveCall). is_in m (call_or o).changed) e.0) ∙ k) (same_lists-reacts graph s q (λ j. refl) (λ j. refl) lived u m n r))
    go u m n (inr e) k r = absurd (true≢false (sym k ∙ ap (λ (o : Option LiveCall). is_in m (call_or o).changed) e.1))

    set : (u n : ℕ) → Began u → live q u ≡ true → is_in n (nodes_set (call q u).sets) ≡ true → (framed q u n || wants q u n) ≡ true
    set u n (inl e) l k = same u n e.0 (h.changes_spread.set u n (ap is_some (sym e.0) ∙ l) (sym (ap (λ (o : Option LiveCall). is_in n (nodes_set (call_or o).sets)) e.0) ∙ k))
    set u n (inr e) l k =
        let b : is_in n (nodes_set (sets_in graph c)) ≡ true = sym (ap (λ (o : Option LiveCall). is_in n (nodes_set (call_or o).sets)) e.1) ∙ k in
        or_right (framed q u n) (wants q u n) (ap (λ (o : Option LiveCall). is_in n (call_or o).wanted) e.1 ∙ in-put_all n (nodes_set (sets_in graph c)) [] ∙ or_left _ _ b)
