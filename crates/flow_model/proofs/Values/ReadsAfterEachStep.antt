-- After each step what is gathered, found, evaluated as a body and looked at is what calls read.
use Rattle.std.proofs.Common.{◌≡◌, ℕ, suc, ◌<◌, true, false, ◌&&◌, not, ◌==◌, ◌⊎◌, inl, inr, refl, sym, ap, List, [], ◌∷◌, ◌∙◌, subst, Option, Some, None}
use Rattle.std.proofs.lemmas.Bool.{eqb-true, eq-eqb, both_ways, cases_Bool, not-true}
use Rattle.std.specs.Prelude.{is_some, is_none, slice_get}
use Rattle.script_tree.specs.declared.value.Value.{Value}
use Rattle.script_tree.proofs.Truths.{and_right}
use Rattle.signal_graph.specs.declared.call.Call.{Call}
use Rattle.signal_graph.specs.Graph.{Graph, IsGraph, is_in, node_at, inputs_of, body_of}
use Rattle.node_versions.specs.declared.entry.State.TheVariants.{Done}
use Rattle.node_versions.specs.declared.entry.Entry.{Entry}
use Rattle.node_versions.specs.Entries.{value_at, value_before, first_open}
use Rattle.flow_model.specs.declared.step.Step.{Step}
use Rattle.flow_model.specs.declared.step.Step.TheVariants as steps
use Rattle.flow_model.specs.Machine.State.{Core, LiveCall, Cell, Found, call, call_of, call_or, cell, live, entries, with_cell}
use Rattle.flow_model.specs.Machine.Words.{heads, at_front, gathered_of, is_gathered, is_found, value_gathered, value_or, finds, found_now, body_now, body_over, selections_of, is_some_of, value_now, found_picks, found_candidates, touched}
use Rattle.flow_model.specs.Machine.Changes.{finish, cleared, set_state}
use Rattle.flow_model.specs.Machine.Steps.{allowed, apply, begin, new_call, gather, keep_found, keep_body, is_change, all_gathered}
use Rattle.flow_model.specs.Kept.Lawful.{IsLawful, ValuesAreRead, value_for}
use Rattle.flow_model.proofs.OneStep.WhoMayStep.{at_front-heads, can_work-at_front, due-can_work, gather-due, evaluate-at_front, body-at_front, resolve-can_work}
use Rattle.flow_model.proofs.OneStep.ChangesOfOneList.{same_cell}
use Rattle.flow_model.proofs.OrderStays.OpenNodesHaveFrames.{cell-there, cell-other}
use Rattle.flow_model.proofs.OneStep.SameLengths.{change_at-length}
use Rattle.flow_model.proofs.OneStep.BegunCalls.{begin-call}
use Rattle.flow_model.proofs.Values.FoundByReads.{finds-same, body-same}
use Rattle.flow_model.proofs.FramesSpread.AfterDones.{heads-same}
use Rattle.flow_model.proofs.OneStep.QuietSteps.{SameWork}
use Rattle.flow_model.proofs.Values.ReadsStay.{gathered-more, gathered-last, selected-picks, Resolves, old-gathered, old-found, head-there}
use Rattle.flow_model.proofs.General.AnyAndAll.{all-in}
use Rattle.flow_model.proofs.Values.ReadsAreKept.{LooksAreRead, plain-looked, look-looked, same-gathered, same-found, same-body, plain-read, other-work}
use Rattle.flow_model.proofs.OneStep.FirstOpenCalls.{head-there as head-cell}

-- A step that works at one node leaves the others, so that only that node is looked at.
at_one : (graph : Graph) (s : Core) (step : Step) → IsLawful graph s → allowed graph s step ≡ true → (n0 : ℕ)
    → ((n : ℕ) → (n == n0) ≡ false → SameWork s (apply graph s step) n) → ((n : ℕ) → (n == n0) ≡ false → Resolves step n → ⊥)
    → ((u m : ℕ) (v : Value) → heads (apply graph s step) u n0 ≡ true → gathered_of m (cell (apply graph s step) n0).gathered ≡ Some v → v ≡ value_for (apply graph s step) u m)
    → ((u : ℕ) (f : Found) → heads (apply graph s step) u n0 ≡ true → (cell (apply graph s step) n0).found ≡ Some f → f ≡ found_now graph (apply graph s step) u n0)
    → ((v : Value) → (cell (apply graph s step) n0).body ≡ Some v → v ≡ body_now graph (apply graph s step) n0)
    → LooksAreRead (apply graph s step) → ValuesAreRead graph (apply graph s step)
at_one graph s step h a n0 others ne gathered found body looks = record {
  gathered = λ u n m v. gathered_at u n m v (cases_Bool (n == n0));
  looked = looks;
  found = λ u n f. found_at u n f (cases_Bool (n == n0));
  body = λ n v. body_at n v (cases_Bool (n == n0));
}
  where
    gathered_at : (u n m : ℕ) (v : Value) → ((n == n0) ≡ true) ⊎ ((n == n0) ≡ false) → heads (apply graph s step) u n ≡ true → gathered_of m (cell (apply graph s step) n).gathered ≡ Some v → v ≡ value_for (apply graph s step) u m
    gathered_at u n m v (inr e) k j = same-gathered graph s step h a n (ne n e) (others n e) u m v k j
    gathered_at u n m v (inl e) k j = gathered u m v (subst (λ (i : ℕ). heads (apply graph s step) u i ≡ true) (eqb-true n n0 e) k) (subst (λ (i : ℕ). gathered_of m (cell (apply graph s step) i).gathered ≡ Some v) (eqb-true n n0 e) j)

    found_at : (u n : ℕ) (f : Found) → ((n == n0) ≡ true) ⊎ ((n == n0) ≡ false) → heads (apply graph s step) u n ≡ true → (cell (apply graph s step) n).found ≡ Some f → f ≡ found_now graph (apply graph s step) u n
    found_at u n f (inr e) k j = same-found graph s step h a n (ne n e) (others n e) u f k j
    found_at u n f (inl e) k j = subst (λ (i : ℕ). f ≡ found_now graph (apply graph s step) u i) (sym (eqb-true n n0 e)) (found u f (subst (λ (i : ℕ). heads (apply graph s step) u i ≡ true) (eqb-true n n0 e) k) (subst (λ (i : ℕ). (cell (apply graph s step) i).found ≡ Some f) (eqb-true n n0 e) j))

    body_at : (n : ℕ) (v : Value) → ((n == n0) ≡ true) ⊎ ((n == n0) ≡ false) → (cell (apply graph s step) n).body ≡ Some v → v ≡ body_now graph (apply graph s step) n
    body_at n v (inr e) j = same-body graph s step h a n (ne n e) (others n e) v j
    body_at n v (inl e) j = subst (λ (i : ℕ). v ≡ body_now graph (apply graph s step) i) (sym (eqb-true n n0 e)) (body v (subst (λ (i : ℕ). (cell (apply graph s step) i).body ≡ Some v) (eqb-true n n0 e) j))

body-found : (graph : Graph) (s : Core) → IsLawful graph s → (n : ℕ) (v : Value) → (cell s n).body ≡ Some v → is_none (cell s n).body ≡ false
body-found graph s h n v e = ap is_none e

-- ---- Gather

gather-read : (graph : Graph) → IsGraph graph → (s : Core) (t n0 i : ℕ) → IsLawful graph s → allowed graph s (steps.Gather t n0 i) ≡ true → ValuesAreRead graph (apply graph s (steps.Gather t n0 i))
gather-read graph g s t n0 i h a = at_one graph s (steps.Gather t n0 i) h a n0 (λ n e. other-work s n0 (gather i v0) n e) (λ n e k. k) gathered found body (plain-looked graph s (steps.Gather t n0 i) h a (λ k. k))
  where
    v0 : Value
    v0 = value_at (entries s i) t

    hd : heads s t n0 ≡ true
    hd = at_front-heads graph s t n0 (can_work-at_front graph s t n0 (due-can_work graph s t n0 (gather-due graph s t n0 i a)))

    lists : (m : ℕ) → entries (with_cell s n0 (gather i v0)) m ≡ entries s m
    lists m = same_cell graph s n0 (gather i v0) (λ c. refl) m

    here : cell (with_cell s n0 (gather i v0)) n0 ≡ gather i v0 (cell s n0)
    here = cell-there s n0 (gather i v0) (head-cell graph s h t n0 hd)

    head_same : (u : ℕ) → heads (with_cell s n0 (gather i v0)) u n0 ≡ true → heads s u n0 ≡ true
    head_same u k = subst (λ (es : List Entry). is_some_of (first_open es) u ≡ true) (lists n0) k

    -- what was gathered before is gathered still
    still : (m : ℕ) → is_gathered s n0 m ≡ true → value_gathered s n0 m ≡ value_gathered (with_cell s n0 (gather i v0)) n0 m
    still m k = sym (ap (λ (c : Cell). value_or (gathered_of m c.gathered)) here ∙ ap value_or (gathered-more m (cell s n0).gathered ((i, v0) ∷ []) k))

    gathered : (u m : ℕ) (v : Value) → heads (with_cell s n0 (gather i v0)) u n0 ≡ true → gathered_of m (cell (with_cell s n0 (gather i v0)) n0).gathered ≡ Some v → v ≡ value_for (with_cell s n0 (gather i v0)) u m
    gathered u m v k e = two (gathered-last m i v v0 (cell s n0).gathered (sym (ap (λ (c : Cell). gathered_of m c.gathered) here) ∙ e))
      where
        two : (gathered_of m (cell s n0).gathered ≡ Some v) ⊎ ((i ≡ m) × (v0 ≡ v)) → v ≡ value_for (with_cell s n0 (gather i v0)) u m
        two (inl x) = old-gathered graph s (steps.Gather t n0 i) h a u n0 m v (λ z. z) k x
        two (inr x) =
            sym x.1 ∙ ap (λ (j : ℕ). value_at (entries s j) t) x.0 ∙ ap (λ (j : ℕ). value_at (entries s m) j) (sym (heads-same s t u n0 hd (head_same u k)))
            ∙ ap (λ (es : List Entry). value_at es u) (sym (lists m))

    found : (u : ℕ) (f : Found) → heads (with_cell s n0 (gather i v0)) u n0 ≡ true → (cell (with_cell s n0 (gather i v0)) n0).found ≡ Some f → f ≡ found_now graph (with_cell s n0 (gather i v0)) u n0
    found u f k e =
        let before : (cell s n0).found ≡ Some f = sym (ap (λ (c : Cell). c.found) here) ∙ e in
        let o = old-found graph s (steps.Gather t n0 i) h a u n0 f (λ z. z) k before in
        o.1 ∙ finds-same graph g n0 (head-there graph s (steps.Gather t n0 i) h a u n0 o.0) (value_gathered s n0) (value_gathered (with_cell s n0 (gather i v0)) n0) (value_before (entries (with_cell s n0 (gather i v0)) n0) u)
        (λ m j. still m (all-in (is_gathered s n0) (inputs_of (node_at graph n0)) m (h.work_is_kept.finds_last n0 (ap is_some before)) j))

    body : (v : Value) → (cell (with_cell s n0 (gather i v0)) n0).body ≡ Some v → v ≡ body_now graph (with_cell s n0 (gather i v0)) n0
    body v e =
        let before : (cell s n0).body ≡ Some v = sym (ap (λ (c : Cell). c.body) here) ∙ e in
        let b = h.work_is_kept.bodies n0 (body-found graph s h n0 v before) in
        h.values_are_read.body n0 v before
        ∙ body-same (body_of (node_at graph n0)) (value_gathered s n0) (value_gathered (with_cell s n0 (gather i v0)) n0) (selections_of (cell s n0).found)
        (λ m j. still m (all-in (is_gathered s n0) (found_candidates s n0) m b.1 (subst (λ (ns : List ℕ). is_in m ns ≡ true) (selected-picks (cell s n0).found) j)))
        ∙ ap (λ (o : Option Found). body_over (body_of (node_at graph n0)) (value_gathered (with_cell s n0 (gather i v0)) n0) (selections_of o)) (sym (ap (λ (c : Cell). c.found) here))

-- ---- Evaluate

evaluate-read : (graph : Graph) (s : Core) (t n0 : ℕ) → IsLawful graph s → allowed graph s (steps.Evaluate t n0) ≡ true → ValuesAreRead graph (apply graph s (steps.Evaluate t n0))
evaluate-read graph s t n0 h a = at_one graph s (steps.Evaluate t n0) h a n0 others (λ n e k. k) gathered found body (plain-looked graph s (steps.Evaluate t n0) h a (λ k. k))
  where
    f0 : Found
    f0 = found_now graph s t n0

    hd : heads s t n0 ≡ true
    hd = at_front-heads graph s t n0 (evaluate-at_front graph s t n0 a)

    others : (n : ℕ) → (n == n0) ≡ false → SameWork s (apply graph s (steps.Evaluate t n0)) n
    others n e = let w = other-work s n0 (keep_found f0) n e in record { gathered = w.gathered; found = w.found; body = w.body }

    lists : (m : ℕ) → entries (apply graph s (steps.Evaluate t n0)) m ≡ entries s m
    lists m = same_cell graph s n0 (keep_found f0) (λ c. refl) m

    here : cell (apply graph s (steps.Evaluate t n0)) n0 ≡ keep_found f0 (cell s n0)
    here = cell-there s n0 (keep_found f0) (head-cell graph s h t n0 hd)

    one : {A : Type 0} {x y : A} → Some x ≡ Some y → y ≡ x
    one e = cc

    gathered : (u m : ℕ) (v : Value) → heads (apply graph s (steps.Evaluate t n0)) u n0 ≡ true → gathered_of m (cell (apply graph s (steps.Evaluate t n0)) n0).gathered ≡ Some v → v ≡ value_for (apply graph s (steps.Evaluate t n0)) u m
    gathered u m v k e = old-gathered graph s (steps.Evaluate t n0) h a u n0 m v (λ z. z) k (sym (ap (λ (c : Cell). gathered_of m c.gathered) here) ∙ e)

    found : (u : ℕ) (f : Found) → heads (apply graph s (steps.Evaluate t n0)) u n0 ≡ true → (cell (apply graph s (steps.Evaluate t n0)) n0).found ≡ Some f → f ≡ found_now graph (apply graph s (steps.Evaluate t n0)) u n0
    found u f k e =
        one (sym (ap (λ (c : Cell). c.found) here) ∙ e)
        ∙ ap (λ (j : ℕ). found_now graph s j n0) (sym (heads-same s t u n0 hd (subst (λ (es : List Entry). is_some_of (first_open es) u ≡ true) (lists n0) k)))
        ∙ ap (λ (gs : List (ℕ × Value)). finds (node_at graph n0) (λ m. value_or (gathered_of m gs)) (value_before (entries s n0) u)) (sym (ap (λ (c : Cell). c.gathered) here))
        ∙ ap (λ (es : List Entry). finds (node_at graph n0) (value_gathered (apply graph s (steps.Evaluate t n0)) n0) (value_before es u)) (sym (lists n0))

    body : (v : Value) → (cell (apply graph s (steps.Evaluate t n0)) n0).body ≡ Some v → v ≡ body_now graph (apply graph s (steps.Evaluate t n0)) n0
    body v e =
        let before : (cell s n0).body ≡ Some v = sym (ap (λ (c : Cell). c.body) here) ∙ e in
        absurd (both_ways (is_found s n0) (not-true (is_found s n0) (and_right ((at_front graph s t n0 && touched graph s t n0) && all_gathered s n0 (inputs_of (node_at graph n0))) (not (is_found s n0)) a)) (h.work_is_kept.bodies n0 (body-found graph s h n0 v before)).0)

-- ---- Body

body-read : (graph : Graph) (s : Core) (t n0 : ℕ) → IsLawful graph s → allowed graph s (steps.Body t n0) ≡ true → ValuesAreRead graph (apply graph s (steps.Body t n0))
body-read graph s t n0 h a = at_one graph s (steps.Body t n0) h a n0 (λ n e. other-work s n0 (keep_body v0) n e) (λ n e k. k) gathered found body (plain-looked graph s (steps.Body t n0) h a (λ k. k))
  where
    v0 : Value
    v0 = body_now graph s n0

    hd : heads s t n0 ≡ true
    hd = at_front-heads graph s t n0 (body-at_front graph s t n0 a)

    here : cell (with_cell s n0 (keep_body v0)) n0 ≡ keep_body v0 (cell s n0)
    here = cell-there s n0 (keep_body v0) (head-cell graph s h t n0 hd)

    one : {A : Type 0} {x y : A} → Some x ≡ Some y → y ≡ x
    one e = cc

    gathered : (u m : ℕ) (v : Value) → heads (with_cell s n0 (keep_body v0)) u n0 ≡ true → gathered_of m (cell (with_cell s n0 (keep_body v0)) n0).gathered ≡ Some v → v ≡ value_for (with_cell s n0 (keep_body v0)) u m
    gathered u m v k e = old-gathered graph s (steps.Body t n0) h a u n0 m v (λ z. z) k (sym (ap (λ (c : Cell). gathered_of m c.gathered) here) ∙ e)

    found : (u : ℕ) (f : Found) → heads (with_cell s n0 (keep_body v0)) u n0 ≡ true → (cell (with_cell s n0 (keep_body v0)) n0).found ≡ Some f → f ≡ found_now graph (with_cell s n0 (keep_body v0)) u n0
    found u f k e = (old-found graph s (steps.Body t n0) h a u n0 f (λ z. z) k (sym (ap (λ (c : Cell). c.found) here) ∙ e)).1
        ∙ ap (λ (gs : List (ℕ × Value)). finds (node_at graph n0) (λ m. value_or (gathered_of m gs)) (value_before (entries (with_cell s n0 (keep_body v0)) n0) u)) (sym (ap (λ (c : Cell). c.gathered) here))

    body : (v : Value) → (cell (with_cell s n0 (keep_body v0)) n0).body ≡ Some v → v ≡ body_now graph (with_cell s n0 (keep_body v0)) n0
    body v e = one (sym (ap (λ (c : Cell). c.body) here) ∙ e)
        ∙ ap (λ (gs : List (ℕ × Value)). body_over (body_of (node_at graph n0)) (λ m. value_or (gathered_of m gs)) (selections_of (cell s n0).found)) (sym (ap (λ (c : Cell). c.gathered) here))
        ∙ ap (λ (o : Option Found). body_over (body_of (node_at graph n0)) (value_gathered (with_cell s n0 (keep_body v0)) n0) (selections_of o)) (sym (ap (λ (c : Cell). c.found) here))

-- ---- Resolve

resolve-read : (graph : Graph) (s : Core) (t n0 : ℕ) → IsLawful graph s → allowed graph s (steps.Resolve t n0) ≡ true → ValuesAreRead graph (apply graph s (steps.Resolve t n0))
resolve-read graph s t n0 h a = at_one graph s (steps.Resolve t n0) h a n0 others (λ n e k. both_ways (n == n0) e (eq-eqb n n0 k)) gathered found body (plain-looked graph s (steps.Resolve t n0) h a (λ k. k))
  where
    hd : heads s t n0 ≡ true
    hd = at_front-heads graph s t n0 (can_work-at_front graph s t n0 (resolve-can_work graph s t n0 a))

    others : (n : ℕ) → (n == n0) ≡ false → SameWork s (apply graph s (steps.Resolve t n0)) n
    others n e =
        let c : cell (apply graph s (steps.Resolve t n0)) n ≡ cell s n = cell-other (finish s t n0 (value_now graph s t n0) (is_change graph s t n0) (found_picks s n0)) n0 n cleared e ∙ cell-other s n0 n (set_state t (Done (value_now graph s t n0) (is_change graph s t n0) (found_picks s n0))) e in
        record { gathered = ap (λ (y : Cell). y.gathered) c; found = ap (λ (y : Cell). y.found) c; body = ap (λ (y : Cell). y.body) c }

    here : cell (apply graph s (steps.Resolve t n0)) n0 ≡ cleared (cell (finish s t n0 (value_now graph s t n0) (is_change graph s t n0) (found_picks s n0)) n0)
    here = cell-there (finish s t n0 (value_now graph s t n0) (is_change graph s t n0) (found_picks s n0)) n0 cleared
        (let l = change_at-length n0 (set_state t (Done (value_now graph s t n0) (is_change graph s t n0) (found_picks s n0))) s.cells in subst (λ (k : ℕ). n0 < k) (sym l) (head-cell graph s h t n0 hd))

    none : {A : Type 0} {v : A} → None ≡ Some v → ⊥
    none e = cc

    gathered : (u m : ℕ) (v : Value) → heads (apply graph s (steps.Resolve t n0)) u n0 ≡ true → gathered_of m (cell (apply graph s (steps.Resolve t n0)) n0).gathered ≡ Some v → v ≡ value_for (apply graph s (steps.Resolve t n0)) u m
    gathered u m v k e = absurd (none (sym (ap (λ (c : Cell). gathered_of m c.gathered) here) ∙ e))

    found : (u : ℕ) (y : Found) → heads (apply graph s (steps.Resolve t n0)) u n0 ≡ true → (cell (apply graph s (steps.Resolve t n0)) n0).found ≡ Some y → y ≡ found_now graph (apply graph s (steps.Resolve t n0)) u n0
    found u y k e = absurd (none (sym (ap (λ (c : Cell). c.found) here) ∙ e))

    body : (v : Value) → (cell (apply graph s (steps.Resolve t n0)) n0).body ≡ Some v → v ≡ body_now graph (apply graph s (steps.Resolve t n0)) n0
    body v e = absurd (none (sym (ap (λ (c : Cell). c.body) here) ∙ e))

-- ---- each step

pub step-ValuesAreRead : (graph : Graph) → IsGraph graph → (s : Core) (step : Step) → IsLawful graph s → allowed graph s step ≡ true → ValuesAreRead graph (apply graph s step)
step-ValuesAreRead graph g s (steps.Frame t n) h a = plain-read graph s (steps.Frame t n) h a (λ k. k) (plain-looked graph s (steps.Frame t n) h a (λ k. k))
step-ValuesAreRead graph g s (steps.Start t) h a = plain-read graph s (steps.Start t) h a (λ k. k) (plain-looked graph s (steps.Start t) h a (λ k. k))
step-ValuesAreRead graph g s (steps.Skip t n) h a = plain-read graph s (steps.Skip t n) h a (λ k. k) (plain-looked graph s (steps.Skip t n) h a (λ k. k))
step-ValuesAreRead graph g s (steps.Gather t n m) h a = gather-read graph g s t n m h a
step-ValuesAreRead graph g s (steps.Evaluate t n) h a = evaluate-read graph s t n h a
step-ValuesAreRead graph g s (steps.Body t n) h a = body-read graph s t n h a
step-ValuesAreRead graph g s (steps.Resolve t n) h a = resolve-read graph s t n h a
step-ValuesAreRead graph g s (steps.Discover t n c) h a = plain-read graph s (steps.Discover t n c) h a (λ k. k) (plain-looked graph s (steps.Discover t n c) h a (λ k. k))
step-ValuesAreRead graph g s (steps.Drop t n o) h a = plain-read graph s (steps.Drop t n o) h a (λ k. k) (plain-looked graph s (steps.Drop t n o) h a (λ k. k))
step-ValuesAreRead graph g s (steps.Mark t m) h a = plain-read graph s (steps.Mark t m) h a (λ k. k) (plain-looked graph s (steps.Mark t m) h a (λ k. k))
step-ValuesAreRead graph g s (steps.Look t) h a = plain-read graph s (steps.Look t) h a (λ k. k) (look-looked graph s t h a)
step-ValuesAreRead graph g s (steps.End t) h a = plain-read graph s (steps.End t) h a (λ k. k) (plain-looked graph s (steps.End t) h a (λ k. k))
step-ValuesAreRead graph g s (steps.Collect n) h a = plain-read graph s (steps.Collect n) h a (λ k. k) (plain-looked graph s (steps.Collect n) h a (λ k. k))

-- ---- a call begins

pub begin-ValuesAreRead : (graph : Graph) (s : Core) (caller : ℕ) (c : Call) → IsLawful graph s → ValuesAreRead graph (begin graph s caller c)
begin-ValuesAreRead graph s caller c h = record {
  gathered = h.values_are_read.gathered;
  looked = λ u k m v l e f. go u k m v l e f (begin-call graph s h caller c u);
  found = h.values_are_read.found;
  body = h.values_are_read.body;
}
  where
    none : {v : Value} → None ≡ Some v → ⊥
    none e = cc

    go : (u k m : ℕ) (v : Value) → live (begin graph s caller c) u ≡ true → slice_get (call (begin graph s caller c) u).looks k ≡ Some m → slice_get (call (begin graph s caller c) u).looked k ≡ Some v
        → ((call_of (begin graph s caller c).calls u ≡ call_of s.calls u) × ((suc s.begun == u) ≡ false)) ⊎ ((u ≡ suc s.begun) × (call_of (begin graph s caller c).calls u ≡ Some (new_call graph s caller c))) → v ≡ value_for s u m
    go u k m v l e f (inl x) = h.values_are_read.looked u k m v (sym (ap is_some x.0) ∙ l) (sym (ap (λ (o : Option LiveCall). slice_get (call_or o).looks k) x.0) ∙ e) (sym (ap (λ (o : Option LiveCall). slice_get (call_or o).looked k) x.0) ∙ f)
    go u k m v l e f (inr x) = absurd (none (sym (ap (λ (o : Option LiveCall). slice_get (call_or o).looked k) x.1) ∙ f))
