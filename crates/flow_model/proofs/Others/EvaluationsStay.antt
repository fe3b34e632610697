-- What a call may evaluate it may after each move but the evaluation itself, also its own at other nodes, and finds the same.
use Rattle.std.proofs.Common.{◌≡◌, ◌≢◌, ℕ, Bool, true, false, ◌&&◌, ◌||◌, not, ◌==◌, ◌⊎◌, inl, inr, refl, sym, ap, arith, List, true≢false, ◌∙◌, subst, Option, Some, None}
use Rattle.std.proofs.lemmas.Bool.{or_cases, eqb-true, false_from_ne_true, both_ways, not-true}
use Rattle.std.specs.Prelude.{is_some, is_none}
use Rattle.script_tree.specs.declared.value.Value.{Value}
use Rattle.script_tree.proofs.Truths.{and_left, and_right}
use Rattle.signal_graph.specs.Graph.{Graph, is_in, is_source, node_at, inputs_of, body_of}
use Rattle.signal_graph.specs.Values.{nodes_in}
use Rattle.node_versions.specs.declared.entry.State.TheVariants.{Done}
use Rattle.node_versions.specs.Entries.{value_at, value_before, picks_before}
use Rattle.flow_model.specs.declared.step.Step.{Step}
use Rattle.flow_model.specs.declared.step.Step.TheVariants as steps
use Rattle.flow_model.specs.Machine.Sets.{put}
use Rattle.flow_model.specs.Machine.State.{Core, Found, call, cell, live, executes, entries, opens, with_cell}
use Rattle.flow_model.specs.Machine.Words.{deps, heads, at_front, touched, is_gathered, is_found, is_candidate, found_candidates, picks_of_found, found_now, body_now, value_now, found_picks, is_idle}
use Rattle.flow_model.specs.Machine.Changes.{set_state, finish, closed, cleared, ensure_mark, add_edge, tell_call}
use Rattle.flow_model.specs.Machine.Steps.{allowed, apply, all_gathered, gather, keep_found, keep_body, is_change, is_worked_out, counted}
use Rattle.flow_model.specs.Machine.Histories.{Move, Begin, Make, may, after_move}
use Rattle.flow_model.specs.Kept.Lawful.{IsLawful}
use Rattle.flow_model.specs.Follows.Others.{is_own_of}
use Rattle.flow_model.proofs.OneStep.WhoMayStep.{executes-live, at_front-executes, at_front-heads, can_work-at_front, start-is_framing, skip-can_work, evaluate-at_front, body-at_front, resolve-can_work, look-idle, end-idle}
use Rattle.flow_model.proofs.OneList.CallsAndCells.{with_call-keeps, map_call-keeps}
use Rattle.flow_model.proofs.OneStep.SameCallers.{ensured}
use Rattle.flow_model.proofs.General.Sets.{in-put}
use Rattle.flow_model.proofs.Wants.FramedWith.{opens-frame, heads-opens}
use Rattle.flow_model.proofs.OrderStays.EntriesAndRoom.{idle-no_frame}
use Rattle.flow_model.proofs.OrderStays.OpenNodesHaveFrames.{cell-other, closed-opens}
use Rattle.flow_model.proofs.OneStep.QuietSteps.{finishes, works}
use Rattle.flow_model.proofs.Others.FirstOpenStays.{same_cell-keeps, quiet-keeps, IsUntouched, StaysInFront, front-from, others-in_front, evaluate-from, body-from}
use Rattle.flow_model.proofs.Lengths.WorkRises.{gather-fresh}
use Rattle.flow_model.proofs.FramesSpread.AfterDones.{skip-untouched}
use Rattle.flow_model.proofs.Edges.PicksFitSelectors.{resolve-rest}
use Rattle.flow_model.proofs.General.AnyAndAll.{any-none, all-in}
use Rattle.flow_model.proofs.Work.WorkAtOneNode.{gather-asked, body-found, body-gathered}

-- ---- a call's own steps at other nodes

-- The step works at the node, or finishes there.
abbrev works_at : ℕ → Step → Bool
works_at n (steps.Skip t n0) = n == n0
works_at n (steps.Gather t n0 m) = n == n0
works_at n (steps.Evaluate t n0) = n == n0
works_at n (steps.Body t n0) = n == n0
works_at n (steps.Resolve t n0) = n == n0
works_at n step = false

same-call : (s q : Core) (t : ℕ) (ds : List ℕ) → executes q t ≡ executes s t → (call q t).open_nodes ≡ (call s t).open_nodes → (call q t).changed ≡ (call s t).changed → IsUntouched s q t ds
same-call s q t ds x o c = record { executing = x; opens_less = λ m d k. sym (ap (is_in m) o) ∙ k; changed = λ m d. ap (is_in m) c }

-- after a Done at a node that is open for the call
finish-untouched : (s : Core) (t n0 : ℕ) (v : Value) (b : Bool) (ps : List (Option ℕ)) (ds : List ℕ) → live s t ≡ true → ((m : ℕ) → is_in m ds ≡ true → (m == n0) ≡ false) → IsUntouched s (finish s t n0 v b ps) t ds
finish-untouched s t n0 v b ps ds l apart = record {
  executing = with_call-keeps (λ c. c.executing) q t (closed n0 b) (λ c. refl) (λ c. refl) t;
  opens_less = λ m d o. both (opens s t m) (not ((t == t) && (m == n0))) (sym (closed-opens q t n0 b t m l) ∙ o);
  changed = λ m d. with_call-keeps (λ c. is_in m c.changed) q t (closed n0 b) (λ c. refl) (λ c. same m (apart m d) b c.changed) t;
}
  where
    q : Core
    q = with_cell s n0 (set_state t (Done v b ps))

    both : (x y : Bool) → (x && y) ≡ true → x ≡ true
    both x y h = and_left x y h

    same : (m : ℕ) → (m == n0) ≡ false → (b : Bool) (xs : List ℕ) → is_in m (elim b as (λ _. List ℕ) [ true ↦ put n0 xs | false ↦ xs ]) ≡ is_in m xs
    same m e true xs = in-put m n0 xs ∙ ap (λ (x : Bool). x || is_in m xs) e
    same m e false xs = refl

-- A node that is open for the call is none that a node rests on at whose front the call is.
open-apart : (graph : Graph) (s : Core) (t n n0 : ℕ) → at_front graph s t n ≡ true → opens s t n0 ≡ true → (m : ℕ) → is_in m (deps graph s t n) ≡ true → (m == n0) ≡ false
open-apart graph s t n n0 f o m d = false_from_ne_true _ (λ e. both_ways _ (any-none (opens s t) (deps graph s t n) m (not-true _ (and_right _ _ f)) d) (subst (λ (v : ℕ). opens s t v ≡ true) (sym (eqb-true m n0 e)) o))

idle-absurd : {A : Type 0} (graph : Graph) (s : Core) → IsLawful graph s → (t n : ℕ) → at_front graph s t n ≡ true → is_idle s t ≡ true → A
idle-absurd graph s h t n f i = absurd (both_ways _ (idle-no_frame graph s h t n i) (opens-frame graph s h t n (heads-opens graph s h t n (at_front-heads graph s t n f))))

-- The call's own step, where it neither works nor finishes at the node.
own-in_front : (graph : Graph) (s : Core) → IsLawful graph s → (t n : ℕ) → at_front graph s t n ≡ true → (step : Step) → allowed graph s step ≡ true → is_own_of t step ≡ true → works_at n step ≡ false → StaysInFront graph s (apply graph s step) t n
own-in_front graph s h t n f step a o w = go step o w a
  where
    hd : heads s t n ≡ true
    hd = at_front-heads graph s t n f

    x : executes s t ≡ true
    x = at_front-executes graph s t n f

    l : live s t ≡ true
    l = executes-live s t x

    -- the call of the step is this one
    by : (make : ℕ → Step) (u : ℕ) → (u == t) ≡ true → (allowed graph s (make t) ≡ true → StaysInFront graph s (apply graph s (make t)) t n) → allowed graph s (make u) ≡ true → StaysInFront graph s (apply graph s (make u)) t n
    by make u e k = subst (λ (v : ℕ). allowed graph s (make v) ≡ true → StaysInFront graph s (apply graph s (make v)) t n) (sym (eqb-true u t e)) k

    quiet : (y : Step) → finishes y ≡ false → works y ≡ false → IsUntouched s (apply graph s y) t (deps graph s t n) → allowed graph s y ≡ true → StaysInFront graph s (apply graph s y) t n
    quiet y e1 e2 un a = front-from graph s h (Make y) a t n f (quiet-keeps graph s y h a t n hd x e1 e2) un

    elsewhere : (y : Step) → cell (apply graph s y) n ≡ cell s n → IsUntouched s (apply graph s y) t (deps graph s t n) → allowed graph s y ≡ true → StaysInFront graph s (apply graph s y) t n
    elsewhere y e un a = front-from graph s h (Make y) a t n f (same_cell-keeps s (apply graph s y) t n hd e) un

    apart : (n0 : ℕ) → at_front graph s t n0 ≡ true → (m : ℕ) → is_in m (deps graph s t n) ≡ true → (m == n0) ≡ false
    apart n0 g = open-apart graph s t n n0 f (heads-opens graph s h t n0 (at_front-heads graph s t n0 g))

    resolved : (n0 : ℕ) → (n == n0) ≡ false → at_front graph s t n0 ≡ true → IsUntouched s (apply graph s (steps.Resolve t n0)) t (deps graph s t n)
    resolved n0 e g = let un = finish-untouched s t n0 (value_now graph s t n0) (is_change graph s t n0) (found_picks s n0) (deps graph s t n) l (apart n0 g) in record { executing = un.executing; opens_less = un.opens_less; changed = un.changed }

    discovered : (n0 c : ℕ) → IsUntouched s (apply graph s (steps.Discover t n0 c)) t (deps graph s t n)
    discovered n0 c = same-call s (apply graph s (steps.Discover t n0 c)) t (deps graph s t n)
        (map_call-keeps (λ y. y.executing) q (tell_call (entries q c) t n0) (λ y. refl) (λ y. refl) t ∙ ensured (λ y. y.executing) s t c t)
        (map_call-keeps (λ y. y.open_nodes) q (tell_call (entries q c) t n0) (λ y. refl) (λ y. refl) t ∙ ensured (λ y. y.open_nodes) s t c t)
        (map_call-keeps (λ y. y.changed) q (tell_call (entries q c) t n0) (λ y. refl) (λ y. refl) t ∙ ensured (λ y. y.changed) s t c t)
      where
        q : Core
        q = with_cell (ensure_mark s t c) c (add_edge n0 t)

    go : (y : Step) → is_own_of t y ≡ true → works_at n y ≡ false → allowed graph s y ≡ true → StaysInFront graph s (apply graph s y) t n
    go (steps.Frame u n0) o w a = absurd (true≢false (sym o))
    go (steps.Start u) o w a = absurd (starts (live s u) (executes s u) (start-is_framing graph s u a) (subst (λ (v : ℕ). executes s v ≡ true) (sym (eqb-true u t o)) x))
      where
        starts : (p e : Bool) → (p && not e) ≡ true → e ≡ true → ⊥
        starts p e i j = grind (arith, i, j)
    go (steps.Skip u n0) o w a = by (λ v. steps.Skip v n0) u o (λ a. elsewhere (steps.Skip t n0) (cell-other s n0 n (set_state t (Done (value_before (entries s n0) t) false (picks_before (entries s n0) t))) w)
        (finish-untouched s t n0 (value_before (entries s n0) t) false (picks_before (entries s n0) t) (deps graph s t n) l (apart n0 (can_work-at_front graph s t n0 (skip-can_work graph s t n0 a)))) a) a
    go (steps.Gather u n0 i) o w a = by (λ v. steps.Gather v n0 i) u o (elsewhere (steps.Gather t n0 i) (cell-other s n0 n (gather i (value_at (entries s i) t)) w) (same-call s (apply graph s (steps.Gather t n0 i)) t (deps graph s t n) refl refl refl)) a
    go (steps.Evaluate u n0) o w a = by (λ v. steps.Evaluate v n0) u o (elsewhere (steps.Evaluate t n0) (cell-other s n0 n (keep_found (found_now graph s t n0)) w) (same-call s (apply graph s (steps.Evaluate t n0)) t (deps graph s t n)
        (with_call-keeps (λ c. c.executing) (with_cell s n0 (keep_found (found_now graph s t n0))) t counted (λ c. refl) (λ c. refl) t)
        (with_call-keeps (λ c. c.open_nodes) (with_cell s n0 (keep_found (found_now graph s t n0))) t counted (λ c. refl) (λ c. refl) t)
        (with_call-keeps (λ c. c.changed) (with_cell s n0 (keep_found (found_now graph s t n0))) t counted (λ c. refl) (λ c. refl) t))) a
    go (steps.Body u n0) o w a = by (λ v. steps.Body v n0) u o (elsewhere (steps.Body t n0) (cell-other s n0 n (keep_body (body_now graph s n0)) w) (same-call s (apply graph s (steps.Body t n0)) t (deps graph s t n) refl refl refl)) a
    go (steps.Resolve u n0) o w a = by (λ v. steps.Resolve v n0) u o (λ a. elsewhere (steps.Resolve t n0)
        (cell-other (finish s t n0 (value_now graph s t n0) (is_change graph s t n0) (found_picks s n0)) n0 n cleared w ∙ cell-other s n0 n (set_state t (Done (value_now graph s t n0) (is_change graph s t n0) (found_picks s n0))) w)
        (resolved n0 w (can_work-at_front graph s t n0 (resolve-can_work graph s t n0 a))) a) a
    go (steps.Discover u n0 c) o w a = by (λ v. steps.Discover v n0 c) u o (quiet (steps.Discover t n0 c) refl refl (discovered n0 c)) a
    go (steps.Drop u n0 c) o w a = by (λ v. steps.Drop v n0 c) u o (quiet (steps.Drop t n0 c) refl refl (same-call s (apply graph s (steps.Drop t n0 c)) t (deps graph s t n) (ensured (λ y. y.executing) s t c t) (ensured (λ y. y.open_nodes) s t c t) (ensured (λ y. y.changed) s t c t))) a
    go (steps.Mark u m) o w a = by (λ v. steps.Mark v m) u o (quiet (steps.Mark t m) refl refl (same-call s (apply graph s (steps.Mark t m)) t (deps graph s t n) refl refl refl)) a
    go (steps.Look u) o w a = idle-absurd graph s h t n f (subst (λ (v : ℕ). is_idle s v ≡ true) (eqb-true u t o) (look-idle graph s u a))
    go (steps.End u) o w a = idle-absurd graph s h t n f (subst (λ (v : ℕ). is_idle s v ≡ true) (eqb-true u t o) (end-idle graph s u a))
    go (steps.Collect n0) o w a = absurd (true≢false (sym o))

-- ---- evaluations

-- What is known of a node of which the call may evaluate the scripts, or the body: it has changed what the node rests on, and
-- all that it may gather is gathered.
record IsEvaluable (graph : Graph) (s : Core) (t n : ℕ) : Type 0 where
  front : at_front graph s t n ≡ true
  touches : touched graph s t n ≡ true
  gathered : (m : ℕ) → (is_in m (inputs_of (node_at graph n)) || is_candidate s n m) ≡ true → is_gathered s n m ≡ true
  unfinished : is_worked_out graph s t n ≡ false

touched-other : (graph : Graph) (s : Core) (t n : ℕ) → touched graph s t n ≡ true → is_source (node_at graph n) ≡ false
touched-other graph s t n k = not-true _ (and_left _ _ k)

-- Of the steps at such a node only Evaluate and Body are left.
own-here : (graph : Graph) (s : Core) (t n : ℕ) → IsEvaluable graph s t n → (step : Step) → allowed graph s step ≡ true → is_own_of t step ≡ true → works_at n step ≡ true → (step ≡ steps.Evaluate t n) ⊎ (step ≡ steps.Body t n)
own-here graph s t n k step a o w = go step a o w
  where
    -- the call and the node of the step are these
    at_it : (make : ℕ → ℕ → Step) (u n0 : ℕ) → (u == t) ≡ true → (n == n0) ≡ true → allowed graph s (make u n0) ≡ true → allowed graph s (make t n) ≡ true
    at_it make u n0 o w a = subst (λ (v : ℕ). allowed graph s (make v n) ≡ true) (eqb-true u t o) (subst (λ (j : ℕ). allowed graph s (make u j) ≡ true) (sym (eqb-true n n0 w)) a)

    both : (make : ℕ → ℕ → Step) (u n0 : ℕ) → (u == t) ≡ true → (n == n0) ≡ true → make u n0 ≡ make t n
    both make u n0 o w = ap (λ (v : ℕ). make v n0) (eqb-true u t o) ∙ ap (λ (j : ℕ). make t j) (sym (eqb-true n n0 w))

    no_resolve : (is_source (node_at graph n) ≡ true) ⊎ ((touched graph s t n && is_worked_out graph s t n) ≡ true) → ⊥
    no_resolve (inl e) = both_ways (is_source (node_at graph n)) (touched-other graph s t n k.touches) e
    no_resolve (inr e) = both_ways (is_worked_out graph s t n) k.unfinished (and_right (touched graph s t n) (is_worked_out graph s t n) e)

    go : (y : Step) → allowed graph s y ≡ true → is_own_of t y ≡ true → works_at n y ≡ true → (y ≡ steps.Evaluate t n) ⊎ (y ≡ steps.Body t n)
    go (steps.Frame u n0) a o w = absurd (true≢false (sym o))
    go (steps.Start u) a o w = absurd (true≢false (sym w))
    go (steps.Skip u n0) a o w = absurd (both_ways (touched graph s t n) (skip-untouched graph s t n (at_it steps.Skip u n0 o w a)) k.touches)
    go (steps.Gather u n0 m) a o w = let b = at_it (λ v j. steps.Gather v j m) u n0 o w a in absurd (both_ways (is_gathered s n m) (gather-fresh graph s t n m b) (k.gathered m (gather-asked graph s t n m b)))
    go (steps.Evaluate u n0) a o w = inl (both steps.Evaluate u n0 o w)
    go (steps.Body u n0) a o w = inr (both steps.Body u n0 o w)
    go (steps.Resolve u n0) a o w = absurd (no_resolve (or_cases (is_source (node_at graph n)) (touched graph s t n && is_worked_out graph s t n) (resolve-rest graph s t n (at_it steps.Resolve u n0 o w a))))
    go (steps.Discover u n0 c) a o w = absurd (true≢false (sym w))
    go (steps.Drop u n0 c) a o w = absurd (true≢false (sym w))
    go (steps.Mark u m) a o w = absurd (true≢false (sym w))
    go (steps.Look u) a o w = absurd (true≢false (sym w))
    go (steps.End u) a o w = absurd (true≢false (sym w))
    go (steps.Collect n0) a o w = absurd (true≢false (sym o))

move-in_front : (graph : Graph) (s : Core) (move : Move) → IsLawful graph s → may graph s move ≡ true → (t n : ℕ) → IsEvaluable graph s t n → move ≢ Make (steps.Evaluate t n) → move ≢ Make (steps.Body t n) → StaysInFront graph s (after_move graph s move) t n
move-in_front graph s (Begin caller c) h a t n k e1 e2 = others-in_front graph s (Begin caller c) h a t n refl k.front
move-in_front graph s (Make step) h a t n k e1 e2 = go (is_own_of t step) refl (works_at n step) refl
  where
    none : (step ≡ steps.Evaluate t n) ⊎ (step ≡ steps.Body t n) → ⊥
    none (inl e) = e1 (ap Make e)
    none (inr e) = e2 (ap Make e)

    go : (b : Bool) → is_own_of t step ≡ b → (w : Bool) → works_at n step ≡ w → StaysInFront graph s (apply graph s step) t n
    go false o w e = others-in_front graph s (Make step) h a t n o k.front
    go true o true e = absurd (none (own-here graph s t n k step a o e))
    go true o false e = own-in_front graph s h t n k.front step a o e

evaluate-evaluable : (graph : Graph) (s : Core) (t n : ℕ) → allowed graph s (steps.Evaluate t n) ≡ true → IsEvaluable graph s t n
evaluate-evaluable graph s t n e = record {
  front = evaluate-at_front graph s t n e;
  touches = and_right _ _ (and_left _ _ (and_left _ _ e));
  gathered = λ m k. gathered m (or_cases (is_in m (inputs_of (node_at graph n))) (is_candidate s n m) k);
  unfinished = false_from_ne_true _ (λ w. both_ways _ not_found (and_left _ _ (and_left _ _ (and_left _ _ (and_left _ _ w)))));
}
  where
    not_found : is_found s n ≡ false
    not_found = not-true (is_found s n) (and_right (at_front graph s t n && touched graph s t n && all_gathered s n (inputs_of (node_at graph n))) (not (is_found s n)) e)

    no_candidate : (o : Option Found) → is_some o ≡ false → (m : ℕ) → is_in m (nodes_in (picks_of_found o)) ≡ true → ⊥
    no_candidate None k m i = true≢false (sym i)
    no_candidate (Some f) k m i = true≢false k

    gathered : (m : ℕ) → (is_in m (inputs_of (node_at graph n)) ≡ true) ⊎ (is_candidate s n m ≡ true) → is_gathered s n m ≡ true
    gathered m (inl i) = all-in (is_gathered s n) (inputs_of (node_at graph n)) m (and_right (at_front graph s t n && touched graph s t n) (all_gathered s n (inputs_of (node_at graph n))) (and_left (at_front graph s t n && touched graph s t n && all_gathered s n (inputs_of (node_at graph n))) (not (is_found s n)) e)) i
    gathered m (inr i) = absurd (no_candidate (cell s n).found not_found m i)

-- Where a node's scripts may be evaluated, its body may not.
evaluate-not_body : (graph : Graph) (s : Core) (t n : ℕ) → allowed graph s (steps.Evaluate t n) ≡ true → allowed graph s (steps.Body t n) ≡ true → ⊥
evaluate-not_body graph s t n e b = both_ways _ (not-true _ (and_right _ _ e)) (and_right _ _ (and_left _ _ (and_left _ _ b)))

pub evaluate-stays : (graph : Graph) (s : Core) (move : Move) → IsLawful graph s → may graph s move ≡ true → (t n : ℕ) → move ≢ Make (steps.Evaluate t n) → allowed graph s (steps.Evaluate t n) ≡ true
    → (allowed graph (after_move graph s move) (steps.Evaluate t n) ≡ true) × (found_now graph (after_move graph s move) t n ≡ found_now graph s t n)
evaluate-stays graph s move h a t n other e =
    evaluate-from graph s (after_move graph s move) t n (move-in_front graph s move h a t n (evaluate-evaluable graph s t n e) other (λ y. evaluate-not_body graph s t n e (subst (λ (x : Move). may graph s x ≡ true) y a))) e

body-evaluable : (graph : Graph) (s : Core) → IsLawful graph s → (t n : ℕ) → allowed graph s (steps.Body t n) ≡ true → IsEvaluable graph s t n
body-evaluable graph s h t n e = record {
  front = body-at_front graph s t n e;
  touches = and_right _ _ (and_left _ _ (and_left _ _ (and_left _ _ (and_left _ _ e))));
  gathered = λ m k. gathered m (or_cases (is_in m (inputs_of (node_at graph n))) (is_candidate s n m) k);
  unfinished = false_from_ne_true _ (λ w. unfinished (body_of (node_at graph n)) (cell s n).body (and_right _ _ (and_left _ _ (and_left _ _ (and_left _ _ e)))) (and_right _ _ e) (and_right _ _ w));
}
  where
    found : is_found s n ≡ true
    found = body-found graph s t n e

    gathered : (m : ℕ) → (is_in m (inputs_of (node_at graph n)) ≡ true) ⊎ (is_candidate s n m ≡ true) → is_gathered s n m ≡ true
    gathered m (inl i) = all-in (is_gathered s n) (inputs_of (node_at graph n)) m (h.work_is_kept.finds_last n found) i
    gathered m (inr i) = all-in (is_gathered s n) (found_candidates s n) m (body-gathered graph s t n e) i

    unfinished : {A B : Type 0} (b : Option A) (v : Option B) → is_some b ≡ true → is_none v ≡ true → (is_none b || is_some v) ≡ true → ⊥
    unfinished None v i j k = true≢false (sym i)
    unfinished (Some b) None i j k = true≢false (sym k)
    unfinished (Some b) (Some v) i j k = true≢false (sym j)

pub body-stays : (graph : Graph) (s : Core) (move : Move) → IsLawful graph s → may graph s move ≡ true → (t n : ℕ) → move ≢ Make (steps.Body t n) → allowed graph s (steps.Body t n) ≡ true
    → (allowed graph (after_move graph s move) (steps.Body t n) ≡ true) × (body_now graph (after_move graph s move) n ≡ body_now graph s n)
body-stays graph s move h a t n other e =
    body-from graph s (after_move graph s move) t n (move-in_front graph s move h a t n (body-evaluable graph s h t n e) (λ y. evaluate-not_body graph s t n (subst (λ (x : Move). may graph s x ≡ true) y a) e) other) e
