-- Each value that a call has gathered is, when it ends, the node's value after the call in the log.
-- It is kept at the node until the call is Done there, and from then on the Done rests on it.
use Rattle.std.proofs.Common.{◌≡◌, ℕ, suc, ◌<◌, ◌≤◌, Bool, true, false, ◌&&◌, ◌||◌, not, ◌==◌, ◌⊎◌, inl, inr, refl, sym, ap, arith, List, [], ◌∷◌, ◌++◌, length, ◌∙◌, subst, Option, Some}
use Rattle.std.proofs.lemmas.Bool.{or_left, or_right, and_from, eq-eqb, both_ways, cases_Bool, not-true}
use Rattle.std.specs.Prelude.{is_some}
use Rattle.std.specs.List.{list_any}
use Rattle.script_tree.specs.declared.value.Value.{Value}
use Rattle.script_tree.proofs.Truths.{and_left, and_right}
use Rattle.signal_graph.specs.declared.call.Call.{Call}
use Rattle.signal_graph.specs.Graph.{Graph, IsGraph, is_in, is_source, node_at, inputs_of}
use Rattle.signal_graph.specs.Values.{Values, val, nodes_in}
use Rattle.signal_graph.specs.Legal.{state_after}
use Rattle.node_versions.specs.declared.entry.Entry.{Entry}
use Rattle.node_versions.specs.Entries.{has, at, is_done, first_open, value_at, picks_of, picks_at, state_of}
use Rattle.flow_model.specs.declared.step.Step.{Step}
use Rattle.flow_model.specs.declared.step.Step.TheVariants as steps
use Rattle.flow_model.specs.Machine.State.{Core, Cell, LiveCall, call_of, call_or, cell, live, entries, opens, opening}
use Rattle.flow_model.specs.Machine.Words.{deps, heads, touched, gathered_of, is_gathered, is_some_of, found_picks, value_now}
use Rattle.flow_model.specs.Machine.Changes.{finish, cleared}
use Rattle.flow_model.specs.Machine.Steps.{allowed, apply, begin, gather, new_call, is_change}
use Rattle.flow_model.specs.Kept.Runs.{was_due, picks_it, IsSettled, by_node}
use Rattle.flow_model.specs.Kept.Lawful.{IsLawful, IsWorking, value_for}
use Rattle.flow_model.specs.Machine.Histories.{Move, Begin, Make, may, after_move, after_moves, may_all, state, is_history, HasGathered}
use Rattle.flow_model.proofs.OneStep.WhoMayStep.{opens-live, executes-live, gather-due, due-can_work, can_work-at_front, at_front-heads}
use Rattle.flow_model.proofs.OneStep.ChangesOfOneList.{same_cell, step-list}
use Rattle.flow_model.proofs.OneStep.SameLengths.{step-begun}
use Rattle.flow_model.proofs.OneStep.WhoLivesAndFrames.{step-phases, phase-ended}
use Rattle.flow_model.proofs.OrderStays.OpenNodesHaveFrames.{cell-there, entry-there, step-FramesAreOpen}
use Rattle.flow_model.proofs.Wants.FramedWith.{heads-opens}
use Rattle.flow_model.proofs.Reactions.RunsThatHaveEnded.{not_both}
use Rattle.flow_model.proofs.OneStep.VersionsStayFresh.{live-version, not_begun-live}
use Rattle.flow_model.proofs.OneStep.BegunCalls.{begin-call}
use Rattle.flow_model.proofs.Opening.OpeningIsLawful.{opening-lawful}
use Rattle.flow_model.proofs.OneList.PicksBefore.{own-now}
use Rattle.flow_model.proofs.Histories.FoundUntilDone.{IsKeptWork, IsResolved, heads-entry, list-head, step-kept}
use Rattle.flow_model.proofs.FramesSpread.AfterDones.{heads-same}
use Rattle.flow_model.proofs.Values.WorkersStayFirst.{Finishes, open-stays}
use Rattle.flow_model.proofs.Values.NothingComesBefore.{done-unblocked, done-no_frame, kept-up_to}
use Rattle.flow_model.proofs.Values.ReadsStay.{gathered-more, settled-value}
use Rattle.flow_model.proofs.Values.RightDonesStay.{shown-kept, touched-kept}
use Rattle.flow_model.proofs.Values.NewDonesAreRight.{finish-list, resolve-finished}
use Rattle.flow_model.proofs.Ended.AfterEnd.{MachineLaws, reads-new, end-right, next-log}
use Rattle.flow_model.proofs.Histories.Moves.{KeepsLawful, may_first, may_parts, after_parts, moves-lawful, moves-reach, history-lawful}

-- The call has gathered the value of m for n and reads it still, or has ended.
pub data HasRead (graph : Graph) (s : Core) (t n m : ℕ) (v : Value) : Type 0 where
  by_gather : heads s t n ≡ true → is_gathered s n m ≡ true → v ≡ value_for s t m → HasRead graph s t n m v
  by_due : live s t ≡ true → was_due graph s t n ≡ true → (is_in m (inputs_of (node_at graph n)) || picks_it s t n m) ≡ true → v ≡ value_for s t m → HasRead graph s t n m v
  by_end : live s t ≡ false → t ≤ s.begun → HasRead graph s t n m v

-- ---- what is gathered is kept

gathered-work : (graph : Graph) (m : ℕ) → IsKeptWork graph (λ c. is_some (gathered_of m c.gathered))
gathered-work graph m = record {
  lists = λ c es. refl;
  edges = λ c os. refl;
  gathers = λ c i v k. ap is_some (gathered-more m c.gathered ((i, v) ∷ []) k) ∙ k;
  finds = λ c f k. k;
  bodies = λ c v k. k;
  works = λ s h n k. h.work_is_kept.gathers n m k;
}

working : (graph : Graph) (s : Core) → IsLawful graph s → (t n m : ℕ) → heads s t n ≡ true → is_gathered s n m ≡ true → IsWorking graph s n t
working graph s h t n m hd k = let w = h.work_is_kept.gathers n m k in subst (IsWorking graph s n) (heads-same s t w.head n hd w.first) w.holds

-- ---- the call is Done

resolved-read : (graph : Graph) → IsGraph graph → (s : Core) → IsLawful graph s → (t n m : ℕ) (v : Value) → allowed graph s (steps.Resolve t n) ≡ true → live (apply graph s (steps.Resolve t n)) t ≡ true → heads s t n ≡ true → is_gathered s n m ≡ true
    → v ≡ value_for (apply graph s (steps.Resolve t n)) t m → HasRead graph (apply graph s (steps.Resolve t n)) t n m v
resolved-read graph g s h t n m v a l hd k e =
    let r = resolve-finished graph g s t n h a in
    by_due l (and_from _ _ r.done (r.due ∙ (working graph s h t n m hd k).changed)) (subst (λ (ps : List (Option ℕ)). (is_in m (inputs_of (node_at graph n)) || is_in m (nodes_in ps)) ≡ true) (sym picks) (h.work_is_kept.gathers_right n m k)) e
  where
    ht : has (entries s n) t ≡ true
    ht = heads-entry graph s h t n hd

    picks : picks_at (entries (apply graph s (steps.Resolve t n)) n) t ≡ found_picks s n
    picks = ap (λ (es : List Entry). picks_at es t) (same_cell graph (finish s t n (value_now graph s t n) (is_change graph s t n) (found_picks s n)) n cleared (λ x. refl) n
        ∙ finish-list s t n (value_now graph s t n) (is_change graph s t n) (found_picks s n) (entry-there s n t ht))
        ∙ own-now t (value_now graph s t n) (is_change graph s t n) (found_picks s n) (entries s n) ht

finished-read : (graph : Graph) → IsGraph graph → (s : Core) → IsLawful graph s → (t n m : ℕ) (v : Value) → heads s t n ≡ true → is_gathered s n m ≡ true → (step : Step) → allowed graph s step ≡ true → live (apply graph s step) t ≡ true
    → v ≡ value_for (apply graph s step) t m → Finishes step t n → HasRead graph (apply graph s step) t n m v
finished-read graph g s h t n m v hd k (steps.Resolve u i) a l e f = as_node i f.1 a l e
  where
    -- of the same call and the same node
    as_call : (j : ℕ) → t ≡ j → allowed graph s (steps.Resolve j n) ≡ true → live (apply graph s (steps.Resolve j n)) t ≡ true → v ≡ value_for (apply graph s (steps.Resolve j n)) t m → HasRead graph (apply graph s (steps.Resolve j n)) t n m v
    as_call j w b c d = subst (λ (x : ℕ). HasRead graph (apply graph s (steps.Resolve x n)) t n m v) w
        (resolved-read graph g s h t n m v (subst (λ (x : ℕ). allowed graph s (steps.Resolve x n) ≡ true) (sym w) b) (subst (λ (x : ℕ). live (apply graph s (steps.Resolve x n)) t ≡ true) (sym w) c) hd k
        (subst (λ (x : ℕ). v ≡ value_for (apply graph s (steps.Resolve x n)) t m) (sym w) d))

    as_node : (j : ℕ) → n ≡ j → allowed graph s (steps.Resolve u j) ≡ true → live (apply graph s (steps.Resolve u j)) t ≡ true → v ≡ value_for (apply graph s (steps.Resolve u j)) t m → HasRead graph (apply graph s (steps.Resolve u j)) t n m v
    as_node j w b c d = subst (λ (x : ℕ). HasRead graph (apply graph s (steps.Resolve u x)) t n m v) w
        (as_call u f.0 (subst (λ (x : ℕ). allowed graph s (steps.Resolve u x) ≡ true) (sym w) b) (subst (λ (x : ℕ). live (apply graph s (steps.Resolve u x)) t ≡ true) (sym w) c)
        (subst (λ (x : ℕ). v ≡ value_for (apply graph s (steps.Resolve u x)) t m) (sym w) d))
finished-read graph g s h t n m v hd k (steps.Skip u i) a l e f =
    absurd (both_ways (touched graph s u i) (not-true _ (and_right _ _ (and_left _ _ a))) (subst (λ (j : ℕ). touched graph s u j ≡ true) f.1 (subst (λ (j : ℕ). touched graph s j n ≡ true) f.0 (working graph s h t n m hd k).changed)))
finished-read graph g s h t n m v hd k (steps.Frame u i) a l e f = absurd f
finished-read graph g s h t n m v hd k (steps.Start u) a l e f = absurd f
finished-read graph g s h t n m v hd k (steps.Gather u i j) a l e f = absurd f
finished-read graph g s h t n m v hd k (steps.Evaluate u i) a l e f = absurd f
finished-read graph g s h t n m v hd k (steps.Body u i) a l e f = absurd f
finished-read graph g s h t n m v hd k (steps.Discover u i j) a l e f = absurd f
finished-read graph g s h t n m v hd k (steps.Drop u i j) a l e f = absurd f
finished-read graph g s h t n m v hd k (steps.Mark u i) a l e f = absurd f
finished-read graph g s h t n m v hd k (steps.Look u) a l e f = absurd f
finished-read graph g s h t n m v hd k (steps.End u) a l e f = absurd f
finished-read graph g s h t n m v hd k (steps.Collect i) a l e f = absurd f

-- ---- each step and each beginning

step-read : (graph : Graph) → IsGraph graph → (s : Core) → IsLawful graph s → (step : Step) → allowed graph s step ≡ true → (t n m : ℕ) (v : Value) → HasRead graph s t n m v → HasRead graph (apply graph s step) t n m v
step-read graph g s h step a t n m v r = go (cases_Bool (live q t)) r
  where
    q : Core
    q = apply graph s step

    ended : live q t ≡ false → t ≤ s.begun → HasRead graph q t n m v
    ended l b = by_end l (subst (λ (k : ℕ). t ≤ k) (sym (step-begun graph s step)) b)

    begun : live s t ≡ true → t ≤ s.begun
    begun l = (h.versions_are_fresh.fit t (live-version s t l)).1

    stays : heads s t n ≡ true → is_gathered s n m ≡ true → v ≡ value_for q t m → opens q t n ≡ true → HasRead graph q t n m v
    stays hd k e o = cases (list-head graph s h n t hd (working graph s h t n m hd k).executing (entries q n) (step-list graph s step h a n)) (step-kept graph (λ c. is_some (gathered_of m c.gathered)) (gathered-work graph m) s h step a n k)
      where
        no_done : at is_done (entries q n) t ≡ true → ⊥
        no_done d = both_ways _ (not_both (entries q n) t (sym ((step-FramesAreOpen graph s step h a).opens_frames t n) ∙ o)) d

        cases : (first_open (entries q n) ≡ Some t) ⊎ (at is_done (entries q n) t ≡ true) → (is_gathered q n m ≡ true) ⊎ IsResolved s q n → HasRead graph q t n m v
        cases (inl f) (inl x) = by_gather (ap (λ (z : Option ℕ). is_some_of z t) f ∙ eq-eqb t t refl) x e
        cases (inl f) (inr x) = absurd (no_done (subst (λ (j : ℕ). at is_done (entries q n) j ≡ true) (heads-same s t x.call n hd x.first) x.done))
        cases (inr d) x = absurd (no_done d)

    gathered : live q t ≡ true → heads s t n ≡ true → is_gathered s n m ≡ true → v ≡ value_for s t m → HasRead graph q t n m v
    gathered l hd k e = cases (open-stays graph s step h a t n (heads-opens graph s h t n hd))
      where
        now : v ≡ value_for q t m
        now = e ∙ sym (settled-value graph s step h a t m (opens-live s t n (heads-opens graph s h t n hd)) (by_node n (or_left _ _ (or_left _ _ (and_from _ _ hd k)))))

        cases : (opens q t n ≡ true) ⊎ Finishes step t n → HasRead graph q t n m v
        cases (inl o) = stays hd k now o
        cases (inr f) = finished-read graph g s h t n m v hd k step a l now f

    due : live q t ≡ true → live s t ≡ true → was_due graph s t n ≡ true → (is_in m (inputs_of (node_at graph n)) || picks_it s t n m) ≡ true → v ≡ value_for s t m → HasRead graph q t n m v
    due l ls d k e =
        let done = and_left (at is_done (entries s n) t) (touched graph s t n) d in
        by_due l (and_from _ _ (shown-kept graph g s step h a t n l done is_done ∙ done) (touched-kept graph g s step h a t n l done ∙ and_right (at is_done (entries s n) t) (touched graph s t n) d))
        (subst (λ (ps : List (Option ℕ)). (is_in m (inputs_of (node_at graph n)) || is_in m (nodes_in ps)) ≡ true)
        (sym (ap (λ (o : Option Entry). picks_of (state_of o)) (kept-up_to graph s h n t ls (done-unblocked graph s h t n done) (done-no_frame (entries s n) t done) (entries q n) (step-list graph s step h a n)))) k)
        (e ∙ sym (settled-value graph s step h a t m ls (by_node n (or_right _ _ (and_from _ _ d k)))))

    go : (live q t ≡ true) ⊎ (live q t ≡ false) → HasRead graph s t n m v → HasRead graph q t n m v
    go x (by_end l b) = ended (phase-ended s q (step-phases graph s step a) t l) b
    go (inl l) (by_gather hd k e) = gathered l hd k e
    go (inr l) (by_gather hd k e) = ended l (begun (opens-live s t n (heads-opens graph s h t n hd)))
    go (inl l) (by_due ls d k e) = due l ls d k e
    go (inr l) (by_due ls d k e) = ended l (begun ls)

begin-read : (graph : Graph) (s : Core) → IsLawful graph s → (caller : ℕ) (c : Call) (t n m : ℕ) (v : Value) → HasRead graph s t n m v → HasRead graph (begin graph s caller c) t n m v
begin-read graph s h caller c t n m v r = go (begin-call graph s h caller c t) r
  where
    q : Core
    q = begin graph s caller c

    Began : Type 0
    Began = ((call_of q.calls t ≡ call_of s.calls t) × ((suc s.begun == t) ≡ false)) ⊎ ((t ≡ suc s.begun) × (call_of q.calls t ≡ Some (new_call graph s caller c)))

    more : (a b c : ℕ) → a ≤ b → c ≡ suc b → a ≤ c
    more a b c x y = omega (arith, x, y)

    go : Began → HasRead graph s t n m v → HasRead graph q t n m v
    go e (by_gather hd k x) = by_gather hd k x
    go (inl e) (by_due l d k x) = by_due (ap is_some e.0 ∙ l) (and_from _ _ (and_left _ _ d) (ap (λ (o : Option LiveCall). not (is_source (node_at graph n)) && list_any (λ i. is_in i (call_or o).changed) (deps graph s t n)) e.0 ∙ and_right _ _ d)) k x
    go (inr e) (by_due l d k x) = absurd (both_ways _ (not_begun-live s h.versions_are_fresh) (subst (λ (j : ℕ). live s j ≡ true) e.0 l))
    go (inl e) (by_end l b) = by_end (ap is_some e.0 ∙ l) (more t s.begun (suc s.begun) b refl)
    go (inr e) (by_end l b) = absurd (let x = e.0 in omega (arith, x, b))

move-read : (graph : Graph) → IsGraph graph → (s : Core) (move : Move) → IsLawful graph s → may graph s move ≡ true → (t n m : ℕ) (v : Value) → HasRead graph s t n m v → HasRead graph (after_move graph s move) t n m v
move-read graph g s (Begin caller c) h a t n m v r = begin-read graph s h caller c t n m v r
move-read graph g s (Make step) h a t n m v r = step-read graph g s h step a t n m v r

-- ---- the Gather

gathers-read : (graph : Graph) (s : Core) → IsLawful graph s → (t n m : ℕ) → allowed graph s (steps.Gather t n m) ≡ true → HasRead graph (apply graph s (steps.Gather t n m)) t n m (value_at (entries s m) t)
gathers-read graph s h t n m a = by_gather (ap (λ (es : List Entry). is_some_of (first_open es) t) (same_cell graph s n f (λ c. refl) n) ∙ hd) there (ap (λ (es : List Entry). value_at es t) (sym (same_cell graph s n f (λ c. refl) m)))
  where
    f : Cell → Cell
    f = gather m (value_at (entries s m) t)

    hd : heads s t n ≡ true
    hd = at_front-heads graph s t n (can_work-at_front graph s t n (due-can_work graph s t n (gather-due graph s t n m a)))

    last : (xs : List (ℕ × Value)) → is_some (gathered_of m (xs ++ (m, value_at (entries s m) t) ∷ [])) ≡ true
    last [] = let e = eq-eqb m m refl in rw (e, gathered_of) refl
    last (x ∷ xs) = go (x.0 == m) (last xs)
      where
        go : (b : Bool) → is_some (gathered_of m (xs ++ (m, value_at (entries s m) t) ∷ [])) ≡ true → is_some (elim b as (λ _. Option Value) [ true ↦ Some x.1 | false ↦ gathered_of m (xs ++ (m, value_at (entries s m) t) ∷ []) ]) ≡ true
        go true k = refl
        go false k = k

    there : is_gathered (apply graph s (steps.Gather t n m)) n m ≡ true
    there = ap (λ (c : Cell). is_some (gathered_of m c.gathered)) (cell-there s n f (entry-there s n t (heads-entry graph s h t n hd))) ∙ last (cell s n).gathered

-- ---- the end

-- What a call that ends has read is the node's value after it.
end-read : (graph : Graph) → IsGraph graph → MachineLaws graph → (s : Core) → IsLawful graph s → (t n m : ℕ) (v : Value) → allowed graph s (steps.End t) ≡ true → HasRead graph s t n m v → v ≡ val graph (state_after graph (apply graph s (steps.End t)).log) m
end-read graph g laws s h t n m v a r = go r
  where
    lt : live s t ≡ true
    lt = executes-live s t (and_left _ _ (and_left _ _ (and_left _ _ (and_left _ _ a))))

    settled : IsSettled graph s t m → v ≡ value_for s t m → v ≡ val graph (state_after graph (apply graph s (steps.End t)).log) m
    settled k e =
        let there = h.settled_has_entry t m lt k in
        let i : m < length graph.nodes = (let x = entry-there s m t there in let y = h.lists in omega (arith, x, y)) in
        e ∙ reads-new graph g laws s h t a m there ∙ (end-right graph g laws s h t a m i).0 ∙ ap (λ (vs : Values). val graph vs m) (sym (next-log graph g laws s h t a))

    go : HasRead graph s t n m v → v ≡ val graph (state_after graph (apply graph s (steps.End t)).log) m
    go (by_gather hd k e) = settled (by_node n (or_left _ _ (or_left _ _ (and_from _ _ hd k)))) e
    go (by_due l d k e) = settled (by_node n (or_right _ _ (and_from _ _ d k))) e
    go (by_end l b) = absurd (both_ways _ l lt)

pub gathered-right : (graph : Graph) → IsGraph graph → MachineLaws graph → KeepsLawful graph → (callers limit : ℕ) (moves : List Move) (t n m : ℕ) (v : Value) → is_history graph callers limit (moves ++ Make (steps.End t) ∷ []) ≡ true → HasGathered graph callers limit moves t n m v
    → v ≡ val graph (state_after graph (state graph callers limit (moves ++ Make (steps.End t) ∷ [])).log) m
gathered-right graph g laws keeps callers limit moves t n m v k r =
    let p = may_parts graph moves (Make (steps.End t) ∷ []) s0 k in
    let e = may_first graph s1 (Make (steps.End t)) [] p.1 in
    let parts = may_parts graph r.earlier (Make (steps.Gather t n m) ∷ r.later) s0 (subst (λ (ms : List Move). may_all graph s0 ms ≡ true) r.split p.0) in
    let f = may_first graph before (Make (steps.Gather t n m)) r.later parts.1 in
    let hb = moves-lawful graph keeps r.earlier s0 (opening-lawful graph g callers limit) parts.0 in
    let now = moves-reach graph keeps (λ s. HasRead graph s t n m (value_at (entries before m) t)) (λ s move h a x. move-read graph g s move h a t n m (value_at (entries before m) t) x) r.later (after_move graph before (Make (steps.Gather t n m)))
    (keeps before (Make (steps.Gather t n m)) hb f.0) (gathers-read graph before hb t n m f.0) f.1 in
    let last = subst (λ (s : Core). HasRead graph s t n m (value_at (entries before m) t)) (sym (after_parts graph r.earlier (Make (steps.Gather t n m) ∷ r.later) s0) ∙ ap (after_moves graph s0) (sym r.split)) now.holds in
    r.read ∙ end-read graph g laws s1 (history-lawful graph g keeps callers limit moves p.0) t n m (value_at (entries before m) t) e.0 last
    ∙ ap (λ (s : Core). val graph (state_after graph s.log) m) (sym (after_parts graph moves (Make (steps.End t) ∷ []) s0))
  where
    s0 : Core
    s0 = opening graph callers limit

    s1 : Core
    s1 = after_moves graph s0 moves

    before : Core
    before = after_moves graph s0 r.earlier
