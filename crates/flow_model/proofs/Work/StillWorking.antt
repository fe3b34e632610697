-- The first open call that works at a node works on, after each step of another call and each of its own elsewhere.
use Rattle.std.proofs.Common.{◌≡◌, ℕ, Bool, true, false, ◌&&◌, ◌||◌, not, ◌==◌, ◌⊎◌, inl, inr, refl, sym, ap, arith, List, ◌++◌, true≢false, ◌∙◌, subst, Option, Some, None}
use Rattle.std.proofs.lemmas.Bool.{or_right, eqb-true, eq-eqb, false_from_ne_true, both_ways, cases_Bool, true_from_ne_false}
use Rattle.std.specs.Prelude.{is_some}
use Rattle.std.specs.List.{list_any}
use Rattle.script_tree.specs.declared.value.Value.{Value}
use Rattle.signal_graph.specs.Graph.{Graph, is_in, is_source, node_at, inputs_of}
use Rattle.signal_graph.specs.Values.{nodes_in}
use Rattle.order_graph.specs.Order.{reaches}
use Rattle.order_graph.proofs.Reaching.{reaches-join}
use Rattle.node_versions.specs.declared.entry.State.TheVariants.{Frame, Done}
use Rattle.node_versions.specs.declared.entry.Entry.{Entry}
use Rattle.node_versions.specs.Entries.{at, is_frame, is_mark, last_done, first_open, picks_of, picks_before, value_before, state_of}
use Rattle.flow_model.specs.declared.step.Step.{Step}
use Rattle.flow_model.specs.declared.step.Step.TheVariants as steps
use Rattle.flow_model.specs.Machine.Sets.{put}
use Rattle.flow_model.specs.Machine.State.{Core, LiveCall, call, call_of, call_or, live, executes, is_framing, entries, opens, wants, changes, with_call, with_cell, precedes}
use Rattle.flow_model.specs.Machine.Words.{deps, heads, touched, at_front, value_now, found_picks, found_now, next_look, active_outs}
use Rattle.flow_model.specs.Machine.Changes.{enter, raise, ensure_mark, set_state, closed, opened, finish, tell_call, add_edge}
use Rattle.flow_model.specs.Machine.Steps.{allowed, apply, open_node, frame, started, counted, keep_found, is_change, with_look, look_value}
use Rattle.flow_model.specs.Kept.Lawful.{IsLawful, IsWorking, IsCovered, OrderIsKept, FramingComesLast, WantsAreCovered}
use Rattle.flow_model.proofs.OneStep.WhoMayStep.{opens-live, executes-live, wants-live, frame-wants, at_front-executes, at_front-heads, can_work-at_front, due-can_work, discover-due}
use Rattle.flow_model.proofs.OneList.CallsAndCells.{option_call, change_call-same, change_call-other, with_call-keeps, map_call-keeps, without_call-other, without_call-same}
use Rattle.flow_model.proofs.OneStep.WhoLivesAndFrames.{PhaseStep, SamePhases, step-phases, frame-same, discover-same}
use Rattle.flow_model.proofs.OneStep.WhoLivesAndFrames as phases
use Rattle.flow_model.proofs.General.Sets.{in-put}
use Rattle.flow_model.proofs.OneList.StatesAndPlaces.{first_open-frame}
use Rattle.flow_model.proofs.OrderStays.AfterEachStep.{step-OrderIsKept}
use Rattle.flow_model.proofs.OrderStays.EntriesAndRoom.{step-one_entry, step-FramingComesLast, idle-no_frame}
use Rattle.flow_model.proofs.OrderStays.OpenNodesHaveFrames.{step-FramesAreOpen, opened-opens}
use Rattle.flow_model.proofs.OneStep.SameCallers.{ensured}
use Rattle.flow_model.proofs.Wants.WantsAreFree.{opened-wants}
use Rattle.flow_model.proofs.Wants.FramedWith.{live-chain}
use Rattle.flow_model.proofs.Reactions.WhereRunsBegin.{before-last}
use Rattle.flow_model.proofs.FramesSpread.AfterDones.{front-no_open}
use Rattle.flow_model.proofs.Wants.WantsAreCovered.{step-WantsAreCovered, entered-reaches, ensured-reaches}
use Rattle.flow_model.proofs.OneStep.FirstOpenCalls.{head-live, step-opens_back}
use Rattle.flow_model.proofs.Work.OnlyLaterCallsOpen.{opener-later, head-wants_none}
use Rattle.flow_model.proofs.General.AnyAndAll.{any-false, any-none, any-more}

-- ---- tests of a list of nodes

-- ---- the work of a call that can work at the node

-- At the front of a node that it has touched, a call works there.
pub front-working : (graph : Graph) (s : Core) → IsLawful graph s → (t n : ℕ) → at_front graph s t n ≡ true → touched graph s t n ≡ true → IsWorking graph s n t
front-working graph s h t n f k = record {
  executing = at_front-executes graph s t n f;
  changed = k;
  no_open = any-false (λ m. opens s t m || wants s t m) (deps graph s t n) (λ m d. both (opens s t m) (wants s t m) (any-none (opens s t) (deps graph s t n) m (front-no_open graph s t n f) d) (head-wants_none graph s h t n m (at_front-heads graph s t n f) (at_front-executes graph s t n f) d));
}
  where
    both : (a b : Bool) → a ≡ false → b ≡ false → (a || b) ≡ false
    both a b h k = grind (arith, h, k)

-- ---- what the call keeps

-- A test that a change of calls keeps true.
with_call-grows : (read : LiveCall → Bool) (s : Core) (t : ℕ) (f : LiveCall → LiveCall) → ((c : LiveCall) → (f c).version ≡ c.version) → ((c : LiveCall) → read c ≡ true → read (f c) ≡ true) → (u : ℕ) → read (call s u) ≡ true → read (call (with_call s t f) u) ≡ true
with_call-grows read s t f v k u h = go (cases_Bool (u == t))
  where
    optional : (o : Option LiveCall) → read (call_or o) ≡ true → read (call_or (option_call f o)) ≡ true
    optional None x = x
    optional (Some c) x = k c x

    go : ((u == t) ≡ true) ⊎ ((u == t) ≡ false) → read (call (with_call s t f) u) ≡ true
    go (inl e) = subst (λ (w : ℕ). read (call (with_call s t f) w) ≡ true) (sym (eqb-true u t e)) (ap (λ (o : Option LiveCall). read (call_or o)) (change_call-same t f v s.calls) ∙ optional (call_of s.calls t) (subst (λ (w : ℕ). read (call s w) ≡ true) (eqb-true u t e) h))
    go (inr e) = ap (λ (o : Option LiveCall). read (call_or o)) (change_call-other t u f v s.calls (λ x. both_ways _ e (eq-eqb u t x))) ∙ h

-- What a call has changed it has changed after a step that doesn't end it.
finished-changes : (s : Core) (t n : ℕ) (v : Value) (b : Bool) (ps : List (Option ℕ)) (u m : ℕ) → changes s u m ≡ true → changes (finish s t n v b ps) u m ≡ true
finished-changes s t n v b ps u m k = with_call-grows (λ c. is_in m c.changed) (with_cell s n (set_state t (Done v b ps))) t (closed n b) (λ c. refl) (λ c x. more b c.changed x) u k
  where
    more : (b : Bool) (xs : List ℕ) → is_in m xs ≡ true → is_in m (elim b as (λ _. List ℕ) [ true ↦ put n xs | false ↦ xs ]) ≡ true
    more true xs x = in-put m n xs ∙ or_right (m == n) (is_in m xs) x
    more false xs x = x

framed-changes : (graph : Graph) (s : Core) (t n u m : ℕ) → changes s u m ≡ true → changes (frame graph s t n) u m ≡ true
framed-changes graph s t n u m k = go (at is_mark (entries s n) t)
  where
    go : (b : Bool) → changes (elim b as (λ _. Core) [ true ↦ open_node graph (raise s t n) t n | false ↦ open_node graph (enter s t n Frame) t n ]) u m ≡ true
    go true = with_call-keeps (λ c. is_in m c.changed) (raise s t n) t (opened n (active_outs graph (raise s t n) t n)) (λ c. refl) (λ c. refl) u ∙ k
    go false = with_call-keeps (λ c. is_in m c.changed) (enter s t n Frame) t (opened n (active_outs graph (enter s t n Frame) t n)) (λ c. refl) (λ c. refl) u ∙ k

step-changes : (graph : Graph) (s : Core) (step : Step) (u m : ℕ) → live (apply graph s step) u ≡ true → changes s u m ≡ true → changes (apply graph s step) u m ≡ true
step-changes graph s (steps.Frame t n) u m l k = framed-changes graph s t n u m k
step-changes graph s (steps.Start t) u m l k = with_call-keeps (λ c. is_in m c.changed) s t started (λ c. refl) (λ c. refl) u ∙ k
step-changes graph s (steps.Skip t n) u m l k = finished-changes s t n (value_before (entries s n) t) false (picks_before (entries s n) t) u m k
step-changes graph s (steps.Gather t n i) u m l k = k
step-changes graph s (steps.Evaluate t n) u m l k = with_call-keeps (λ c. is_in m c.changed) (with_cell s n (keep_found (found_now graph s t n))) t counted (λ c. refl) (λ c. refl) u ∙ k
step-changes graph s (steps.Body t n) u m l k = k
step-changes graph s (steps.Resolve t n) u m l k = finished-changes s t n (value_now graph s t n) (is_change graph s t n) (found_picks s n) u m k
step-changes graph s (steps.Discover t n c) u m l k = let q = with_cell (ensure_mark s t c) c (add_edge n t) in map_call-keeps (λ x. is_in m x.changed) q (tell_call (entries q c) t n) (λ x. refl) (λ x. refl) u ∙ ensured (λ x. is_in m x.changed) s t c u ∙ k
step-changes graph s (steps.Drop t n o) u m l k = ensured (λ x. is_in m x.changed) s t o u ∙ k
step-changes graph s (steps.Mark t n) u m l k = k
step-changes graph s (steps.Look t) u m l k = with_call-keeps (λ c. is_in m c.changed) s t (with_look (look_value s t (next_look s t))) (λ c. refl) (λ c. refl) u ∙ k
step-changes graph s (steps.End t) u m l k = go (cases_Bool (u == t))
  where
    go : ((u == t) ≡ true) ⊎ ((u == t) ≡ false) → changes (apply graph s (steps.End t)) u m ≡ true
    go (inl e) = absurd (true≢false (sym (subst (λ (w : ℕ). live (apply graph s (steps.End t)) w ≡ true) (eqb-true u t e) l) ∙ ap (λ (o : Option LiveCall). is_some o) (without_call-same t s.calls)))
    go (inr e) = ap (λ (o : Option LiveCall). is_in m (call_or o).changed) (without_call-other t u s.calls (λ x. both_ways _ e (eq-eqb u t x))) ∙ k
step-changes graph s (steps.Collect n) u m l k = k

-- A call with a Frame executes on.
step-executes : (graph : Graph) (s : Core) (step : Step) → IsLawful graph s → allowed graph s step ≡ true → (u n : ℕ) → at is_frame (entries s n) u ≡ true → executes s u ≡ true → executes (apply graph s step) u ≡ true
step-executes graph s step h a u n f x = go (step-phases graph s step a)
  where
    go : PhaseStep s (apply graph s step) → executes (apply graph s step) u ≡ true
    go (phases.stays k) = subst (λ (e : ℕ → Bool). e u ≡ true) (sym k.executing) x
    go (phases.starts t ft l e) = e u ∙ or_right (u == t) (executes s u) x
    go (phases.ends t i n2 l e) = e u ∙ other (cases_Bool (u == t))
      where
        other : ((u == t) ≡ true) ⊎ ((u == t) ≡ false) → (not (u == t) && executes s u) ≡ true
        other (inl k) = absurd (both_ways _ (idle-no_frame graph s h t n i) (subst (λ (w : ℕ). at is_frame (entries s n) w ≡ true) (eqb-true u t k) f))
        other (inr k) = grind (arith, k, x)

-- ---- what the call comes to want

-- Where calls have come to want more, none has come to want what a first open call's node rests on.
no_new-wants : (graph : Graph) (s : Core) → IsLawful graph s → (q : Core) → OrderIsKept q → FramingComesLast q → WantsAreCovered q → SamePhases s q
    → (u n m : ℕ) → heads s u n ≡ true → executes s u ≡ true → is_in m (deps graph s u n) ≡ true → ((v : ℕ) → (v == u) ≡ false → opens q v m ≡ true → opens s v m ≡ true) → ((v w : ℕ) → reaches s.pairs v w ≡ true → reaches q.pairs v w ≡ true) → wants q u m ≡ false
no_new-wants graph s h q order framing covered same u n m hd x d back grows = false_from_ne_true _ (λ w. none (covered u m xq w))
  where
    xq : executes q u ≡ true
    xq = subst (λ (e : ℕ → Bool). e u ≡ true) (sym same.executing) x

    none : IsCovered q u m → ⊥
    none c = go (opener-later graph s h u n m v hd d (back v other c.by.2) runs_it)
      where
        v : ℕ
        v = c.by.0

        other : (v == u) ≡ false
        other = false_from_ne_true _ (λ e. both_ways _ c.not_open (subst (λ (w : ℕ). opens q w m ≡ true) (eqb-true v u e) c.by.2))

        lv : live q v ≡ true
        lv = opens-live q v m c.by.2

        runs_it : executes s v ≡ true
        runs_it = subst (λ (e : ℕ → Bool). e v ≡ true) same.executing (true_from_ne_false _ (λ e. both_ways _ (framing.before v u (let f : is_framing q v ≡ true = grind (arith, e, lv) in f) xq) c.by.1))

        go : (v ≡ u) ⊎ (precedes s u v ≡ true) → ⊥
        go (inl e) = both_ways _ other (eq-eqb v u e)
        go (inr p) = both_ways _ (order.no_cycle v) (reaches-join q.pairs v u v (live-chain q v u lv c.by.1) (grows u v (live-chain s u v (executes-live s u x) p)))

framed-no_wants : (graph : Graph) (s : Core) → IsLawful graph s → (t m0 : ℕ) → allowed graph s (steps.Frame t m0) ≡ true → (u n m : ℕ) → heads s u n ≡ true → executes s u ≡ true → is_in m (deps graph s u n) ≡ true → wants (frame graph s t m0) u m ≡ false
framed-no_wants graph s h t m0 a u n m hd x d = go (cases_Bool (u == t))
  where
    lt : live s t ≡ true
    lt = wants-live s t m0 (frame-wants graph s t m0 a)

    -- no other call opens a node
    back : (v : ℕ) → (v == t) ≡ false → opens (frame graph s t m0) v m ≡ true → opens s v m ≡ true
    back v ne o = cases (at is_mark (entries s m0) t) o
      where
        kept : (a p x y : Bool) → a ≡ (p || (x && y)) → x ≡ false → a ≡ true → p ≡ true
        kept a p x y h k j = grind (arith, h, k, j)

        cases : (b : Bool) → opens (elim b as (λ _. Core) [ true ↦ open_node graph (raise s t m0) t m0 | false ↦ open_node graph (enter s t m0 Frame) t m0 ]) v m ≡ true → opens s v m ≡ true
        cases true k = kept _ (opens s v m) (v == t) (m == m0) (opened-opens (raise s t m0) t m0 (active_outs graph (raise s t m0) t m0) v m lt) ne k
        cases false k = kept _ (opens s v m) (v == t) (m == m0) (opened-opens (enter s t m0 Frame) t m0 (active_outs graph (enter s t m0 Frame) t m0) v m lt) ne k

    same : (u == t) ≡ false → wants (frame graph s t m0) u m ≡ wants s u m
    same ne = cases (at is_mark (entries s m0) t)
      where
        cases : (b : Bool) → wants (elim b as (λ _. Core) [ true ↦ open_node graph (raise s t m0) t m0 | false ↦ open_node graph (enter s t m0 Frame) t m0 ]) u m ≡ wants s u m
        cases true = let w = opened-wants (raise s t m0) t m0 (active_outs graph (raise s t m0) t m0) u m lt in rw ne at w
        cases false = let w = opened-wants (enter s t m0 Frame) t m0 (active_outs graph (enter s t m0 Frame) t m0) u m lt in rw ne at w

    grows : (v w : ℕ) → reaches s.pairs v w ≡ true → reaches (frame graph s t m0).pairs v w ≡ true
    grows v w r = cases (at is_mark (entries s m0) t)
      where
        cases : (b : Bool) → reaches (elim b as (λ _. Core) [ true ↦ open_node graph (raise s t m0) t m0 | false ↦ open_node graph (enter s t m0 Frame) t m0 ]).pairs v w ≡ true
        cases true = r
        cases false = entered-reaches s t m0 v w lt r

    go : ((u == t) ≡ true) ⊎ ((u == t) ≡ false) → wants (frame graph s t m0) u m ≡ false
    go (inr ne) = same ne ∙ head-wants_none graph s h u n m hd x d
    go (inl e) = no_new-wants graph s h (frame graph s t m0) (step-OrderIsKept graph s (steps.Frame t m0) h a) (step-FramingComesLast graph s (steps.Frame t m0) h a) (step-WantsAreCovered graph s (steps.Frame t m0) h a) (frame-same graph s t m0) u n m hd x d
        (λ v ne o. back v (subst (λ (w : ℕ). (v == w) ≡ false) (eqb-true u t e) ne) o) grows

discovered-no_wants : (graph : Graph) (s : Core) → IsLawful graph s → (t n0 c : ℕ) → allowed graph s (steps.Discover t n0 c) ≡ true → (u n m : ℕ) → heads s u n ≡ true → executes s u ≡ true → is_in m (deps graph s u n) ≡ true → wants (apply graph s (steps.Discover t n0 c)) u m ≡ false
discovered-no_wants graph s h t n0 c a u n m hd x d =
    let p = with_cell (ensure_mark s t c) c (add_edge n0 t) in
    no_new-wants graph s h (apply graph s (steps.Discover t n0 c)) (step-OrderIsKept graph s (steps.Discover t n0 c) h a) (step-FramingComesLast graph s (steps.Discover t n0 c) h a) (step-WantsAreCovered graph s (steps.Discover t n0 c) h a) (discover-same graph s t n0 c) u n m hd x d
    (λ v ne o. sym (map_call-keeps (λ y. is_in m y.open_nodes) p (tell_call (entries p c) t n0) (λ y. refl) (λ y. refl) v ∙ ensured (λ y. is_in m y.open_nodes) s t c v) ∙ o)
    (λ v w r. ensured-reaches s t c v w (executes-live s t (at_front-executes graph s t n0 (can_work-at_front graph s t n0 (due-can_work graph s t n0 (discover-due graph s t n0 c a))))) r)

-- After a step, an executing first open call still wants nothing of what its node rests on.
step-no_wants : (graph : Graph) (s : Core) (step : Step) → IsLawful graph s → allowed graph s step ≡ true → (u n m : ℕ) → heads s u n ≡ true → executes s u ≡ true → is_in m (deps graph s u n) ≡ true → wants (apply graph s step) u m ≡ false
step-no_wants graph s (steps.Frame t m0) h a u n m hd x d = framed-no_wants graph s h t m0 a u n m hd x d
step-no_wants graph s (steps.Start t) h a u n m hd x d = with_call-keeps (λ c. is_in m c.wanted) s t started (λ c. refl) (λ c. refl) u ∙ head-wants_none graph s h u n m hd x d
step-no_wants graph s (steps.Skip t n0) h a u n m hd x d = with_call-keeps (λ c. is_in m c.wanted) (with_cell s n0 (set_state t (Done (value_before (entries s n0) t) false (picks_before (entries s n0) t)))) t (closed n0 false) (λ c. refl) (λ c. refl) u ∙ head-wants_none graph s h u n m hd x d
step-no_wants graph s (steps.Gather t n0 i) h a u n m hd x d = head-wants_none graph s h u n m hd x d
step-no_wants graph s (steps.Evaluate t n0) h a u n m hd x d = with_call-keeps (λ c. is_in m c.wanted) (with_cell s n0 (keep_found (found_now graph s t n0))) t counted (λ c. refl) (λ c. refl) u ∙ head-wants_none graph s h u n m hd x d
step-no_wants graph s (steps.Body t n0) h a u n m hd x d = head-wants_none graph s h u n m hd x d
step-no_wants graph s (steps.Resolve t n0) h a u n m hd x d = with_call-keeps (λ c. is_in m c.wanted) (with_cell s n0 (set_state t (Done (value_now graph s t n0) (is_change graph s t n0) (found_picks s n0)))) t (closed n0 (is_change graph s t n0)) (λ c. refl) (λ c. refl) u ∙ head-wants_none graph s h u n m hd x d
step-no_wants graph s (steps.Discover t n0 c) h a u n m hd x d = discovered-no_wants graph s h t n0 c a u n m hd x d
step-no_wants graph s (steps.Drop t n0 o) h a u n m hd x d = ensured (λ y. is_in m y.wanted) s t o u ∙ head-wants_none graph s h u n m hd x d
step-no_wants graph s (steps.Mark t n0) h a u n m hd x d = head-wants_none graph s h u n m hd x d
step-no_wants graph s (steps.Look t) h a u n m hd x d = with_call-keeps (λ c. is_in m c.wanted) s t (with_look (look_value s t (next_look s t))) (λ c. refl) (λ c. refl) u ∙ head-wants_none graph s h u n m hd x d
step-no_wants graph s (steps.End t) h a u n m hd x d = go (cases_Bool (u == t))
  where
    go : ((u == t) ≡ true) ⊎ ((u == t) ≡ false) → wants (apply graph s (steps.End t)) u m ≡ false
    go (inl e) = subst (λ (v : ℕ). wants (apply graph s (steps.End t)) v m ≡ false) (sym (eqb-true u t e)) (ap (λ (o : Option LiveCall). is_in m (call_or o).wanted) (without_call-same t s.calls))
    go (inr e) = ap (λ (o : Option LiveCall). is_in m (call_or o).wanted) (without_call-other t u s.calls (λ x. both_ways _ e (eq-eqb u t x))) ∙ head-wants_none graph s h u n m hd x d
step-no_wants graph s (steps.Collect n0) h a u n m hd x d = head-wants_none graph s h u n m hd x d

-- ---- what the node rests on

-- The picks before the first open call are those of the last Done.
prior-last : (graph : Graph) (s : Core) (step : Step) → IsLawful graph s → allowed graph s step ≡ true → (u n : ℕ) → at is_frame (entries (apply graph s step) n) u ≡ true
    → picks_before (entries (apply graph s step) n) u ≡ picks_of (state_of (last_done (entries (apply graph s step) n)))
prior-last graph s step h a u n f = ap (λ (o : Option Entry). picks_of (state_of o)) (before-last (entries (apply graph s step) n) u (step-one_entry graph s step h a n) f (λ v b. (step-FramesAreOpen graph s step h a).behind_dones n u v b f))

prior-now : (graph : Graph) (s : Core) → IsLawful graph s → (u n : ℕ) → at is_frame (entries s n) u ≡ true → picks_before (entries s n) u ≡ picks_of (state_of (last_done (entries s n)))
prior-now graph s h u n f = ap (λ (o : Option Entry). picks_of (state_of o)) (before-last (entries s n) u (h.one_entry n) f (λ v b. h.frames_are_open.behind_dones n u v b f))

-- Where the call is first still and no Done has come, it works on.
pub still-working : (graph : Graph) (s : Core) (step : Step) → IsLawful graph s → allowed graph s step ≡ true → (u n : ℕ) → heads s u n ≡ true → IsWorking graph s n u
    → first_open (entries (apply graph s step) n) ≡ Some u → last_done (entries (apply graph s step) n) ≡ last_done (entries s n) → IsWorking graph (apply graph s step) n u
still-working graph s step h a u n hd w first last = record {
  executing = xq;
  changed = touched_on;
  no_open = any-false (λ m. opens q u m || wants q u m) (deps graph q u n) (λ m d. both (opens q u m) (wants q u m) (closed_on m (subst (λ (xs : List ℕ). is_in m xs ≡ true) same d)) (step-no_wants graph s step h a u n m hd w.executing (subst (λ (xs : List ℕ). is_in m xs ≡ true) same d)));
}
  where
    q : Core
    q = apply graph s step

    xq : executes q u ≡ true
    xq = step-executes graph s step h a u n (head-live graph s h u n hd) w.executing

    same : deps graph q u n ≡ deps graph s u n
    same = ap (λ (ps : List (Option ℕ)). inputs_of (node_at graph n) ++ nodes_in ps)
        (prior-last graph s step h a u n (first_open-frame (entries q n) u (step-one_entry graph s step h a n) first) ∙ ap (λ (o : Option Entry). picks_of (state_of o)) last ∙ sym (prior-now graph s h u n (head-live graph s h u n hd)))

    touched_on : touched graph q u n ≡ true
    touched_on = on (is_source (node_at graph n)) (list_any (changes s u) (deps graph s u n)) (list_any (changes q u) (deps graph q u n))
        (λ k. any-more (changes s u) (changes q u) (deps graph q u n) (λ m c. step-changes graph s step u m (executes-live q u xq) c) (subst (λ (xs : List ℕ). list_any (changes s u) xs ≡ true) (sym same) k)) w.changed
      where
        on : (x a b : Bool) → (a ≡ true → b ≡ true) → (not x && a) ≡ true → (not x && b) ≡ true
        on true a b f k = k
        on false a b f k = f k

    both : (a b : Bool) → a ≡ false → b ≡ false → (a || b) ≡ false
    both a b h k = grind (arith, h, k)

    closed_on : (m : ℕ) → is_in m (deps graph s u n) ≡ true → opens q u m ≡ false
    closed_on m d = false_from_ne_true _ (λ o. none (step-opens_back graph s step h a u m o))
      where
        one : (a b : Bool) → (a || b) ≡ false → a ≡ false
        one false b h = refl
        one true b h = absurd (true≢false h)

        none : (opens s u m ≡ true) ⊎ (wants s u m ≡ true) → ⊥
        none (inl k) = both_ways _ (one (opens s u m) (wants s u m) (any-none (λ j. opens s u j || wants s u j) (deps graph s u n) m w.no_open d)) k
        none (inr k) = both_ways _ (head-wants_none graph s h u n m hd w.executing d) k
