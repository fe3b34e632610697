-- After each step and beginning entries and pairs are of known calls, and a call has an entry wherever it has read.
use Rattle.std.proofs.Common.{◌≡◌, ℕ, suc, Bool, true, false, ◌&&◌, ◌||◌, not, ◌==◌, ◌⊎◌, inl, inr, refl, sym, ap, arith, List, [], ◌∷◌, length, true≢false, ◌∙◌, subst, Option, Some}
use Rattle.std.specs.Prelude.{is_some}
use Rattle.std.proofs.lemmas.List.Folds.{list_any-append}
use Rattle.std.proofs.lemmas.Bool.{or_cases, or_left, or_right, and_parts, and_from, eqb-true, eq-eqb, false_from_ne_true, both_ways, cases_Bool, not-true}
use Rattle.script_tree.specs.declared.value.Value.{Value}
use Rattle.script_tree.proofs.Truths.{and_left, and_right}
use Rattle.signal_graph.specs.declared.call.Call.{Call}
use Rattle.signal_graph.specs.declared.log.Logged.{Logged}
use Rattle.signal_graph.specs.declared.node.Node.{Node}
use Rattle.signal_graph.specs.declared.node.Node.TheVariants.{Source, Signal, Fold, Choose}
use Rattle.signal_graph.specs.Graph.{Graph, is_in, is_source, node_at, inputs_of, numbers, static_outs}
use Rattle.node_versions.specs.declared.entry.State.TheVariants.{Mark, Frame, Done}
use Rattle.node_versions.specs.declared.entry.Entry.{Entry}
use Rattle.node_versions.specs.Entries.{OutEdge, IsUnique, has, at, is_mark, is_frame, is_done, has_out, active_nodes, placed, with_state, collected, value_before, picks_at, picks_before}
use Rattle.node_versions.proofs.KeptLemmas.{has-with_state}
use Rattle.node_versions.proofs.Places.{at-has}
use Rattle.flow_model.specs.declared.step.Step.{Step}
use Rattle.flow_model.specs.declared.step.Step.TheVariants as steps
use Rattle.flow_model.specs.Machine.State.{Core, LiveCall, call, call_of, call_or, live, entries, outs, wants, opens, with_call, with_cell}
use Rattle.flow_model.specs.Machine.Words.{active_outs, heads, found_now, value_now, found_picks, next_look}
use Rattle.flow_model.specs.Machine.Changes.{stops, stops_call, new_entry, place_entry, set_state, enter, raise, ensure_mark, closed, add_edge}
use Rattle.flow_model.specs.Machine.Steps.{allowed, apply, begin, new_call, open_node, frame, started, counted, with_look, look_value, keep_found, is_change, nodes_set, sets_in, logged}
use Rattle.flow_model.specs.Kept.Runs.{is_framed_state, framed, was_due, by_node, by_look}
use Rattle.flow_model.specs.Kept.Lawful.{IsLawful, EntriesAreKept, log_has}
use Rattle.flow_model.proofs.OneStep.WhoMayStep.{executes-live, wants-live, opens-live, frame-wants, at_front-heads, discover-due}
use Rattle.flow_model.proofs.General.Sets.{in-put_all}
use Rattle.flow_model.proofs.OrderStays.AfterEachStep.{step-Standing, begin-Stood, not_begun-entry}
use Rattle.flow_model.proofs.OneList.OneEntryACall.{placed-has, placed-at, placed-at_other, collected-at}
use Rattle.flow_model.proofs.OneList.StatesAndPlaces.{with_state-at, first_open-frame}
use Rattle.flow_model.proofs.OneStep.ChangesOfOneList.{ListStep, stays, marks, frames, raises, finishes, collects, step-list}
use Rattle.flow_model.proofs.OrderStays.EntriesAndRoom.{step-one_entry}
use Rattle.flow_model.proofs.OrderStays.OpenNodesHaveFrames.{step-FramesAreOpen}
use Rattle.flow_model.proofs.OrderStays.NoFrameBeforeDones.{head-first}
use Rattle.flow_model.proofs.Wants.FramedWith.{active-edge, heads-opens, opens-frame}
use Rattle.flow_model.proofs.OneList.CallsAndCells.{with_call-keeps, without_call-other, without_call-same}
use Rattle.flow_model.proofs.OneStep.BegunCalls.{begin-call}
use Rattle.flow_model.proofs.OneStep.VersionsStayFresh.{call-version, logged-more}
use Rattle.flow_model.proofs.OneStep.WhoLivesAndFrames.{step-phases}
use Rattle.flow_model.proofs.OneStep.SameCallers.{step-stable, phase-live, ensured, sets-stable}
use Rattle.flow_model.proofs.Wants.WantsAreFree.{opened-wants, new_or_old, tell-wants, IsTold, filtered-passes}
use Rattle.flow_model.proofs.FramesSpread.AfterOtherSteps.{same_outs}
use Rattle.flow_model.proofs.Settled.AfterDones.{source-lists}
use Rattle.flow_model.proofs.Settled.WhatSettles.{at-all, touched-kept}
use Rattle.flow_model.proofs.Settled.AfterEachStep.{step-settled, begin-settled_has_entry}
use Rattle.flow_model.proofs.OneStep.CallsLiveOn.{Continues, step-continues, IsEnd}
use Rattle.flow_model.proofs.Settled.NewPicksWereDue.{step-NewPicks, IsNewOrKept}
use Rattle.flow_model.proofs.General.AnyAndAll.{get-take}
use Rattle.order_graph.proofs.Reaching.{recorded-reaches}

-- ---- whose entries there are

list-has : (graph : Graph) (s : Core) (n u : ℕ) (es : List Entry) → ListStep graph s n es → ((v : ℕ) → has (collected (λ e. not (live s e.version)) (entries s n)) v ≡ true → has (entries s n) v ≡ true) → has es u ≡ true → (has (entries s n) u ≡ true) ⊎ (live s u ≡ true)
list-has graph s n u es (stays e) f k = inl (sym (ap (λ (xs : List Entry). has xs u) e) ∙ k)
list-has graph s n u es (marks t x fresh r e) f k = go (or_cases _ _ (sym (placed-has (stops_call s t) (new_entry s t Mark) (entries s n) u) ∙ subst (λ (xs : List Entry). has xs u ≡ true) e k))
  where
    go : ((t == u) ≡ true) ⊎ (has (entries s n) u ≡ true) → (has (entries s n) u ≡ true) ⊎ (live s u ≡ true)
    go (inl y) = inr (subst (λ (v : ℕ). live s v ≡ true) (eqb-true t u y) (executes-live s t x))
    go (inr y) = inl y
list-has graph s n u es (frames t w fresh r e) f k = go (or_cases _ _ (sym (placed-has (stops_call s t) (new_entry s t Frame) (entries s n) u) ∙ subst (λ (xs : List Entry). has xs u ≡ true) e k))
  where
    go : ((t == u) ≡ true) ⊎ (has (entries s n) u ≡ true) → (has (entries s n) u ≡ true) ⊎ (live s u ≡ true)
    go (inl y) = inr (subst (λ (v : ℕ). live s v ≡ true) (eqb-true t u y) (wants-live s t n w))
    go (inr y) = inl y
list-has graph s n u es (raises t w m e) f k = inl (sym (has-with_state t Frame (entries s n) u) ∙ subst (λ (xs : List Entry). has xs u ≡ true) e k)
list-has graph s n u es (finishes t v c ps x e) f k = inl (sym (has-with_state t (Done v c ps) (entries s n) u) ∙ subst (λ (xs : List Entry). has xs u ≡ true) e k)
list-has graph s n u es (collects e) f k = inl (f u (subst (λ (xs : List Entry). has xs u ≡ true) e k))

collected-has : (graph : Graph) (s : Core) → IsLawful graph s → (n v : ℕ) → has (collected (λ e. not (live s e.version)) (entries s n)) v ≡ true → has (entries s n) v ≡ true
collected-has graph s h n v k = sym (at-all (entries s n) v) ∙ collected-at (λ x. true) (λ w. not (live s w)) (entries s n) v (h.one_entry n) (at-all (collected (λ e. not (live s e.version)) (entries s n)) v ∙ k)

abbrev IsKnown : Core → ℕ → Type 0
IsKnown s u = (u ≡ 0) ⊎ ((live s u ≡ true) ⊎ (log_has s.log u ≡ true))

-- who is known stays known
known-on : (graph : Graph) (s : Core) (step : Step) → (u : ℕ) → IsKnown s u → IsKnown (apply graph s step) u
known-on graph s step u (inl e) = inl e
known-on graph s step u (inr k) = go step (step-continues graph s step) k
  where
    ends : (t : ℕ) → (live s u ≡ true) ⊎ (log_has s.log u ≡ true) → ((u == t) ≡ true) ⊎ ((u == t) ≡ false) → (live (apply graph s (steps.End t)) u ≡ true) ⊎ (log_has (apply graph s (steps.End t)).log u ≡ true)
    ends t (inr l) y = inr (logged-more s.log (logged (call s t)) u ∙ or_left _ _ l)
    ends t (inl l) (inr y) = inl (ap is_some (without_call-other t u s.calls (λ e. both_ways _ y (eq-eqb u t e))) ∙ l)
    ends t (inl l) (inl y) =
        let e = eqb-true u t y in
        let v : (call s t).version ≡ u = call-version s t (subst (λ (w : ℕ). live s w ≡ true) e l) ∙ sym e in
        inr (logged-more s.log (logged (call s t)) u ∙ or_right _ _ (eq-eqb (call s t).version u v))

    go : (step : Step) → Continues s (apply graph s step) ⊎ IsEnd step → (live s u ≡ true) ⊎ (log_has s.log u ≡ true) → IsKnown (apply graph s step) u
    go step (inl c) (inl l) = inr (inl (c.lives u ∙ l))
    go step (inl c) (inr l) = inr (inr (ap (λ (log : List Logged). log_has log u) c.log ∙ l))
    go step (inr e) k = inr (subst (λ (x : Step). (live (apply graph s x) u ≡ true) ⊎ (log_has (apply graph s x).log u ≡ true)) (sym e.1) (ends e.0 k (cases_Bool (u == e.0))))

step-versions : (graph : Graph) (s : Core) (step : Step) → IsLawful graph s → allowed graph s step ≡ true → (n u : ℕ) → has (entries (apply graph s step) n) u ≡ true → IsKnown (apply graph s step) u
step-versions graph s step h a n u k = go (list-has graph s n u (entries (apply graph s step) n) (step-list graph s step h a n) (collected-has graph s h n) k)
  where
    go : (has (entries s n) u ≡ true) ⊎ (live s u ≡ true) → IsKnown (apply graph s step) u
    go (inl x) = known-on graph s step u (h.entries_are_kept.versions n u x)
    go (inr x) = known-on graph s step u (inr (inl x))

-- ---- which sources are framed

-- a node with inputs, or a choose node, is no source
no_input : (node : Node) (m : ℕ) → is_in m (inputs_of node) ≡ true → is_source node ≡ false
no_input (Source v) m k = absurd (true≢false (sym k))
no_input (Signal script inputs) m k = refl
no_input (Fold v script inputs) m k = refl
no_input (Choose selectors body inputs) m k = refl

at-framed : (es : List Entry) (u : ℕ) → at is_frame es u ≡ true → at is_framed_state es u ≡ true
at-framed [] u h = h
at-framed (e ∷ es) u h = let r = at-framed es u in grind (arith, r, h)

-- Who has a node framed after a step had it framed or wanted it.
list-framed : (graph : Graph) (s : Core) → IsLawful graph s → (n u : ℕ) (es : List Entry) → ListStep graph s n es → at is_framed_state es u ≡ true → (wants s u n || framed s u n) ≡ true
list-framed graph s h n u es (stays e) k = or_right _ _ (sym (ap (λ (xs : List Entry). at is_framed_state xs u) e) ∙ k)
list-framed graph s h n u es (marks t x fresh r e) k = go (cases_Bool (u == t))
  where
    k2 : at is_framed_state (placed (stops s t) (new_entry s t Mark) (entries s n)) u ≡ true
    k2 = subst (λ (xs : List Entry). at is_framed_state xs u ≡ true) e k

    go : ((u == t) ≡ true) ⊎ ((u == t) ≡ false) → (wants s u n || framed s u n) ≡ true
    go (inl y) = absurd (true≢false (sym (sym (placed-at is_framed_state (stops_call s t) (new_entry s t Mark) (entries s n) fresh) ∙ subst (λ (w : ℕ). at is_framed_state (placed (stops s t) (new_entry s t Mark) (entries s n)) w ≡ true) (eqb-true u t y) k2)))
    go (inr y) = or_right _ _ (sym (placed-at_other is_framed_state (stops_call s t) (new_entry s t Mark) (entries s n) u (λ z. both_ways _ y (eq-eqb u t z))) ∙ k2)
list-framed graph s h n u es (frames t w fresh r e) k = go (cases_Bool (u == t))
  where
    go : ((u == t) ≡ true) ⊎ ((u == t) ≡ false) → (wants s u n || framed s u n) ≡ true
    go (inl y) = or_left _ _ (subst (λ (v : ℕ). wants s v n ≡ true) (sym (eqb-true u t y)) w)
    go (inr y) = or_right _ _ (sym (placed-at_other is_framed_state (stops_call s t) (new_entry s t Frame) (entries s n) u (λ z. both_ways _ y (eq-eqb u t z))) ∙ subst (λ (xs : List Entry). at is_framed_state xs u ≡ true) e k)
list-framed graph s h n u es (raises t w m e) k = go (cases_Bool (u == t)) (with_state-at is_framed_state t Frame (entries s n) u)
  where
    go : ((u == t) ≡ true) ⊎ ((u == t) ≡ false) → at is_framed_state (with_state t Frame (entries s n)) u ≡ elim (u == t) as (λ _. Bool) [ true ↦ has (entries s n) t && true | false ↦ at is_framed_state (entries s n) u ] → (wants s u n || framed s u n) ≡ true
    go (inl y) x = or_left _ _ (subst (λ (v : ℕ). wants s v n ≡ true) (sym (eqb-true u t y)) w)
    go (inr y) x = or_right _ _ (sym (rw y at x) ∙ subst (λ (xs : List Entry). at is_framed_state xs u ≡ true) e k)
list-framed graph s h n u es (finishes t v c ps x e) k = go (cases_Bool (u == t)) (with_state-at is_framed_state t (Done v c ps) (entries s n) u)
  where
    go : ((u == t) ≡ true) ⊎ ((u == t) ≡ false) → at is_framed_state (with_state t (Done v c ps) (entries s n)) u ≡ elim (u == t) as (λ _. Bool) [ true ↦ has (entries s n) t && true | false ↦ at is_framed_state (entries s n) u ] → (wants s u n || framed s u n) ≡ true
    go (inl y) z = or_right _ _ (subst (λ (w : ℕ). framed s w n ≡ true) (sym (eqb-true u t y)) (at-framed (entries s n) t (opens-frame graph s h t n (heads-opens graph s h t n (at_front-heads graph s t n x)))))
    go (inr y) z = or_right _ _ (sym (rw y at z) ∙ subst (λ (xs : List Entry). at is_framed_state xs u ≡ true) e k)
list-framed graph s h n u es (collects e) k = or_right _ _ (collected-at is_framed_state (λ w. not (live s w)) (entries s n) u (h.one_entry n) (subst (λ (xs : List Entry). at is_framed_state xs u ≡ true) e k))

-- What a call comes to want is no source.
abbrev IsNewWant : Graph → Core → ℕ → ℕ → Type 0
IsNewWant graph s u n = (wants s u n ≡ true) ⊎ (is_source (node_at graph n) ≡ false)

opened-new : (graph : Graph) (s : Core) → IsLawful graph s → (p : Core) (t m u n : ℕ) → ((v j : ℕ) → wants p v j ≡ wants s v j) → outs p m ≡ outs s m → live p t ≡ true → wants (open_node graph p t m) u n ≡ true → IsNewWant graph s u n
opened-new graph s h p t m u n ws os lp k = go (cases_Bool (u == t)) (opened-wants p t m xs u n lp)
  where
    xs : List ℕ
    xs = active_outs graph p t m

    new : (is_in n (static_outs graph m) ≡ true) ⊎ (is_in n (active_nodes (entries p m) (outs p m) t) ≡ true) → is_source (node_at graph n) ≡ false
    new (inl y) = no_input (node_at graph n) m (filtered-passes (λ j. is_in m (inputs_of (node_at graph j))) (numbers graph) n y)
    new (inr y) =
        let e = active-edge (entries p m) (outs p m) t n y in
        false_from_ne_true _ (λ src. source-lists (node_at graph n) m src (h.edges_fit.candidate n m e.since (subst (λ (es : List OutEdge). has_out es n e.since ≡ true) os e.stands)))

    mine : ((n == m) ≡ false) × (((is_in n xs ≡ true) × (opens p t n ≡ false)) ⊎ (wants p t n ≡ true)) → IsNewWant graph s t n
    mine (ne, inl y) = inr (new (or_cases _ _ (sym (list_any-append (λ z. z == n) (static_outs graph m) (active_nodes (entries p m) (outs p m) t)) ∙ y.0)))
    mine (ne, inr y) = inl (sym (ws t n) ∙ y)

    go : ((u == t) ≡ true) ⊎ ((u == t) ≡ false) → wants (open_node graph p t m) u n ≡ elim (u == t) as (λ _. Bool) [
      | true ↦ (is_in n xs && not ((n == m) || opens p t n)) || (wants p t n && not (n == m))
      | false ↦ wants p u n
    ] → IsNewWant graph s u n
    go (inr e) y = let j : wants p u n ≡ true = grind (arith, y, e, k) in inl (sym (ws u n) ∙ j)
    go (inl e) y =
        let j : ((is_in n xs && not ((n == m) || opens p t n)) || (wants p t n && not (n == m))) ≡ true = grind (arith, y, e, k) in
        subst (λ (v : ℕ). IsNewWant graph s v n) (sym (eqb-true u t e)) (mine (new_or_old (is_in n xs) (n == m) (opens p t n) (wants p t n) j))

framed-new : (graph : Graph) (s : Core) → IsLawful graph s → (t m u n : ℕ) → wants s t m ≡ true → wants (frame graph s t m) u n ≡ true → IsNewWant graph s u n
framed-new graph s h t m u n w = go (at is_mark (entries s m) t)
  where
    go : (b : Bool) → wants (elim b as (λ _. Core) [ true ↦ open_node graph (raise s t m) t m | false ↦ open_node graph (enter s t m Frame) t m ]) u n ≡ true → IsNewWant graph s u n
    go true k = opened-new graph s h (raise s t m) t m u n (λ v j. refl) (same_outs s m (set_state t Frame) (λ c. refl) m) (wants-live s t m w) k
    go false k = opened-new graph s h (enter s t m Frame) t m u n (λ v j. refl) (same_outs s m (place_entry s t Frame) (λ c. refl) m) (wants-live s t m w) k

called-new : (graph : Graph) (s q : Core) (t : ℕ) (f : LiveCall → LiveCall) → ((c : LiveCall) → (f c).version ≡ c.version) → ((c : LiveCall) → (f c).wanted ≡ c.wanted) → q.calls ≡ s.calls → (u n : ℕ) → wants (with_call q t f) u n ≡ true → IsNewWant graph s u n
called-new graph s q t f v k e u n w = inl (sym (ap (λ (cs : List LiveCall). is_in n (call_or (call_of cs u)).wanted) e) ∙ sym (with_call-keeps (λ c. is_in n c.wanted) q t f v (λ c. ap (is_in n) (k c)) u) ∙ w)

told-new : (graph : Graph) (s : Core) (t n0 c u n : ℕ) → allowed graph s (steps.Discover t n0 c) ≡ true → wants (apply graph s (steps.Discover t n0 c)) u n ≡ true → IsNewWant graph s u n
told-new graph s t n0 c u n a k = go (tell-wants q c t n0 u n k)
  where
    q : Core
    q = with_cell (ensure_mark s t c) c (add_edge n0 t)

    go : (wants q u n ≡ true) ⊎ IsTold q (entries q c) t n0 u n → IsNewWant graph s u n
    go (inl y) = inl (sym (ensured (λ x. is_in n x.wanted) s t c u) ∙ y)
    go (inr y) = inr (subst (λ (j : ℕ). is_source (node_at graph j) ≡ false) (sym y.it) (not-true _ (and_left _ _ (and_right _ _ (discover-due graph s t n0 c a)))))

ended-new : (graph : Graph) (s : Core) (t u n : ℕ) → wants (apply graph s (steps.End t)) u n ≡ true → IsNewWant graph s u n
ended-new graph s t u n k = go (cases_Bool (u == t))
  where
    go : ((u == t) ≡ true) ⊎ ((u == t) ≡ false) → IsNewWant graph s u n
    go (inl x) = absurd (true≢false (sym (sym (ap (λ (v : ℕ). wants (apply graph s (steps.End t)) v n) (eqb-true u t x) ∙ ap (λ (o : Option LiveCall). is_in n (call_or o).wanted) (without_call-same t s.calls)) ∙ k)))
    go (inr x) = inl (sym (ap (λ (o : Option LiveCall). is_in n (call_or o).wanted) (without_call-other t u s.calls (λ y. both_ways _ x (eq-eqb u t y)))) ∙ k)

step-new : (graph : Graph) (s : Core) (step : Step) → IsLawful graph s → allowed graph s step ≡ true → (u n : ℕ) → wants (apply graph s step) u n ≡ true → IsNewWant graph s u n
step-new graph s (steps.Frame t m) h a u n k = framed-new graph s h t m u n (frame-wants graph s t m a) k
step-new graph s (steps.Start t) h a u n k = called-new graph s s t started (λ c. refl) (λ c. refl) refl u n k
step-new graph s (steps.Skip t m) h a u n k = called-new graph s (with_cell s m (set_state t (Done (value_before (entries s m) t) false (picks_before (entries s m) t)))) t (closed m false) (λ c. refl) (λ c. refl) refl u n k
step-new graph s (steps.Gather t m i) h a u n k = inl k
step-new graph s (steps.Evaluate t m) h a u n k = called-new graph s (with_cell s m (keep_found (found_now graph s t m))) t counted (λ c. refl) (λ c. refl) refl u n k
step-new graph s (steps.Body t m) h a u n k = inl k
step-new graph s (steps.Resolve t m) h a u n k = called-new graph s (with_cell s m (set_state t (Done (value_now graph s t m) (is_change graph s t m) (found_picks s m)))) t (closed m (is_change graph s t m)) (λ c. refl) (λ c. refl) refl u n k
step-new graph s (steps.Discover t m c) h a u n k = told-new graph s t m c u n a k
step-new graph s (steps.Drop t m o) h a u n k = inl (sym (ensured (λ x. is_in n x.wanted) s t o u) ∙ k)
step-new graph s (steps.Mark t m) h a u n k = inl k
step-new graph s (steps.Look t) h a u n k = called-new graph s s t (with_look (look_value s t (next_look s t))) (λ c. refl) (λ c. refl) refl u n k
step-new graph s (steps.End t) h a u n k = ended-new graph s t u n k
step-new graph s (steps.Collect m) h a u n k = inl k

step-sources : (graph : Graph) (s : Core) (step : Step) → IsLawful graph s → allowed graph s step ≡ true → (u n : ℕ) → live (apply graph s step) u ≡ true → is_source (node_at graph n) ≡ true → (wants (apply graph s step) u n || framed (apply graph s step) u n) ≡ true → is_in n (nodes_set (call (apply graph s step) u).sets) ≡ true
step-sources graph s step h a u n l src k = subst (λ (xs : List (ℕ × Value)). is_in n (nodes_set xs) ≡ true) (sym (step-stable (λ (c : LiveCall). c.sets) sets-stable graph s step u l)) (h.entries_are_kept.sources u n (phase-live s (apply graph s step) (step-phases graph s step a) u l) src (go (or_cases _ _ k)))
  where
    new : IsNewWant graph s u n → (wants s u n || framed s u n) ≡ true
    new (inl x) = or_left _ _ x
    new (inr x) = absurd (both_ways _ x src)

    go : (wants (apply graph s step) u n ≡ true) ⊎ (framed (apply graph s step) u n ≡ true) → (wants s u n || framed s u n) ≡ true
    go (inl x) = new (step-new graph s step h a u n x)
    go (inr x) = list-framed graph s h n u (entries (apply graph s step) n) (step-list graph s step h a n) x

-- ---- wherever a call has read

head-live : (q : Core) (u n : ℕ) → ((i j : ℕ) → opens q i j ≡ at is_frame (entries q j) i) → ((j : ℕ) → IsUnique (entries q j)) → heads q u n ≡ true → live q u ≡ true
head-live q u n o unique k = opens-live q u n (o u n ∙ first_open-frame (entries q n) u (unique n) (head-first (entries q n) u k))

pub step-EntriesAreKept : (graph : Graph) (s : Core) (step : Step) → IsLawful graph s → allowed graph s step ≡ true → EntriesAreKept graph (apply graph s step)
step-EntriesAreKept graph s step h a =
    let q = apply graph s step in
    let settled = step-settled graph s step h a in
    record {
      versions = step-versions graph s step h a;
      pairs = λ u v r. and_parts _ _ ((step-Standing graph s step h a).pairs_live u v (recorded-reaches q.pairs u v r));
      sources = step-sources graph s step h a;
      gathers = λ u n m k g. settled.has_entry u m (head-live q u n (step-FramesAreOpen graph s step h a).opens_frames (step-one_entry graph s step h a) k) (by_node n (or_left _ _ (or_left _ _ (and_from _ _ k g))));
      looks = λ u k m l b e. settled.has_entry u m l (by_look (get-take (call q u).looks k (length (call q u).looked) m e b));
      dues = λ u n m l d i. settled.has_entry u m l (by_node n (or_right _ _ (and_from _ _ d i)));
      new_picks = step-NewPicks graph s step h a;
    }

-- ---- a beginning

abbrev IsBegun : Graph → Core → ℕ → Call → ℕ → Type 0
IsBegun graph s caller c u = ((call_of (begin graph s caller c).calls u ≡ call_of s.calls u) × ((suc s.begun == u) ≡ false)) ⊎ ((u ≡ suc s.begun) × (call_of (begin graph s caller c).calls u ≡ Some (new_call graph s caller c)))

-- the call that begins has no entry
new-absent : (graph : Graph) (s : Core) → IsLawful graph s → (u n : ℕ) → u ≡ suc s.begun → has (entries s n) u ≡ false
new-absent graph s h u n e = subst (λ (v : ℕ). has (entries s n) v ≡ false) (sym e) (not_begun-entry graph s h n)

begin-known : (graph : Graph) (s : Core) (caller : ℕ) (c : Call) (u : ℕ) → IsBegun graph s caller c u → IsKnown s u → IsKnown (begin graph s caller c) u
begin-known graph s caller c u b (inl e) = inl e
begin-known graph s caller c u b (inr (inr l)) = inr (inr l)
begin-known graph s caller c u (inl e) (inr (inl l)) = inr (inl (ap is_some e.0 ∙ l))
begin-known graph s caller c u (inr e) (inr (inl l)) = inr (inl (ap is_some e.1))

begin-sources : (graph : Graph) (s : Core) → IsLawful graph s → (caller : ℕ) (c : Call) (u n : ℕ) → IsBegun graph s caller c u → live (begin graph s caller c) u ≡ true → is_source (node_at graph n) ≡ true → (wants (begin graph s caller c) u n || framed s u n) ≡ true → is_in n (nodes_set (call (begin graph s caller c) u).sets) ≡ true
begin-sources graph s h caller c u n (inl e) l src k = ap (λ (o : Option LiveCall). is_in n (nodes_set (call_or o).sets)) e.0 ∙ h.entries_are_kept.sources u n (sym (ap is_some e.0) ∙ l) src (subst (λ (o : Option LiveCall). (is_in n (call_or o).wanted || framed s u n) ≡ true) e.0 k)
begin-sources graph s h caller c u n (inr e) l src k = ap (λ (o : Option LiveCall). is_in n (nodes_set (call_or o).sets)) e.1 ∙ go (or_cases _ _ k)
  where
    sets : List ℕ
    sets = nodes_set (sets_in graph c)

    only : (is_in n sets || is_in n []) ≡ true → is_in n sets ≡ true
    only x = cases (or_cases _ _ x)
      where
        cases : (is_in n sets ≡ true) ⊎ (is_in n [] ≡ true) → is_in n sets ≡ true
        cases (inl y) = y
        cases (inr y) = absurd (true≢false (sym y))

    go : (wants (begin graph s caller c) u n ≡ true) ⊎ (framed s u n ≡ true) → is_in n sets ≡ true
    go (inl x) = only (sym (in-put_all n sets []) ∙ sym (ap (λ (o : Option LiveCall). is_in n (call_or o).wanted) e.1) ∙ x)
    go (inr x) = absurd (both_ways _ (new-absent graph s h u n e.0) (at-has is_framed_state (entries s n) u x))

begin-NewPicks : (graph : Graph) (s : Core) → IsLawful graph s → (caller : ℕ) (c : Call) (u n : ℕ) → IsBegun graph s caller c u → live (begin graph s caller c) u ≡ true → at is_done (entries s n) u ≡ true → IsNewOrKept graph (begin graph s caller c) u n
begin-NewPicks graph s h caller c u n (inr e) l d = absurd (both_ways _ (new-absent graph s h u n e.0) (at-has is_done (entries s n) u d))
begin-NewPicks graph s h caller c u n (inl e) l d = go (h.entries_are_kept.new_picks u n (sym (ap is_some e.0) ∙ l) d)
  where
    go : (was_due graph s u n ≡ true) ⊎ (picks_at (entries s n) u ≡ picks_before (entries s n) u) → IsNewOrKept graph (begin graph s caller c) u n
    go (inr x) = inr x
    go (inl x) = inl (and_from _ _ d (touched-kept graph (begin graph s caller c) s u n refl (λ m y. ap (λ (o : Option LiveCall). is_in m (call_or o).changed) e.0 ∙ y) (and_right _ _ x)))

pub begin-EntriesAreKept : (graph : Graph) (s : Core) (caller : ℕ) (c : Call) → IsLawful graph s → EntriesAreKept graph (begin graph s caller c)
begin-EntriesAreKept graph s caller c h =
    let q = begin graph s caller c in
    let entry = begin-settled_has_entry graph s caller c h in
    record {
      versions = λ n u k. begin-known graph s caller c u (begin-call graph s h caller c u) (h.entries_are_kept.versions n u k);
      pairs = λ u v r. and_parts _ _ ((begin-Stood graph s caller c h).pairs_live u v (recorded-reaches s.pairs u v r));
      sources = λ u n l src k. begin-sources graph s h caller c u n (begin-call graph s h caller c u) l src k;
      gathers = h.entries_are_kept.gathers;
      looks = λ u k m l b e. entry u m l (by_look (get-take (call q u).looks k (length (call q u).looked) m e b));
      dues = λ u n m l d i. entry u m l (by_node n (or_right _ _ (and_from _ _ d i)));
      new_picks = λ u n l d. begin-NewPicks graph s h caller c u n (begin-call graph s h caller c u) l d;
    }
