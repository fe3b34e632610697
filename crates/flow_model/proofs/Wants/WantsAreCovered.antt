-- What an executing call wants is open for a call before it, after each step.
use Rattle.std.proofs.Common.{◌≡◌, ℕ, ◌<◌, suc, Bool, true, false, ◌&&◌, ◌||◌, not, ◌==◌, ◌⊎◌, inl, inr, refl, sym, ap, arith, List, [], ◌∷◌, length, true≢false, ◌∙◌, subst, Option, Some, None}
use Rattle.std.proofs.lemmas.List.Folds.{list_any-append}
use Rattle.std.proofs.lemmas.Bool.{or_cases, or_left, or_right, and_from, eqb-true, eq-eqb, false_from_ne_true, both_ways, cases_Bool, not-true}
use Rattle.script_tree.specs.declared.value.Value.{Value}
use Rattle.script_tree.proofs.Truths.{and_left, and_right}
use Rattle.signal_graph.specs.declared.call.Call.{Call}
use Rattle.signal_graph.specs.Graph.{Graph, is_in, static_outs}
use Rattle.order_graph.specs.Order.{reaches, is_recorded}
use Rattle.node_versions.specs.declared.entry.State.TheVariants.{Mark, Frame, Done}
use Rattle.node_versions.specs.declared.entry.Entry.{Entry}
use Rattle.node_versions.specs.Entries.{OutEdge, has, at, is_mark, up_to, has_out, active_nodes, front, rest, value_before, picks_before, with_state, placed}
use Rattle.node_versions.proofs.KeptLemmas.{has-with_state}
use Rattle.node_versions.proofs.Places.{at-has}
use Rattle.flow_model.specs.declared.step.Step.{Step}
use Rattle.flow_model.specs.declared.step.Step.TheVariants as steps
use Rattle.flow_model.specs.Machine.Lists.{is_empty}
use Rattle.flow_model.specs.Machine.Sets.{put_all}
use Rattle.flow_model.specs.Machine.State.{Core, LiveCall, Cell, call, call_of, call_or, live, executes, entries, outs, opens, wants, precedes, with_cell}
use Rattle.flow_model.specs.Machine.Words.{active_outs, at_front, found_now, value_now, found_picks, next_look, presses, pressed}
use Rattle.flow_model.specs.Machine.Changes.{stops, linked_at, first_version, last_version, link_left, place_entry, set_state, enter, raise, ensure_mark, opened, closed, finish, tell_call, add_edge, stops_call, new_entry}
use Rattle.flow_model.specs.Machine.Steps.{allowed, apply, begin, can_begin, new_call, open_node, frame, started, counted, with_look, look_value, keep_found, is_change, any_before, nodes_set, sets_in}
use Rattle.flow_model.specs.Kept.Lawful.{IsLawful, IsCovered, WantsAreCovered, OrderIsKept, ended_before}
use Rattle.flow_model.proofs.OneStep.WhoMayStep.{executes-live, wants-live, opens-live, frame-wants, start-is_framing, mark-executes, end-idle, idle-executes, discover-due, due-can_work, drop-due, can_work-at_front, at_front-executes, at_front-heads, skip-can_work, resolve-can_work, is_framing-live}
use Rattle.flow_model.proofs.OneList.Chains.{reaches-retire}
use Rattle.flow_model.proofs.OrderStays.AfterEachStep.{lawful-Standing, step-OrderIsKept}
use Rattle.flow_model.proofs.OneList.Entering.{left-Grows, right-Grows}
use Rattle.flow_model.proofs.OrderStays.PartsOfStepsKeepOrder.{not_before}
use Rattle.flow_model.proofs.OneList.CallsAndCells.{with_call-keeps, map_call-keeps, list_any-none, without_call-other, without_call-same, with_call-live, started-executes}
use Rattle.flow_model.proofs.OneStep.BegunCalls.{begin-call}
use Rattle.flow_model.proofs.OneStep.SameCallers.{ensured}
use Rattle.flow_model.proofs.OrderStays.OpenNodesHaveFrames.{cell-there, opened-opens, closed-opens, same_opens}
use Rattle.flow_model.proofs.OneList.ActiveEdges.{active-behind}
use Rattle.flow_model.proofs.Wants.FramedWith.{IsChained, IsEdgeOpen, HasActive, active-edge, edge-reached, static-chained, heads-opens}
use Rattle.flow_model.proofs.Wants.WantsAreFree.{opened-wants, new_or_old, at_front-live, tell-wants, IsTold, step-WantsAreFree, begin-WantsAreFree}
use Rattle.flow_model.proofs.OneList.OneEntryACall.{placed-has}
use Rattle.flow_model.proofs.FramesSpread.AfterOtherSteps.{same_outs}
use Rattle.flow_model.proofs.OneStep.VersionsStayFresh.{not_begun-live}

-- Some call before this one has the node open.
pub record IsPreceded (q : Core) (u n : ℕ) : Type 0 where
  pub opener : ℕ
  pub before : precedes q opener u ≡ true
  pub opened : opens q opener n ≡ true

-- What was covered is, where chains stay and the node stays open.
kept-preceded : (graph : Graph) (s : Core) → IsLawful graph s → (q : Core) (u n : ℕ) → executes s u ≡ true → wants s u n ≡ true → ((v : ℕ) → reaches s.pairs v u ≡ true → opens s v n ≡ true → (reaches q.pairs v u ≡ true) × (opens q v n ≡ true)) → IsPreceded q u n
kept-preceded graph s h q u n x w keeps =
    let c = h.wants_are_covered u n x w in
    let k = keeps c.by.0 (chain (live s c.by.0) (reaches s.pairs c.by.0 u) (live s u) (opens-live s c.by.0 n c.by.2) c.by.1) c.by.2 in
    record { opener = c.by.0; before = or_left _ _ k.0; opened = k.1 }
  where
    chain : (l r m : Bool) → l ≡ true → (r || (not l && m)) ≡ true → r ≡ true
    chain l r m a b = grind (arith, a, b)

-- ---- what is allowed

start-empty : (graph : Graph) (s : Core) (t : ℕ) → allowed graph s (steps.Start t) ≡ true → is_empty (call s t).wanted ≡ true
start-empty graph s t a = and_right _ _ (and_left _ _ a)

end-first : (graph : Graph) (s : Core) (t : ℕ) → allowed graph s (steps.End t) ≡ true → any_before s t ≡ false
end-first graph s t a = not-true _ (and_right _ _ a)

end-closed : (graph : Graph) (s : Core) (t : ℕ) → allowed graph s (steps.End t) ≡ true → is_empty (call s t).open_nodes ≡ true
end-closed graph s t a = and_right _ _ (end-idle graph s t a)

-- ---- the order grows

pub entered-reaches : (s : Core) (t m u v : ℕ) → live s t ≡ true → reaches s.pairs u v ≡ true → reaches (linked_at s t m) u v ≡ true
entered-reaches s t m u v lt k =
    (right-Grows s t m (first_version (rest (stops s t) (entries s m))) (link_left s t m (last_version None (front (stops s t) (entries s m))) s.pairs) lt).more u v
    ((left-Grows s t m (last_version None (front (stops s t) (entries s m))) s.pairs lt).more u v k)

pub ensured-reaches : (s : Core) (t m u v : ℕ) → live s t ≡ true → reaches s.pairs u v ≡ true → reaches (ensure_mark s t m).pairs u v ≡ true
ensured-reaches s t m u v lt k = go (has (entries s m) t)
  where
    go : (b : Bool) → reaches (elim b as (λ _. Core) [ true ↦ s | false ↦ enter s t m Mark ]).pairs u v ≡ true
    go true = k
    go false = entered-reaches s t m u v lt k

-- ---- Frame

opened-preceded : (graph : Graph) (s : Core) → IsLawful graph s → (t m0 : ℕ) → wants s t m0 ≡ true → (q : Core) → ((u n : ℕ) → wants q u n ≡ wants s u n) → ((u n : ℕ) → opens q u n ≡ opens s u n) → live q t ≡ true
    → ((u v : ℕ) → reaches s.pairs u v ≡ true → reaches q.pairs u v ≡ true) → outs q m0 ≡ outs s m0 → has (entries q m0) t ≡ true → ((u : ℕ) → has (entries s m0) u ≡ true → has (entries q m0) u ≡ true)
    → OrderIsKept (open_node graph q t m0) → live (open_node graph q t m0) t ≡ true
    → (u n : ℕ) → executes s u ≡ true → wants (open_node graph q t m0) u n ≡ true → IsPreceded (open_node graph q t m0) u n
opened-preceded graph s h t m0 w q ws os lq grows edges entry stays_in order la u n x k = go (cases_Bool (u == t)) (opened-wants q t m0 xs u n lq)
  where
    xs : List ℕ
    xs = active_outs graph q t m0

    after : Core
    after = open_node graph q t m0

    open_still : (v j : ℕ) → opens s v j ≡ true → opens after v j ≡ true
    open_still v j o = opened-opens q t m0 xs v j lq ∙ or_left (opens q v j) ((v == t) && (j == m0)) (os v j ∙ o)

    old : (u : ℕ) → executes s u ≡ true → wants q u n ≡ true → IsPreceded after u n
    old u xu wu = kept-preceded graph s h after u n xu (sym (ws u n) ∙ wu) (λ v r o. (grows v u r, open_still v n o))

    chained : IsChained s t n → IsPreceded after t n
    chained c = record { opener = c.opener; before = or_left (reaches q.pairs c.opener t) (not (live after c.opener) && live after t) (grows c.opener t c.chain); opened = open_still c.opener n c.opened }

    edge : (e : HasActive (entries q m0) (outs q m0) t n) → opens s t n ≡ false → IsChained s t n ⊎ IsEdgeOpen s m0 n e.since → IsPreceded after t n
    edge e closed (inl c) = chained c
    edge e closed (inr c) =
        let other : (t == e.since) ≡ false = false_from_ne_true _ (λ y. both_ways _ closed (subst (λ (z : ℕ). opens s z n ≡ true) (sym (eqb-true t e.since y)) c.opened)) in
        let hs = stays_in e.since c.entry in
        let a = e.active in
        record { opener = e.since; before = order.lists m0 e.since t (active-behind (entries q m0) e.since t hs entry (shown (has (entries q m0) e.since) (has (up_to (entries q m0) t) e.since) hs a) other) la; opened = open_still e.since n c.opened }
      where
        shown : (a b : Bool) → a ≡ true → (not a || b) ≡ true → b ≡ true
        shown a b j k = grind (arith, j, k)

    new : executes s t ≡ true → opens s t n ≡ false → (is_in n (static_outs graph m0) ≡ true) ⊎ (is_in n (active_nodes (entries q m0) (outs q m0) t) ≡ true) → IsPreceded after t n
    new xt closed (inl y) = let c = h.wants_are_covered t m0 xt w in chained (static-chained graph s h t c.by.0 m0 n xt c.by.1 c.by.2 y)
    new xt closed (inr y) =
        let c = h.wants_are_covered t m0 xt w in
        let e = active-edge (entries q m0) (outs q m0) t n y in
        edge e closed (edge-reached graph s h t c.by.0 m0 n e.since xt c.by.1 c.by.2 closed (subst (λ (es : List OutEdge). has_out es n e.since ≡ true) edges e.stands))

    mine : executes s t ≡ true → ((n == m0) ≡ false) × (((is_in n xs ≡ true) × (opens q t n ≡ false)) ⊎ (wants q t n ≡ true)) → IsPreceded after t n
    mine xt (ne, inl (y, o)) = new xt (sym (os t n) ∙ o) (or_cases _ _ (sym (list_any-append (λ z. z == n) (static_outs graph m0) (active_nodes (entries q m0) (outs q m0) t)) ∙ y))
    mine xt (ne, inr y) = old t xt y

    go : ((u == t) ≡ true) ⊎ ((u == t) ≡ false) → wants after u n ≡ elim (u == t) as (λ _. Bool) [
      | true ↦ (is_in n xs && not ((n == m0) || opens q t n)) || (wants q t n && not (n == m0))
      | false ↦ wants q u n
    ] → IsPreceded after u n
    go (inr e) y = let j : wants q u n ≡ true = grind (arith, y, e, k) in old u x j
    go (inl e) y =
        let j : ((is_in n xs && not ((n == m0) || opens q t n)) || (wants q t n && not (n == m0))) ≡ true = grind (arith, y, e, k) in
        let z = eqb-true u t e in
        subst (λ (v : ℕ). IsPreceded after v n) (sym z) (mine (subst (λ (v : ℕ). executes s v ≡ true) z x) (new_or_old (is_in n xs) (n == m0) (opens q t n) (wants q t n) j))

framed-preceded : (graph : Graph) (s : Core) → IsLawful graph s → (t m0 : ℕ) → allowed graph s (steps.Frame t m0) ≡ true → (u n : ℕ) → executes (frame graph s t m0) u ≡ true → wants (frame graph s t m0) u n ≡ true → IsPreceded (frame graph s t m0) u n
framed-preceded graph s h t m0 a u n = go (at is_mark (entries s m0) t) refl (step-OrderIsKept graph s (steps.Frame t m0) h a)
  where
    w : wants s t m0 ≡ true
    w = frame-wants graph s t m0 a

    lt : live s t ≡ true
    lt = wants-live s t m0 w

    there : m0 < length s.cells
    there = let e = h.lists in let f = (h.wants_are_free t m0 w).node in omega (arith, e, f)

    still_live : (q : Core) → live q t ≡ true → live (open_node graph q t m0) t ≡ true
    still_live q l = ap (λ (f : ℕ → Bool). f t) (with_call-live q t (opened m0 (active_outs graph q t m0)) (λ c. refl)) ∙ l

    runs : (q : Core) → executes (open_node graph q t m0) u ≡ executes q u
    runs q = with_call-keeps (λ c. c.executing) q t (opened m0 (active_outs graph q t m0)) (λ c. refl) (λ c. refl) u

    go : (b : Bool) → at is_mark (entries s m0) t ≡ b → OrderIsKept (elim b [ true ↦ open_node graph (raise s t m0) t m0 | false ↦ open_node graph (enter s t m0 Frame) t m0 ])
        → executes (elim b [ true ↦ open_node graph (raise s t m0) t m0 | false ↦ open_node graph (enter s t m0 Frame) t m0 ]) u ≡ true
        → wants (elim b [ true ↦ open_node graph (raise s t m0) t m0 | false ↦ open_node graph (enter s t m0 Frame) t m0 ]) u n ≡ true
        → IsPreceded (elim b [ true ↦ open_node graph (raise s t m0) t m0 | false ↦ open_node graph (enter s t m0 Frame) t m0 ]) u n
    go true e order x k =
        let q = raise s t m0 in
        let list : entries q m0 ≡ with_state t Frame (entries s m0) = ap (λ (c : Cell). c.entries) (cell-there s m0 (set_state t Frame) there) in
        opened-preceded graph s h t m0 w q (λ u n. refl) (λ u n. refl) lt (λ u v r. r) (same_outs s m0 (set_state t Frame) (λ c. refl) m0)
        (ap (λ (es : List Entry). has es t) list ∙ has-with_state t Frame (entries s m0) t ∙ at-has is_mark (entries s m0) t e)
        (λ v hv. ap (λ (es : List Entry). has es v) list ∙ has-with_state t Frame (entries s m0) v ∙ hv) order (still_live q lt) u n (sym (runs q) ∙ x) k
    go false e order x k =
        let q = enter s t m0 Frame in
        let list : entries q m0 ≡ placed (stops s t) (new_entry s t Frame) (entries s m0) = ap (λ (c : Cell). c.entries) (cell-there s m0 (place_entry s t Frame) there) in
        opened-preceded graph s h t m0 w q (λ u n. refl) (λ u n. refl) lt (λ u v r. entered-reaches s t m0 u v lt r) (same_outs s m0 (place_entry s t Frame) (λ c. refl) m0)
        (ap (λ (es : List Entry). has es t) list ∙ placed-has (stops_call s t) (new_entry s t Frame) (entries s m0) t ∙ or_left _ _ (eq-eqb t t refl))
        (λ v hv. ap (λ (es : List Entry). has es v) list ∙ placed-has (stops_call s t) (new_entry s t Frame) (entries s m0) v ∙ or_right (t == v) (has (entries s m0) v) hv) order (still_live q lt) u n (sym (runs q) ∙ x) k

-- ---- Discover

discovered-preceded : (graph : Graph) (s : Core) → IsLawful graph s → (t n0 c : ℕ) → allowed graph s (steps.Discover t n0 c) ≡ true → (u n : ℕ) → executes (apply graph s (steps.Discover t n0 c)) u ≡ true → wants (apply graph s (steps.Discover t n0 c)) u n ≡ true → IsPreceded (apply graph s (steps.Discover t n0 c)) u n
discovered-preceded graph s h t n0 c a u n x k = go (tell-wants q c t n0 u n k)
  where
    q : Core
    q = with_cell (ensure_mark s t c) c (add_edge n0 t)

    after : Core
    after = apply graph s (steps.Discover t n0 c)

    front_it : at_front graph s t n0 ≡ true
    front_it = can_work-at_front graph s t n0 (due-can_work graph s t n0 (discover-due graph s t n0 c a))

    lt : live s t ≡ true
    lt = executes-live s t (at_front-executes graph s t n0 front_it)

    opens_after : (v j : ℕ) → opens after v j ≡ opens s v j
    opens_after v j = map_call-keeps (λ y. is_in j y.open_nodes) q (tell_call (entries q c) t n0) (λ y. refl) (λ y. refl) v ∙ ensured (λ y. is_in j y.open_nodes) s t c v

    xs : executes s u ≡ true
    xs = sym (map_call-keeps (λ y. y.executing) q (tell_call (entries q c) t n0) (λ y. refl) (λ y. refl) u ∙ ensured (λ y. y.executing) s t c u) ∙ x

    go : (wants q u n ≡ true) ⊎ IsTold q (entries q c) t n0 u n → IsPreceded after u n
    go (inl y) = kept-preceded graph s h after u n xs (sym (ensured (λ z. is_in n z.wanted) s t c u) ∙ y) (λ v r o. (ensured-reaches s t c v u lt r, opens_after v n ∙ o))
    go (inr y) = record {
      opener = t;
      before = (step-OrderIsKept graph s (steps.Discover t n0 c) h a).lists c t u y.stands (executes-live after u x);
      opened = opens_after t n ∙ subst (λ (j : ℕ). opens s t j ≡ true) (sym y.it) (heads-opens graph s h t n0 (at_front-heads graph s t n0 front_it));
    }

-- ---- Skip and Resolve

-- No later executing call wants the node at which a call finishes.
pressed-none : (s : Core) (t n u : ℕ) → pressed s t n ≡ false → executes s u ≡ true → wants s u n ≡ true → precedes s t u ≡ true → ⊥
pressed-none s t n u none x w p = go (call_of s.calls u) refl
  where
    go : (o : Option LiveCall) → call_of s.calls u ≡ o → ⊥
    go None e = true≢false (sym x ∙ ap (λ (o : Option LiveCall). (call_or o).executing) e)
    go (Some c) e =
        let r = list_any-none (presses s t n) s.calls u c none e in
        let xc : c.executing ≡ true = sym (ap (λ (o : Option LiveCall). (call_or o).executing) e) ∙ x in
        let wc : is_in n c.wanted ≡ true = sym (ap (λ (o : Option LiveCall). is_in n (call_or o).wanted) e) ∙ w in
        let pc : precedes s t c.version ≡ true = subst (λ (v : ℕ). precedes s t v ≡ true) (sym r.1) p in
        both (c.executing) (precedes s t c.version) (is_in n c.wanted) xc pc wc r.0
      where
        both : (a b d : Bool) → a ≡ true → b ≡ true → d ≡ true → (a && b && d) ≡ false → ⊥
        both true true true i j k r = true≢false r
        both true true false i j k r = true≢false (sym k)
        both true false d i j k r = true≢false (sym j)
        both false b d i j k r = true≢false (sym i)

finished-preceded : (graph : Graph) (s : Core) → IsLawful graph s → (t n0 : ℕ) (v : Value) (b : Bool) (ps : List (Option ℕ)) → live s t ≡ true → pressed s t n0 ≡ false → (u n : ℕ) → executes (finish s t n0 v b ps) u ≡ true → wants (finish s t n0 v b ps) u n ≡ true → IsPreceded (finish s t n0 v b ps) u n
finished-preceded graph s h t n0 v b ps lt none u n x w = kept-preceded graph s h after u n xs ws (λ y r o. (r, still y r o))
  where
    q : Core
    q = with_cell s n0 (set_state t (Done v b ps))

    after : Core
    after = finish s t n0 v b ps

    xs : executes s u ≡ true
    xs = sym (with_call-keeps (λ c. c.executing) q t (closed n0 b) (λ c. refl) (λ c. refl) u) ∙ x

    ws : wants s u n ≡ true
    ws = sym (with_call-keeps (λ c. is_in n c.wanted) q t (closed n0 b) (λ c. refl) (λ c. refl) u) ∙ w

    still : (y : ℕ) → reaches s.pairs y u ≡ true → opens s y n ≡ true → opens after y n ≡ true
    still y r o = closed-opens q t n0 b y n lt ∙ and_from (opens s y n) (not ((y == t) && (n == n0))) o (cases (cases_Bool ((y == t) && (n == n0))))
      where
        cases : (((y == t) && (n == n0)) ≡ true) ⊎ (((y == t) && (n == n0)) ≡ false) → not ((y == t) && (n == n0)) ≡ true
        cases (inr z) = ap not z
        cases (inl z) =
            let e = eqb-true y t (and_left (y == t) (n == n0) z) in
            let f = eqb-true n n0 (and_right (y == t) (n == n0) z) in
            absurd (pressed-none s t n0 u none xs (subst (λ (j : ℕ). wants s u j ≡ true) f ws) (or_left (reaches s.pairs t u) (not (live s t) && live s u) (subst (λ (j : ℕ). reaches s.pairs j u ≡ true) e r)))

skip-unpressed : (graph : Graph) (s : Core) (t n : ℕ) → allowed graph s (steps.Skip t n) ≡ true → pressed s t n ≡ false
skip-unpressed graph s t n a = not-true _ (and_right _ _ a)

resolve-unpressed : (graph : Graph) (s : Core) (t n : ℕ) → allowed graph s (steps.Resolve t n) ≡ true → pressed s t n ≡ false
resolve-unpressed graph s t n a = not-true _ (and_right _ _ (and_left _ _ a))

resolved-preceded : (graph : Graph) (s : Core) → IsLawful graph s → (t n0 : ℕ) → allowed graph s (steps.Resolve t n0) ≡ true → (u n : ℕ) → executes (apply graph s (steps.Resolve t n0)) u ≡ true → wants (apply graph s (steps.Resolve t n0)) u n ≡ true → IsPreceded (apply graph s (steps.Resolve t n0)) u n
resolved-preceded graph s h t n0 a u n x w =
    let k = finished-preceded graph s h t n0 (value_now graph s t n0) (is_change graph s t n0) (found_picks s n0) (at_front-live graph s t n0 (can_work-at_front graph s t n0 (resolve-can_work graph s t n0 a))) (resolve-unpressed graph s t n0 a) u n x w in
    record { opener = k.opener; before = k.before; opened = k.opened }

-- ---- the other steps

-- the same calls and pairs, as far as they are read
same-preceded : (graph : Graph) (s : Core) → IsLawful graph s → (q : Core) (u n : ℕ) → ((v : ℕ) → reaches s.pairs v u ≡ true → reaches q.pairs v u ≡ true) → executes q u ≡ executes s u → wants q u n ≡ wants s u n → ((v : ℕ) → opens q v n ≡ opens s v n) → executes q u ≡ true → wants q u n ≡ true → IsPreceded q u n
same-preceded graph s h q u n grows xs ws os x w = kept-preceded graph s h q u n (sym xs ∙ x) (sym ws ∙ w) (λ v r o. (grows v r, os v ∙ o))

-- A call that starts wants nothing.
started-preceded : (graph : Graph) (s : Core) → IsLawful graph s → (t : ℕ) → allowed graph s (steps.Start t) ≡ true → (u n : ℕ) → executes (apply graph s (steps.Start t)) u ≡ true → wants (apply graph s (steps.Start t)) u n ≡ true → IsPreceded (apply graph s (steps.Start t)) u n
started-preceded graph s h t a u n x w = go (cases_Bool (u == t))
  where
    q : Core
    q = apply graph s (steps.Start t)

    ws : wants s u n ≡ true
    ws = sym (with_call-keeps (λ c. is_in n c.wanted) s t started (λ c. refl) (λ c. refl) u) ∙ w

    none : (ns : List ℕ) → is_empty ns ≡ true → is_in n ns ≡ true → ⊥
    none [] e k = true≢false (sym k)
    none (y ∷ ys) e k = true≢false (sym e)

    empty : is_empty (call s t).wanted ≡ true
    empty = start-empty graph s t a

    go : ((u == t) ≡ true) ⊎ ((u == t) ≡ false) → IsPreceded q u n
    go (inl e) = absurd (none (call s t).wanted empty (subst (λ (v : ℕ). wants s v n ≡ true) (eqb-true u t e) ws))
    go (inr e) = kept-preceded graph s h q u n (let r = started-executes t s.calls u (is_framing-live s t (start-is_framing graph s t a)) in other (u == t) (executes s u) (executes q u) r e x) ws (λ v r o. (r, same_opens s t started (λ c. refl) (λ c. refl) v n ∙ o))
      where
        other : (a b c : Bool) → c ≡ (a || b) → a ≡ false → c ≡ true → b ≡ true
        other a b c i j k = grind (arith, i, j, k)

ended-preceded : (graph : Graph) (s : Core) → IsLawful graph s → (t : ℕ) → allowed graph s (steps.End t) ≡ true → (u n : ℕ) → executes (apply graph s (steps.End t)) u ≡ true → wants (apply graph s (steps.End t)) u n ≡ true → IsPreceded (apply graph s (steps.End t)) u n
ended-preceded graph s h t a u n x w = go (cases_Bool (u == t))
  where
    q : Core
    q = apply graph s (steps.End t)

    lt : live s t ≡ true
    lt = executes-live s t (idle-executes s t (end-idle graph s t a))

    first : (v : ℕ) → is_recorded s.pairs v t ≡ false
    first = not_before s (ended_before s.log) t (lawful-Standing graph s h) (end-first graph s t a)

    none : (ns : List ℕ) → is_empty ns ≡ true → is_in n ns ≡ true → ⊥
    none [] e k = true≢false (sym k)
    none (y ∷ ys) e k = true≢false (sym e)

    -- the one that ends has nothing open
    apart : (v : ℕ) → opens s v n ≡ true → (v == t) ≡ false
    apart v o = false_from_ne_true _ (λ e. none (call s t).open_nodes (end-closed graph s t a) (subst (λ (j : ℕ). opens s j n ≡ true) (eqb-true v t e) o))

    go : ((u == t) ≡ true) ⊎ ((u == t) ≡ false) → IsPreceded q u n
    go (inl e) = absurd (true≢false (sym (subst (λ (v : ℕ). wants q v n ≡ true) (eqb-true u t e) w) ∙ ap (λ (o : Option LiveCall). is_in n (call_or o).wanted) (without_call-same t s.calls)))
    go (inr e) =
        let k = without_call-other t u s.calls (λ y. both_ways _ e (eq-eqb u t y)) in
        kept-preceded graph s h q u n (sym (ap (λ (o : Option LiveCall). (call_or o).executing) k) ∙ x) (sym (ap (λ (o : Option LiveCall). is_in n (call_or o).wanted) k) ∙ w)
        (λ v r o. (
          reaches-retire s.pairs t v u first ∙ and_from (not (v == t)) (reaches s.pairs v u) (ap not (apart v o)) r,
          ap (λ (c : Option LiveCall). is_in n (call_or c).open_nodes) (without_call-other t v s.calls (λ y. both_ways _ (apart v o) (eq-eqb v t y))) ∙ o,
        ))

step-preceded : (graph : Graph) (s : Core) (step : Step) → IsLawful graph s → allowed graph s step ≡ true → (u n : ℕ) → executes (apply graph s step) u ≡ true → wants (apply graph s step) u n ≡ true → IsPreceded (apply graph s step) u n
step-preceded graph s (steps.Frame t m) h a u n x w = framed-preceded graph s h t m a u n x w
step-preceded graph s (steps.Start t) h a u n x w = started-preceded graph s h t a u n x w
step-preceded graph s (steps.Skip t m) h a u n x w = finished-preceded graph s h t m (value_before (entries s m) t) false (picks_before (entries s m) t) (at_front-live graph s t m (can_work-at_front graph s t m (skip-can_work graph s t m a))) (skip-unpressed graph s t m a) u n x w
step-preceded graph s (steps.Gather t m i) h a u n x w = same-preceded graph s h (apply graph s (steps.Gather t m i)) u n (λ v r. r) refl refl (λ v. refl) x w
step-preceded graph s (steps.Evaluate t m) h a u n x w =
    let q = with_cell s m (keep_found (found_now graph s t m)) in
    same-preceded graph s h (apply graph s (steps.Evaluate t m)) u n (λ v r. r) (with_call-keeps (λ c. c.executing) q t counted (λ c. refl) (λ c. refl) u) (with_call-keeps (λ c. is_in n c.wanted) q t counted (λ c. refl) (λ c. refl) u) (λ v. same_opens q t counted (λ c. refl) (λ c. refl) v n) x w
step-preceded graph s (steps.Body t m) h a u n x w = same-preceded graph s h (apply graph s (steps.Body t m)) u n (λ v r. r) refl refl (λ v. refl) x w
step-preceded graph s (steps.Resolve t m) h a u n x w = resolved-preceded graph s h t m a u n x w
step-preceded graph s (steps.Discover t m c) h a u n x w = discovered-preceded graph s h t m c a u n x w
step-preceded graph s (steps.Drop t m o) h a u n x w =
    let lt = at_front-live graph s t m (can_work-at_front graph s t m (due-can_work graph s t m (drop-due graph s t m o a))) in
    same-preceded graph s h (apply graph s (steps.Drop t m o)) u n (λ v r. ensured-reaches s t o v u lt r) (ensured (λ c. c.executing) s t o u) (ensured (λ c. is_in n c.wanted) s t o u) (λ v. ensured (λ c. is_in n c.open_nodes) s t o v) x w
step-preceded graph s (steps.Mark t m) h a u n x w = same-preceded graph s h (apply graph s (steps.Mark t m)) u n (λ v r. entered-reaches s t m v u (executes-live s t (mark-executes graph s t m a)) r) refl refl (λ v. refl) x w
step-preceded graph s (steps.Look t) h a u n x w =
    let f = with_look (look_value s t (next_look s t)) in
    same-preceded graph s h (apply graph s (steps.Look t)) u n (λ v r. r) (with_call-keeps (λ c. c.executing) s t f (λ c. refl) (λ c. refl) u) (with_call-keeps (λ c. is_in n c.wanted) s t f (λ c. refl) (λ c. refl) u) (λ v. same_opens s t f (λ c. refl) (λ c. refl) v n) x w
step-preceded graph s (steps.End t) h a u n x w = ended-preceded graph s h t a u n x w
step-preceded graph s (steps.Collect m) h a u n x w = same-preceded graph s h (apply graph s (steps.Collect m)) u n (λ v r. r) refl refl (λ v. refl) x w

pub step-WantsAreCovered : (graph : Graph) (s : Core) (step : Step) → IsLawful graph s → allowed graph s step ≡ true → WantsAreCovered (apply graph s step)
step-WantsAreCovered graph s step h a u n x w =
    let f = step-WantsAreFree graph s step h a u n w in
    let p = step-preceded graph s step h a u n x w in
    record { not_open = f.not_open; not_done = f.not_done; by = (p.opener, p.before, p.opened) }

-- ---- a beginning

-- A new call wants something only where it frames.
pub begin-WantsAreCovered : (graph : Graph) (s : Core) (caller : ℕ) (c : Call) → IsLawful graph s → can_begin graph s caller c ≡ true → WantsAreCovered (begin graph s caller c)
begin-WantsAreCovered graph s caller c h a u n x w = go (begin-call graph s h caller c u)
  where
    q : Core
    q = begin graph s caller c

    nothing : (ns : List ℕ) → is_empty ns ≡ true → is_in n (put_all ns []) ≡ true → ⊥
    nothing [] e k = true≢false (sym k)
    nothing (y ∷ ys) e k = true≢false (sym e)

    old : (v : ℕ) → opens s v n ≡ true → opens q v n ≡ true
    old v o = cases (begin-call graph s h caller c v)
      where
        cases : ((call_of q.calls v ≡ call_of s.calls v) × ((suc s.begun == v) ≡ false)) ⊎ ((v ≡ suc s.begun) × (call_of q.calls v ≡ Some (new_call graph s caller c))) → opens q v n ≡ true
        cases (inl e) = ap (λ (o : Option LiveCall). is_in n (call_or o).open_nodes) e.0 ∙ o
        cases (inr e) = absurd (both_ways _ (not_begun-live s h.versions_are_fresh) (subst (λ (j : ℕ). live s j ≡ true) e.0 (opens-live s v n o)))

    go : ((call_of q.calls u ≡ call_of s.calls u) × ((suc s.begun == u) ≡ false)) ⊎ ((u ≡ suc s.begun) × (call_of q.calls u ≡ Some (new_call graph s caller c))) → IsCovered q u n
    go (inl e) =
        let f = begin-WantsAreFree graph s caller c h a u n w in
        let p = kept-preceded graph s h q u n (sym (ap (λ (o : Option LiveCall). (call_or o).executing) e.0) ∙ x) (sym (ap (λ (o : Option LiveCall). is_in n (call_or o).wanted) e.0) ∙ w) (λ v r o. (r, old v o)) in
        record { not_open = f.not_open; not_done = f.not_done; by = (p.opener, p.before, p.opened) }
    go (inr e) = absurd (nothing (nodes_set (sets_in graph c)) (sym (ap (λ (o : Option LiveCall). (call_or o).executing) e.1) ∙ x) (sym (ap (λ (o : Option LiveCall). is_in n (call_or o).wanted) e.1) ∙ w))
