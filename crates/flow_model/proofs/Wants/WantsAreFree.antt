-- What a call wants after a step is a node of the graph that it has neither open nor Done.
use Rattle.std.proofs.Common.{◌≡◌, ℕ, zero, suc, ◌+◌, ◌<◌, ◌++◌, map, Bool, true, false, ◌&&◌, ◌||◌, not, ◌==◌, ◌⊎◌, inl, inr, refl, sym, ap, arith, List, [], ◌∷◌, length, true≢false, ◌∙◌, subst, Option, Some, None, slice_index_or}
use Rattle.std.specs.Prelude.{is_some}
use Rattle.std.specs.Prelude.{filter, if◌then◌else◌, nat_lt}
use Rattle.std.specs.List.{AllByRecursion}
use Rattle.std.proofs.lemmas.Bool.Decides.{eqb_tells}
use Rattle.std.proofs.lemmas.Bool.{or_cases, eqb-true, eq-eqb, false_from_ne_true, both_ways, cases_Bool, not-true}
use Rattle.std.proofs.lemmas.List.Folds.{list_any-append}
use Rattle.script_tree.specs.declared.value.Value.{Value}
use Rattle.script_tree.specs.declared.value.Value.TheVariants.{Fault as Faulty}
use Rattle.script_tree.specs.declared.value.Fault.TheVariants.{Kind}
use Rattle.script_tree.proofs.Truths.{and_left, and_right}
use Rattle.signal_graph.specs.declared.node.Node.{Node}
use Rattle.signal_graph.specs.declared.node.Node.TheVariants.{Source}
use Rattle.signal_graph.specs.declared.call.Call.{Call}
use Rattle.signal_graph.specs.Machine.{sets_of, looks_of, names_source, names_node, first_wrong}
use Rattle.signal_graph.specs.Graph.{Graph, number_of, is_in, node_at, numbers, inputs_of, selectors_of, static_outs}
use Rattle.node_versions.specs.declared.entry.State.{State}
use Rattle.node_versions.specs.declared.entry.State.TheVariants.{Mark, Frame, Done}
use Rattle.node_versions.specs.declared.entry.Entry.{Entry}
use Rattle.node_versions.specs.Entries.{OutEdge, has, at, is_mark, is_done, placed, with_state, has_out, active_nodes, is_active, is_frame, behind, front, rest, value_before, picks_before}
use Rattle.node_versions.proofs.Places.{at-has}
use Rattle.flow_model.specs.Machine.State.{Core, LiveCall, Cell, call, cell, live, executes, is_framing, entries, outs, opens, wants, precedes, with_call, with_cell, call_of, call_or}
use Rattle.flow_model.specs.declared.step.Step.{Step}
use Rattle.flow_model.specs.declared.step.Step.TheVariants as steps
use Rattle.flow_model.specs.Machine.Words.{active_outs, at_front, found_now, value_now, found_picks, next_look}
use Rattle.flow_model.specs.Machine.Steps.{allowed, apply, open_node, frame, begin, can_begin, new_call, started, counted, with_look, look_value, keep_found, is_change, nodes_set, sets_in}
use Rattle.flow_model.specs.Machine.Sets.{put, take_out, put_all, without}
use Rattle.flow_model.specs.Machine.Changes.{stops, stops_call, new_entry, place_entry, set_state, enter, raise, opened, ensure_mark, finish, closed, tell, tell_call, is_told, add_edge}
use Rattle.flow_model.specs.Kept.Lawful.{IsLawful, IsFree, WantsAreFree, lists_candidate, ended_before}
use Rattle.flow_model.proofs.OneStep.WhoMayStep.{executes-live, wants-live, frame-wants, at_front-heads, at_front-executes, can_work-at_front, due-can_work, discover-due, skip-can_work, resolve-can_work}
use Rattle.flow_model.proofs.General.Sets.{in-put, in-take_out, in-put_all, in-without}
use Rattle.flow_model.proofs.OneList.StatesAndPlaces.{with_state-at, more-behind_it}
use Rattle.flow_model.proofs.OneList.OneEntryACall.{placed-at_other, placed-at, collected-at}
use Rattle.flow_model.proofs.OneList.CallsAndCells.{with_call-field, with_call-keeps, map_call-keeps, map_call-reads, option_call, without_call-other, without_call-same}
use Rattle.flow_model.proofs.OneList.Entering.{with_cell-cell}
use Rattle.flow_model.proofs.OrderStays.OpenNodesHaveFrames.{cell-there, opened-opens, closed-opens, same_opens, entry-there}
use Rattle.flow_model.proofs.OrderStays.AfterEachStep.{wanted-fresh, lawful-Standing, not_begun-entry}
use Rattle.flow_model.proofs.OneList.ActiveEdges.{raised-place, placed-place}
use Rattle.flow_model.proofs.OneStep.ChangesOfOneList.{ListStep, stays, marks, frames, raises, finishes, collects, same_cell, step-list}
use Rattle.flow_model.proofs.Wants.FramedWith.{IsOpenBefore, heads-opens, open_before-no_done, HasActive, active-edge, edge-open, static-open, opens-frame, before-not_after}
use Rattle.flow_model.proofs.OneList.InOrder.{front-has}
use Rattle.flow_model.proofs.OrderStays.NoFrameBeforeDones.{executing-part}
use Rattle.flow_model.proofs.OneStep.SameCallers.{ensured}
use Rattle.flow_model.proofs.OneStep.BegunCalls.{begin-call, begin-well_named}

-- ---- the nodes of a graph

input-node : (graph : Graph) (m n : ℕ) → is_in m (inputs_of (node_at graph n)) ≡ true → n < length graph.nodes
input-node graph m n h = go graph.nodes n h
  where
    go : (nodes : List Node) (n : ℕ) → is_in m (inputs_of (slice_index_or nodes n (Source (Faulty Kind)))) ≡ true → n < length nodes
    go [] n k = absurd (true≢false (sym k))
    go (x ∷ xs) zero k = omega arith
    go (x ∷ xs) (suc n) k = let r = go xs n k in omega (arith, r)

pub candidate-node : (graph : Graph) (m n : ℕ) → lists_candidate m (selectors_of (node_at graph n)) ≡ true → n < length graph.nodes
candidate-node graph m n h = go graph.nodes n h
  where
    go : (nodes : List Node) (n : ℕ) → lists_candidate m (selectors_of (slice_index_or nodes n (Source (Faulty Kind)))) ≡ true → n < length nodes
    go [] n k = absurd (true≢false (sym k))
    go (x ∷ xs) zero k = omega arith
    go (x ∷ xs) (suc n) k = let r = go xs n k in omega (arith, r)

pub filtered-passes : (test : ℕ → Bool) (ns : List ℕ) (n : ℕ) → is_in n (filter test ns) ≡ true → test n ≡ true
filtered-passes test [] n h = absurd (true≢false (sym h))
filtered-passes test (x ∷ xs) n h = go (test x) refl h (filtered-passes test xs n)
  where
    go : (b : Bool) → test x ≡ b → is_in n (if b then x ∷ filter test xs else filter test xs) ≡ true → (is_in n (filter test xs) ≡ true → test n ≡ true) → test n ≡ true
    go false e k further = further k
    go true e k further = cases (or_cases _ _ k)
      where
        cases : ((x == n) ≡ true) ⊎ (is_in n (filter test xs) ≡ true) → test n ≡ true
        cases (inl w) = subst (λ (j : ℕ). test j ≡ true) (eqb-true x n w) e
        cases (inr w) = further w

static-node : (graph : Graph) (m n : ℕ) → is_in n (static_outs graph m) ≡ true → n < length graph.nodes
static-node graph m n h = input-node graph m n (filtered-passes (λ k. is_in m (inputs_of (node_at graph k))) (numbers graph) n h)

-- ---- no new Dones where nothing is open

placed-no_done : (s : Core) (n u t : ℕ) (x : State) → has (entries s n) t ≡ false → is_done x ≡ false → at is_done (entries s n) u ≡ false → at is_done (placed (stops s t) (new_entry s t x) (entries s n)) u ≡ false
placed-no_done s n u t x fresh no_done none = go (cases_Bool (u == t))
  where
    go : ((u == t) ≡ true) ⊎ ((u == t) ≡ false) → at is_done (placed (stops s t) (new_entry s t x) (entries s n)) u ≡ false
    go (inl k) = subst (λ (v : ℕ). at is_done (placed (stops s t) (new_entry s t x) (entries s n)) v ≡ false) (sym (eqb-true u t k)) (placed-at is_done (stops_call s t) (new_entry s t x) (entries s n) fresh ∙ no_done)
    go (inr k) = placed-at_other is_done (stops_call s t) (new_entry s t x) (entries s n) u (λ w. both_ways _ k (eq-eqb u t w)) ∙ none

-- A node that is not open for the call gets no Done of it.
pub list-no_done : (graph : Graph) (s : Core) → IsLawful graph s → (n u : ℕ) → opens s u n ≡ false → at is_done (entries s n) u ≡ false → (es : List Entry) → ListStep graph s n es → at is_done es u ≡ false
list-no_done graph s h n u closed none es (stays e) = subst (λ (xs : List Entry). at is_done xs u ≡ false) (sym e) none
list-no_done graph s h n u closed none es (marks t x fresh r e) = subst (λ (xs : List Entry). at is_done xs u ≡ false) (sym e) (placed-no_done s n u t Mark fresh refl none)
list-no_done graph s h n u closed none es (frames t w fresh r e) = subst (λ (xs : List Entry). at is_done xs u ≡ false) (sym e) (placed-no_done s n u t Frame fresh refl none)
list-no_done graph s h n u closed none es (raises t w m e) = subst (λ (xs : List Entry). at is_done xs u ≡ false) (sym e) (let k = with_state-at is_done t Frame (entries s n) u in grind (arith, k, none))
list-no_done graph s h n u closed none es (finishes t v c ps f e) = subst (λ (xs : List Entry). at is_done xs u ≡ false) (sym e) (go (cases_Bool (u == t)) (with_state-at is_done t (Done v c ps) (entries s n) u))
  where
    go : ((u == t) ≡ true) ⊎ ((u == t) ≡ false) → at is_done (with_state t (Done v c ps) (entries s n)) u ≡ elim (u == t) as (λ _. Bool) [ true ↦ has (entries s n) t && true | false ↦ at is_done (entries s n) u ] → at is_done (with_state t (Done v c ps) (entries s n)) u ≡ false
    go (inl k) w = absurd (both_ways _ closed (subst (λ (z : ℕ). opens s z n ≡ true) (sym (eqb-true u t k)) (heads-opens graph s h t n (at_front-heads graph s t n f))))
    go (inr k) w = grind (arith, k, w, none)
list-no_done graph s h n u closed none es (collects e) = subst (λ (xs : List Entry). at is_done xs u ≡ false) (sym e) (false_from_ne_true _ (λ d. both_ways _ none (collected-at is_done (λ v. not (live s v)) (entries s n) u (h.one_entry n) d)))

-- ---- framing a node

-- What a call comes to want as a node is open for it: what is framed with it and not open, and what it wanted but for the node.
pub opened-wants : (q : Core) (t m : ℕ) (xs : List ℕ) (u n : ℕ) → live q t ≡ true → wants (with_call q t (opened m xs)) u n ≡ elim (u == t) as (λ _. Bool) [
  | true ↦ (is_in n xs && not ((n == m) || opens q t n)) || (wants q t n && not (n == m))
  | false ↦ wants q u n
]
opened-wants q t m xs u n lt =
    let r = with_call-field (λ c. is_in n c.wanted) q t (opened m xs) (λ c. refl) u lt in
    let a = in-put_all n (without xs (put m (call q t).open_nodes)) (take_out m (call q t).wanted) in
    let b = in-without n xs (put m (call q t).open_nodes) in
    let c = in-put n m (call q t).open_nodes in
    let d = in-take_out n m (call q t).wanted in
    grind (arith, r, a, b, c, d)

-- A call wants a node after a step: before it the call had the node neither open nor Done, and the step doesn't open it.
pub record IsWanting (graph : Graph) (s q : Core) (u n : ℕ) : Type 0 where
  pub free : IsFree graph s u n
  pub opened : opens q u n ≡ true → opens s u n ≡ true

pub new_or_old : (x e o w : Bool) → ((x && not (e || o)) || (w && not e)) ≡ true → (e ≡ false) × (((x ≡ true) × (o ≡ false)) ⊎ (w ≡ true))
new_or_old true false false w h = (refl, inl (refl, refl))
new_or_old true false true w h = (refl, inr (grind arith))
new_or_old true true o w h = absurd (true≢false (let z : false ≡ true = grind (arith, h) in sym z))
new_or_old false false o w h = (refl, inr (grind arith))
new_or_old false true o w h = absurd (true≢false (let z : false ≡ true = grind (arith, h) in sym z))

not_opened : (a p x y : Bool) → a ≡ (p || (x && y)) → (x && y) ≡ false → a ≡ true → p ≡ true
not_opened a p x y h e k = grind (arith, h, e, k)

opened-wanting : (graph : Graph) (s : Core) → IsLawful graph s → (q : Core) (t m : ℕ) → ((u n : ℕ) → wants q u n ≡ wants s u n) → ((u n : ℕ) → opens q u n ≡ opens s u n) → live q t ≡ true
    → ((n : ℕ) → is_in n (active_outs graph q t m) ≡ true → opens s t n ≡ false → IsFree graph s t n) → (u n : ℕ) → wants (open_node graph q t m) u n ≡ true → IsWanting graph s (open_node graph q t m) u n
opened-wanting graph s h q t m ws os lt free u n w = go (cases_Bool (u == t)) (opened-wants q t m (active_outs graph q t m) u n lt)
  where
    after : Core
    after = open_node graph q t m

    unopened : (u : ℕ) → ((u == t) && (n == m)) ≡ false → opens after u n ≡ true → opens s u n ≡ true
    unopened u e o = sym (os u n) ∙ not_opened (opens after u n) (opens q u n) (u == t) (n == m) (opened-opens q t m (active_outs graph q t m) u n lt) e o

    old : (u : ℕ) → wants q u n ≡ true → IsFree graph s u n
    old u k = h.wants_are_free u n (sym (ws u n) ∙ k)

    mine : wants after t n ≡ true → ((n == m) ≡ false) × (((is_in n (active_outs graph q t m) ≡ true) × (opens q t n ≡ false)) ⊎ (wants q t n ≡ true)) → IsWanting graph s after t n
    mine k (ne, inl (x, o)) = record { free = free n x (sym (os t n) ∙ o); opened = unopened t (grind (arith, ne)) }
    mine k (ne, inr x) = record { free = old t x; opened = unopened t (grind (arith, ne)) }

    go : ((u == t) ≡ true) ⊎ ((u == t) ≡ false) → wants after u n ≡ elim (u == t) as (λ _. Bool) [
      | true ↦ (is_in n (active_outs graph q t m) && not ((n == m) || opens q t n)) || (wants q t n && not (n == m))
      | false ↦ wants q u n
    ] → IsWanting graph s after u n
    go (inr e) k = let j : wants q u n ≡ true = grind (arith, k, e, w) in record { free = old u j; opened = unopened u (grind (arith, e)) }
    go (inl e) k =
        let j : ((is_in n (active_outs graph q t m) && not ((n == m) || opens q t n)) || (wants q t n && not (n == m))) ≡ true = grind (arith, k, e, w) in
        let z = eqb-true u t e in
        subst (λ (v : ℕ). IsWanting graph s after v n) (sym z) (mine (subst (λ (v : ℕ). wants after v n ≡ true) z w) (new_or_old (is_in n (active_outs graph q t m)) (n == m) (opens q t n) (wants q t n) j))

-- What is framed with a node that the call wants is free for it.
framed-free : (graph : Graph) (s : Core) → IsLawful graph s → (t m : ℕ) → wants s t m ≡ true → (q : Core) → outs q m ≡ outs s m
    → ((u : ℕ) → is_active (entries q m) u t ≡ true → has (entries s m) u ≡ true → (t == u) ≡ false → precedes s t u ≡ false)
    → (n : ℕ) → is_in n (active_outs graph q t m) ≡ true → opens s t n ≡ false → IsFree graph s t n
framed-free graph s h t m w q same place n k closed = go (or_cases _ _ (sym (list_any-append (λ x. x == n) (static_outs graph m) (active_nodes (entries q m) (outs q m) t)) ∙ k))
  where
    -- a framing call has no Dones; before an executing one another call has the node open
    not_done : (executes s t ≡ true → IsOpenBefore s t n) → at is_done (entries s n) t ≡ false
    not_done f = cases (cases_Bool (executes s t))
      where
        cases : (executes s t ≡ true) ⊎ (executes s t ≡ false) → at is_done (entries s n) t ≡ false
        cases (inl x) = open_before-no_done graph s h t n (f x)
        cases (inr x) = h.framing_comes_last.no_done t n (let l = wants-live s t m w in let z : is_framing s t ≡ true = grind (arith, x, l) in z)

    edge : HasActive (entries q m) (outs q m) t n → IsFree graph s t n
    edge e =
        let stands : has_out (outs s m) n e.since ≡ true = subst (λ (os : List OutEdge). has_out os n e.since ≡ true) same e.stands in
        record {
          node = candidate-node graph m n (h.edges_fit.candidate n m e.since stands);
          not_open = closed;
          not_done = not_done (λ x. let c = h.wants_are_covered t m x w in edge-open graph s h t c.by.0 m n e.since x c.by.1 c.by.2 closed stands (place e.since e.active));
        }

    go : (is_in n (static_outs graph m) ≡ true) ⊎ (is_in n (active_nodes (entries q m) (outs q m) t) ≡ true) → IsFree graph s t n
    go (inl x) = record {
      node = static-node graph m n x;
      not_open = closed;
      not_done = not_done (λ y. let c = h.wants_are_covered t m y w in static-open graph s h t c.by.0 m n y c.by.1 c.by.2 x);
    }
    go (inr x) = edge (active-edge (entries q m) (outs q m) t n x)

framed-wanting : (graph : Graph) (s : Core) → IsLawful graph s → (t m : ℕ) → allowed graph s (steps.Frame t m) ≡ true → (u n : ℕ) → wants (frame graph s t m) u n ≡ true → IsWanting graph s (frame graph s t m) u n
framed-wanting graph s h t m a u n = go (at is_mark (entries s m) t) refl
  where
    wanted : wants s t m ≡ true
    wanted = frame-wants graph s t m a

    lt : live s t ≡ true
    lt = wants-live s t m wanted

    there : m < length s.cells
    there = let e = h.lists in let f = (h.wants_are_free t m wanted).node in omega (arith, e, f)

    go : (b : Bool) → at is_mark (entries s m) t ≡ b → wants (elim b [ true ↦ open_node graph (raise s t m) t m | false ↦ open_node graph (enter s t m Frame) t m ]) u n ≡ true
        → IsWanting graph s (elim b [ true ↦ open_node graph (raise s t m) t m | false ↦ open_node graph (enter s t m Frame) t m ]) u n
    go true e = opened-wanting graph s h (raise s t m) t m (λ u n. refl) (λ u n. refl) lt (framed-free graph s h t m wanted (raise s t m) (ap (λ (c : Cell). c.outs) (cell-there s m (set_state t Frame) there))
        (λ u x hu ne. raised-place graph s h t m u lt (at-has is_mark (entries s m) t e) (subst (λ (es : List Entry). is_active es u t ≡ true) (ap (λ (c : Cell). c.entries) (cell-there s m (set_state t Frame) there)) x) hu ne)) u n
    go false e = opened-wanting graph s h (enter s t m Frame) t m (λ u n. refl) (λ u n. refl) lt (framed-free graph s h t m wanted (enter s t m Frame) (ap (λ (c : Cell). c.outs) (cell-there s m (place_entry s t Frame) there))
        (λ u x hu ne. placed-place s t m u (wanted-fresh graph s h t m wanted e) (subst (λ (es : List Entry). is_active es u t ≡ true) (ap (λ (c : Cell). c.entries) (cell-there s m (place_entry s t Frame) there)) x) hu ne)) u n

-- ---- telling

pub told-wants : (b : Bool) (m n : ℕ) (xs : List ℕ) → is_in m (elim b as (λ _. List ℕ) [ true ↦ put n xs | false ↦ xs ]) ≡ (is_in m xs || ((m == n) && b))
told-wants true m n xs = let p = in-put m n xs in grind (arith, p)
told-wants false m n xs = grind arith

pub call_of-version : (cs : List LiveCall) (u : ℕ) (c : LiveCall) → call_of cs u ≡ Some c → c.version ≡ u
call_of-version [] u c h = cc
call_of-version (x ∷ xs) u c h = let r = call_of-version xs u c in grind (arith, eqb_tells, r)

-- A call that wants a node after telling wanted it before, or was told of it.
pub record IsTold (s : Core) (es : List Entry) (t n u m : ℕ) : Type 0 where
  pub it : m ≡ n
  pub stands : behind es t u ≡ true
  pub closed : opens s u n ≡ false
  pub lives : live s u ≡ true

pub tell-wants : (s : Core) (c t n u m : ℕ) → wants (tell s t n c) u m ≡ true → (wants s u m ≡ true) ⊎ IsTold s (entries s c) t n u m
tell-wants s c t n u m h = go (call_of s.calls u) refl (sym (ap (λ (o : Option LiveCall). is_in m (call_or o).wanted) (map_call-reads (tell_call (entries s c) t n) (λ x. refl) s.calls u)) ∙ h)
  where
    go : (o : Option LiveCall) → call_of s.calls u ≡ o → is_in m (call_or (option_call (tell_call (entries s c) t n) o)).wanted ≡ true → (wants s u m ≡ true) ⊎ IsTold s (entries s c) t n u m
    go None e k = absurd (true≢false (sym k))
    go (Some x) e k = cases (or_cases _ _ (sym (told-wants (is_told (entries s c) t n x) m n x.wanted) ∙ k))
      where
        cases : (is_in m x.wanted ≡ true) ⊎ (((m == n) && is_told (entries s c) t n x) ≡ true) → (wants s u m ≡ true) ⊎ IsTold s (entries s c) t n u m
        cases (inl w) = inl (ap (λ (o : Option LiveCall). is_in m (call_or o).wanted) e ∙ w)
        cases (inr w) =
            let told = and_right _ _ w in
            let closed : opens s u n ≡ false = ap (λ (o : Option LiveCall). is_in n (call_or o).open_nodes) e ∙ not-true _ (and_right _ _ told) in
            inr (record {
              it = eqb-true m n (and_left _ _ w);
              stands = subst (λ (v : ℕ). behind (entries s c) t v ≡ true) (call_of-version s.calls u x e) (and_left _ _ (and_left _ _ told));
              closed = closed;
              lives = ap is_some e;
            })

-- A call whose entry stands behind another's that has just entered the list, or stood there, is not before it.
behind-not_before : (graph : Graph) (s : Core) → IsLawful graph s → (t c u : ℕ) → executes s t ≡ true → live s u ≡ true → behind (entries (ensure_mark s t c) c) t u ≡ true → precedes s u t ≡ false
behind-not_before graph s h t c u xt lu b = go (has (entries s c) t) refl b
  where
    lt : live s t ≡ true
    lt = executes-live s t xt

    stood : behind (entries s c) t u ≡ true → precedes s u t ≡ false
    stood k = before-not_after graph s h t u (h.order_is_kept.lists c t u k lu)

    entered : has (entries s c) t ≡ false → behind (placed (stops s t) (new_entry s t Mark) (entries s c)) t u ≡ true → precedes s u t ≡ false
    entered fresh k = false_from_ne_true _ (λ p.
        let xs = front (stops s t) (entries s c) in
        let ys = rest (stops s t) (entries s c) in
        let none : has xs t ≡ false = false_from_ne_true _ (λ j. both_ways _ fresh (front-has (stops_call s t) (entries s c) t j)) in
        let r : has ys u ≡ true = sym (more-behind_it xs ys (new_entry s t Mark) u none) ∙ k in
        (executing-part s (ended_before s.log) (lawful-Standing graph s h) t c u lt lu xt p u r).other refl)

    go : (b : Bool) → has (entries s c) t ≡ b → behind (entries (elim b as (λ _. Core) [ true ↦ s | false ↦ enter s t c Mark ]) c) t u ≡ true → precedes s u t ≡ false
    go true e k = stood k
    go false e k = cases (with_cell-cell s c (place_entry s t Mark) c)
      where
        cases : (cell (enter s t c Mark) c ≡ cell s c) ⊎ ((c ≡ c) × (cell (enter s t c Mark) c ≡ place_entry s t Mark (cell s c))) → precedes s u t ≡ false
        cases (inl j) = stood (subst (λ (x : Cell). behind x.entries t u ≡ true) j k)
        cases (inr j) = entered e (subst (λ (x : Cell). behind x.entries t u ≡ true) j.1 k)

pub ensured-live : (s : Core) (t c u : ℕ) → live (ensure_mark s t c) u ≡ live s u
ensured-live s t c u = go (has (entries s c) t)
  where
    go : (b : Bool) → live (elim b as (λ _. Core) [ true ↦ s | false ↦ enter s t c Mark ]) u ≡ live s u
    go true = refl
    go false = refl

discovered-wanting : (graph : Graph) (s : Core) → IsLawful graph s → (t m c : ℕ) → allowed graph s (steps.Discover t m c) ≡ true → (u n : ℕ) → wants (apply graph s (steps.Discover t m c)) u n ≡ true → IsWanting graph s (apply graph s (steps.Discover t m c)) u n
discovered-wanting graph s h t m c a u n w = record { free = go (tell-wants q c t m u n w); opened = λ o. sym (opens-same n) ∙ o }
  where
    q : Core
    q = with_cell (ensure_mark s t c) c (add_edge m t)

    front_it : at_front graph s t m ≡ true
    front_it = can_work-at_front graph s t m (due-can_work graph s t m (discover-due graph s t m c a))

    opens-mid : (k : ℕ) → opens q u k ≡ opens s u k
    opens-mid k = ensured (λ x. is_in k x.open_nodes) s t c u

    opens-same : (k : ℕ) → opens (apply graph s (steps.Discover t m c)) u k ≡ opens s u k
    opens-same k = map_call-keeps (λ x. is_in k x.open_nodes) q (tell_call (entries q c) t m) (λ x. refl) (λ x. refl) u ∙ opens-mid k

    lists-same : entries q c ≡ entries (ensure_mark s t c) c
    lists-same = same_cell graph (ensure_mark s t c) c (add_edge m t) (λ x. refl) c

    ot : opens s t m ≡ true
    ot = heads-opens graph s h t m (at_front-heads graph s t m front_it)

    told : IsTold q (entries q c) t m u n → IsFree graph s u m
    told k =
        let lu : live s u ≡ true = sym (ensured-live s t c u) ∙ k.lives in
        let closed : opens s u m ≡ false = sym (opens-mid m) ∙ k.closed in
        record {
          node = let l = entry-there s m t (at-has is_frame (entries s m) t (opens-frame graph s h t m ot)) in subst (λ (x : ℕ). m < x) h.lists l;
          not_open = closed;
          not_done = open_before-no_done graph s h u m (record {
            opener = t;
            opened = ot;
            not_after = behind-not_before graph s h t c u (at_front-executes graph s t m front_it) lu (subst (λ (es : List Entry). behind es t u ≡ true) lists-same k.stands);
            other = false_from_ne_true _ (λ x. both_ways _ closed (subst (λ (v : ℕ). opens s v m ≡ true) (sym (eqb-true u t x)) ot));
          });
        }

    go : (wants q u n ≡ true) ⊎ IsTold q (entries q c) t m u n → IsFree graph s u n
    go (inl k) = h.wants_are_free u n (sym (ensured (λ x. is_in n x.wanted) s t c u) ∙ k)
    go (inr k) = subst (IsFree graph s u) (sym k.it) (told k)

-- ---- the other steps

-- the same sets of wanted and open nodes
kept-wanting : (graph : Graph) (s : Core) → IsLawful graph s → (q : Core) (u n : ℕ) → wants q u n ≡ wants s u n → opens q u n ≡ opens s u n → wants q u n ≡ true → IsWanting graph s q u n
kept-wanting graph s h q u n ws os w = record { free = h.wants_are_free u n (sym ws ∙ w); opened = λ o. sym os ∙ o }

-- a node less is open
finished-wanting : (graph : Graph) (s : Core) → IsLawful graph s → (t m : ℕ) (v : Value) (b : Bool) (ps : List (Option ℕ)) → live s t ≡ true → (u n : ℕ) → wants (finish s t m v b ps) u n ≡ true → IsWanting graph s (finish s t m v b ps) u n
finished-wanting graph s h t m v b ps lt u n w = record {
  free = h.wants_are_free u n (sym (with_call-keeps (λ x. is_in n x.wanted) (with_cell s m (set_state t (Done v b ps))) t (closed m b) (λ x. refl) (λ x. refl) u) ∙ w);
  opened = λ o. let k = closed-opens (with_cell s m (set_state t (Done v b ps))) t m b u n lt in still (opens (finish s t m v b ps) u n) (opens s u n) ((u == t) && (n == m)) k o;
}
  where
    still : (a p x : Bool) → a ≡ (p && not x) → a ≡ true → p ≡ true
    still a p x h k = grind (arith, h, k)

pub at_front-live : (graph : Graph) (s : Core) (t n : ℕ) → at_front graph s t n ≡ true → live s t ≡ true
at_front-live graph s t n f = executes-live s t (at_front-executes graph s t n f)

-- a call that ends wants nothing
ended-wanting : (graph : Graph) (s : Core) → IsLawful graph s → (t u n : ℕ) → wants (apply graph s (steps.End t)) u n ≡ true → IsWanting graph s (apply graph s (steps.End t)) u n
ended-wanting graph s h t u n w = go (cases_Bool (u == t))
  where
    go : ((u == t) ≡ true) ⊎ ((u == t) ≡ false) → IsWanting graph s (apply graph s (steps.End t)) u n
    go (inl e) = absurd (true≢false (sym (subst (λ (v : ℕ). wants (apply graph s (steps.End t)) v n ≡ true) (eqb-true u t e) w) ∙ ap (λ (o : Option LiveCall). is_in n (call_or o).wanted) (without_call-same t s.calls)))
    go (inr e) =
        let k = without_call-other t u s.calls (λ x. both_ways _ e (eq-eqb u t x)) in
        kept-wanting graph s h (apply graph s (steps.End t)) u n (ap (λ (o : Option LiveCall). is_in n (call_or o).wanted) k) (ap (λ (o : Option LiveCall). is_in n (call_or o).open_nodes) k) w

step-wanting : (graph : Graph) (s : Core) (step : Step) → IsLawful graph s → allowed graph s step ≡ true → (u n : ℕ) → wants (apply graph s step) u n ≡ true → IsWanting graph s (apply graph s step) u n
step-wanting graph s (steps.Frame t m) h a u n w = framed-wanting graph s h t m a u n w
step-wanting graph s (steps.Start t) h a u n w = kept-wanting graph s h (apply graph s (steps.Start t)) u n (with_call-keeps (λ x. is_in n x.wanted) s t started (λ x. refl) (λ x. refl) u) (same_opens s t started (λ x. refl) (λ x. refl) u n) w
step-wanting graph s (steps.Skip t m) h a u n w = finished-wanting graph s h t m (value_before (entries s m) t) false (picks_before (entries s m) t) (at_front-live graph s t m (can_work-at_front graph s t m (skip-can_work graph s t m a))) u n w
step-wanting graph s (steps.Gather t m i) h a u n w = kept-wanting graph s h (apply graph s (steps.Gather t m i)) u n refl refl w
step-wanting graph s (steps.Evaluate t m) h a u n w =
    let q = with_cell s m (keep_found (found_now graph s t m)) in
    kept-wanting graph s h (apply graph s (steps.Evaluate t m)) u n (with_call-keeps (λ x. is_in n x.wanted) q t counted (λ x. refl) (λ x. refl) u) (same_opens q t counted (λ x. refl) (λ x. refl) u n) w
step-wanting graph s (steps.Body t m) h a u n w = kept-wanting graph s h (apply graph s (steps.Body t m)) u n refl refl w
step-wanting graph s (steps.Resolve t m) h a u n w =
    let r = finished-wanting graph s h t m (value_now graph s t m) (is_change graph s t m) (found_picks s m) (at_front-live graph s t m (can_work-at_front graph s t m (resolve-can_work graph s t m a))) u n w in
    record { free = r.free; opened = r.opened }
step-wanting graph s (steps.Discover t m c) h a u n w = discovered-wanting graph s h t m c a u n w
step-wanting graph s (steps.Drop t m o) h a u n w = kept-wanting graph s h (apply graph s (steps.Drop t m o)) u n (ensured (λ x. is_in n x.wanted) s t o u) (ensured (λ x. is_in n x.open_nodes) s t o u) w
step-wanting graph s (steps.Mark t m) h a u n w = kept-wanting graph s h (apply graph s (steps.Mark t m)) u n refl refl w
step-wanting graph s (steps.Look t) h a u n w =
    let f = with_look (look_value s t (next_look s t)) in
    kept-wanting graph s h (apply graph s (steps.Look t)) u n (with_call-keeps (λ x. is_in n x.wanted) s t f (λ x. refl) (λ x. refl) u) (same_opens s t f (λ x. refl) (λ x. refl) u n) w
step-wanting graph s (steps.End t) h a u n w = ended-wanting graph s h t u n w
step-wanting graph s (steps.Collect m) h a u n w = kept-wanting graph s h (apply graph s (steps.Collect m)) u n refl refl w

pub step-WantsAreFree : (graph : Graph) (s : Core) (step : Step) → IsLawful graph s → allowed graph s step ≡ true → WantsAreFree graph (apply graph s step)
step-WantsAreFree graph s step h a u n w =
    let k = step-wanting graph s step h a u n w in
    record {
      node = k.free.node;
      not_open = false_from_ne_true _ (λ o. both_ways _ k.free.not_open (k.opened o));
      not_done = list-no_done graph s h n u k.free.not_open k.free.not_done (entries (apply graph s step) n) (step-list graph s step h a n);
    }

-- ---- a beginning

-- where no name is wrong, each set names a source
pub all-right : (k : ℕ) (xs ys : List Bool) → first_wrong k (xs ++ ys) ≡ None → AllByRecursion (λ x. x ≡ true) xs
all-right k [] ys h = tt
all-right k (true ∷ xs) ys h = (refl, all-right (k + 1) xs ys h)
all-right k (false ∷ xs) ys h = cc

pub named-nodes : (graph : Graph) (sets : List (List ℕ × Value)) → AllByRecursion (λ x. x ≡ true) (map (λ (set : List ℕ × Value). names_source graph set.0) sets) → (n : ℕ)
    → is_in n (nodes_set (map (λ (set : List ℕ × Value). (number_of graph set.0, set.1)) sets)) ≡ true → n < length graph.nodes
named-nodes graph [] a n h = absurd (true≢false (sym h))
named-nodes graph (set ∷ sets) a n h = go (or_cases _ _ h) (named-nodes graph sets a.1 n)
  where
    below : (x y : ℕ) → nat_lt x y ≡ true → x < y
    below x y k = grind arith

    go : ((number_of graph set.0 == n) ≡ true) ⊎ (is_in n (nodes_set (map (λ (set : List ℕ × Value). (number_of graph set.0, set.1)) sets)) ≡ true)
        → (is_in n (nodes_set (map (λ (set : List ℕ × Value). (number_of graph set.0, set.1)) sets)) ≡ true → n < length graph.nodes) → n < length graph.nodes
    go (inl e) further = subst (λ (k : ℕ). k < length graph.nodes) (eqb-true (number_of graph set.0) n e) (below (number_of graph set.0) (length graph.nodes) (and_left _ _ a.0))
    go (inr e) further = further e

pub begin-WantsAreFree : (graph : Graph) (s : Core) (caller : ℕ) (c : Call) → IsLawful graph s → can_begin graph s caller c ≡ true → WantsAreFree graph (begin graph s caller c)
begin-WantsAreFree graph s caller c h a u n w = go (begin-call graph s h caller c u)
  where
    q : Core
    q = begin graph s caller c

    go : ((call_of q.calls u ≡ call_of s.calls u) × ((suc s.begun == u) ≡ false)) ⊎ ((u ≡ suc s.begun) × (call_of q.calls u ≡ Some (new_call graph s caller c))) → IsFree graph q u n
    go (inl e) =
        let f = h.wants_are_free u n (sym (ap (λ (o : Option LiveCall). is_in n (call_or o).wanted) e.0) ∙ w) in
        record { node = f.node; not_open = ap (λ (o : Option LiveCall). is_in n (call_or o).open_nodes) e.0 ∙ f.not_open; not_done = f.not_done }
    go (inr e) =
        let k : is_in n (put_all (nodes_set (sets_in graph c)) []) ≡ true = sym (ap (λ (o : Option LiveCall). is_in n (call_or o).wanted) e.1) ∙ w in
        let p = in-put_all n (nodes_set (sets_in graph c)) [] in
        let set : is_in n (nodes_set (sets_in graph c)) ≡ true = grind (arith, k, p) in
        record {
          node = named-nodes graph (sets_of c) (all-right 1 (map (λ (set : List ℕ × Value). names_source graph set.0) (sets_of c)) (map (names_node graph) (looks_of c)) (begin-well_named graph s caller c a)) n set;
          not_open = ap (λ (o : Option LiveCall). is_in n (call_or o).open_nodes) e.1;
          not_done = subst (λ (v : ℕ). at is_done (entries s n) v ≡ false) (sym e.0) (false_from_ne_true _ (λ d. both_ways _ (not_begun-entry graph s h n) (at-has is_done (entries s n) (suc s.begun) d)));
        }
