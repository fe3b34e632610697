-- Each step takes one at least from the worth of a state: what lists and live calls are worth, less the work done at nodes.
use Rattle.std.proofs.Common.{◌≡◌, ℕ, zero, suc, ◌+◌, ◌≤◌, ◌<◌, Bool, true, false, ◌&&◌, ◌||◌, not, ◌==◌, ◌⊎◌, inl, inr, refl, sym, ap, arith, List, [], ◌∷◌, ◌++◌, length, map, true≢false, ◌∙◌, subst, Option, Some, None}
use Rattle.std.specs.Prelude.{nat_lt, slice_get}
use Rattle.std.specs.List.{list_any, AllByRecursion}
use Rattle.std.proofs.lemmas.List.Folds.{list_any-append}
use Rattle.std.proofs.lemmas.Bool.{or_cases, or_left, or_right, eqb-true, eq-eqb, cases_Bool}
use Rattle.script_tree.specs.declared.value.Value.{Value}
use Rattle.script_tree.proofs.Truths.{and_left, and_right}
use Rattle.signal_graph.specs.Graph.{Graph, IsGraph, node_at, number_of, numbers, is_in, inputs_of}
use Rattle.signal_graph.specs.Machine.{names_node, names_source, first_wrong, sets_of, looks_of}
use Rattle.node_versions.specs.declared.entry.State.TheVariants.{Mark, Frame, Done}
use Rattle.node_versions.specs.declared.entry.Entry.{Entry}
use Rattle.node_versions.specs.Entries.{has, at, is_mark, with_state, collected, value_before, picks_before}
use Rattle.flow_model.specs.declared.step.Step.{Step}
use Rattle.flow_model.specs.declared.step.Step.TheVariants as steps
use Rattle.flow_model.specs.Machine.State.{Core, Cell, call, ended, wants, entries}
use Rattle.flow_model.specs.Machine.Words.{deps, prior_picks, is_prior, is_candidate, is_gathered, due, at_front, is_idle, is_some_of, next_look, value_now, found_picks}
use Rattle.flow_model.specs.Machine.Changes.{place_entry, set_state, enter, raise, finish, cleared}
use Rattle.flow_model.specs.Machine.Steps.{allowed, apply, open_node, frame, asks_for, is_change, collect}
use Rattle.flow_model.proofs.Lengths.FewInputs.{HasFewInputs}
use Rattle.flow_model.specs.Kept.Lawful.{IsLawful}
use Rattle.flow_model.proofs.OneStep.WhoMayStep.{executes-live, frame-wants, skip-can_work, resolve-can_work, can_work-at_front, at_front-heads, due-can_work, mark-executes, mark-no_entry, idle-executes, gather-due, evaluate-at_front, body-at_front, discover-due, drop-due}
use Rattle.flow_model.proofs.OrderStays.AfterEachStep.{wanted-fresh}
use Rattle.flow_model.proofs.OneStep.ChangesOfOneList.{marks, frames, raises, same_cell, step-list}
use Rattle.flow_model.proofs.OrderStays.OpenNodesHaveFrames.{cell-there, entry-there}
use Rattle.flow_model.proofs.Wants.EarlierNodes.{dep-earlier}
use Rattle.flow_model.proofs.Histories.FoundUntilDone.{heads-entry}
use Rattle.flow_model.proofs.General.Sums.{total, total-le_in, total-falls, total-add, up_to, in-up_to}
use Rattle.flow_model.proofs.Lengths.ListWorth.{list_worth, live_versions, weight, finished-lowers}
use Rattle.flow_model.proofs.OneStep.LastDones.{Lowers, keeps, ends, lowered, list-lowers, collected-keeps}
use Rattle.flow_model.proofs.Lengths.WorkDone.{work}
use Rattle.flow_model.proofs.Lengths.WorkIsBounded.{work-bound}
use Rattle.flow_model.proofs.Lengths.CallWorth.{calls_worth, step-versions, step-calls_worth, start-lowers, look-lowers, end-lowers}
use Rattle.flow_model.proofs.Lengths.SameWork.{SameLast}
use Rattle.flow_model.proofs.Lengths.EdgesAreWork.{discover-works, drop-works}
use Rattle.flow_model.proofs.Lengths.WorkRises.{resolves, step-work, gather-works, evaluate-works, body-works}
use Rattle.flow_model.proofs.General.AnyAndAll.{any-some}

-- what a node is worth, where a Frame is worth 80
abbrev pub node_worth : Core → ℕ → ℕ
node_worth s n = list_worth 80 (live_versions s) (entries s n)

abbrev pub worth : Graph → Core → ℕ
worth graph s = total (node_worth s) (up_to (length graph.nodes)) + calls_worth s

abbrev pub work_done : Graph → Core → ℕ
work_done graph s = total (work graph s) (up_to (length graph.nodes))

-- ---- one node

-- By a step the node is worth so much less, b, than what is done there more.
abbrev pub Falls : Graph → Core → Core → ℕ → ℕ → Type 0
Falls graph s q n b = node_worth q n + work graph s n + b ≤ node_worth s n + work graph q n

-- fewer versions, the same list
versions-worth : (s q : Core) (es : List Entry) → ((f : ℕ → ℕ) → total f (live_versions q) ≤ total f (live_versions s)) → list_worth 80 (live_versions q) es ≤ list_worth 80 (live_versions s) es
versions-worth s q es v = let r = v (weight 80 es) in omega (arith, r)

-- by the list, i, and the work, j
node-falls : (graph : Graph) (s q : Core) (n i j b : ℕ) → Lowers 80 s n (entries q n) i → ((f : ℕ → ℕ) → total f (live_versions q) ≤ total f (live_versions s)) → work graph s n ≤ 78 → (SameLast s q n → work graph s n + j ≤ work graph q n) → b ≤ i + j → b ≤ 1 → Falls graph s q n b
node-falls graph s q n i j b (keeps x e) v w f l m = let y = versions-worth s q (entries q n) v in let z = f e in omega (arith, x, y, z, l)
node-falls graph s q n i j b (ends x) v w f l m = let y = versions-worth s q (entries q n) v in omega (arith, x, y, w, m)

-- ---- the state

-- What the state is worth less is more than what is done more.
abbrev pub StateFalls : Graph → Core → Core → Type 0
StateFalls graph s q = worth graph q + work_done graph s + 1 ≤ worth graph s + work_done graph q

added : (graph : Graph) (s q : Core) → total (λ (n : ℕ). node_worth q n + work graph s n) (up_to (length graph.nodes)) ≡ total (node_worth q) (up_to (length graph.nodes)) + work_done graph s
added graph s q = total-add (node_worth q) (work graph s) (up_to (length graph.nodes))

none-more : (a b : ℕ) → a + 0 ≤ b → a ≤ b
none-more a b h = omega (arith, h)

by-node : (graph : Graph) (s q : Core) (n : ℕ) → n < length graph.nodes → ((m : ℕ) → Falls graph s q m 0) → Falls graph s q n 1 → calls_worth q ≤ calls_worth s → StateFalls graph s q
by-node graph s q n l all one c =
    let t = total-falls (λ (m : ℕ). node_worth q m + work graph s m) (λ (m : ℕ). node_worth s m + work graph q m) 1 n (up_to (length graph.nodes)) (in-up_to n (length graph.nodes) l) (λ m i. none-more _ _ (all m)) one in
    let a = added graph s q in
    let b = added graph q s in
    omega (arith, t, a, b, c)

by-call : (graph : Graph) (s q : Core) → ((m : ℕ) → Falls graph s q m 0) → calls_worth q + 1 ≤ calls_worth s → StateFalls graph s q
by-call graph s q all c =
    let t = total-le_in (λ (m : ℕ). node_worth q m + work graph s m) (λ (m : ℕ). node_worth s m + work graph q m) (up_to (length graph.nodes)) (λ m i. none-more _ _ (all m)) in
    let a = added graph s q in
    let b = added graph q s in
    omega (arith, t, a, b, c)

-- ---- each step at each node

pub resolve-list : (graph : Graph) (s : Core) → IsLawful graph s → (t n : ℕ) → allowed graph s (steps.Resolve t n) ≡ true → entries (apply graph s (steps.Resolve t n)) n ≡ with_state t (Done (value_now graph s t n) (is_change graph s t n) (found_picks s n)) (entries s n)
resolve-list graph s h t n a =
    let x = Done (value_now graph s t n) (is_change graph s t n) (found_picks s n) in
    let fin = finish s t n (value_now graph s t n) (is_change graph s t n) (found_picks s n) in
    let hd = at_front-heads graph s t n (can_work-at_front graph s t n (resolve-can_work graph s t n a)) in
    same_cell graph fin n cleared (λ c. refl) n ∙ ap (λ (c : Cell). c.entries) (cell-there s n (set_state t x) (entry-there s n t (heads-entry graph s h t n hd)))

pub skip-list : (graph : Graph) (s : Core) → IsLawful graph s → (t n : ℕ) → allowed graph s (steps.Skip t n) ≡ true → entries (apply graph s (steps.Skip t n)) n ≡ with_state t (Done (value_before (entries s n) t) false (picks_before (entries s n) t)) (entries s n)
skip-list graph s h t n a =
    let x = Done (value_before (entries s n) t) false (picks_before (entries s n) t) in
    let hd = at_front-heads graph s t n (can_work-at_front graph s t n (skip-can_work graph s t n a)) in
    ap (λ (c : Cell). c.entries) (cell-there s n (set_state t x) (entry-there s n t (heads-entry graph s h t n hd)))

record Setting (graph : Graph) (s : Core) : Type 0 where
  is_graph : IsGraph graph
  few : HasFewInputs graph
  lawful : IsLawful graph s

-- where the call finishes
finish-falls : (graph : Graph) (s q : Core) → Setting graph s → ((f : ℕ → ℕ) → total f (live_versions q) ≤ total f (live_versions s)) → (t n : ℕ) (v : Value) (c : Bool) (ps : List (Option ℕ)) → at_front graph s t n ≡ true → entries q n ≡ with_state t (Done v c ps) (entries s n) → Falls graph s q n 1
finish-falls graph s q k w t n v c ps f e =
    let l = finished-lowers graph 80 s k.lawful n t v c ps f in
    let x = ap (list_worth 80 (live_versions s)) e in
    let y = versions-worth s q (entries q n) w in
    let z = work-bound graph k.is_graph k.few s k.lawful n in
    omega (arith, l, x, y, z)

one-less : (graph : Graph) (s q : Core) (n : ℕ) → Falls graph s q n 1 → Falls graph s q n 0
one-less graph s q n h = omega (arith, h)

resolve-falls : (graph : Graph) (s : Core) → Setting graph s → (t n : ℕ) → allowed graph s (steps.Resolve t n) ≡ true → Falls graph s (apply graph s (steps.Resolve t n)) n 1
resolve-falls graph s k t n a = finish-falls graph s (apply graph s (steps.Resolve t n)) k (λ f. step-versions f graph s (steps.Resolve t n)) t n _ _ _ (can_work-at_front graph s t n (resolve-can_work graph s t n a)) (resolve-list graph s k.lawful t n a)

skip-falls : (graph : Graph) (s : Core) → Setting graph s → (t n : ℕ) → allowed graph s (steps.Skip t n) ≡ true → Falls graph s (apply graph s (steps.Skip t n)) n 1
skip-falls graph s k t n a = finish-falls graph s (apply graph s (steps.Skip t n)) k (λ f. step-versions f graph s (steps.Skip t n)) t n _ _ _ (can_work-at_front graph s t n (skip-can_work graph s t n a)) (skip-list graph s k.lawful t n a)

-- Each step at each node, but for the Resolve of that node.
others-fall : (graph : Graph) (s : Core) → Setting graph s → (step : Step) → allowed graph s step ≡ true → (n : ℕ) → resolves step n ≡ false → Falls graph s (apply graph s step) n 0
others-fall graph s k step a n r =
    let l = step-list graph s step k.lawful a n in
    node-falls graph s (apply graph s step) n (lowered graph s n (entries (apply graph s step) n) l) 0 0 (list-lowers graph 80 s k.lawful n (entries (apply graph s step) n) l) (λ f. step-versions f graph s step) (work-bound graph k.is_graph k.few s k.lawful n)
    (λ e. let w = step-work graph s step k.lawful a n r e in omega (arith, w)) (omega arith) (omega arith)

all-fall : (graph : Graph) (s : Core) → Setting graph s → (step : Step) → allowed graph s step ≡ true → (n : ℕ) → Falls graph s (apply graph s step) n 0
all-fall graph s k (steps.Resolve t m) a n = go (cases_Bool (n == m))
  where
    go : ((n == m) ≡ true) ⊎ ((n == m) ≡ false) → Falls graph s (apply graph s (steps.Resolve t m)) n 0
    go (inl e) = subst (λ (x : ℕ). Falls graph s (apply graph s (steps.Resolve t m)) x 0) (sym (eqb-true n m e)) (one-less graph s (apply graph s (steps.Resolve t m)) m (resolve-falls graph s k t m a))
    go (inr e) = others-fall graph s k (steps.Resolve t m) a n e
all-fall graph s k step a n = others-fall graph s k step a n refl

-- a step that does work at the node
works-fall : (graph : Graph) (s : Core) → Setting graph s → (step : Step) → allowed graph s step ≡ true → (n : ℕ) → (SameLast s (apply graph s step) n → work graph s n + 1 ≤ work graph (apply graph s step) n) → Falls graph s (apply graph s step) n 1
works-fall graph s k step a n f =
    let l = step-list graph s step k.lawful a n in
    node-falls graph s (apply graph s step) n (lowered graph s n (entries (apply graph s step) n) l) 1 1 (list-lowers graph 80 s k.lawful n (entries (apply graph s step) n) l) (λ g. step-versions g graph s step) (work-bound graph k.is_graph k.few s k.lawful n) f (omega arith) (omega arith)

-- a step that lowers the node's list
lists-fall : (graph : Graph) (s : Core) → Setting graph s → (step : Step) → allowed graph s step ≡ true → (n : ℕ) → resolves step n ≡ false → Lowers 80 s n (entries (apply graph s step) n) 1 → Falls graph s (apply graph s step) n 1
lists-fall graph s k step a n r l =
    node-falls graph s (apply graph s step) n 1 0 1 l (λ f. step-versions f graph s step) (work-bound graph k.is_graph k.few s k.lawful n)
    (λ e. let w = step-work graph s step k.lawful a n r e in omega (arith, w)) (omega arith) (omega arith)

-- ---- the steps at a list

frame-there : (graph : Graph) (s : Core) → IsLawful graph s → (t n : ℕ) → allowed graph s (steps.Frame t n) ≡ true → n < length graph.nodes
frame-there graph s h t n a = (h.wants_are_free t n (frame-wants graph s t n a)).node

frame-lowers : (graph : Graph) (s : Core) → IsLawful graph s → (t n : ℕ) → allowed graph s (steps.Frame t n) ≡ true → Lowers 80 s n (entries (frame graph s t n) n) 1
frame-lowers graph s h t n a = go (at is_mark (entries s n) t) refl
  where
    wanted : wants s t n ≡ true
    wanted = frame-wants graph s t n a

    there : n < length s.cells
    there = let l = frame-there graph s h t n a in let e = h.lists in omega (arith, l, e)

    room : (x r : Bool) → x ≡ false → (x || r) ≡ true → r ≡ true
    room x r e k = grind arith

    go : (b : Bool) → at is_mark (entries s n) t ≡ b → Lowers 80 s n (entries (elim b as (λ _. Core) [ true ↦ open_node graph (raise s t n) t n | false ↦ open_node graph (enter s t n Frame) t n ]) n) 1
    go true e = list-lowers graph 80 s h n _ (raises t wanted e (ap (λ (c : Cell). c.entries) (cell-there s n (set_state t Frame) there)))
    go false e = list-lowers graph 80 s h n _ (frames t wanted (wanted-fresh graph s h t n wanted e) (room _ _ e (and_right _ _ a)) (ap (λ (c : Cell). c.entries) (cell-there s n (place_entry s t Frame) there)))

-- ---- a Mark is at a node

asked-there : (graph : Graph) → IsGraph graph → (s : Core) → IsLawful graph s → (t m n : ℕ) → asks_for graph s t m n ≡ true → m < length graph.nodes
asked-there graph g s h t m n a =
    let l = entry-there s n t (heads-entry graph s h t n (at_front-heads graph s t n (can_work-at_front graph s t n (due-can_work graph s t n (and_left _ _ a))))) in
    let e = h.lists in
    let there : n < length graph.nodes = omega (arith, l, e) in
    let below = dep-earlier graph g s h t n m there (go (or_cases _ _ (and_right (due graph s t n) _ a))) in
    omega (arith, there, below)
  where
    dep : (is_in m (inputs_of (node_at graph n)) || is_prior s t n m) ≡ true → is_in m (deps graph s t n) ≡ true
    dep k = list_any-append (λ x. x == m) (inputs_of (node_at graph n)) (prior_picks s t n) ∙ k

    go : ((is_in m (inputs_of (node_at graph n)) && not (is_gathered s n m)) ≡ true) ⊎ ((is_candidate s n m && is_prior s t n m) ≡ true) → is_in m (deps graph s t n) ≡ true
    go (inl k) = dep (or_left _ _ (and_left (is_in m (inputs_of (node_at graph n))) (not (is_gathered s n m)) k))
    go (inr k) = dep (or_right (is_in m (inputs_of (node_at graph n))) _ (and_right (is_candidate s n m) (is_prior s t n m) k))

looks-right : (graph : Graph) (k : ℕ) (xs : List Bool) (names : List (List ℕ)) → first_wrong k (xs ++ map (names_node graph) names) ≡ None → AllByRecursion (λ (name : List ℕ). names_node graph name ≡ true) names
looks-right graph k [] [] h = tt
looks-right graph k [] (name ∷ names) h = go (names_node graph name) refl h (λ j. looks-right graph (k + 1) [] names j)
  where
    go : (b : Bool) → names_node graph name ≡ b → first_wrong k (b ∷ map (names_node graph) names) ≡ None → (first_wrong (k + 1) (map (names_node graph) names) ≡ None → AllByRecursion (λ (name : List ℕ). names_node graph name ≡ true) names)
        → AllByRecursion (λ (name : List ℕ). names_node graph name ≡ true) (name ∷ names)
    go true e j further = (e, further j)
    go false e j further = cc
looks-right graph k (true ∷ xs) names h = looks-right graph (k + 1) xs names h
looks-right graph k (false ∷ xs) names h = cc

look-below : (graph : Graph) (names : List (List ℕ)) (i m : ℕ) → AllByRecursion (λ (name : List ℕ). names_node graph name ≡ true) names → slice_get (map (number_of graph) names) i ≡ Some m → m < length graph.nodes
look-below graph [] i m a h = cc
look-below graph (name ∷ names) zero m a h = below (number_of graph name) (length graph.nodes) m a.0 h
  where
    below : (x y m : ℕ) → nat_lt x y ≡ true → Some x ≡ Some m → m < y
    below x y m k e = let same : x ≡ m = cc in grind (arith, k, same)
look-below graph (name ∷ names) (suc i) m a h = look-below graph names i m a.1 h

look-there : (graph : Graph) (s : Core) → IsLawful graph s → (t m : ℕ) → is_idle s t ≡ true → is_some_of (next_look s t) m ≡ true → m < length graph.nodes
look-there graph s h t m i k =
    let right = h.calls_are_right t (executes-live s t (idle-executes s t i)) in
    let names = looks-right graph 1 (map (λ (set : List ℕ × Value). names_source graph set.0) (sets_of (call s t).call)) (looks_of (call s t).call) right.well_named in
    look-below graph (looks_of (call s t).call) (length (call s t).looked) m names (subst (λ (xs : List ℕ). slice_get xs (length (call s t).looked) ≡ Some m) right.looks (found (next_look s t) k))
  where
    found : (o : Option ℕ) → is_some_of o m ≡ true → o ≡ Some m
    found None j = absurd (true≢false (sym j))
    found (Some v) j = ap Some (eqb-true v m j)

mark-there : (graph : Graph) → IsGraph graph → (s : Core) → IsLawful graph s → (t m : ℕ) → allowed graph s (steps.Mark t m) ≡ true → m < length graph.nodes
mark-there graph g s h t m a = go (or_cases _ _ (and_right _ _ a))
  where
    go : (list_any (asks_for graph s t m) (numbers graph) ≡ true) ⊎ ((is_idle s t && is_some_of (next_look s t) m) ≡ true) → m < length graph.nodes
    go (inl k) = let n = any-some (asks_for graph s t m) (numbers graph) k in asked-there graph g s h t m n.0 n.1
    go (inr k) = look-there graph s h t m (and_left _ _ k) (and_right _ _ k)

mark-lowers : (graph : Graph) → IsGraph graph → (s : Core) → IsLawful graph s → (t m : ℕ) → allowed graph s (steps.Mark t m) ≡ true → Lowers 80 s m (entries (apply graph s (steps.Mark t m)) m) 1
mark-lowers graph g s h t m a =
    let l = mark-there graph g s h t m a in
    let e = h.lists in
    list-lowers graph 80 s h m _ (marks t (mark-executes graph s t m a) (mark-no_entry graph s t m a) (and_right _ _ (and_left _ _ a)) (ap (λ (c : Cell). c.entries) (cell-there s m (place_entry s t Mark) (omega (arith, l, e)))))

-- ---- Collect

collect-there : (graph : Graph) (s : Core) (n : ℕ) → allowed graph s (steps.Collect n) ≡ true → n < length s.cells
collect-there graph s n a = some (entries s n) (λ u k. entry-there s n u k) (longer (length (collected (ended s) (entries s n))) (length (entries s n)) a)
  where
    longer : (x y : ℕ) → nat_lt x y ≡ true → 1 ≤ y
    longer x y k = grind (arith, k)

    some : (es : List Entry) → ((u : ℕ) → has es u ≡ true → n < length s.cells) → 1 ≤ length es → n < length s.cells
    some [] f l = absurd (omega arith)
    some (e ∷ es) f l = f e.version (or_left _ _ (eq-eqb e.version e.version refl))

collect-lowers : (graph : Graph) (s : Core) → IsLawful graph s → (n : ℕ) → allowed graph s (steps.Collect n) ≡ true → Lowers 80 s n (entries (apply graph s (steps.Collect n)) n) 1
collect-lowers graph s h n a = collected-keeps graph 80 1 s h n _ (ap (λ (c : Cell). c.entries) (cell-there s n (collect s) (collect-there graph s n a))) (less (length (collected (ended s) (entries s n))) (length (entries s n)) a)
  where
    less : (x y : ℕ) → nat_lt x y ≡ true → x + 1 ≤ y
    less x y k = grind (arith, k)

-- ---- all steps

pub head-there : (graph : Graph) (s : Core) → IsLawful graph s → (t n : ℕ) → at_front graph s t n ≡ true → n < length graph.nodes
head-there graph s h t n f = let l = entry-there s n t (heads-entry graph s h t n (at_front-heads graph s t n f)) in let e = h.lists in omega (arith, l, e)

pub due-there : (graph : Graph) (s : Core) → IsLawful graph s → (t n : ℕ) → due graph s t n ≡ true → n < length graph.nodes
due-there graph s h t n d = head-there graph s h t n (can_work-at_front graph s t n (due-can_work graph s t n d))

at-node : (graph : Graph) (s : Core) → Setting graph s → (step : Step) → allowed graph s step ≡ true → (n : ℕ) → n < length graph.nodes → Falls graph s (apply graph s step) n 1 → StateFalls graph s (apply graph s step)
at-node graph s k step a n l f = by-node graph s (apply graph s step) n l (all-fall graph s k step a) f (step-calls_worth graph s step)

-- Each step that is allowed in a lawful state lowers the worth by more than the work that it adds.
step-fall : (graph : Graph) (s : Core) → Setting graph s → (step : Step) → allowed graph s step ≡ true → StateFalls graph s (apply graph s step)
step-fall graph s k (steps.Frame t n) a = at-node graph s k (steps.Frame t n) a n (frame-there graph s k.lawful t n a) (lists-fall graph s k (steps.Frame t n) a n refl (frame-lowers graph s k.lawful t n a))
step-fall graph s k (steps.Start t) a = by-call graph s (apply graph s (steps.Start t)) (all-fall graph s k (steps.Start t) a) (start-lowers graph s t a)
step-fall graph s k (steps.Skip t n) a = at-node graph s k (steps.Skip t n) a n (head-there graph s k.lawful t n (can_work-at_front graph s t n (skip-can_work graph s t n a))) (skip-falls graph s k t n a)
step-fall graph s k (steps.Gather t n m) a = at-node graph s k (steps.Gather t n m) a n (due-there graph s k.lawful t n (gather-due graph s t n m a)) (works-fall graph s k (steps.Gather t n m) a n (gather-works graph s k.lawful t n m a))
step-fall graph s k (steps.Evaluate t n) a = at-node graph s k (steps.Evaluate t n) a n (head-there graph s k.lawful t n (evaluate-at_front graph s t n a)) (works-fall graph s k (steps.Evaluate t n) a n (evaluate-works graph s k.lawful t n a))
step-fall graph s k (steps.Body t n) a = at-node graph s k (steps.Body t n) a n (head-there graph s k.lawful t n (body-at_front graph s t n a)) (works-fall graph s k (steps.Body t n) a n (body-works graph s k.lawful t n a))
step-fall graph s k (steps.Resolve t n) a = at-node graph s k (steps.Resolve t n) a n (head-there graph s k.lawful t n (can_work-at_front graph s t n (resolve-can_work graph s t n a))) (resolve-falls graph s k t n a)
step-fall graph s k (steps.Discover t n c) a = at-node graph s k (steps.Discover t n c) a n (due-there graph s k.lawful t n (discover-due graph s t n c a)) (works-fall graph s k (steps.Discover t n c) a n (discover-works graph k.is_graph s k.lawful t n c a))
step-fall graph s k (steps.Drop t n o) a = at-node graph s k (steps.Drop t n o) a n (due-there graph s k.lawful t n (drop-due graph s t n o a)) (works-fall graph s k (steps.Drop t n o) a n (drop-works graph s k.lawful t n o a))
step-fall graph s k (steps.Mark t m) a = at-node graph s k (steps.Mark t m) a m (mark-there graph k.is_graph s k.lawful t m a) (lists-fall graph s k (steps.Mark t m) a m refl (mark-lowers graph k.is_graph s k.lawful t m a))
step-fall graph s k (steps.Look t) a = by-call graph s (apply graph s (steps.Look t)) (all-fall graph s k (steps.Look t) a) (look-lowers graph s t k.lawful a)
step-fall graph s k (steps.End t) a = by-call graph s (apply graph s (steps.End t)) (all-fall graph s k (steps.End t) a) (end-lowers graph s t a)
step-fall graph s k (steps.Collect n) a = at-node graph s k (steps.Collect n) a n (let l = collect-there graph s n a in let e = k.lawful.lists in omega (arith, l, e)) (lists-fall graph s k (steps.Collect n) a n refl (collect-lowers graph s k.lawful n a))

pub step-falls : (graph : Graph) → IsGraph graph → HasFewInputs graph → (s : Core) → IsLawful graph s → (step : Step) → allowed graph s step ≡ true → worth graph (apply graph s step) + work_done graph s + 1 ≤ worth graph s + work_done graph (apply graph s step)
step-falls graph g few s h step a = step-fall graph s (record { is_graph = g; few = few; lawful = h }) step a
