-- In the opening state each list has one Done of version 0, and out-edges stand where the start picks are.
use Rattle.std.proofs.Common.{◌≡◌, ℕ, zero, suc, ◌+◌, ◌<◌, ◌≤◌, Bool, true, false, ◌&&◌, ◌||◌, ◌==◌, ◌⊎◌, inl, inr, refl, sym, ap, arith, List, [], ◌∷◌, map, true≢false, ◌∙◌, subst, Option, Some, None, length, slice_index_or}
use Rattle.std.specs.Prelude.{filter, slice_get, pos, negsuc}
use Rattle.std.specs.List.{AllZip, AllByRecursion}
use Rattle.std.proofs.lemmas.Bool.Decides.{eqb_tells}
use Rattle.std.proofs.lemmas.Bool.{or_cases, or_left, or_right, and_parts, eqb-true, eqb-false, false_from_ne_true, both_ways, cases_Bool}
use Rattle.script_tree.specs.declared.value.Value.{Value}
use Rattle.script_tree.specs.declared.value.Value.TheVariants.{Int, Bool as Truth, Fault as Faulty}
use Rattle.signal_graph.specs.declared.node.Node.{Node}
use Rattle.signal_graph.specs.declared.node.Node.TheVariants.{Source, Signal, Fold, Choose}
use Rattle.signal_graph.specs.declared.node.Selector.{Selector}
use Rattle.signal_graph.specs.Graph.{Graph, node_at, numbers_from, is_in, selectors_of, IsGraph, AreNodes, IsNode, IsSelector}
use Rattle.signal_graph.specs.Values.{Values, select, selected, taken, picks, picks_of, nodes_in, values, val, start}
use Rattle.signal_graph.proofs.Members.{get-in, read-from}
use Rattle.node_versions.specs.declared.entry.Entry.{Entry}
use Rattle.node_versions.specs.declared.entry.State.TheVariants.{Done}
use Rattle.node_versions.specs.Entries.{OutEdge, AreDifferent, is_frame, is_mark, has, at, behind, first_open, has_out, has_node}
use Rattle.flow_model.specs.Machine.State.{Core, Cell, cell, entries, no_cell, opening, start_cell, start_outs}
use Rattle.flow_model.specs.Kept.Lawful.{IsPickOf, lists_candidate, count_edges}

read-past : {A : Type 0} (f : ℕ → A) (d : A) (k : ℕ) (nodes : List Node) (n : ℕ) → length nodes ≤ n → slice_index_or (map f (numbers_from k nodes)) n d ≡ d
read-past f d k [] n h = refl
read-past f d k (x ∷ xs) zero h = absurd (omega arith)
read-past f d k (x ∷ xs) (suc n) h = read-past f d (k + 1) xs n (omega arith)

pub length-numbers : {A : Type 0} (f : ℕ → A) (k : ℕ) (nodes : List Node) → length (map f (numbers_from k nodes)) ≡ length nodes
length-numbers f k [] = refl
length-numbers f k (x ∷ xs) = ap suc (length-numbers f (k + 1) xs)

below_or_not : (n m : ℕ) → (n < m) ⊎ (m ≤ n)
below_or_not n zero = inr (omega arith)
below_or_not zero (suc m) = inl (omega arith)
below_or_not (suc n) (suc m) = next (below_or_not n m)
  where
    next : (n < m) ⊎ (m ≤ n) → (suc n < suc m) ⊎ (suc m ≤ suc n)
    next (inl h) = inl (omega arith)
    next (inr h) = inr (omega arith)

-- a cell of the opening state: that of a node, or none
abbrev pub IsOpened : Graph → Core → ℕ → Type 0
IsOpened graph s n = ((n < length graph.nodes) × (cell s n ≡ start_cell graph n)) ⊎ ((length graph.nodes ≤ n) × (cell s n ≡ no_cell))

pub opening-cell : (graph : Graph) (callers limit n : ℕ) → IsOpened graph (opening graph callers limit) n
opening-cell graph callers limit n = go (below_or_not n (length graph.nodes))
  where
    go : (n < length graph.nodes) ⊎ (length graph.nodes ≤ n) → IsOpened graph (opening graph callers limit) n
    go (inl h) = inl (h, read-from (start_cell graph) no_cell 0 graph.nodes n h ∙ ap (start_cell graph) (omega arith))
    go (inr h) = inr (h, read-past (start_cell graph) no_cell 0 graph.nodes n h)

-- ---- a list of the opening state

-- what a list with at most a Done of version 0 shows
pub record IsStart (es : List Entry) : Type 0 where
  pub no_frame : (u : ℕ) → at is_frame es u ≡ false
  pub no_mark : (u : ℕ) → at is_mark es u ≡ false
  pub none_behind : (u v : ℕ) → behind es u v ≡ false
  pub version : (u : ℕ) → has es u ≡ true → u ≡ 0
  pub none_open : first_open es ≡ None
  pub few : length es ≤ 1

done_entry-IsStart : (v : Value) (ps : List (Option ℕ)) → IsStart (record { version = 0; slot = 0; state = Done v false ps } ∷ [])
done_entry-IsStart v ps = record {
  no_frame = λ u. grind arith;
  no_mark = λ u. grind arith;
  none_behind = λ u v. grind arith;
  version = λ u h. grind (arith, eqb_tells);
  none_open = refl;
  few = omega arith;
}

no_entry-IsStart : IsStart []
no_entry-IsStart = record { no_frame = λ u. refl; no_mark = λ u. refl; none_behind = λ u v. refl; version = λ u h. absurd (true≢false (sym h)); none_open = refl; few = omega arith }

pub opening-IsStart : (graph : Graph) (callers limit n : ℕ) → IsStart (entries (opening graph callers limit) n)
opening-IsStart graph callers limit n = go (opening-cell graph callers limit n)
  where
    go : IsOpened graph (opening graph callers limit) n → IsStart (entries (opening graph callers limit) n)
    go (inl h) = subst (λ (c : Cell). IsStart c.entries) (sym h.1) (done_entry-IsStart (val graph (start graph) n) (picks graph (start graph) n))
    go (inr h) = subst (λ (c : Cell). IsStart c.entries) (sym h.1) no_entry-IsStart

-- ---- picks

candidate-fits : (selector : Selector) (o : Option ℕ) → ((c : ℕ) → o ≡ Some c → is_in c selector.candidates ≡ true) → IsPickOf selector o
candidate-fits selector None h = tt
candidate-fits selector (Some c) h = h c refl

taken_candidate : (o : Option ℕ) → taken (Rattle.signal_graph.specs.Values.candidate o) ≡ o
taken_candidate None = refl
taken_candidate (Some c) = refl

pub select-fits : (selector : Selector) (v : Value) → IsPickOf selector (taken (select v selector.candidates))
select-fits selector (Int (pos i)) = candidate-fits selector _ (λ c h. get-in selector.candidates i c (sym (taken_candidate (slice_get selector.candidates i)) ∙ h))
select-fits selector (Int (negsuc i)) = tt
select-fits selector (Truth b) = tt
select-fits selector (Faulty f) = tt

selected-fit : (all : Values) (selectors : List Selector) → AllZip IsPickOf selectors (map (λ selector. taken (selected all selector)) selectors)
selected-fit all [] = tt
selected-fit all (selector ∷ rest) = (select-fits selector _, selected-fit all rest)

picks_of-fit : (node : Node) (all : Values) → AllZip IsPickOf (selectors_of node) (picks_of node all)
picks_of-fit (Source v) all = tt
picks_of-fit (Signal script inputs) all = tt
picks_of-fit (Fold v script inputs) all = tt
picks_of-fit (Choose selectors body inputs) all = selected-fit all selectors

pub picks-fit : (graph : Graph) (kept : Values) (n : ℕ) → AllZip IsPickOf (selectors_of (node_at graph n)) (picks graph kept n)
picks-fit graph kept n = picks_of-fit (node_at graph n) (values graph kept)

-- a node among fitting picks is a candidate
pub picked-listed : (selectors : List Selector) (ps : List (Option ℕ)) (m : ℕ) → AllZip IsPickOf selectors ps → is_in m (nodes_in ps) ≡ true → lists_candidate m selectors ≡ true
picked-listed [] [] m f h = h
picked-listed [] (p ∷ ps) m f h = absurd f
picked-listed (x ∷ xs) [] m f h = absurd f
picked-listed (x ∷ xs) (None ∷ ps) m f h = or_right _ _ (picked-listed xs ps m f.1 h)
picked-listed (x ∷ xs) (Some c ∷ ps) m f h = go (or_cases _ _ h) (picked-listed xs ps m f.1)
  where
    go : ((c == m) ≡ true) ⊎ (is_in m (nodes_in ps) ≡ true) → (is_in m (nodes_in ps) ≡ true → lists_candidate m xs ≡ true) → lists_candidate m (x ∷ xs) ≡ true
    go (inl e) further = or_left _ _ (subst (λ (k : ℕ). is_in k x.candidates ≡ true) (eqb-true c m e) f.0)
    go (inr e) further = or_right _ _ (further e)

-- ---- out-edges

-- the out-edges to the nodes of a list that pass a test
abbrev edges_to : (ℕ → Bool) → ℕ → List Node → List OutEdge
edges_to test k nodes = map (λ n. (n, 0)) (filter test (numbers_from k nodes))

edges_to-cons : (test : ℕ → Bool) (k : ℕ) (x : Node) (xs : List Node) (P : List OutEdge → Type 0) → (test k ≡ true → P ((k, 0) ∷ edges_to test (k + 1) xs)) → (test k ≡ false → P (edges_to test (k + 1) xs)) → P (edges_to test k (x ∷ xs))
edges_to-cons test k x xs P f g = go (test k) refl
  where
    go : (b : Bool) → test k ≡ b → P (edges_to test k (x ∷ xs))
    go true e = rw e (f e)
    go false e = rw e (g e)

count-below : (test : ℕ → Bool) (k : ℕ) (nodes : List Node) (n : ℕ) → n < k → count_edges n (edges_to test k nodes) ≡ 0
count-below test k [] n h = refl
count-below test k (x ∷ xs) n h =
    let r = count-below test (k + 1) xs n (omega arith) in
    edges_to-cons test k x xs (λ es. count_edges n es ≡ 0) (λ _. grind (arith, eqb_tells, r)) (λ _. r)

count-once : (test : ℕ → Bool) (k : ℕ) (nodes : List Node) (n : ℕ) → count_edges n (edges_to test k nodes) ≤ 1
count-once test k [] n = omega arith
count-once test k (x ∷ xs) n =
    let r = count-once test (k + 1) xs n in
    let z = λ (h : n < k + 1). count-below test (k + 1) xs n h in
    edges_to-cons test k x xs (λ es. count_edges n es ≤ 1) (λ _. go (cases_Bool (k == n)) r (λ e. z (omega (arith, e)))) (λ _. r)
  where
    go : ((k == n) ≡ true) ⊎ ((k == n) ≡ false) → count_edges n (edges_to test (k + 1) xs) ≤ 1 → (k ≡ n → count_edges n (edges_to test (k + 1) xs) ≡ 0) → count_edges n ((k, 0) ∷ edges_to test (k + 1) xs) ≤ 1
    go (inl e) h z = let c = z (eqb-true k n e) in rw e (omega (arith, c))
    go (inr e) h z = rw e h

out-below : (test : ℕ → Bool) (k : ℕ) (nodes : List Node) (n since : ℕ) → n < k → has_out (edges_to test k nodes) n since ≡ false
out-below test k [] n since h = refl
out-below test k (x ∷ xs) n since h =
    let r = out-below test (k + 1) xs n since (omega arith) in
    edges_to-cons test k x xs (λ es. has_out es n since ≡ false) (λ _. grind (arith, eqb_tells, r)) (λ _. r)

edges-different : (test : ℕ → Bool) (k : ℕ) (nodes : List Node) → AreDifferent (edges_to test k nodes)
edges-different test k [] = tt
edges-different test k (x ∷ xs) =
    let r = edges-different test (k + 1) xs in
    edges_to-cons test k x xs AreDifferent (λ _. (out-below test (k + 1) xs k 0 (omega arith), r)) (λ _. r)

-- an edge is there exactly where its node passes the test, since version 0
pub record IsEdgeTo (test : ℕ → Bool) (n since : ℕ) : Type 0 where
  pub passes : test n ≡ true
  pub first : since ≡ 0

first_edge : (test : ℕ → Bool) (k n since : ℕ) (more : Bool) → test k ≡ true → (((k == n) && (0 == since)) || more) ≡ true → (more ≡ true → IsEdgeTo test n since) → IsEdgeTo test n since
first_edge test k n since more t h further = go (or_cases _ _ h)
  where
    go : (((k == n) && (0 == since)) ≡ true) ⊎ (more ≡ true) → IsEdgeTo test n since
    go (inl e) = let both = and_parts (k == n) (0 == since) e in record { passes = subst (λ (m : ℕ). test m ≡ true) (eqb-true k n both.0) t; first = sym (eqb-true 0 since both.1) }
    go (inr e) = further e

out-passes : (test : ℕ → Bool) (k : ℕ) (nodes : List Node) (n since : ℕ) → has_out (edges_to test k nodes) n since ≡ true → IsEdgeTo test n since
out-passes test k [] n since h = absurd (true≢false (sym h))
out-passes test k (x ∷ xs) n since h =
    let r = out-passes test (k + 1) xs n since in
    edges_to-cons test k x xs (λ es. has_out es n since ≡ true → IsEdgeTo test n since) (λ t h. first_edge test k n since _ t h r) (λ _. r) h

passes-has_node : (test : ℕ → Bool) (k : ℕ) (nodes : List Node) (n : ℕ) → k ≤ n → n < k + length nodes → test n ≡ true → has_node (edges_to test k nodes) n ≡ true
passes-has_node test k [] n a b t = absurd (omega arith)
passes-has_node test k (x ∷ xs) n a b t = let further = λ (e : (k == n) ≡ false). passes-has_node test (k + 1) xs n (beyond e) (omega arith) t in
    edges_to-cons test k x xs (λ es. has_node es n ≡ true) (λ _. go (cases_Bool (k == n)) further) (λ f. further (apart f))
  where
    apart : test k ≡ false → (k == n) ≡ false
    apart f = false_from_ne_true _ (λ e. both_ways _ f (subst (λ (m : ℕ). test m ≡ true) (sym (eqb-true k n e)) t))

    beyond : (k == n) ≡ false → k + 1 ≤ n
    beyond e = let ne = eqb-false k n e in omega (arith, ne)

    go : ((k == n) ≡ true) ⊎ ((k == n) ≡ false) → ((k == n) ≡ false → has_node (edges_to test (k + 1) xs) n ≡ true) → ((k == n) || has_node (edges_to test (k + 1) xs) n) ≡ true
    go (inl e) f = or_left _ _ e
    go (inr e) f = or_right _ _ (f e)

-- ---- candidates are earlier nodes

pub in-below : (n m : ℕ) (cs : List ℕ) → AllByRecursion (λ c. c < n) cs → is_in m cs ≡ true → m < n
in-below n m [] a h = absurd (true≢false (sym h))
in-below n m (c ∷ cs) a h = go (or_cases _ _ h) (in-below n m cs a.1)
  where
    go : ((c == m) ≡ true) ⊎ (is_in m cs ≡ true) → (is_in m cs ≡ true → m < n) → m < n
    go (inl e) further = subst (λ (k : ℕ). k < n) (eqb-true c m e) a.0
    go (inr e) further = further e

listed-below : (names : List (List ℕ)) (n m : ℕ) (selectors : List Selector) → AllByRecursion (IsSelector names n) selectors → lists_candidate m selectors ≡ true → m < n
listed-below names n m [] a h = absurd (true≢false (sym h))
listed-below names n m (x ∷ xs) a h = go (or_cases _ _ h) (listed-below names n m xs a.1)
  where
    go : (is_in m x.candidates ≡ true) ⊎ (lists_candidate m xs ≡ true) → (lists_candidate m xs ≡ true → m < n) → m < n
    go (inl e) further = in-below n m x.candidates a.0.candidates_earlier e
    go (inr e) further = further e

node-listed : (names : List (List ℕ)) (n m : ℕ) (node : Node) → IsNode names n node → lists_candidate m (selectors_of node) ≡ true → m < n
node-listed names n m (Source v) a h = absurd (true≢false (sym h))
node-listed names n m (Signal script inputs) a h = absurd (true≢false (sym h))
node-listed names n m (Fold v script inputs) a h = absurd (true≢false (sym h))
node-listed names n m (Choose selectors body inputs) a h = listed-below names n m selectors a.2 h

pub nodes-at : (names : List (List ℕ)) (k : ℕ) (nodes : List Node) (n : ℕ) (d : Node) → AreNodes names k nodes → n < length nodes → IsNode names (k + n) (slice_index_or nodes n d)
nodes-at names k [] n d a h = absurd (omega arith)
nodes-at names k (x ∷ xs) zero d a h = subst (λ (j : ℕ). IsNode names j x) (omega arith) a.0
nodes-at names k (x ∷ xs) (suc n) d a h = subst (λ (j : ℕ). IsNode names j (slice_index_or xs n d)) (omega arith) (nodes-at names (k + 1) xs n d a.1 (omega arith))

pub candidate-earlier : (graph : Graph) → IsGraph graph → (n m : ℕ) → n < length graph.nodes → lists_candidate m (selectors_of (node_at graph n)) ≡ true → m < n
candidate-earlier graph g n m h k = node-listed graph.names n m (node_at graph n) (subst (λ (j : ℕ). IsNode graph.names j (node_at graph n)) (omega arith) (nodes-at graph.names 0 graph.nodes n _ g.nodes h)) k

-- ---- what the opening state's out-edges say

-- the node is a node of the graph and picks m at the start
abbrev pub picks_at_start : Graph → ℕ → ℕ → Bool
picks_at_start graph m n = is_in m (nodes_in (picks graph (start graph) n))

pub start_picks-listed : (graph : Graph) (n m : ℕ) → picks_at_start graph m n ≡ true → lists_candidate m (selectors_of (node_at graph n)) ≡ true
start_picks-listed graph n m h = picked-listed (selectors_of (node_at graph n)) (picks graph (start graph) n) m (picks-fit graph (start graph) n) h

pub start_outs-once : (graph : Graph) (n m : ℕ) → count_edges n (start_outs graph m) ≤ 1
start_outs-once graph n m = count-once (picks_at_start graph m) 0 graph.nodes n

pub start_outs-different : (graph : Graph) (m : ℕ) → AreDifferent (start_outs graph m)
start_outs-different graph m = edges-different (picks_at_start graph m) 0 graph.nodes

pub start_outs-passes : (graph : Graph) (n m since : ℕ) → has_out (start_outs graph m) n since ≡ true → IsEdgeTo (picks_at_start graph m) n since
start_outs-passes graph n m since h = out-passes (picks_at_start graph m) 0 graph.nodes n since h

pub start_outs-stand : (graph : Graph) (n m : ℕ) → n < length graph.nodes → picks_at_start graph m n ≡ true → has_node (start_outs graph m) n ≡ true
start_outs-stand graph n m h t = passes-has_node (picks_at_start graph m) 0 graph.nodes n (omega arith) (omega arith) t
