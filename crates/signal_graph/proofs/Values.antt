-- Each node's value is given by the values of the nodes that it names.
use Rattle.std.proofs.Common.{◌≡◌, ℕ, zero, suc, ◌+◌, ◌<◌, List, [], ◌∷◌, ◌++◌, length, Option, Some, None, refl, sym, ap, ◌∙◌, subst, arith, length-append}
use Rattle.std.specs.Prelude.{pos, negsuc, map, slice_get, slice_index_or}
use Rattle.std.proofs.lemmas.List.{get_or_append_left}
use Rattle.std.proofs.Math.Seq.{get_or-append_seam}
use Rattle.std.specs.List.{AllByRecursion}
use Rattle.script_tree.specs.declared.value.Fault.TheVariants.{NoChoice, Kind}
use Rattle.script_tree.specs.declared.value.Value.{Value}
use Rattle.script_tree.specs.declared.value.Value.TheVariants.{Int, Bool as Truth, Fault as Faulty}
use Rattle.script_tree.specs.Scripts.{Scripted}
use Rattle.script_tree.specs.Eval.{eval_script, eval_body}
use Rattle.signal_graph.specs.declared.node.Selector.{Selector}
use Rattle.signal_graph.specs.declared.node.Node.{Node}
use Rattle.signal_graph.specs.declared.node.Node.TheVariants.{Source, Signal, Fold, Choose}
use Rattle.signal_graph.specs.Graph.{Graph, node_at, IsSelector, IsNode, AreNodes}
use Rattle.signal_graph.specs.Values.{Values, at, candidate, select, run, selected, pick_of, pick, first_pick, choose_value, node_value, values_from, values}

-- a value that was found stays
pub values_stay : (nodes : List Node) (earlier kept : Values) (k : ℕ) → k < length earlier → at (values_from earlier nodes kept) k ≡ at earlier k
values_stay [] earlier kept k h = refl
values_stay (node ∷ rest) earlier kept k h =
    let v = node_value node (at kept (length earlier)) earlier in
    values_stay rest (earlier ++ v ∷ []) kept k (omega (arith, length-append earlier (v ∷ [])))
    ∙ get_or_append_left earlier (v ∷ []) (Faulty NoChoice) k h

pub length-values_from : (nodes : List Node) (earlier kept : Values) → length (values_from earlier nodes kept) ≡ length earlier + length nodes
length-values_from [] earlier kept = omega arith
length-values_from (node ∷ rest) earlier kept =
    let v = node_value node (at kept (length earlier)) earlier in
    omega (arith, length-values_from rest (earlier ++ v ∷ []) kept, length-append earlier (v ∷ []))

-- there is a value for each node
pub length-values : (graph : Graph) (kept : Values) → length (values graph kept) ≡ length graph.nodes
length-values graph kept = omega (arith, length-values_from graph.nodes [] kept)

pub same_inputs : (n : ℕ) (a b : Values) → ((m : ℕ) → m < n → at a m ≡ at b m) → (xs : List ℕ) → AllByRecursion (λ m. m < n) xs → map (at a) xs ≡ map (at b) xs
same_inputs n a b e [] h = refl
same_inputs n a b e (x ∷ xs) h = ap (λ v. v ∷ map (at a) xs) (e x h.0) ∙ ap (λ vs. at b x ∷ vs) (same_inputs n a b e xs h.1)

same_candidate : (n : ℕ) (a b : Values) → ((m : ℕ) → m < n → at a m ≡ at b m) → (cs : List ℕ) (i : ℕ) → AllByRecursion (λ m. m < n) cs → pick_of a (candidate (slice_get cs i)) ≡ pick_of b (candidate (slice_get cs i))
same_candidate n a b e [] i h = refl
same_candidate n a b e (c ∷ cs) zero h = e c h.0
same_candidate n a b e (c ∷ cs) (suc i) h = same_candidate n a b e cs i h.1

same_selected : (n : ℕ) (a b : Values) → ((m : ℕ) → m < n → at a m ≡ at b m) → (v : Value) (cs : List ℕ) → AllByRecursion (λ m. m < n) cs → pick_of a (select v cs) ≡ pick_of b (select v cs)
same_selected n a b e (Int (pos i)) cs h = same_candidate n a b e cs i h
same_selected n a b e (Int (negsuc i)) cs h = refl
same_selected n a b e (Truth t) cs h = refl
same_selected n a b e (Faulty f) cs h = refl

same_pick : (names : List (List ℕ)) (n : ℕ) (a b : Values) → ((m : ℕ) → m < n → at a m ≡ at b m) → (selector : Selector) → IsSelector names n selector → pick a selector ≡ pick b selector
same_pick names n a b e selector h =
    ap (λ vs. pick_of a (select (eval_script selector.script.tree vs (Faulty Kind)) selector.candidates)) (same_inputs n a b e selector.inputs h.inputs_earlier)
    ∙ same_selected n a b e (eval_script selector.script.tree (map (at b) selector.inputs) (Faulty Kind)) selector.candidates h.candidates_earlier

same_picks : (names : List (List ℕ)) (n : ℕ) (a b : Values) → ((m : ℕ) → m < n → at a m ≡ at b m) → (selectors : List Selector) → AllByRecursion (IsSelector names n) selectors → map (pick a) selectors ≡ map (pick b) selectors
same_picks names n a b e [] h = refl
same_picks names n a b e (s ∷ selectors) h =
    ap (λ v. v ∷ map (pick a) selectors) (same_pick names n a b e s h.0) ∙ ap (λ vs. pick b s ∷ vs) (same_picks names n a b e selectors h.1)

same_first : (names : List (List ℕ)) (n : ℕ) (a b : Values) → ((m : ℕ) → m < n → at a m ≡ at b m) → (selectors : List Selector) → AllByRecursion (IsSelector names n) selectors → first_pick a selectors ≡ first_pick b selectors
same_first names n a b e [] h = refl
same_first names n a b e (s ∷ selectors) h = same_pick names n a b e s h.0

same_choose : (names : List (List ℕ)) (n : ℕ) (a b : Values) → ((m : ℕ) → m < n → at a m ≡ at b m) → (selectors : List Selector) (body : Option Scripted) → AllByRecursion (IsSelector names n) selectors → choose_value selectors body a ≡ choose_value selectors body b
same_choose names n a b e selectors None h = same_first names n a b e selectors h
same_choose names n a b e selectors (Some body) h = ap (λ vs. eval_body body.tree vs) (same_picks names n a b e selectors h)

-- a node's value rests on the values of the nodes that it names alone
pub same_node : (names : List (List ℕ)) (n : ℕ) (a b : Values) → ((m : ℕ) → m < n → at a m ≡ at b m) → (node : Node) (kept : Value) → IsNode names n node → node_value node kept a ≡ node_value node kept b
same_node names n a b e (Source start) kept h = refl
same_node names n a b e (Signal script inputs) kept h = ap (λ vs. eval_script script.tree vs (Faulty Kind)) (same_inputs n a b e inputs h.3)
same_node names n a b e (Fold start script inputs) kept h = refl
same_node names n a b e (Choose selectors body inputs) kept h = same_choose names n a b e selectors body h.2

pub values_are_from : (names : List (List ℕ)) (nodes : List Node) (earlier kept : Values) (k : ℕ) → AreNodes names (length earlier) nodes → k < length nodes → at (values_from earlier nodes kept) (length earlier + k) ≡ node_value (slice_index_or nodes k (Source (Faulty Kind))) (at kept (length earlier + k)) (values_from earlier nodes kept)
values_are_from names [] earlier kept k nodes_are h = absurd (omega arith)
values_are_from names (node ∷ rest) earlier kept zero nodes_are h =
    let v = node_value node (at kept (length earlier)) earlier in
    let whole = values_from (earlier ++ v ∷ []) rest kept in
    let e : length earlier + 0 ≡ length earlier = omega arith in
    ap (at whole) e
    ∙ values_stay rest (earlier ++ v ∷ []) kept (length earlier) (omega (arith, length-append earlier (v ∷ [])))
    ∙ get_or-append_seam earlier v [] (Faulty NoChoice)
    ∙ same_node names (length earlier) earlier whole (λ m le. sym (values_stay (node ∷ rest) earlier kept m le)) node (at kept (length earlier)) nodes_are.0
    ∙ ap (λ i. node_value node (at kept i) whole) (sym e)
values_are_from names (node ∷ rest) earlier kept (suc k) nodes_are h =
    let v = node_value node (at kept (length earlier)) earlier in
    let whole = values_from (earlier ++ v ∷ []) rest kept in
    let len : length earlier + 1 ≡ length (earlier ++ v ∷ []) = omega (arith, length-append earlier (v ∷ [])) in
    let e : length (earlier ++ v ∷ []) + k ≡ length earlier + suc k = omega (arith, length-append earlier (v ∷ [])) in
    ap (at whole) (sym e)
    ∙ values_are_from names rest (earlier ++ v ∷ []) kept k (subst (λ n. AreNodes names n rest) len nodes_are.1) (omega arith)
    ∙ ap (λ i. node_value (slice_index_or rest k (Source (Faulty Kind))) (at kept i) whole) e

-- the equations of the values: a source and a fold have what is kept, and the others what their nodes say
pub values_are : (graph : Graph) (kept : Values) (n : ℕ) → AreNodes graph.names 0 graph.nodes → n < length graph.nodes → at (values graph kept) n ≡ node_value (node_at graph n) (at kept n) (values graph kept)
values_are graph kept n nodes_are h = let e : 0 + n ≡ n = omega arith in subst (λ i. at (values graph kept) i ≡ node_value (node_at graph n) (at kept i) (values graph kept)) e (values_are_from graph.names graph.nodes [] kept n nodes_are h)

-- the first of the picks is the one without a body
pub first_of_picks : (selectors : List Selector) (values picked : Values) → picked ≡ map (pick values) selectors → at picked 0 ≡ first_pick values selectors
first_of_picks [] values picked e = rw e refl
first_of_picks (selector ∷ rest) values picked e = rw e refl
