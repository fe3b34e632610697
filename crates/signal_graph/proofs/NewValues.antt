-- Each node's value after a call follows from the values before it and from the new values of the nodes that it names.
use Rattle.std.proofs.Common.{◌≡◌, ℕ, zero, suc, ◌+◌, ◌<◌, false, List, [], ◌∷◌, ◌++◌, length, None, refl, sym, ap, ◌∙◌, subst, arith, length-append}
use Rattle.std.specs.Prelude.{not, ◌||◌, if◌then◌else◌, slice_index_or}
use Rattle.std.specs.List.{list_any}
use Rattle.std.proofs.Math.Seq.{get_or-append_seam}
use Rattle.script_tree.specs.declared.value.Fault.TheVariants.{NoChoice, Kind}
use Rattle.script_tree.specs.declared.value.Value.{Value}
use Rattle.script_tree.specs.declared.value.Value.TheVariants.{Fault as Faulty}
use Rattle.script_tree.specs.Eval.{eval_script}
use Rattle.signal_graph.specs.declared.node.Node.{Node}
use Rattle.signal_graph.specs.declared.node.Node.TheVariants.{Source, Signal, Fold, Choose}
use Rattle.signal_graph.specs.declared.call.Call.{Call}
use Rattle.signal_graph.specs.declared.call.Call.TheVariants.{Fire, Read}
use Rattle.signal_graph.specs.Graph.{Graph, node_at, IsNode, AreNodes, IsGraph}
use Rattle.signal_graph.specs.Values.{Values, at, run, node_value, values, val}
use Rattle.signal_graph.specs.Machine.{differs, with_sets, sets_of, misnamed, after}
use Rattle.signal_graph.specs.OnePass.{new_value, new_from}
use Rattle.signal_graph.proofs.Values.{same_node, values_are, same_inputs}
use Rattle.signal_graph.proofs.OnePassLaws.{new_stay}
use Rattle.signal_graph.proofs.Literal.{literal, same_any}
use Rattle.signal_graph.proofs.SameValues.{same-self}

-- a node's new value rests on the new values of earlier nodes alone
same_new : (names : List (List ℕ)) (n : ℕ) (a b : Values) → ((m : ℕ) → m < n → at a m ≡ at b m) → (node : Node) (set old : Value) (before : Values) → IsNode names n node → new_value node set old before a ≡ new_value node set old before b
same_new names n a b e (Source start) set old before h = refl
same_new names n a b e (Signal script inputs) set old before h = same_node names n a b e (Signal script inputs) set h
same_new names n a b e (Fold start script inputs) set old before h =
    ap (λ t. if t then run script inputs a old else old) (same_any n before a b e inputs h.3)
    ∙ ap (λ vs. if list_any (differs before b) inputs then eval_script script.tree vs old else old) (same_inputs n a b e inputs h.3)
same_new names n a b e (Choose selectors body inputs) set old before h = same_node names n a b e (Choose selectors body inputs) set h

new_are_from : (names : List (List ℕ)) (before set : Values) (nodes : List Node) (earlier : Values) (k : ℕ) → AreNodes names (length earlier) nodes → k < length nodes
    → at (new_from before set earlier nodes) (length earlier + k) ≡ new_value (slice_index_or nodes k (Source (Faulty Kind))) (at set (length earlier + k)) (at before (length earlier + k)) before (new_from before set earlier nodes)
new_are_from names before set [] earlier k nodes_are h = absurd (omega arith)
new_are_from names before set (node ∷ rest) earlier zero nodes_are h =
    let v = new_value node (at set (length earlier)) (at before (length earlier)) before earlier in
    let whole = new_from before set (earlier ++ v ∷ []) rest in
    let e : length earlier + 0 ≡ length earlier = omega arith in
    ap (at whole) e
    ∙ new_stay before set rest (earlier ++ v ∷ []) (length earlier) (omega (arith, length-append earlier (v ∷ [])))
    ∙ get_or-append_seam earlier v [] (Faulty NoChoice)
    ∙ same_new names (length earlier) earlier whole (λ m le. sym (new_stay before set (node ∷ rest) earlier m le)) node (at set (length earlier)) (at before (length earlier)) before nodes_are.0
    ∙ ap (λ i. new_value node (at set i) (at before i) before whole) (sym e)
new_are_from names before set (node ∷ rest) earlier (suc k) nodes_are h =
    let v = new_value node (at set (length earlier)) (at before (length earlier)) before earlier in
    let whole = new_from before set (earlier ++ v ∷ []) rest in
    let len : length earlier + 1 ≡ length (earlier ++ v ∷ []) = omega (arith, length-append earlier (v ∷ [])) in
    let e : length (earlier ++ v ∷ []) + k ≡ length earlier + suc k = omega (arith, length-append earlier (v ∷ [])) in
    ap (at whole) (sym e)
    ∙ new_are_from names before set rest (earlier ++ v ∷ []) k (subst (λ n. AreNodes names n rest) len nodes_are.1) (omega arith)
    ∙ ap (λ i. new_value (slice_index_or rest k (Source (Faulty Kind))) (at set i) (at before i) before whole) e

-- ---- a call that sets nothing

pub none_differ : (vs : Values) (xs : List ℕ) → list_any (differs vs vs) xs ≡ false
none_differ vs [] = refl
none_differ vs (x ∷ xs) = ap (λ t. not t || list_any (differs vs vs) xs) (same-self (at vs x)) ∙ none_differ vs xs

unset : (node : Node) (kept old : Value) (vs : Values) → old ≡ node_value node kept vs → old ≡ new_value node old old vs vs
unset (Source start) kept old vs e = refl
unset (Signal script inputs) kept old vs e = e
unset (Fold start script inputs) kept old vs e = sym (ap (λ t. if t then run script inputs vs old else old) (none_differ vs inputs))
unset (Choose selectors body inputs) kept old vs e = e

-- ---- the law

pub new_values_are : (graph : Graph) → IsGraph graph → (kept : Values) → length kept ≡ length graph.nodes → (call : Call) → misnamed graph call ≡ None → (n : ℕ) → n < length graph.nodes
    → val graph (after graph kept call) n ≡ new_value (node_at graph n) (at (with_sets graph (values graph kept) (sets_of call)) n) (val graph kept n) (values graph kept) (values graph (after graph kept call))
new_values_are graph g kept long (Fire sets looks) named n h =
    let before = values graph kept in
    let set = with_sets graph before sets in
    let pass = literal graph g kept long (Fire sets looks) named in
    let e : 0 + n ≡ n = omega arith in
    subst (λ vs. at vs n ≡ new_value (node_at graph n) (at set n) (at before n) before vs) (sym pass)
    (subst (λ i. at (new_from before set [] graph.nodes) i ≡ new_value (node_at graph n) (at set i) (at before i) before (new_from before set [] graph.nodes)) e
    (new_are_from graph.names before set graph.nodes [] n g.nodes h))
new_values_are graph g kept long (Read looks) named n h =
    unset (node_at graph n) (at kept n) (val graph kept n) (values graph kept) (values_are graph kept n g.nodes h)
