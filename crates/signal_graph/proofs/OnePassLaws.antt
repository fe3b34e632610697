-- The values after a fire are a state's values, and a node without a changed dependency keeps its value.
use Rattle.std.proofs.Common.{◌≡◌, ℕ, ◌+◌, ◌<◌, Bool, true, false, List, [], ◌∷◌, ◌++◌, length, Option, Some, None, Result, Ok, Err, refl, sym, ap, ◌∙◌, subst, arith, length-append}
use Rattle.std.specs.Prelude.{map, if◌then◌else◌, ◌==◌, ◌||◌, ◌≢◌}
use Rattle.std.specs.List.{AllByRecursion, list_any}
use Rattle.std.proofs.lemmas.List.{get_or_append_left}
use Rattle.std.proofs.Math.Seq.{get_or-append_seam}
use Rattle.std.proofs.lemmas.Bool.Decides.{eqb_tells}
use Rattle.std.proofs.lemmas.Bool.{false≢true}
use Rattle.script_tree.specs.declared.value.Fault.{Fault}
use Rattle.script_tree.specs.declared.value.Fault.TheVariants.{NoChoice, Kind}
use Rattle.script_tree.specs.declared.value.Value.{Value}
use Rattle.script_tree.specs.declared.value.Value.TheVariants.{Fault as Faulty}
use Rattle.script_tree.specs.Scripts.{Scripted}
use Rattle.script_tree.specs.Eval.{eval_script, eval_body}
use Rattle.script_tree.proofs.Lists.{all_front, all_behind}
use Rattle.signal_graph.specs.declared.node.NodeKind.TheVariants as kind
use Rattle.signal_graph.specs.declared.node.Selector.{Selector}
use Rattle.signal_graph.specs.declared.node.Node.{Node}
use Rattle.signal_graph.specs.declared.node.Node.TheVariants.{Source, Signal, Fold, Choose}
use Rattle.signal_graph.specs.Graph.{Graph, node_at, kind_of, is_in, inputs_of, inputs_of_all, different, different_from, IsNode, IsGraph, is_source}
use Rattle.signal_graph.specs.Values.{Values, at, select, run, selected, pick_of, pick, first_pick, choose_value, node_value, values_from, values, val, taken, picks_of, nodes_in, deps}
use Rattle.signal_graph.specs.OnePass.{new_value, new_from}
use Rattle.signal_graph.proofs.Values.{values_are, values_stay}
use Rattle.signal_graph.proofs.GraphNodes.{node_is}

pub new_stay : (before set : Values) (nodes : List Node) (earlier : Values) (k : ℕ) → k < length earlier → at (new_from before set earlier nodes) k ≡ at earlier k
new_stay before set [] earlier k h = refl
new_stay before set (node ∷ rest) earlier k h =
    let v = new_value node (at set (length earlier)) (at before (length earlier)) before earlier in
    new_stay before set rest (earlier ++ v ∷ []) k (omega (arith, length-append earlier (v ∷ [])))
    ∙ get_or_append_left earlier (v ∷ []) (Faulty NoChoice) k h

pub length-new_from : (before set : Values) (nodes : List Node) (earlier : Values) → length (new_from before set earlier nodes) ≡ length earlier + length nodes
length-new_from before set [] earlier = omega arith
length-new_from before set (node ∷ rest) earlier =
    let v = new_value node (at set (length earlier)) (at before (length earlier)) before earlier in
    omega (arith, length-new_from before set rest (earlier ++ v ∷ []), length-append earlier (v ∷ []))

kept_value : (node : Node) (set old : Value) (before earlier : Values) → node_value node (new_value node set old before earlier) earlier ≡ new_value node set old before earlier
kept_value (Source start) set old before earlier = refl
kept_value (Signal script inputs) set old before earlier = refl
kept_value (Fold start script inputs) set old before earlier = refl
kept_value (Choose selectors body inputs) set old before earlier = refl

value_of_value : (node : Node) (kept : Value) (earlier : Values) → node_value node (node_value node kept earlier) earlier ≡ node_value node kept earlier
value_of_value (Source start) kept earlier = refl
value_of_value (Signal script inputs) kept earlier = refl
value_of_value (Fold start script inputs) kept earlier = refl
value_of_value (Choose selectors body inputs) kept earlier = refl

-- what a fire gives is the values of a state, which keeps of them those of the sources and folds
pub new_values_from : (before set : Values) (nodes : List Node) (earlier : Values) → values_from earlier nodes (new_from before set earlier nodes) ≡ new_from before set earlier nodes
new_values_from before set [] earlier = refl
new_values_from before set (node ∷ rest) earlier =
    let v = new_value node (at set (length earlier)) (at before (length earlier)) before earlier in
    let whole = new_from before set (earlier ++ v ∷ []) rest in
    let here = new_stay before set rest (earlier ++ v ∷ []) (length earlier) (omega (arith, length-append earlier (v ∷ []))) ∙ get_or-append_seam earlier v [] (Faulty NoChoice) in
    ap (λ u. values_from (earlier ++ node_value node u earlier ∷ []) rest whole) here
    ∙ ap (λ u. values_from (earlier ++ u ∷ []) rest whole) (kept_value node (at set (length earlier)) (at before (length earlier)) before earlier)
    ∙ new_values_from before set rest (earlier ++ v ∷ [])

pub same_map : (a b : Values) (xs : List ℕ) → AllByRecursion (λ m. at a m ≡ at b m) xs → map (at a) xs ≡ map (at b) xs
same_map a b [] h = refl
same_map a b (x ∷ xs) h = ap (λ v. v ∷ map (at a) xs) h.0 ∙ ap (λ vs. at b x ∷ vs) (same_map a b xs h.1)

-- what holds of all members of a list holds of one that is in it
pub in_all : (P : ℕ → Type 0) (n : ℕ) (ns : List ℕ) → is_in n ns ≡ true → AllByRecursion P ns → P n
in_all P n [] e h = absurd (cc)
in_all P n (m ∷ ns) e h = cases (m == n) refl (λ k. in_all P n ns k h.1)
  where
    cases : (b : Bool) → (m == n) ≡ b → (is_in n ns ≡ true → P n) → P n
    cases true same later = let e : m ≡ n = grind (arith, eqb_tells, same) in subst P e h.0
    cases false other later = later (sym (ap (λ b. b || is_in n ns) other) ∙ e)

-- what holds of the different members of a list holds of all of them
pub all_of_different : (P : ℕ → Type 0) (seen ns : List ℕ) → AllByRecursion P seen → AllByRecursion P (different_from seen ns) → AllByRecursion P ns
all_of_different P seen [] s h = tt
all_of_different P seen (n ∷ ns) s h =
    cases (is_in n seen) refl h (λ k. all_of_different P seen ns s k) (λ p k. all_of_different P (n ∷ seen) ns (p, s) k)
  where
    cases : (b : Bool) → is_in n seen ≡ b → AllByRecursion P (if b then different_from seen ns else n ∷ different_from (n ∷ seen) ns) → (AllByRecursion P (different_from seen ns) → AllByRecursion P ns) → (P n → AllByRecursion P (different_from (n ∷ seen) ns) → AllByRecursion P ns) → P n × AllByRecursion P ns
    cases true there k old new = (in_all P n seen there s, old k)
    cases false absent k old new = (k.0, new k.0 k.1)

chosen_same : (a b : Values) (r : Result ℕ Fault) (rest : List (Option ℕ)) → AllByRecursion (λ m. at a m ≡ at b m) (nodes_in (taken r ∷ rest)) → pick_of a r ≡ pick_of b r
chosen_same a b (Ok c) rest h = h.0
chosen_same a b (Err f) rest h = refl

others_same : (P : ℕ → Type 0) (r : Result ℕ Fault) (rest : List (Option ℕ)) → AllByRecursion P (nodes_in (taken r ∷ rest)) → AllByRecursion P (nodes_in rest)
others_same P (Ok c) rest h = h.1
others_same P (Err f) rest h = h

pick_same : (a b : Values) (selector : Selector) → AllByRecursion (λ m. at a m ≡ at b m) selector.inputs → pick_of a (selected a selector) ≡ pick_of b (selected a selector) → pick a selector ≡ pick b selector
pick_same a b selector inputs chosen =
    chosen ∙ ap (λ vs. pick_of b (select (eval_script selector.script.tree vs (Faulty Kind)) selector.candidates)) (same_map a b selector.inputs inputs)

picks_same : (a b : Values) (selectors : List Selector) → AllByRecursion (λ m. at a m ≡ at b m) (inputs_of_all selectors) → AllByRecursion (λ m. at a m ≡ at b m) (nodes_in (map (λ s. taken (selected a s)) selectors)) → map (pick a) selectors ≡ map (pick b) selectors
picks_same a b [] inputs chosen = refl
picks_same a b (s ∷ rest) inputs chosen =
    ap (λ v. v ∷ map (pick a) rest) (pick_same a b s (all_front _ s.inputs (inputs_of_all rest) inputs) (chosen_same a b (selected a s) _ chosen))
    ∙ ap (λ vs. pick b s ∷ vs) (picks_same a b rest (all_behind _ s.inputs (inputs_of_all rest) inputs) (others_same _ (selected a s) _ chosen))

first_same : (a b : Values) (selectors : List Selector) → AllByRecursion (λ m. at a m ≡ at b m) (inputs_of_all selectors) → AllByRecursion (λ m. at a m ≡ at b m) (nodes_in (map (λ s. taken (selected a s)) selectors)) → first_pick a selectors ≡ first_pick b selectors
first_same a b [] inputs chosen = refl
first_same a b (s ∷ rest) inputs chosen = pick_same a b s (all_front _ s.inputs (inputs_of_all rest) inputs) (chosen_same a b (selected a s) _ chosen)

choose_same : (a b : Values) (selectors : List Selector) (body : Option Scripted) → AllByRecursion (λ m. at a m ≡ at b m) (inputs_of_all selectors) → AllByRecursion (λ m. at a m ≡ at b m) (nodes_in (map (λ s. taken (selected a s)) selectors)) → choose_value selectors body a ≡ choose_value selectors body b
choose_same a b selectors None inputs chosen = first_same a b selectors inputs chosen
choose_same a b selectors (Some body) inputs chosen = ap (λ vs. eval_body body.tree vs) (picks_same a b selectors inputs chosen)

-- a signal or choose none of whose dependencies has another value than before has its value of before
pub skips_node : (names : List (List ℕ)) (n : ℕ) (node : Node) (u v : Value) (a b : Values) → IsNode names n node → kind_of node ≢ kind.Source → kind_of node ≢ kind.Fold → AllByRecursion (λ m. at a m ≡ at b m) (inputs_of node ++ nodes_in (picks_of node a)) → node_value node u a ≡ node_value node v b
skips_node names n (Source start) u v a b is_node not_source not_fold h = absurd (not_source refl)
skips_node names n (Signal script inputs) u v a b is_node not_source not_fold h = ap (λ vs. eval_script script.tree vs (Faulty Kind)) (same_map a b inputs (all_front _ inputs [] h))
skips_node names n (Fold start script inputs) u v a b is_node not_source not_fold h = absurd (not_fold refl)
skips_node names n (Choose selectors body inputs) u v a b is_node not_source not_fold h =
    choose_same a b selectors body
    (all_of_different _ [] (inputs_of_all selectors) tt (subst (AllByRecursion (λ m. at a m ≡ at b m)) is_node.4 (all_front _ inputs _ h)))
    (all_behind _ inputs _ h)

selected_same : (a b : Values) (selector : Selector) → AllByRecursion (λ m. at a m ≡ at b m) selector.inputs → selected a selector ≡ selected b selector
selected_same a b selector h = ap (λ vs. select (eval_script selector.script.tree vs (Faulty Kind)) selector.candidates) (same_map a b selector.inputs h)

all_selected_same : (a b : Values) (selectors : List Selector) → AllByRecursion (λ m. at a m ≡ at b m) (inputs_of_all selectors) → map (λ s. taken (selected a s)) selectors ≡ map (λ s. taken (selected b s)) selectors
all_selected_same a b [] h = refl
all_selected_same a b (s ∷ rest) h =
    ap (λ r. taken r ∷ map (λ s. taken (selected a s)) rest) (selected_same a b s (all_front _ s.inputs (inputs_of_all rest) h))
    ∙ ap (λ ps. taken (selected b s) ∷ ps) (all_selected_same a b rest (all_behind _ s.inputs (inputs_of_all rest) h))

-- a node picks the same where its inputs have the same values
pub same_picks : (names : List (List ℕ)) (n : ℕ) (node : Node) (a b : Values) → IsNode names n node → AllByRecursion (λ m. at a m ≡ at b m) (inputs_of node) → picks_of node a ≡ picks_of node b
same_picks names n (Source start) a b is_node h = refl
same_picks names n (Signal script inputs) a b is_node h = refl
same_picks names n (Fold start script inputs) a b is_node h = refl
same_picks names n (Choose selectors body inputs) a b is_node h =
    all_selected_same a b selectors (all_of_different _ [] (inputs_of_all selectors) tt (subst (AllByRecursion (λ m. at a m ≡ at b m)) is_node.4 h))

-- the values of a state are themselves a state, which has these values
pub values_of_values : (nodes : List Node) (earlier kept : Values) → values_from earlier nodes (values_from earlier nodes kept) ≡ values_from earlier nodes kept
values_of_values [] earlier kept = refl
values_of_values (node ∷ rest) earlier kept =
    let k = at kept (length earlier) in
    let v = node_value node k earlier in
    let whole = values_from (earlier ++ v ∷ []) rest kept in
    let here = values_stay rest (earlier ++ v ∷ []) kept (length earlier) (omega (arith, length-append earlier (v ∷ []))) ∙ get_or-append_seam earlier v [] (Faulty NoChoice) in
    ap (λ u. values_from (earlier ++ node_value node u earlier ∷ []) rest whole) here
    ∙ ap (λ u. values_from (earlier ++ u ∷ []) rest whole) (value_of_value node k earlier)
    ∙ values_of_values rest (earlier ++ v ∷ []) kept

-- a source has what it is set to
pub source_value : (node : Node) (set old : Value) (before earlier : Values) → is_source node ≡ true → new_value node set old before earlier ≡ set
source_value (Source start) set old before earlier h = refl
source_value (Signal script inputs) set old before earlier h = absurd (false≢true h)
source_value (Fold start script inputs) set old before earlier h = absurd (false≢true h)
source_value (Choose selectors body inputs) set old before earlier h = absurd (false≢true h)

-- in two states, a signal or choose all of whose dependencies have the same value in both has the same value in both
pub skips : (graph : Graph) → IsGraph graph → (kept next : Values) (n : ℕ) → n < length graph.nodes → kind_of (node_at graph n) ≢ kind.Source → kind_of (node_at graph n) ≢ kind.Fold → AllByRecursion (λ m. val graph kept m ≡ val graph next m) (deps graph kept n) → val graph kept n ≡ val graph next n
skips graph is_graph kept next n within not_source not_fold h =
    values_are graph kept n is_graph.nodes within
    ∙ skips_node graph.names (0 + n) (node_at graph n) (at kept n) (at next n) (values graph kept) (values graph next) (node_is graph.names 0 graph.nodes n (Source (Faulty Kind)) is_graph.nodes within) not_source not_fold h
    ∙ sym (values_are graph next n is_graph.nodes within)
