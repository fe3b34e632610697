-- One pass over the nodes, which finds the new values and counts what changes.
use Rattle.std.proofs.Common.{◌≡◌, ℕ, zero, suc, ◌+◌, ◌<◌, ◌≤◌, Bool, true, false, List, [], ◌∷◌, ◌++◌, length, drop, Option, refl, sym, ap, ◌∙◌, subst, arith, length-append}
use Rattle.std.specs.Prelude.{pos, negsuc, map, not, ◌&&◌, ◌||◌, if◌then◌else◌, slice_get}
use Rattle.std.specs.List.{AllByRecursion, list_any}
use Rattle.std.proofs.Math.Seq.{get_or-append_seam}
use Rattle.script_tree.specs.declared.value.Fault.TheVariants.{NoChoice, Kind}
use Rattle.script_tree.specs.declared.value.Value.{Value}
use Rattle.script_tree.specs.declared.value.Value.TheVariants.{Int, Bool as Truth, Fault as Faulty}
use Rattle.script_tree.specs.Scripts.{Scripted}
use Rattle.script_tree.proofs.Lists.{all_append}
use Rattle.signal_graph.specs.declared.node.Selector.{Selector}
use Rattle.signal_graph.specs.declared.node.Node.{Node}
use Rattle.signal_graph.specs.declared.node.Node.TheVariants.{Source, Signal, Fold, Choose}
use Rattle.signal_graph.specs.Graph.{Graph, node_at, is_source, inputs_of, inputs_of_all, IsSelector, IsNode}
use Rattle.signal_graph.specs.Values.{Values, at, run, candidate, select, selected, taken, picks_of, nodes_in}
use Rattle.signal_graph.specs.Machine.{same, differs}
use Rattle.signal_graph.specs.OnePass.{new_value, new_from}
use Rattle.signal_graph.proofs.OnePassLaws.{new_stay}
use Rattle.signal_graph.proofs.GraphNodes.{all-different, earlier_in_selectors}
use Rattle.serial_machine.specs.Between.{one_if, is_evaluated, count_changed, count_evaluated}
use Rattle.serial_machine.proofs.Counting.{left, one_more, none_more, new_step}

picked_candidate : (P : ℕ → Type 0) (candidates : List ℕ) (i : ℕ) (rest : List (Option ℕ)) → AllByRecursion P candidates → AllByRecursion P (nodes_in rest) → AllByRecursion P (nodes_in (taken (candidate (slice_get candidates i)) ∷ rest))
picked_candidate P [] i rest h later = later
picked_candidate P (c ∷ cs) zero rest h later = (h.0, later)
picked_candidate P (c ∷ cs) (suc i) rest h later = picked_candidate P cs i rest h.1 later

-- what holds of candidates holds of the one that is picked
pub picked : (P : ℕ → Type 0) (value : Value) (candidates : List ℕ) (rest : List (Option ℕ)) → AllByRecursion P candidates → AllByRecursion P (nodes_in rest) → AllByRecursion P (nodes_in (taken (select value candidates) ∷ rest))
picked P (Int (pos i)) candidates rest h later = picked_candidate P candidates i rest h later
picked P (Int (negsuc i)) candidates rest h later = later
picked P (Truth b) candidates rest h later = later
picked P (Faulty f) candidates rest h later = later

earlier_picks : (names : List (List ℕ)) (n : ℕ) (all : Values) (selectors : List Selector) → AllByRecursion (IsSelector names n) selectors → AllByRecursion (λ m. m < n) (nodes_in (map (λ s. taken (selected all s)) selectors))
earlier_picks names n all [] h = tt
earlier_picks names n all (s ∷ rest) h =
    picked (λ m. m < n) (run s.script s.inputs all (Faulty Kind)) s.candidates (map (λ r. taken (selected all r)) rest) h.0.candidates_earlier (earlier_picks names n all rest h.1)

-- a node rests on earlier nodes alone
pub earlier_deps : (names : List (List ℕ)) (n : ℕ) (node : Node) (all : Values) → IsNode names n node → AllByRecursion (λ m. m < n) (inputs_of node ++ nodes_in (picks_of node all))
earlier_deps names n (Source start) all h = tt
earlier_deps names n (Signal script inputs) all h = all_append (λ m. m < n) inputs [] h.3 tt
earlier_deps names n (Fold start script inputs) all h = all_append (λ m. m < n) inputs [] h.3 tt
earlier_deps names n (Choose selectors body inputs) all h =
    all_append (λ m. m < n) inputs (nodes_in (map (λ s. taken (selected all s)) selectors))
    (subst (λ ns. AllByRecursion (λ m. m < n) ns) (sym h.4) (all-different (λ m. m < n) [] (inputs_of_all selectors) (earlier_in_selectors names n selectors h.2)))
    (earlier_picks names n all selectors h.2)

any_below : (n : ℕ) (p q : ℕ → Bool) → ((m : ℕ) → m < n → p m ≡ q m) → (ds : List ℕ) → AllByRecursion (λ m. m < n) ds → list_any p ds ≡ list_any q ds
any_below n p q e [] h = refl
any_below n p q e (d ∷ ds) h = ap (λ b. b || list_any p ds) (e d h.0) ∙ ap (λ b. q d || b) (any_below n p q e ds h.1)

-- whether a node is evaluated rests on the values of earlier nodes alone
evaluated_stays : (names : List (List ℕ)) (n : ℕ) (node : Node) (before a b : Values) → IsNode names n node → ((m : ℕ) → m < n → at a m ≡ at b m) → is_evaluated before a node ≡ is_evaluated before b node
evaluated_stays names n node before a b is_node e =
    ap (λ t. not (is_source node) && t)
    (any_below n (differs before a) (differs before b) (λ m lt. ap (λ v. not (same (at before m) v)) (e m lt)) (inputs_of node ++ nodes_in (picks_of node before)) (earlier_deps names n node before is_node))

any_append_none : (p : ℕ → Bool) (ds : List ℕ) → list_any p (ds ++ []) ≡ list_any p ds
any_append_none p [] = refl
any_append_none p (d ∷ ds) = ap (λ b. p d || b) (any_append_none p ds)

-- a fold makes a step where it is evaluated
pub fold_value : (start : Value) (script : Scripted) (inputs : List ℕ) (set old : Value) (before earlier : Values) (evaluated : Bool) → evaluated ≡ is_evaluated before earlier (Fold start script inputs) → new_value (Fold start script inputs) set old before earlier ≡ (if evaluated then run script inputs earlier old else old)
fold_value start script inputs set old before earlier evaluated h =
    ap (λ b. if b then run script inputs earlier old else old) (sym (any_append_none (differs before earlier) inputs) ∙ sym h)

counted : (p : ℕ → Bool) (nodes : List Node) (n count total : ℕ) (b : Bool) → n < length nodes → count + left p nodes n ≡ total → p n ≡ b → (count + one_if b) + left p nodes (n + 1) ≡ total
counted p nodes n count total true within h e = omega (arith, h, one_more p nodes n within e)
counted p nodes n count total false within h e = omega (arith, h, none_more p nodes n within e)

few : (count n : ℕ) (b : Bool) → count ≤ n → count + one_if b ≤ n + 1
few count n true h = omega arith
few count n false h = omega arith

-- all values after a fire
abbrev pub all_new : Graph → Values → Values → Values
all_new graph before set = new_from before set [] graph.nodes

-- a pass has come to a number: it has the values of the nodes before it, and the counts of these nodes, to each of which
-- what is missing of the whole is the count of the nodes from there on
pub record HasCome (graph : Graph) (before set : Values) (n : ℕ) (now : Values) (changed evaluated : ℕ) : Type 0 where
  pub size : length now ≡ n
  pub values : new_from before set now (drop n graph.nodes) ≡ all_new graph before set
  pub changes : changed + left (differs before (all_new graph before set)) graph.nodes n ≡ count_changed graph before (all_new graph before set)
  pub evaluates : evaluated + left (λ m. is_evaluated before (all_new graph before set) (node_at graph m)) graph.nodes n ≡ count_evaluated graph before (all_new graph before set)
  pub few_changed : changed ≤ n
  pub few_evaluated : evaluated ≤ n

-- the next node
pub next_node : (graph : Graph) (before set : Values) (n : ℕ) (now : Values) (changed evaluated : ℕ) (value : Value) (differing rests : Bool) → n < length graph.nodes → IsNode graph.names n (node_at graph n) → rests ≡ is_evaluated before now (node_at graph n) → value ≡ new_value (node_at graph n) (at set n) (at before n) before now → differing ≡ not (same (at before n) value) → HasCome graph before set n now changed evaluated → HasCome graph before set (n + 1) (now ++ value ∷ []) (changed + one_if differing) (evaluated + one_if rests)
next_node graph before set n now changed evaluated value differing rests within is_node by_deps by_node by_value come =
    let whole = all_new graph before set in
    let v = new_value (node_at graph n) (at set n) (at before n) before now in
    let same_values : new_from before set (now ++ value ∷ []) (drop (n + 1) graph.nodes) ≡ whole =
    ap (λ u. new_from before set (now ++ u ∷ []) (drop (n + 1) graph.nodes)) by_node
    ∙ sym (new_step before set now graph.nodes n within come.size) ∙ come.values in
    let stays = λ (m : ℕ) (lt : m < n).
    sym (new_stay before set (drop n graph.nodes) now m (omega (arith, come.size))) ∙ ap (λ vs. at vs m) come.values in
    let here : at whole n ≡ value =
    sym (ap (λ vs. at vs n) same_values)
    ∙ new_stay before set (drop (n + 1) graph.nodes) (now ++ value ∷ []) n (omega (arith, come.size, length-append now (value ∷ [])))
    ∙ subst (λ i. at (now ++ value ∷ []) i ≡ value) come.size (get_or-append_seam now value [] (Faulty NoChoice)) in
    record {
      size = omega (arith, come.size, length-append now (value ∷ []));
      values = same_values;
      changes = counted (differs before whole) graph.nodes n changed _ differing within come.changes (ap (λ u. not (same (at before n) u)) here ∙ sym by_value);
      evaluates = counted (λ m. is_evaluated before whole (node_at graph m)) graph.nodes n evaluated _ rests within come.evaluates
          (sym (evaluated_stays graph.names n (node_at graph n) before now whole is_node stays) ∙ sym by_deps);
      few_changed = few changed n differing come.few_changed;
      few_evaluated = few evaluated n rests come.few_evaluated;
    }
