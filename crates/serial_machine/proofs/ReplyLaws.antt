-- The reply that the values before a call and after it give is the one-thread machine's.
use Rattle.std.proofs.Common.{◌≡◌, ℕ, ◌+◌, ◌≤◌, Bool, true, false, List, [], ◌∷◌, length, refl, sym, ap, ◌∙◌, arith}
use Rattle.std.specs.Prelude.{map, filter, cond, not, nat_lt, ◌&&◌, ◌||◌, ◌==◌}
use Rattle.std.specs.List.{list_any}
use Rattle.std.proofs.lemmas.List.{get_or_past}
use Rattle.std.proofs.lemmas.Bool.Decides.{eqb_tells, nat_tests}
use Rattle.std.proofs.lemmas.List.Elements.{filter_agree}
use Rattle.script_tree.specs.declared.value.Value.{Value}
use Rattle.script_tree.specs.declared.value.Value.TheVariants.{Fault as Faulty}
use Rattle.script_tree.specs.declared.value.Fault.TheVariants.{NoChoice}
use Rattle.signal_graph.specs.declared.node.Node.{Node}
use Rattle.signal_graph.specs.declared.call.Call.{Call}
use Rattle.signal_graph.specs.declared.call.Call.TheVariants.{Fire, Read}
use Rattle.signal_graph.specs.declared.call.Reply.TheVariants.{Fire as Fired, Read as Seen}
use Rattle.signal_graph.specs.Graph.{Graph, node_at, numbers, numbers_from, is_in, is_source, number_of}
use Rattle.signal_graph.specs.Values.{Values, at, values, deps}
use Rattle.signal_graph.specs.Machine.{differs, same, after, reply, evaluated, looked, sets_of, looks_of}
use Rattle.signal_graph.specs.OnePass.{after_call}
use Rattle.signal_graph.proofs.ScriptNames.{among}
use Rattle.serial_machine.specs.Between.{is_evaluated, count_changed, count_evaluated, looked_in, reply_between}

-- a test of each member that gives the same gives the same of all
any_same : (p q : ℕ → Bool) → ((n : ℕ) → p n ≡ q n) → (ns : List ℕ) → list_any p ns ≡ list_any q ns
any_same p q e [] = refl
any_same p q e (n ∷ ns) = ap (λ b. b || list_any p ns) (e n) ∙ ap (λ b. q n || b) (any_same p q e ns)

not_beyond : (p : ℕ → Bool) (d n : ℕ) (nodes : List Node) → n + length nodes ≤ d → is_in d (filter p (numbers_from n nodes)) ≡ false
not_beyond p d n [] h = refl
not_beyond p d n (node ∷ rest) h = cases (p n) (not_beyond p d (n + 1) rest (omega arith))
  where
    cases : (t : Bool) → is_in d (filter p (numbers_from (n + 1) rest)) ≡ false → list_any (λ m. m == d) (cond t (n ∷ filter p (numbers_from (n + 1) rest)) (filter p (numbers_from (n + 1) rest))) ≡ false
    cases true later = let ne : (n == d) ≡ false = grind (arith, eqb_tells) in ap (λ b. b || is_in d (filter p (numbers_from (n + 1) rest))) ne ∙ later
    cases false later = later

-- behind the end of both lists no value differs
beyond : (values : Values) (d : ℕ) → length values ≤ d → at values d ≡ Faulty NoChoice
beyond values d h = get_or_past values d (Faulty NoChoice) h

differs_beyond : (before now : Values) (d : ℕ) → length before ≤ d → length now ≤ d → differs before now d ≡ false
differs_beyond before now d h k =
    ap (λ v. not (same v (at now d))) (beyond before d h) ∙ ap (λ v. not (same (Faulty NoChoice) v)) (beyond now d k)

-- a node is among those that changed where its value differs
changed_is : (graph : Graph) (before now : Values) → length before ≡ length graph.nodes → length now ≡ length graph.nodes → (d : ℕ) → is_in d (filter (differs before now) (numbers graph)) ≡ differs before now d
changed_is graph before now b n d = cases (nat_lt d (length graph.nodes)) refl
  where
    cases : (t : Bool) → nat_lt d (length graph.nodes) ≡ t → is_in d (filter (differs before now) (numbers graph)) ≡ differs before now d
    cases true within = among (differs before now) 0 graph.nodes d (omega arith) (grind (arith, nat_tests, within))
    cases false past =
        let h : length graph.nodes ≤ d = grind (arith, nat_tests, past) in
        not_beyond (differs before now) d 0 graph.nodes (omega arith) ∙ sym (differs_beyond before now d (omega arith) (omega arith))

-- the nodes whose dependencies changed are those whose dependencies differ
evaluated_is : (graph : Graph) (kept next : Values) → length (values graph kept) ≡ length graph.nodes → length (values graph next) ≡ length graph.nodes → length (evaluated graph kept next) ≡ count_evaluated graph (values graph kept) (values graph next)
evaluated_is graph kept next b n =
    ap length (filter_agree _ (λ m. is_evaluated (values graph kept) (values graph next) (node_at graph m))
    (λ m. ap (λ t. not (is_source (node_at graph m)) && t) (any_same _ (differs (values graph kept) (values graph next)) (λ d. changed_is graph (values graph kept) (values graph next) b n d) (deps graph kept m)))
    (numbers graph))

-- the reply follows from the values of all nodes before the call and after it
pub reply_is : (graph : Graph) (kept now : Values) (call : Call) → length (values graph kept) ≡ length graph.nodes → length now ≡ length graph.nodes → values graph (after graph kept call) ≡ now → reply graph kept call ≡ reply_between graph (values graph kept) now call
reply_is graph kept now (Fire sets looks) b n e =
    let next = after graph kept (Fire sets looks) in
    ap (λ k. Fired (count_changed graph (values graph kept) (values graph next)) k (looked graph next looks)) (evaluated_is graph kept next b (ap length e ∙ n))
    ∙ ap (λ w. Fired (count_changed graph (values graph kept) w) (count_evaluated graph (values graph kept) w) (looked_in graph w looks)) e
reply_is graph kept now (Read looks) b n e = ap (λ w. Seen (looked_in graph w looks)) e

-- the same from all values before the call, where the values after it follow from these
pub step_is : (graph : Graph) (all kept : Values) (call : Call) → length all ≡ length graph.nodes → values graph kept ≡ all → values graph (after graph kept call) ≡ after_call graph (values graph kept) call → length (values graph (after graph kept call)) ≡ length graph.nodes → reply graph kept call ≡ reply_between graph all (after_call graph all call) call
step_is graph all kept call size gives pass long =
    let now = after_call graph all call in
    let e : values graph (after graph kept call) ≡ now = pass ∙ ap (λ vs. after_call graph vs call) gives in
    reply_is graph kept now call (ap length gives ∙ size) (sym (ap length e) ∙ long) e
    ∙ ap (λ vs. reply_between graph vs now call) gives

looked_by_number : (graph : Graph) (all : Values) (names : List (List ℕ)) → map (at all) (map (number_of graph) names) ≡ looked_in graph all names
looked_by_number graph all [] = refl
looked_by_number graph all (name ∷ names) = ap (λ vs. at all (number_of graph name) ∷ vs) (looked_by_number graph all names)

-- the values of the nodes that a read names are its reply
pub read_is : (graph : Graph) (all kept : Values) (call : Call) (names : List (List ℕ)) (nodes : List ℕ) (seen : List Value) → call ≡ Read names → values graph kept ≡ all
    → nodes ≡ map (number_of graph) (looks_of call) → seen ≡ map (at all) nodes → Seen seen ≡ reply graph kept call
read_is graph all kept call names nodes seen is gives numbers sees =
    let here : nodes ≡ map (number_of graph) names = numbers ∙ ap (λ k. map (number_of graph) (looks_of k)) is in
    ap Seen (sees ∙ ap (map (at all)) here ∙ looked_by_number graph all names ∙ ap (λ vs. looked_in graph vs names) (sym gives)) ∙ ap (reply graph kept) (sym is)

-- a fire is what it sets and looks at
pub fire_again : (call : Call) (sets : List (List ℕ × Value)) (looks : List (List ℕ)) → call ≡ Fire sets looks → Fire (sets_of call) (looks_of call) ≡ call
fire_again call sets looks is = ap (λ k. Fire (sets_of k) (looks_of k)) is ∙ sym is

-- the reply to a fire over equal graphs, values and looks
pub fired_is : (g h : Graph) (b c n m : Values) (nodes : List ℕ) (names : List (List ℕ)) (changed evaluated : ℕ) (seen : List Value) → changed ≡ count_changed g b n → evaluated ≡ count_evaluated g b n
    → seen ≡ map (at n) nodes → nodes ≡ map (number_of h) names → g ≡ h → b ≡ c → n ≡ m → Fired changed evaluated seen ≡ Fired (count_changed h c m) (count_evaluated h c m) (looked_in h m names)
fired_is g h b c n m nodes names changed evaluated seen by_change by_deps by_looks numbers graph before now =
    ap (λ x. Fired x evaluated seen) (by_change ∙ ap (λ x. count_changed x b n) graph ∙ ap (λ x. count_changed h x n) before ∙ ap (count_changed h c) now)
    ∙ ap (λ x. Fired (count_changed h c m) x seen) (by_deps ∙ ap (λ x. count_evaluated x b n) graph ∙ ap (λ x. count_evaluated h x n) before ∙ ap (λ x. count_evaluated h c x) now)
    ∙ ap (Fired (count_changed h c m) (count_evaluated h c m)) (by_looks ∙ ap (map (at n)) numbers ∙ looked_by_number h n names ∙ ap (λ x. looked_in h x names) now)
