-- The pass in place: the values before a number are new, and from there on they are those with what is set.
use Rattle.std.proofs.Common.{◌≡◌, ℕ, zero, suc, ◌+◌, ◌<◌, ◌≤◌, Bool, List, [], ◌∷◌, ◌++◌, length, take, drop, get_or, Option, refl, sym, ap, ◌∙◌, subst, arith, length-take, add-one}
use Rattle.std.specs.Prelude.{not, filter, slice_set}
use Rattle.std.proofs.Math.Seq.{take-suc, get_or-append_seam}
use Rattle.std.proofs.lemmas.List.{length-map, get_or_append_left, take_more_set, get_or-set_same, get_or-set_other, length-set, take_all}
use Rattle.std.proofs.Math.ListN.{drop_of_length-le}
use Rattle.script_tree.specs.declared.value.Fault.TheVariants.{Kind, NoChoice}
use Rattle.script_tree.specs.declared.value.Value.TheVariants.{Fault as Faulty}
use Rattle.signal_graph.specs.declared.node.Node.TheVariants.{Source}
use Rattle.signal_graph.specs.Graph.{Graph, IsGraph, IsNode, node_at, inputs_of, numbers_from}
use Rattle.script_tree.specs.declared.value.Value.{Value}
use Rattle.script_tree.proofs.Lists.{all_weaker}
use Rattle.signal_graph.specs.Values.{Values, at, values, start, start_value, picks, picks_of}
use Rattle.signal_graph.specs.Machine.{same, differs}
use Rattle.signal_graph.specs.OnePass.{new_value, new_from}
use Rattle.signal_graph.proofs.GraphNodes.{node_is, earlier_inputs}
use Rattle.signal_graph.proofs.OnePassLaws.{same_picks, values_of_values, new_values_from, length-new_from, new_stay}
use Rattle.signal_graph.proofs.Values.{length-values}
use Rattle.serial_machine.specs.State.{ArePicks, IsKept, IsAt}
use Rattle.serial_machine.specs.Between.{one_if, is_evaluated, count_changed, count_evaluated}
use Rattle.serial_machine.proofs.Counting.{left}
use Rattle.serial_machine.proofs.OnePass.{HasCome, all_new, next_node}

-- a pass in place has come to a number
pub record Comes (graph : Graph) (before set : Values) (n : ℕ) (now : Values) (picked : List (List (Option ℕ))) (changed evaluated : ℕ) : Type 0 where
  pub come : HasCome graph before set n (take n now) changed evaluated
  pub size : length now ≡ length graph.nodes
  pub later : (m : ℕ) → n ≤ m → at now m ≡ at set m
  pub as_many : length picked ≡ length graph.nodes
  pub fresh : (m : ℕ) → m < n → get_or picked m [] ≡ picks_of (node_at graph m) (all_new graph before set)
  pub stale : (m : ℕ) → n ≤ m → m < length graph.nodes → get_or picked m [] ≡ picks_of (node_at graph m) before

pub begins : (graph : Graph) (before set : Values) (picked : List (List (Option ℕ))) → length set ≡ length graph.nodes → ArePicks graph before picked → Comes graph before set 0 set picked 0 0
begins graph before set picked size are = record {
  come = record {
    size = refl;
    values = refl;
    changes = omega arith;
    evaluates = omega arith;
    few_changed = omega arith;
    few_evaluated = omega arith;
  };
  size = size;
  later = λ m h. refl;
  as_many = are.as_many;
  fresh = λ m h. absurd (omega arith);
  stale = λ m h k. are.each m k;
}

-- what a node picks over the values before it is what it picks over all
same_over_all : (graph : Graph) → IsGraph graph → (n : ℕ) (a b : Values) → n < length graph.nodes → ((m : ℕ) → m < n → at a m ≡ at b m) → picks_of (node_at graph n) a ≡ picks_of (node_at graph n) b
same_over_all graph is_graph n a b within e =
    let is : IsNode graph.names (0 + n) (node_at graph n) = node_is graph.names 0 graph.nodes n (Source (Faulty Kind)) is_graph.nodes within in
    same_picks graph.names (0 + n) (node_at graph n) a b is
    (all_weaker (λ m. m < 0 + n) (λ m. at a m ≡ at b m) (λ m h. e m (omega arith)) (inputs_of (node_at graph n)) (earlier_inputs graph.names (0 + n) (node_at graph n) is))

-- what holds below a number and at it holds below the next
pub at_next : (P : ℕ → Type 0) (n : ℕ) → ((m : ℕ) → m < n → P m) → P n → (m : ℕ) → m < n + 1 → P m
at_next P zero f p zero h = p
at_next P zero f p (suc m) h = absurd (omega arith)
at_next P (suc n) f p zero h = f zero (omega arith)
at_next P (suc n) f p (suc m) h = at_next (λ k. P (suc k)) n (λ k lt. f (suc k) (omega arith)) p m (omega arith)

-- the next node
pub next : (graph : Graph) (before set : Values) (n : ℕ) (now more : Values) (picked renewed : List (List (Option ℕ))) (changed evaluated : ℕ) (differing rests : Bool)
    → IsGraph graph → n < length graph.nodes → rests ≡ is_evaluated before (take n now) (node_at graph n)
    → more ≡ slice_set now n (new_value (node_at graph n) (at now n) (at before n) before (take n now))
    → renewed ≡ slice_set picked n (picks_of (node_at graph n) (take n now))
    → differing ≡ not (same (at before n) (at more n))
    → Comes graph before set n now picked changed evaluated
    → Comes graph before set (n + 1) more renewed (changed + one_if differing) (evaluated + one_if rests)
next graph before set n now more picked renewed changed evaluated differing rests is_graph within by_deps by_value by_picks by_change comes =
    let whole = all_new graph before set in
    let earlier = take n now in
    let v = new_value (node_at graph n) (at now n) (at before n) before earlier in
    let w = new_value (node_at graph n) (at set n) (at before n) before earlier in
    let below : n < length now = omega (arith, comes.size) in
    let v_is : v ≡ w = ap (λ s. new_value (node_at graph n) s (at before n) before earlier) (comes.later n (omega arith)) in
    let is : IsNode graph.names n (node_at graph n) = subst (λ k. IsNode graph.names k (node_at graph n)) (let e : 0 + n ≡ n = omega arith in e) (node_is graph.names 0 graph.nodes n (Source (Faulty Kind)) is_graph.nodes within) in
    let here : at more n ≡ v = ap (λ vs. at vs n) by_value ∙ get_or-set_same now n v (Faulty NoChoice) below in
    let grown : take (n + 1) more ≡ earlier ++ v ∷ [] = ap (take (n + 1)) by_value ∙ take_more_set now n v below in
    let stays = λ (m : ℕ) (lt : m < n).
    sym (new_stay before set (drop n graph.nodes) earlier m (omega (arith, comes.come.size))) ∙ ap (λ vs. at vs m) comes.come.values in
    let come = next_node graph before set n earlier changed evaluated v differing rests within is by_deps v_is
    (by_change ∙ ap (λ u. not (same (at before n) u)) here) comes.come in
    record {
      come = subst (λ vs. HasCome graph before set (n + 1) vs (changed + one_if differing) (evaluated + one_if rests)) (sym grown) come;
      size = ap length by_value ∙ length-set now n v ∙ comes.size;
      later = λ m h. ap (λ vs. at vs m) by_value ∙ get_or-set_other now n m v (Faulty NoChoice) (λ e. omega arith) ∙ comes.later m (omega arith);
      as_many = ap length by_picks ∙ length-set picked n (picks_of (node_at graph n) earlier) ∙ comes.as_many;
      fresh = at_next (λ m. get_or renewed m [] ≡ picks_of (node_at graph m) whole) n
          (λ m h. ap (λ ps. get_or ps m []) by_picks ∙ get_or-set_other picked n m (picks_of (node_at graph n) earlier) [] (λ e. omega arith) ∙ comes.fresh m h)
          (ap (λ ps. get_or ps n []) by_picks ∙ get_or-set_same picked n (picks_of (node_at graph n) earlier) [] (omega (arith, comes.as_many))
          ∙ same_over_all graph is_graph n earlier whole within stays);
      stale = λ m h k. ap (λ ps. get_or ps m []) by_picks ∙ get_or-set_other picked n m (picks_of (node_at graph n) earlier) [] (λ e. omega arith) ∙ comes.stale m (omega arith) k;
    }

none_left : (p : ℕ → Bool) (graph : Graph) (n count total : ℕ) → length graph.nodes ≤ n → count + left p graph.nodes n ≡ total → count ≡ total
none_left p graph n count total past h =
    let none : left p graph.nodes n ≡ 0 = ap (λ ns. length (filter p (numbers_from n ns))) (drop_of_length-le graph.nodes past) in
    omega (arith, none, h)

-- what a pass has found where it has come behind the last node
pub record HasFound (graph : Graph) (before set now : Values) (picked : List (List (Option ℕ))) (changed evaluated : ℕ) : Type 0 where
  pub values : now ≡ all_new graph before set
  pub picks : ArePicks graph now picked
  pub changes : changed ≡ count_changed graph before now
  pub evaluates : evaluated ≡ count_evaluated graph before now

pub ends : (graph : Graph) (before set : Values) (n : ℕ) (now : Values) (picked : List (List (Option ℕ))) (changed evaluated : ℕ) → length graph.nodes ≤ n
    → Comes graph before set n now picked changed evaluated → HasFound graph before set now picked changed evaluated
ends graph before set n now picked changed evaluated past comes =
    let whole = all_new graph before set in
    let all : take n now ≡ now = take_all n now (omega (arith, comes.size)) in
    let is : now ≡ whole =
    sym (ap (λ ns. new_from before set now ns) (drop_of_length-le graph.nodes past)) ∙ ap (λ vs. new_from before set vs (drop n graph.nodes)) (sym all) ∙ comes.come.values in
    record {
      values = is;
      picks = record {
        as_many = comes.as_many;
        each = λ m h. comes.fresh m (omega arith) ∙ ap (λ vs. picks_of (node_at graph m) vs) (sym is);
      };
      changes = none_left (differs before whole) graph n changed _ past comes.come.changes ∙ ap (λ vs. count_changed graph before vs) (sym is);
      evaluates = none_left (λ m. is_evaluated before whole (node_at graph m)) graph n evaluated _ past comes.come.evaluates ∙ ap (λ vs. count_evaluated graph before vs) (sym is);
    }

-- the values of the first nodes in the start state, with one more
pub values_step : (all : Values) (n : ℕ) (found more : Values) (value : Value) → n < length all → found ≡ take n all → value ≡ at all n → more ≡ found ++ value ∷ [] → more ≡ take (n + 1) all
values_step all n found more value within are is grown =
    rw (add-one, take-suc all n (Faulty NoChoice) within, ← are, ← is) grown

-- the picks of the first nodes in the start state, with one more
pub picks_step : (graph : Graph) (kept : Values) (n : ℕ) (found more : List (List (Option ℕ))) (picked : List (Option ℕ)) → length found ≡ n
    → ((m : ℕ) → m < n → get_or found m [] ≡ picks graph kept m) → picked ≡ picks graph kept n → more ≡ found ++ picked ∷ []
    → (m : ℕ) → m < n + 1 → get_or more m [] ≡ picks graph kept m
picks_step graph kept n found more picked size are is grown =
    at_next (λ m. get_or more m [] ≡ picks graph kept m) n
    (λ m h. ap (λ ps. get_or ps m []) grown ∙ get_or_append_left found (picked ∷ []) [] m (omega (arith, size)) ∙ are m h)
    (ap (λ ps. get_or ps n []) grown ∙ subst (λ i. get_or (found ++ picked ∷ []) i [] ≡ picked) size (get_or-append_seam found picked [] []) ∙ is)

-- what a machine keeps in the start state
pub kept_at_start : (graph : Graph) (n : ℕ) (found : Values) (picked : List (List (Option ℕ))) → length graph.nodes ≤ n → n ≤ length graph.nodes
    → found ≡ take n (values graph (start graph)) → length picked ≡ n → ((m : ℕ) → m < n → get_or picked m [] ≡ picks graph (start graph) m) → IsKept graph found picked
kept_at_start graph n found picked past within are size each =
    let all = values graph (start graph) in
    let is : found ≡ all = are ∙ take_all n all (omega (arith, length-values graph (start graph))) in
    record {
      follow = ap (values graph) is ∙ values_of_values graph.nodes [] (start graph) ∙ sym is;
      as_many = ap length is ∙ length-values graph (start graph);
      picks = record {
        as_many = omega (arith, size);
        each = λ m h. each m (omega arith) ∙ ap (λ vs. picks_of (node_at graph m) vs) (sym is);
      };
    }

pub is_at_start : (graph : Graph) (n : ℕ) (found : Values) → length graph.nodes ≤ n → found ≡ take n (values graph (start graph)) → IsAt (record { graph = graph; all = found }) (start graph)
is_at_start graph n found past are = record {
  fits = length-map graph.nodes start_value;
  gives = sym (are ∙ take_all n (values graph (start graph)) (omega (arith, length-values graph (start graph))));
}

-- what a machine keeps after a pass
pub kept_after : (graph : Graph) (before set now : Values) (picked : List (List (Option ℕ))) → now ≡ new_from before set [] graph.nodes → ArePicks graph now picked → IsKept graph now picked
kept_after graph before set now picked is are = record {
  follow = ap (values graph) is ∙ new_values_from before set graph.nodes [] ∙ sym is;
  as_many = ap length is ∙ omega (arith, length-new_from before set graph.nodes []);
  picks = are;
}
