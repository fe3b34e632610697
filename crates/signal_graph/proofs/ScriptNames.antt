-- A node's inputs are the nodes whose names stand in its scripts.
use Rattle.std.proofs.Common.{◌≡◌, ℕ, zero, suc, ◌+◌, ◌<◌, ◌≤◌, ◌==◌, ◌||◌, if◌then◌else◌, Bool, true, false, List, [], ◌∷◌, length, map, filter, get_or, refl, sym, ap, subst, ◌∙◌, inl, inr, arith, zero-add}
use Rattle.std.specs.Prelude.{◌⊎◌}
use Rattle.std.specs.List.{AllByRecursion, list_any}
use Rattle.std.specs.Str.{bytes_eq}
use Rattle.std.specs.Cmp.Lexicographic.{bytes_decides}
use Rattle.std.proofs.lemmas.Bool.{cases_lt, eq-eqb, or_parts}
use Rattle.std.proofs.lemmas.Bool.Decides.{nat_tests}
use Rattle.std.proofs.lemmas.List.{length-map}
use Rattle.std.proofs.lemmas.List.Folds.{list_any-append}
use Rattle.script_tree.specs.declared.limits.TheConstants.{INPUTS}
use Rattle.script_tree.specs.declared.value.Value.TheVariants.{Fault as Faulty}
use Rattle.script_tree.specs.declared.value.Fault.TheVariants.{Kind}
use Rattle.script_tree.specs.Scripts.{Scripted, different_names_from, standing}
use Rattle.script_tree.proofs.Truths.{not_and_parts}
use Rattle.script_tree.proofs.Numbers.{below_differs}
use Rattle.script_tree.proofs.Texts.{bytes_eq-sym}
use Rattle.signal_graph.specs.declared.node.Selector.{Selector}
use Rattle.signal_graph.specs.declared.node.Node.{Node}
use Rattle.signal_graph.specs.declared.node.Node.TheVariants.{Source, Signal, Fold, Choose}
use Rattle.signal_graph.specs.Graph.{Graph, IsGraph, IsNode, IsSelector, Kept, Resolves, are_different, different, different_from, inputs_of, inputs_of_all, is_in, name_at, node_at, numbers_from, static_outs, stands_in}
use Rattle.signal_graph.proofs.GraphNodes.{node_is}

pub few_names : (names : List (List ℕ)) (script : Scripted) (inputs : List ℕ) → Resolves names script inputs → Kept script → length inputs ≤ INPUTS
few_names names script inputs r k = omega (arith, k.few, length-map inputs (λ n. get_or names n []), ap length r)

pub few_inputs : (names : List (List ℕ)) (n : ℕ) (node : Node) → IsNode names n node → length (inputs_of node) ≤ INPUTS
few_inputs names n (Source start) h = omega arith
few_inputs names n (Signal script inputs) h = few_names names script inputs h.2 h.4
few_inputs names n (Fold start script inputs) h = few_names names script inputs h.2 h.4
few_inputs names n (Choose selectors body inputs) h = h.5

pub graph_few : (graph : Graph) → IsGraph graph → (n : ℕ) → n < length graph.nodes → length (inputs_of (node_at graph n)) ≤ INPUTS
graph_few graph g n within = few_inputs graph.names (0 + n) (node_at graph n) (node_is graph.names 0 graph.nodes n (Source (Faulty Kind)) g.nodes within)

-- what is among what was seen, or among the rest
old_item : (s d x a : Bool) → (s || d) ≡ (s || a) → (x ≡ true → s ≡ true) → (s || d) ≡ (s || (x || a))
old_item true d x a r f = refl
old_item false d true a r f = let e : false ≡ true = f refl in cc
old_item false d false a r f = r

new_item : (s d x a : Bool) → ((x || s) || d) ≡ ((x || s) || a) → (s || (x || d)) ≡ (s || (x || a))
new_item true d x a r = refl
new_item false d true a r = refl
new_item false d false a r = r

-- a name is among the different ones exactly where it is among all
different_name : (name : List ℕ) (seen xs : List (List ℕ)) → (list_any (bytes_eq name) seen || list_any (bytes_eq name) (different_names_from seen xs)) ≡ (list_any (bytes_eq name) seen || list_any (bytes_eq name) xs)
different_name name seen [] = refl
different_name name seen (x ∷ xs) = by_test (list_any (bytes_eq x) seen) refl (different_name name seen xs) (different_name name (x ∷ seen) xs)
  where
    by_test : (b : Bool) → list_any (bytes_eq x) seen ≡ b
        → (list_any (bytes_eq name) seen || list_any (bytes_eq name) (different_names_from seen xs)) ≡ (list_any (bytes_eq name) seen || list_any (bytes_eq name) xs)
        → ((bytes_eq name x || list_any (bytes_eq name) seen) || list_any (bytes_eq name) (different_names_from (x ∷ seen) xs)) ≡ ((bytes_eq name x || list_any (bytes_eq name) seen) || list_any (bytes_eq name) xs)
        → (list_any (bytes_eq name) seen || list_any (bytes_eq name) (if b then different_names_from seen xs else x ∷ different_names_from (x ∷ seen) xs)) ≡ (list_any (bytes_eq name) seen || (bytes_eq name x || list_any (bytes_eq name) xs))
    by_test true e old new =
        old_item (list_any (bytes_eq name) seen) (list_any (bytes_eq name) (different_names_from seen xs)) (bytes_eq name x) (list_any (bytes_eq name) xs) old
        (λ f. ap (λ (v : List ℕ). list_any (bytes_eq v) seen) ((bytes_decides name x).0 f) ∙ e)
    by_test false e old new = new_item (list_any (bytes_eq name) seen) (list_any (bytes_eq name) (different_names_from (x ∷ seen) xs)) (bytes_eq name x) (list_any (bytes_eq name) xs) new

-- and so a number
different_number : (m : ℕ) (seen xs : List ℕ) → (is_in m seen || is_in m (different_from seen xs)) ≡ (is_in m seen || is_in m xs)
different_number m seen [] = refl
different_number m seen (x ∷ xs) = by_test (is_in x seen) refl (different_number m seen xs) (different_number m (x ∷ seen) xs)
  where
    by_test : (b : Bool) → is_in x seen ≡ b
        → (is_in m seen || is_in m (different_from seen xs)) ≡ (is_in m seen || is_in m xs)
        → (((x == m) || is_in m seen) || is_in m (different_from (x ∷ seen) xs)) ≡ (((x == m) || is_in m seen) || is_in m xs)
        → (is_in m seen || is_in m (if b then different_from seen xs else x ∷ different_from (x ∷ seen) xs)) ≡ (is_in m seen || ((x == m) || is_in m xs))
    by_test true e old new =
        old_item (is_in m seen) (is_in m (different_from seen xs)) (x == m) (is_in m xs) old
        (λ f. (let same : m ≡ x = grind (arith, nat_tests, f) in ap (λ (k : ℕ). is_in k seen) same ∙ e))
    by_test false e old new = new_item (is_in m seen) (is_in m (different_from (x ∷ seen) xs)) (x == m) (is_in m xs) new

none_later : (name : List ℕ) (names : List (List ℕ)) (k : ℕ) → list_any (bytes_eq name) names ≡ false → k < length names → bytes_eq name (get_or names k []) ≡ false
none_later name [] k h within = absurd (omega (arith, within))
none_later name (x ∷ names) zero h within = (or_parts (bytes_eq name x) (list_any (bytes_eq name) names) h).0
none_later name (x ∷ names) (suc k) h within = none_later name names k (or_parts (bytes_eq name x) (list_any (bytes_eq name) names) h).1 (omega (arith, within))

zero_suc : (k : ℕ) → (suc k == 0) ≡ false
zero_suc k = grind (arith, nat_tests)

suc_zero : (k : ℕ) → (0 == suc k) ≡ false
suc_zero k = grind (arith, nat_tests)

suc_suc : (k m : ℕ) → (suc k == suc m) ≡ (k == m)
suc_suc k m = grind (arith, nat_tests)

-- of different names each has its own number
own_number : (names : List (List ℕ)) → are_different names ≡ true → (m k : ℕ) → m < length names → k < length names → (k == m) ≡ bytes_eq (get_or names m []) (get_or names k [])
own_number [] d m k a b = absurd (omega (arith, a))
own_number (x ∷ names) d zero zero a b = sym ((bytes_decides x x).1 refl)
own_number (x ∷ names) d zero (suc k) a b = zero_suc k ∙ sym (none_later x names k (not_and_parts (list_any (bytes_eq x) names) (are_different names) d).0 (omega (arith, b)))
own_number (x ∷ names) d (suc m) zero a b =
    suc_zero m ∙ sym (none_later x names m (not_and_parts (list_any (bytes_eq x) names) (are_different names) d).0 (omega (arith, a))) ∙ bytes_eq-sym x (get_or names m [])
own_number (x ∷ names) d (suc m) (suc k) a b = suc_suc k m ∙ own_number names (not_and_parts (list_any (bytes_eq x) names) (are_different names) d).1 m k (omega (arith, a)) (omega (arith, b))

-- a node is among inputs exactly where its name is among theirs
inputs_named : (names : List (List ℕ)) → are_different names ≡ true → (m n : ℕ) → m < length names → n < length names → (inputs : List ℕ) → AllByRecursion (λ k. k < n) inputs
    → is_in m inputs ≡ list_any (bytes_eq (get_or names m [])) (map (λ k. get_or names k []) inputs)
inputs_named names d m n a b [] h = refl
inputs_named names d m n a b (k ∷ inputs) h =
    ap (λ t. t || is_in m inputs) (own_number names d m k a (omega (arith, h.0, b)))
    ∙ ap (λ t. bytes_eq (get_or names m []) (get_or names k []) || t) (inputs_named names d m n a b inputs h.1)

script_named : (names : List (List ℕ)) → are_different names ≡ true → (m n : ℕ) → m < length names → n < length names → (script : Scripted) (inputs : List ℕ) → Resolves names script inputs → AllByRecursion (λ k. k < n) inputs → Kept script
    → is_in m inputs ≡ list_any (bytes_eq (get_or names m [])) (standing script.names script.tree)
script_named names d m n a b script inputs r h k =
    inputs_named names d m n a b inputs h
    ∙ ap (list_any (bytes_eq (get_or names m []))) (r ∙ k.appear)
    ∙ different_name (get_or names m []) [] (standing script.names script.tree)

selectors_named : (names : List (List ℕ)) → are_different names ≡ true → (m n : ℕ) → m < length names → n < length names → (selectors : List Selector) → AllByRecursion (IsSelector names n) selectors
    → is_in m (inputs_of_all selectors) ≡ list_any (λ (script : Scripted). list_any (bytes_eq (get_or names m [])) (standing script.names script.tree)) (map (λ (selector : Selector). selector.script) selectors)
selectors_named names d m n a b [] h = refl
selectors_named names d m n a b (selector ∷ rest) h =
    list_any-append (λ (k : ℕ). k == m) selector.inputs (inputs_of_all rest)
    ∙ ap (λ t. t || is_in m (inputs_of_all rest)) (script_named names d m n a b selector.script selector.inputs h.0.resolves h.0.inputs_earlier h.0.kept)
    ∙ ap (λ t. list_any (bytes_eq (get_or names m [])) (standing selector.script.names selector.script.tree) || t) (selectors_named names d m n a b rest h.1)

or_none : (b : Bool) → b ≡ (b || false)
or_none true = refl
or_none false = refl

-- a node is an input of another one exactly where its name stands in the other one's scripts
node_named : (names : List (List ℕ)) → are_different names ≡ true → (m n : ℕ) → m < length names → n < length names → (node : Node) → IsNode names n node → is_in m (inputs_of node) ≡ stands_in (get_or names m []) node
node_named names d m n a b (Source start) h = refl
node_named names d m n a b (Signal script inputs) h =
    script_named names d m n a b script inputs h.2 h.3 h.4 ∙ or_none (list_any (bytes_eq (get_or names m [])) (standing script.names script.tree))
node_named names d m n a b (Fold start script inputs) h =
    script_named names d m n a b script inputs h.2 h.3 h.4 ∙ or_none (list_any (bytes_eq (get_or names m [])) (standing script.names script.tree))
node_named names d m n a b (Choose selectors body inputs) h =
    ap (is_in m) h.4 ∙ different_number m [] (inputs_of_all selectors) ∙ selectors_named names d m n a b selectors h.2

none_before : (p : ℕ → Bool) (k : ℕ) (xs : List Node) (n : ℕ) → n < k → is_in n (filter p (numbers_from k xs)) ≡ false
none_before p k [] n h = refl
none_before p k (x ∷ xs) n h = by_test (p k) (none_before p (k + 1) xs n (omega (arith, h)))
  where
    differs : (k == n) ≡ false
    differs = grind (arith, nat_tests, h)

    by_test : (b : Bool) → is_in n (filter p (numbers_from (k + 1) xs)) ≡ false → is_in n (if b then k ∷ filter p (numbers_from (k + 1) xs) else filter p (numbers_from (k + 1) xs)) ≡ false
    by_test true rest = ap (λ t. t || is_in n (filter p (numbers_from (k + 1) xs))) differs ∙ rest
    by_test false rest = rest

-- a number is among those that pass a test exactly where it passes
pub among : (p : ℕ → Bool) (k : ℕ) (xs : List Node) (n : ℕ) → k ≤ n → n < k + length xs → is_in n (filter p (numbers_from k xs)) ≡ p n
among p k [] n a b = absurd (omega (arith, a, b))
among p k (x ∷ xs) n a b = by_order (cases_lt k n) (λ more. among p (k + 1) xs n (omega (arith, more)) (omega (arith, b)))
  where
    rest : List ℕ
    rest = filter p (numbers_from (k + 1) xs)

    passed : (b : Bool) → (k == n) ≡ false → is_in n (if b then k ∷ filter p (numbers_from (k + 1) xs) else filter p (numbers_from (k + 1) xs)) ≡ is_in n (filter p (numbers_from (k + 1) xs))
    passed true e = ap (λ t. t || is_in n (filter p (numbers_from (k + 1) xs))) e
    passed false e = refl

    here : (b : Bool) → (k == n) ≡ true → is_in n (filter p (numbers_from (k + 1) xs)) ≡ false → is_in n (if b then k ∷ filter p (numbers_from (k + 1) xs) else filter p (numbers_from (k + 1) xs)) ≡ b
    here true e f = ap (λ t. t || is_in n (filter p (numbers_from (k + 1) xs))) e
    here false e f = f

    by_order : (k < n) ⊎ (n ≤ k) → (k < n → is_in n (filter p (numbers_from (k + 1) xs)) ≡ p n) → is_in n (filter p (k ∷ numbers_from (k + 1) xs)) ≡ p n
    by_order (inl more) f = passed (p k) (below_differs k n more) ∙ f more
    by_order (inr end) f =
        let same : k ≡ n = omega (arith, a, end) in
        here (p k) (eq-eqb k n same) (none_before p (k + 1) xs n (omega (arith, end))) ∙ ap p same

pub in_static_outs : (graph : Graph) (m n : ℕ) → n < length graph.nodes → is_in m (inputs_of (node_at graph n)) ≡ true → is_in n (static_outs graph m) ≡ true
in_static_outs graph m n within h = among (λ k. is_in m (inputs_of (node_at graph k))) 0 graph.nodes n (omega arith) (omega (arith, within)) ∙ h

pub graph_outs : (graph : Graph) → IsGraph graph → (n m : ℕ) → n < length graph.nodes → m < length graph.nodes → is_in n (static_outs graph m) ≡ stands_in (name_at graph m) (node_at graph n)
graph_outs graph g n m a b =
    among (λ k. is_in m (inputs_of (node_at graph k))) 0 graph.nodes n (omega arith) (omega (arith, a))
    ∙ node_named graph.names g.different_names m n (omega (arith, b, g.named)) (omega (arith, a, g.named)) (node_at graph n)
    (subst (λ (k : ℕ). IsNode graph.names k (node_at graph n)) (zero-add n) (node_is graph.names 0 graph.nodes n (Source (Faulty Kind)) g.nodes a))
