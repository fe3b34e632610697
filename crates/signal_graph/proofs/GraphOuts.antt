-- The nodes that name a node, with one more node.
use Rattle.std.proofs.Common.{◌≡◌, ℕ, ◌+◌, ◌<◌, ◌==◌, ◌||◌, if◌then◌else◌, Bool, List, [], ◌∷◌, ◌++◌, length, filter, get_or, refl, sym, ap, subst, ◌∙◌, arith, add-zero, zero-add, add-one, length-take, take, ◌≤◌}
use Rattle.std.specs.List.{All, AllByRecursion}
use Rattle.std.proofs.lemmas.List.{get_or_append_left, get_or_default}
use Rattle.std.proofs.lemmas.List.Elements.{All-from_recursion, filter-append}
use Rattle.std.proofs.lemmas.List.Folds.{list_any-append}
use Rattle.std.proofs.Math.Seq.{get_or-append_seam}
use Rattle.script_tree.specs.declared.value.Value.TheVariants.{Fault as Faulty}
use Rattle.script_tree.specs.declared.value.Fault.TheVariants.{Kind}
use Rattle.script_tree.proofs.Lists.{all_weaker, all_filter}
use Rattle.signal_graph.specs.declared.node.Node.{Node}
use Rattle.signal_graph.specs.declared.node.Node.TheVariants.{Source}
use Rattle.signal_graph.specs.Graph.{numbers_from, is_in, inputs_of, static_outs}
use Rattle.std.proofs.Math.Seq.{take-suc}
use Rattle.signal_graph.specs.Kept.{NamesEarlier, unnamed}

numbers_from-snoc : (k : ℕ) (xs : List Node) (x : Node) → numbers_from k (xs ++ x ∷ []) ≡ numbers_from k xs ++ (k + length xs) ∷ []
numbers_from-snoc k [] x = rw add-zero refl
numbers_from-snoc k (y ∷ ys) x =
    let further : (k + 1) + length ys ≡ k + length (y ∷ ys) = omega arith in
    ap (λ ns. k ∷ ns) (rw further at (numbers_from-snoc (k + 1) ys x))

numbers_below : (k : ℕ) (xs : List Node) → AllByRecursion (λ n. n < k + length xs) (numbers_from k xs)
numbers_below k [] = tt
numbers_below k (y ∷ ys) =
    let further : (k + 1) + length ys ≡ k + length (y ∷ ys) = omega arith in
    (omega arith, subst (λ b. AllByRecursion (λ n. n < b) (numbers_from (k + 1) ys)) further (numbers_below (k + 1) ys))

filter_same : (p q : ℕ → Bool) (ns : List ℕ) → AllByRecursion (λ n. p n ≡ q n) ns → filter p ns ≡ filter q ns
filter_same p q [] h = refl
filter_same p q (n ∷ ns) h =
    let rest = filter_same p q ns h.1 in
    let here = h.0 in
    rw (here, rest) refl

-- one more node names a node or doesn't
pub static_outs-snoc : (xs : List Node) (x : Node) (m : ℕ)
    → static_outs (unnamed (xs ++ x ∷ [])) m ≡ static_outs (unnamed xs) m ++ (if is_in m (inputs_of x) then length xs ∷ [] else [])
static_outs-snoc xs x m =
    let names : Node → Bool = λ node. is_in m (inputs_of node) in
    let p : ℕ → Bool = λ n. names (get_or (xs ++ x ∷ []) n (Source (Faulty Kind))) in
    let q : ℕ → Bool = λ n. names (get_or xs n (Source (Faulty Kind))) in
    let before : filter p (numbers_from 0 xs) ≡ filter q (numbers_from 0 xs) =
    filter_same p q (numbers_from 0 xs) (all_weaker (λ n. n < 0 + length xs) (λ n. p n ≡ q n) (λ n h. ap names (get_or_append_left xs (x ∷ []) (Source (Faulty Kind)) n (omega (arith, h)))) (numbers_from 0 xs) (numbers_below 0 xs)) in
    let last : p (length xs) ≡ names x = ap names (get_or-append_seam xs x [] (Source (Faulty Kind))) in
    ap (filter p) (rw zero-add at (numbers_from-snoc 0 xs x)) ∙ filter-append p (numbers_from 0 xs) (length xs ∷ [])
    ∙ ap (λ ns. ns ++ filter p (length xs ∷ [])) before ∙ ap (λ b. filter q (numbers_from 0 xs) ++ (if b then length xs ∷ [] else [])) last

-- the nodes that name a node are nodes
pub static_outs-below : (xs : List Node) (m : ℕ) → All (λ n. n < length xs) (static_outs (unnamed xs) m)
static_outs-below xs m =
    All-from_recursion (λ n. n < length xs) _ (all_filter (λ n. n < length xs) _ _ (rw zero-add at (numbers_below 0 xs)))

-- one more input
pub is_in-snoc : (m : ℕ) (ns : List ℕ) (n : ℕ) → is_in m (ns ++ n ∷ []) ≡ (is_in m ns || (n == m))
is_in-snoc m ns n = grind (arith, list_any-append (λ (k : ℕ). k == m) ns (n ∷ []))

-- the inputs of the node at an index are nodes
pub inputs_known : (nodes : List Node) (n bound : ℕ) (node : Node) (inputs : List ℕ) → NamesEarlier nodes → n < length nodes → n ≤ bound
    → node ≡ get_or nodes n node → inputs ≡ inputs_of node → All (λ m. m < bound) inputs
inputs_known nodes n bound node inputs earlier within fits at_n are =
    let here : node ≡ get_or nodes n (Source (Faulty Kind)) = at_n ∙ get_or_default nodes n node (Source (Faulty Kind)) within in
    let below = earlier n within in
    λ k d short. let same : get_or inputs k d ≡ get_or (inputs_of (get_or nodes n (Source (Faulty Kind)))) k d = ap (λ ns. get_or ns k d) (are ∙ ap inputs_of here) in
    let long : k < length (inputs_of (get_or nodes n (Source (Faulty Kind)))) = rw (← here, ← are) short in
    omega (arith, same, below k d long)

-- all that was added before an index is below it
pub outs_below : (nodes : List Node) (n count : ℕ) (lists : List (List ℕ)) → n ≤ length nodes → count ≡ length nodes
    → ((m : ℕ) → m < length nodes → get_or lists m [] ≡ static_outs (unnamed (take n nodes)) m)
    → (m : ℕ) → m < count → All (λ k. k < n) (get_or lists m [])
outs_below nodes n count lists within counts are m short =
    let long : length (take n nodes) ≡ n = grind (arith, length-take) in
    rw (are m (omega arith)) (rw long at (static_outs-below (take n nodes) m))

-- one more node of a graph
pub outs_step : (nodes : List Node) (n count : ℕ) (node : Node) (inputs : List ℕ) (lists more : List (List ℕ)) → n < length nodes → count ≡ length nodes
    → node ≡ get_or nodes n node → inputs ≡ inputs_of node
    → ((m : ℕ) → m < length nodes → get_or lists m [] ≡ static_outs (unnamed (take n nodes)) m)
    → ((m : ℕ) → m < count → get_or more m [] ≡ get_or lists m [] ++ (if is_in m inputs then n ∷ [] else []))
    → (m : ℕ) → m < length nodes → get_or more m [] ≡ static_outs (unnamed (take (n + 1) nodes)) m
outs_step nodes n count node inputs lists more within counts at_n named are added m short =
    let long : length (take n nodes) ≡ n = grind (arith, length-take) in
    let grown : take (n + 1) nodes ≡ take n nodes ++ node ∷ [] = rw (add-one, take-suc nodes n node within) (ap (λ x. take n nodes ++ x ∷ []) (sym at_n)) in
    let snoc = static_outs-snoc (take n nodes) node m in
    added m (omega arith) ∙ rw (grown, snoc, long, are m short, named) refl
