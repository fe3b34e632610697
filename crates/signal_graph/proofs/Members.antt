-- Which numbers a list has: the first, those at an index, the numbers of nodes, and the nodes that picks name.
use Rattle.std.proofs.Common.{◌≡◌, ℕ, zero, suc, ◌+◌, ◌<◌, ◌≤◌, ◌==◌, ◌||◌, ◌⊎◌, Bool, true, Option, None, Some, List, [], ◌∷◌, ◌++◌, length, map, drop, get_or, refl, sym, ap, subst, ◌∙◌, arith}
use Rattle.std.specs.Prelude.{slice_get, slice_index_or}
use Rattle.std.specs.List.{list_any, range_with_len, AllByRecursion}
use Rattle.std.proofs.lemmas.Bool.{or_cases, or_left, or_right, eq-eqb}
use Rattle.std.proofs.lemmas.Bool.Decides.{eqb_tells}
use Rattle.std.proofs.lemmas.List.{drop_more}
use Rattle.std.proofs.lemmas.List.Folds.{list_any-append}
use Rattle.std.proofs.lemmas.Option.{slice_get_within, get_or_from_slice_get}
use Rattle.script_tree.proofs.Numbers.{equal_to_itself}
use Rattle.signal_graph.specs.declared.node.Node.{Node}
use Rattle.signal_graph.specs.Graph.{is_in, numbers_from}
use Rattle.signal_graph.specs.Values.{nodes_in}

pub in_head : (n : ℕ) (ns : List ℕ) → is_in n (n ∷ ns) ≡ true
in_head n ns = or_left (n == n) (is_in n ns) (equal_to_itself n)

pub get-in : (ns : List ℕ) (i n : ℕ) → slice_get ns i ≡ Some n → is_in n ns ≡ true
get-in [] i n h = cc
get-in (m ∷ ns) zero n h = grind (arith, eqb_tells)
get-in (m ∷ ns) (suc i) n h = or_right (m == n) (is_in n ns) (get-in ns i n h)

pub index-in : (ns : List ℕ) (i d : ℕ) → i < length ns → is_in (get_or ns i d) ns ≡ true
index-in [] i d h = absurd (omega (arith, h))
index-in (n ∷ ns) zero d h = in_head n ns
index-in (n ∷ ns) (suc i) d h = or_right (n == get_or ns i d) (is_in (get_or ns i d) ns) (index-in ns i d (omega (arith, h)))

pub in-cases : (n : ℕ) (ms ns : List ℕ) → is_in n (ms ++ ns) ≡ true → (is_in n ms ≡ true) ⊎ (is_in n ns ≡ true)
in-cases n ms ns h = or_cases (is_in n ms) (is_in n ns) (sym (list_any-append (λ m. m == n) ms ns) ∙ h)

-- what holds for each member holds for all items
pub all-members : (P : ℕ → Type 0) (ns : List ℕ) → ((n : ℕ) → is_in n ns ≡ true → P n) → AllByRecursion P ns
all-members P [] each = tt
all-members P (n ∷ ns) each = (each n (in_head n ns), all-members P ns (λ m there. each m (or_right (n == m) (is_in m ns) there)))

-- ---- the numbers of nodes

pub number-in : (k : ℕ) (nodes : List Node) (n : ℕ) → n < length nodes → is_in (k + n) (numbers_from k nodes) ≡ true
number-in k [] n h = absurd (omega arith)
number-in k (x ∷ xs) zero h = or_left (k == k + 0) (is_in (k + 0) (numbers_from (k + 1) xs)) (eq-eqb k (k + 0) (omega arith))
number-in k (x ∷ xs) (suc n) h =
    let e : (k + 1) + n ≡ k + suc n = omega arith in
    or_right (k == k + suc n) (is_in (k + suc n) (numbers_from (k + 1) xs)) (subst (λ m. is_in m (numbers_from (k + 1) xs) ≡ true) e (number-in (k + 1) xs n (omega arith)))

pub numbers_range : (k : ℕ) (nodes : List Node) → numbers_from k nodes ≡ range_with_len k (length nodes)
numbers_range k [] = refl
numbers_range k (x ∷ xs) = ap (λ ns. k ∷ ns) (numbers_range (k + 1) xs)

-- a list that has something for each node, at a node's number
pub read-from : {A : Type 0} (f : ℕ → A) (d : A) (k : ℕ) (nodes : List Node) (n : ℕ) → n < length nodes → slice_index_or (map f (numbers_from k nodes)) n d ≡ f (k + n)
read-from f d k [] n h = absurd (omega arith)
read-from f d k (x ∷ xs) zero h = ap f (omega arith)
read-from f d k (x ∷ xs) (suc n) h = read-from f d (k + 1) xs n (omega arith) ∙ ap f (omega arith)

-- ---- the nodes that picks name

pub nodes_in-length : (picks : List (Option ℕ)) → length (nodes_in picks) ≤ length picks
nodes_in-length [] = omega arith
nodes_in-length (None ∷ picks) = let r = nodes_in-length picks in omega (arith, r)
nodes_in-length (Some n ∷ picks) = let r = nodes_in-length picks in omega (arith, r)

pub nodes_in-append : (picks more : List (Option ℕ)) → nodes_in (picks ++ more) ≡ nodes_in picks ++ nodes_in more
nodes_in-append [] more = refl
nodes_in-append (None ∷ picks) more = nodes_in-append picks more
nodes_in-append (Some n ∷ picks) more = ap (λ (ns : List ℕ). n ∷ ns) (nodes_in-append picks more)

pub nodes_in-cons : (test : ℕ → Bool) (pick : Option ℕ) (picks : List (Option ℕ)) → list_any test (nodes_in (pick ∷ picks)) ≡ (list_any test (nodes_in (pick ∷ [])) || list_any test (nodes_in picks))
nodes_in-cons test None picks = refl
nodes_in-cons test (Some n) picks = grind arith

-- from a pick that is known on
pub any-picks : (test : ℕ → Bool) (picks : List (Option ℕ)) (i : ℕ) (pick : Option ℕ) → slice_get picks i ≡ Some pick → list_any test (nodes_in (drop i picks)) ≡ (list_any test (nodes_in (pick ∷ [])) || list_any test (nodes_in (drop (i + 1) picks)))
any-picks test picks i pick h =
    ap (λ ps. list_any test (nodes_in ps)) (drop_more picks i None (slice_get_within picks i pick h))
    ∙ ap (λ o. list_any test (nodes_in (o ∷ drop (i + 1) picks))) (get_or_from_slice_get picks i pick None h)
    ∙ nodes_in-cons test pick (drop (i + 1) picks)
