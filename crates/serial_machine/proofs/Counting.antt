-- Loops over the nodes of a graph by their numbers.
use Rattle.std.proofs.Common.{◌≡◌, ℕ, zero, suc, ◌+◌, ◌<◌, ◌≤◌, Bool, true, false, List, [], ◌∷◌, ◌++◌, length, drop, get_or, refl, ap, ◌∙◌, arith}
use Rattle.std.specs.Prelude.{filter, cond, slice_set, slice_index_or, ◌||◌}
use Rattle.std.specs.List.{list_any}
use Rattle.std.proofs.lemmas.List.{drop_more}
use Rattle.script_tree.specs.declared.value.Fault.TheVariants.{Kind}
use Rattle.script_tree.specs.declared.value.Value.{Value}
use Rattle.script_tree.specs.declared.value.Value.TheVariants.{Fault as Faulty}
use Rattle.signal_graph.specs.declared.node.Node.{Node}
use Rattle.signal_graph.specs.declared.node.Node.TheVariants.{Source}
use Rattle.signal_graph.specs.Graph.{Graph, number_of, numbers_from}
use Rattle.signal_graph.specs.Values.{Values, at}
use Rattle.signal_graph.specs.Machine.{with_sets}
use Rattle.signal_graph.specs.OnePass.{new_value, new_from}
use Rattle.signal_graph.proofs.Members.{nodes_in-cons}

-- how many nodes from a number on pass a test
abbrev pub left : (ℕ → Bool) → List Node → ℕ → ℕ
left p nodes n = length (filter p (numbers_from n (drop n nodes)))

length_cond : (b : Bool) (x : ℕ) (xs : List ℕ) → b ≡ true → length (cond b (x ∷ xs) xs) ≡ length xs + 1
length_cond true x xs h = omega arith
length_cond false x xs h = absurd (cc)

length_cond_no : (b : Bool) (x : ℕ) (xs : List ℕ) → b ≡ false → length (cond b (x ∷ xs) xs) ≡ length xs
length_cond_no true x xs h = absurd (cc)
length_cond_no false x xs h = refl

pub one_more : (p : ℕ → Bool) (nodes : List Node) (n : ℕ) → n < length nodes → p n ≡ true → left p nodes n ≡ left p nodes (n + 1) + 1
one_more p nodes n within h = ap (λ ns. length (filter p (numbers_from n ns))) (drop_more nodes n (Source (Faulty Kind)) within) ∙ length_cond (p n) n (filter p (numbers_from (n + 1) (drop (n + 1) nodes))) h

pub none_more : (p : ℕ → Bool) (nodes : List Node) (n : ℕ) → n < length nodes → p n ≡ false → left p nodes n ≡ left p nodes (n + 1)
none_more p nodes n within h = ap (λ ns. length (filter p (numbers_from n ns))) (drop_more nodes n (Source (Faulty Kind)) within) ∙ length_cond_no (p n) n (filter p (numbers_from (n + 1) (drop (n + 1) nodes))) h

-- the next node's value in one pass
pub new_step : (before set earlier : Values) (nodes : List Node) (n : ℕ) → n < length nodes → length earlier ≡ n → new_from before set earlier (drop n nodes) ≡ new_from before set (earlier ++ new_value (slice_index_or nodes n (Source (Faulty Kind))) (at set n) (at before n) before earlier ∷ []) (drop (n + 1) nodes)
new_step before set earlier nodes n within here =
    ap (new_from before set earlier) (drop_more nodes n (Source (Faulty Kind)) within)
    ∙ ap (λ i. new_from before set (earlier ++ new_value (slice_index_or nodes n (Source (Faulty Kind))) (at set i) (at before i) before earlier ∷ []) (drop (n + 1) nodes)) here

pub any_append : (p : ℕ → Bool) (xs ys : List ℕ) → list_any p (xs ++ ys) ≡ (list_any p xs || list_any p ys)
any_append p [] ys = refl
any_append p (x ∷ xs) ys = either (p x) (any_append p xs ys)
  where
    either : (b : Bool) → list_any p (xs ++ ys) ≡ (list_any p xs || list_any p ys) → (b || list_any p (xs ++ ys)) ≡ ((b || list_any p xs) || list_any p ys)
    either true e = refl
    either false e = e

-- the next set of a fire
pub sets_step : (graph : Graph) (kept : Values) (sets : List (List ℕ × Value)) (i : ℕ) (d : List ℕ × Value) → i < length sets → with_sets graph kept (drop i sets) ≡ with_sets graph (slice_set kept (number_of graph (get_or sets i d).0) (get_or sets i d).1) (drop (i + 1) sets)
sets_step graph kept sets i d within = ap (with_sets graph kept) (drop_more sets i d within)

-- what is set behind the end of a list changes nothing
pub set_beyond : (values : Values) (n : ℕ) (v : Value) → length values ≤ n → slice_set values n v ≡ values
set_beyond [] n v h = refl
set_beyond (u ∷ values) zero v h = absurd (omega arith)
set_beyond (u ∷ values) (suc n) v h = ap (λ vs. u ∷ vs) (set_beyond values n v (omega arith))
