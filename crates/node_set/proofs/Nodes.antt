-- The nodes of a set through its words.
use Rattle.std.proofs.Common.{◌≡◌, ℕ, suc, ◌+◌, inl, inr, ◌/◌, ◌<◌, ◌≤◌, Bool, true, false, not, ◌&&◌, ◌||◌, ◌==◌, ltb, leb, List, [], length, refl, sym, ap, ◌∙◌, subst, arith}
use Rattle.std.specs.Prelude.{Option, Some, None, IfSome, IfNone}
use Rattle.std.proofs.lemmas.Bool.{cases_lt, cases_eq, lt-ltb, le-ltb, eq-eqb, ne_eqb, true≢false}
use Rattle.std.proofs.Math.Bool.{and-false}
use Rattle.std.proofs.Math.Dec.{leb-zero}
use Rattle.std.proofs.lemmas.List.{nil_from_length}
use Rattle.script_tree.specs.Bits.{is_set}
use Rattle.signal_graph.specs.Graph.{is_in}
use Rattle.flow_model.specs.Machine.Sets.{put, take_out, IsSet}
use Rattle.node_set.specs.Bits.{with_bit, without_bit, IsLowestFrom, HasNoneFrom}
use Rattle.node_set.specs.Members.{Members, no_members, with_nodes, nodes_of, first_from, IsKept}
use Rattle.node_set.proofs.BitLemmas.{is_set-with_bit, is_set-without_bit}
use Rattle.node_set.proofs.Ranges.{chosen, in_chosen, chosen-same, chosen-none, chosen-IsSet, put-chosen, take_out-chosen, length-put, put-in, take_out-missing, first_from-is, first_from-none, length-chosen}

pub in_nodes : (words : List ℕ) (size q : ℕ) → q < size → is_in q (nodes_of words size) ≡ is_set words q
unfolding nodes_of
in_nodes words size q h = in_chosen (is_set words) 0 size q ∙ ap (λ b. (b && ltb q (0 + size)) && is_set words q) (leb-zero q) ∙ ap (λ b. b && is_set words q) (lt-ltb q (0 + size) (omega arith))

pub nodes_inside : (words : List ℕ) (size q : ℕ) → is_in q (nodes_of words size) ≡ true → q < size
unfolding nodes_of
nodes_inside words size q h = elim (cases_lt q size) [
  | inl below ↦ below
  | inr past ↦ absurd (true≢false (sym h ∙ in_chosen (is_set words) 0 size q ∙ ap (λ b. (b && ltb q (0 + size)) && is_set words q) (leb-zero q) ∙ ap (λ b. b && is_set words q) (le-ltb q (0 + size) (omega arith))))
]

pub nodes_IsSet : (words : List ℕ) (size : ℕ) → IsSet (nodes_of words size)
unfolding nodes_of
nodes_IsSet words size = chosen-IsSet (is_set words) 0 size

pub nodes_of-with_bit : (words : List ℕ) (size q : ℕ) → q < size → q / 64 < length words → nodes_of (with_bit words q) size ≡ put q (nodes_of words size)
unfolding nodes_of
nodes_of-with_bit words size q h k =
    chosen-same (is_set (with_bit words q)) (λ y. (y == q) || is_set words y) 0 size (λ y lo hi. is_set-with_bit words q y k)
    ∙ sym (put-chosen (is_set words) 0 size q (omega arith) (omega arith))

pub nodes_of-without_bit : (words : List ℕ) (size q : ℕ) → q / 64 < length words → nodes_of (without_bit words q) size ≡ take_out q (nodes_of words size)
unfolding nodes_of
nodes_of-without_bit words size q k =
    chosen-same (is_set (without_bit words q)) (λ y. not (y == q) && is_set words y) 0 size (λ y lo hi. is_set-without_bit words q y k)
    ∙ sym (take_out-chosen (is_set words) 0 size q)

bring_back : (words : List ℕ) (q y : ℕ) → is_set words q ≡ true → is_set words y ≡ ((y == q) || (not (y == q) && is_set words y))
bring_back words q y h = elim (cases_eq y q) [
  | inl same ↦ ap (is_set words) same ∙ h ∙ sym (ap (λ b. b || (not b && is_set words y)) (eq-eqb y q same))
  | inr other ↦ sym (ap (λ b. b || (not b && is_set words y)) (ne_eqb y q other))
]

-- one node fewer
pub length-without : (words : List ℕ) (size q : ℕ) → q < size → q / 64 < length words → is_set words q ≡ true → length (nodes_of words size) ≡ suc (length (nodes_of (without_bit words q) size))
unfolding nodes_of
length-without words size q h k there =
    let test : ℕ → Bool = λ y. not (y == q) && is_set words y in
    let gone : is_in q (chosen test 0 size) ≡ false = in_chosen test 0 size q ∙ ap (λ b. (leb 0 q && ltb q (0 + size)) && (not b && is_set words q)) (eq-eqb q q refl) ∙ and-false (leb 0 q && ltb q (0 + size)) in
    ap length (chosen-same (is_set words) (λ y. (y == q) || test y) 0 size (λ y lo hi. bring_back words q y there) ∙ sym (put-chosen test 0 size q (omega arith) (omega arith)))
    ∙ length-put q (chosen test 0 size) gone
    ∙ ap (λ xs. suc (length xs)) (sym (chosen-same (is_set (without_bit words q)) test 0 size (λ y lo hi. is_set-without_bit words q y k)))

pub length-with : (words : List ℕ) (size q : ℕ) → q < size → q / 64 < length words → is_set words q ≡ false → length (nodes_of (with_bit words q) size) ≡ suc (length (nodes_of words size))
length-with words size q h k missing = ap length (nodes_of-with_bit words size q h k) ∙ length-put q (nodes_of words size) (in_nodes words size q h ∙ missing)

pub first_from-words : (words : List ℕ) (size from q : ℕ) → ((y : ℕ) → size ≤ y → is_set words y ≡ false) → IsLowestFrom words from q → first_from from (nodes_of words size) ≡ Some q
unfolding nodes_of
first_from-words words size from q inside lowest = elim (cases_lt q size) [
  | inl below ↦ first_from-is (is_set words) 0 size from q (omega arith) (omega arith) lowest.found lowest.at_or_above lowest.lowest
  | inr past ↦ absurd (true≢false (sym lowest.found ∙ inside q past))
]

pub first_from-no_word : (words : List ℕ) (size from : ℕ) → HasNoneFrom words from → first_from from (nodes_of words size) ≡ None
unfolding nodes_of
first_from-no_word words size from none = first_from-none (is_set words) 0 size from (λ y at below. none y at)

pub first_from-past : (words : List ℕ) (size from : ℕ) → size ≤ from → first_from from (nodes_of words size) ≡ None
unfolding nodes_of
first_from-past words size from h = first_from-none (is_set words) 0 size from (λ y at below. absurd (omega arith))

pub nodes_of-clear : (words : List ℕ) (size : ℕ) → ((q : ℕ) → is_set words q ≡ false) → nodes_of words size ≡ []
unfolding nodes_of
nodes_of-clear words size none = chosen-none (is_set words) 0 size (λ q lo hi. none q)

-- ---- what is seen of a set

pub no_nodes : (words summary : List ℕ) (size count : ℕ) (seen : Members) → (record { size = size; nodes = nodes_of words size } ≡ seen) → IsKept words summary size count → count ≡ 0 → seen ≡ no_members seen.size
no_nodes words summary size count seen view kept h =
    let M : List ℕ → Members = λ nodes. record { size = size; nodes = nodes } in
    let none : nodes_of words size ≡ [] = nil_from_length (nodes_of words size) (sym kept.counted ∙ h) in
    sym view ∙ ap M none ∙ ap (λ (m : Members). no_members m.size) view

pub seen_with : (words : List ℕ) (size q : ℕ) (seen : Members) → (record { size = size; nodes = nodes_of words size } ≡ seen) → q < size → q / 64 < length words → (new : List ℕ) → new ≡ with_bit words q → (record { size = size; nodes = nodes_of new size } ≡ with_nodes seen (put q seen.nodes))
seen_with words size q seen view h k new e =
    let M : List ℕ → Members = λ nodes. record { size = size; nodes = nodes } in
    ap (λ (ws : List ℕ). M (nodes_of ws size)) e ∙ ap M (nodes_of-with_bit words size q h k) ∙ ap (λ (m : Members). with_nodes m (put q m.nodes)) view

pub seen_without : (words : List ℕ) (size q : ℕ) (seen : Members) → (record { size = size; nodes = nodes_of words size } ≡ seen) → q / 64 < length words → (new : List ℕ) → new ≡ without_bit words q → (record { size = size; nodes = nodes_of new size } ≡ with_nodes seen (take_out q seen.nodes))
seen_without words size q seen view k new e =
    let M : List ℕ → Members = λ nodes. record { size = size; nodes = nodes } in
    ap (λ (ws : List ℕ). M (nodes_of ws size)) e ∙ ap M (nodes_of-without_bit words size q k) ∙ ap (λ (m : Members). with_nodes m (take_out q m.nodes)) view

pub seen_in : (words : List ℕ) (size q : ℕ) (seen : Members) → (record { size = size; nodes = nodes_of words size } ≡ seen) → q < seen.size → is_set words q ≡ is_in q seen.nodes
seen_in words size q seen view h =
    let below : q < size = omega (arith, h, ap (λ (m : Members). m.size) view) in
    sym (in_nodes words size q below) ∙ ap (λ (m : Members). is_in q m.nodes) view

pub seen_IsSet : (words : List ℕ) (size : ℕ) (seen : Members) → (record { size = size; nodes = nodes_of words size } ≡ seen) → IsSet seen.nodes
seen_IsSet words size seen view = subst (λ (m : Members). IsSet m.nodes) view (nodes_IsSet words size)

-- a node that is in changes nothing, and nor does taking out one that is not
pub put_seen : (words : List ℕ) (size q : ℕ) (seen : Members) → (record { size = size; nodes = nodes_of words size } ≡ seen) → is_in q seen.nodes ≡ true → seen ≡ with_nodes seen (put q seen.nodes)
put_seen words size q seen view h = ap (with_nodes seen) (sym (put-in q seen.nodes (seen_IsSet words size seen view) h))

pub take_seen : (q : ℕ) (seen : Members) → is_in q seen.nodes ≡ false → seen ≡ with_nodes seen (take_out q seen.nodes)
take_seen q seen h = ap (with_nodes seen) (sym (take_out-missing q seen.nodes h))

-- what a search in the words gives
pub found_from : (words read : List ℕ) (size from : ℕ) (found : Option ℕ) → read ≡ words → ((y : ℕ) → size ≤ y → is_set words y ≡ false) → IfSome found (IsLowestFrom read from) → IfNone found (HasNoneFrom read from) → found ≡ first_from from (nodes_of words size)
found_from words read size from None e inside some none = sym (first_from-no_word words size from (subst (λ (ws : List ℕ). HasNoneFrom ws from) e none))
found_from words read size from (Some q) e inside some none = sym (first_from-words words size from q inside (subst (λ (ws : List ℕ). IsLowestFrom ws from q) e some))

pub count_below : (words summary : List ℕ) (size count : ℕ) → IsKept words summary size count → count ≤ 16384
unfolding nodes_of
count_below words summary size count kept = let few = kept.few in let c = kept.counted in let n = length-chosen (is_set words) 0 size in omega (arith, few, c, n)
