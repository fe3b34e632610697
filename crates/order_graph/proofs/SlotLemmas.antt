-- Sets of slots and their words.
use Rattle.std.proofs.Common.{◌≡◌, ℕ, ◌+◌, ◌-◌, ◌*◌, max, inl, inr, ◌/◌, ◌%◌, ◌^◌, ◌<◌, ◌≤◌, Bool, true, false, not, ◌&&◌, ◌||◌, ◌==◌, nat_eq, ltb, leb, List, [], ◌∷◌, length, get_or, set, bit_and, bit_or, refl, sym, ap, ◌∙◌, arith, zero, suc}
use Rattle.std.specs.List.{range_with_len, list_any, filter}
use Rattle.std.specs.Int.{bit_at}
use Rattle.std.specs.Ordering.{nat_cmp, eq_by_cmp}
use Rattle.std.specs.Cmp.{nat_cmp_total}
use Rattle.std.specs.FinSet as finset
use Rattle.std.proofs.lemmas.Bool.Decides.{nat_tests}
use Rattle.std.proofs.lemmas.Nat.Bits.{bit_at-lt, bit_at_or, bit_at-zero}
use Rattle.std.proofs.lemmas.Bool.{lt-ltb, le-ltb, cases_lt, cases_eq, eq-eqb, ne_eqb}
use Rattle.std.proofs.lemmas.List.{get_or_past}
use Rattle.std.proofs.Math.Bool.{and-false}
use Rattle.std.proofs.Math.Dec.{leb-zero}
use Rattle.script_tree.specs.Bits.{is_set, IsLowestBit}
use Rattle.script_tree.proofs.BitLemmas.{bit_test, is_set-word, is_set-set, bit_with, bit_without, same_bit, SearchedTo, clear_in_word}
use Rattle.script_tree.proofs.Lists.{any_cond, range_step}
use Rattle.order_graph.specs.Slots.{slots_of, IsLeastFrom, HasNoneFrom}

-- a slot is found in a filtered range where it is in the range and passes
one_of_range : (p : ℕ → Bool) (a n q : ℕ) → list_any (λ y. nat_eq y q) (filter p (range_with_len a n)) ≡ ((leb a q && ltb q (a + n)) && p q)
one_of_range p a zero q = grind (arith, nat_tests)
one_of_range p a (suc n) q =
    any_cond (λ y. nat_eq y q) (p a) a (filter p (range_with_len (a + 1) n))
    ∙ ap (λ b. (p a && nat_eq a q) || b) (one_of_range p (a + 1) n q)
    ∙ range_step p a n q

-- what the set of the words has
pub contains-slots_of : (words : List ℕ) (q : ℕ) → finset.contains (slots_of words) q ≡ (ltb q 256 && is_set words q)
unfolding slots_of
contains-slots_of words q = finset.contains-from_list_nat (filter (is_set words) (range_with_len 0 256)) q ∙ one_of_range (is_set words) 0 256 q ∙ ap (λ b. (b && ltb q 256) && is_set words q) (leb-zero q)

-- ---- one word and its bits

max_test : (a b : ℕ) → a < 2 → b < 2 → (max a b == 1) ≡ ((a == 1) || (b == 1))
max_test a b h k = grind (arith, nat_tests)

either_bit : (n m i : ℕ) → (bit_at (bit_or n m) i == 1) ≡ ((bit_at n i == 1) || (bit_at m i == 1))
either_bit n m i = ap (λ x. x == 1) (bit_at_or n m i) ∙ max_test (bit_at n i) (bit_at m i) (bit_at-lt n i) (bit_at-lt m i)

pub tied : (q a : ℕ) → eq_by_cmp nat_cmp q a ≡ (q == a)
tied q a = grind (arith, nat_tests)

-- ---- a set through its words

is_set-insert : (words : List ℕ) (a q : ℕ) → a / 64 < length words → is_set (set words (a / 64) (bit_or (get_or words (a / 64) 0) (1 * 2 ^ (a % 64) % 2 ^ 64))) q ≡ ((q == a) || is_set words q)
is_set-insert words a q h =
    let written = is_set-set words (a / 64) (bit_or (get_or words (a / 64) 0) (1 * 2 ^ (a % 64) % 2 ^ 64)) q h in
    let bit = bit_with (get_or words (a / 64) 0) (a % 64) (q % 64) (omega arith) in
    let slot = same_bit q a in
    elim (cases_eq (q / 64) (a / 64)) [
      | inl same ↦ let word = is_set-word words (a / 64) q same in let here = eq-eqb (q / 64) (a / 64) same in rw (written, here, bit, word, ← slot, here) refl
      | inr other ↦ let away = ne_eqb (q / 64) (a / 64) other in rw (written, away, ← slot, away) refl
    ]

is_set-remove : (words : List ℕ) (a q : ℕ) → a / 64 < length words → is_set (set words (a / 64) (bit_and (get_or words (a / 64) 0) (2 ^ 64 - 1 - 1 * 2 ^ (a % 64) % 2 ^ 64))) q ≡ (not (q == a) && is_set words q)
is_set-remove words a q h =
    let written = is_set-set words (a / 64) (bit_and (get_or words (a / 64) 0) (2 ^ 64 - 1 - 1 * 2 ^ (a % 64) % 2 ^ 64)) q h in
    let bit = bit_without (get_or words (a / 64) 0) (a % 64) (q % 64) (omega arith) (omega arith) in
    let slot = same_bit q a in
    elim (cases_eq (q / 64) (a / 64)) [
      | inl same ↦ let word = is_set-word words (a / 64) q same in let here = eq-eqb (q / 64) (a / 64) same in rw (written, here, bit, word, ← slot, here) refl
      | inr other ↦ let away = ne_eqb (q / 64) (a / 64) other in rw (written, away, ← slot, away) refl
    ]

is_set-union : (new old other : List ℕ) (q : ℕ) → ((k : ℕ) → get_or new k 0 ≡ bit_or (get_or old k 0) (get_or other k 0)) → is_set new q ≡ (is_set old q || is_set other q)
unfolding is_set
is_set-union new old other q h = ap (λ w. bit_at w (q % 64) == 1) (h (q / 64)) ∙ either_bit (get_or old (q / 64) 0) (get_or other (q / 64) 0) (q % 64)

inside_or : (a q : ℕ) (b : Bool) → a < 256 → (ltb q 256 && ((q == a) || b)) ≡ ((q == a) || (ltb q 256 && b))
inside_or a q b h = grind (arith, nat_tests)

inside_and : (a q : ℕ) (b : Bool) → (ltb q 256 && (not (q == a) && b)) ≡ (not (q == a) && (ltb q 256 && b))
inside_and a q b = grind (arith, nat_tests)

inside_either : (t a b : Bool) → (t && (a || b)) ≡ ((t && a) || (t && b))
inside_either true a b = refl
inside_either false a b = refl

-- the set after a bit is set
pub slots_of-insert : (words : List ℕ) (a : ℕ) → length words ≡ 4 → a < 256 → slots_of (set words (a / 64) (bit_or (get_or words (a / 64) 0) (1 * 2 ^ (a % 64) % 2 ^ 64))) ≡ finset.insert (slots_of words) a
slots_of-insert words a four h = finset.same_set nat_cmp_total finset.nat_cmp-IsAntisymmetric _ _ (λ q.
    contains-slots_of _ q
    ∙ ap (λ b. ltb q 256 && b) (is_set-insert words a q (omega arith))
    ∙ inside_or a q (is_set words q) h
    ∙ sym (finset.contains-insert nat_cmp_total (slots_of words) a q ∙ ap (λ b. b || finset.contains (slots_of words) q) (tied q a) ∙ ap (λ b. (q == a) || b) (contains-slots_of words q)))

-- the set after a bit is cleared
pub slots_of-remove : (words : List ℕ) (a : ℕ) → length words ≡ 4 → a < 256 → slots_of (set words (a / 64) (bit_and (get_or words (a / 64) 0) (2 ^ 64 - 1 - 1 * 2 ^ (a % 64) % 2 ^ 64))) ≡ finset.remove (slots_of words) a
slots_of-remove words a four h = finset.same_set nat_cmp_total finset.nat_cmp-IsAntisymmetric _ _ (λ q.
    contains-slots_of _ q
    ∙ ap (λ b. ltb q 256 && b) (is_set-remove words a q (omega arith))
    ∙ inside_and a q (is_set words q)
    ∙ sym (finset.contains-remove nat_cmp_total (slots_of words) a q ∙ ap (λ b. not b && finset.contains (slots_of words) q) (tied q a) ∙ ap (λ b. not (q == a) && b) (contains-slots_of words q)))

-- the set after each word has taken in the bits of another's
pub slots_of-union : (new old other : List ℕ) → ((k : ℕ) → get_or new k 0 ≡ bit_or (get_or old k 0) (get_or other k 0)) → slots_of new ≡ finset.union (slots_of old) (slots_of other)
slots_of-union new old other h = finset.same_set nat_cmp_total finset.nat_cmp-IsAntisymmetric _ _ (λ q.
    contains-slots_of new q
    ∙ ap (λ b. ltb q 256 && b) (is_set-union new old other q h)
    ∙ inside_either (ltb q 256) (is_set old q) (is_set other q)
    ∙ sym (finset.contains-union nat_cmp_total (slots_of old) (slots_of other) q ∙ ap (λ b. b || finset.contains (slots_of other) q) (contains-slots_of old q) ∙ ap (λ b. (ltb q 256 && is_set old q) || b) (contains-slots_of other q)))

no_word : (k : ℕ) → get_or {A = ℕ} (0 ∷ 0 ∷ 0 ∷ 0 ∷ []) k 0 ≡ 0
no_word zero = refl
no_word (suc zero) = refl
no_word (suc (suc zero)) = refl
no_word (suc (suc (suc zero))) = refl
no_word (suc (suc (suc (suc k)))) = refl

no_bit : (q : ℕ) → is_set (0 ∷ 0 ∷ 0 ∷ 0 ∷ []) q ≡ false
unfolding is_set
no_bit q = ap (λ w. bit_at w (q % 64) == 1) (no_word (q / 64)) ∙ ap (λ b. b == 1) (bit_at-zero (q % 64))

pub slots_of-zeros : slots_of (0 ∷ 0 ∷ 0 ∷ 0 ∷ []) ≡ finset.empty
slots_of-zeros = finset.same_set nat_cmp_total finset.nat_cmp-IsAntisymmetric _ _ (λ q.
    contains-slots_of _ q ∙ ap (λ b. ltb q 256 && b) (no_bit q) ∙ and-false (ltb q 256) ∙ sym (finset.contains-empty nat_cmp q))

-- ---- one bit, all words, and the least slot

-- the test of one bit of the words
pub contains-bit : (words : List ℕ) (q : ℕ) → q < 256 → not (nat_eq (bit_and (get_or words (q / 64) 0) (1 * 2 ^ (q % 64) % 2 ^ 64)) 0) ≡ finset.contains (slots_of words) q
contains-bit words q h =
    bit_test (get_or words (q / 64) 0) (q % 64) (omega arith)
    ∙ sym (is_set-word words (q / 64) q refl)
    ∙ ap (λ b. b && is_set words q) (sym (lt-ltb q 256 h))
    ∙ sym (contains-slots_of words q)

-- the words below i have taken in the other's, and the rest are as they were
pub record JoinedBelow (i : ℕ) (old other new : List ℕ) : Type 0 where
  pub done : (k : ℕ) → k < i → get_or new k 0 ≡ bit_or (get_or old k 0) (get_or other k 0)
  pub rest : (k : ℕ) → i ≤ k → get_or new k 0 ≡ get_or old k 0

joined_word : (i : ℕ) (old other new : List ℕ) → length old ≤ i → length other ≤ i → JoinedBelow i old other new → (k : ℕ) → get_or new k 0 ≡ bit_or (get_or old k 0) (get_or other k 0)
joined_word i old other new h j joined k = elim (cases_lt k i) [
  | inl below ↦ joined.done k below
  | inr past ↦
      let a : get_or old k 0 ≡ 0 = get_or_past old k 0 (omega arith) in
      let b : get_or other k 0 ≡ 0 = get_or_past other k 0 (omega arith) in
      joined.rest k past ∙ a ∙ sym (ap (λ x. bit_or x (get_or other k 0)) a ∙ ap (bit_or 0) b)
]

-- the set when each word has taken in the other's
pub joined_all : (i : ℕ) (old other new : List ℕ) → length old ≤ i → length other ≤ i → JoinedBelow i old other new → slots_of new ≡ finset.union (slots_of old) (slots_of other)
joined_all i old other new h j joined = slots_of-union new old other (joined_word i old other new h j joined)

pub no_slot : (words : List ℕ) (p : ℕ) → is_set words p ≡ false → finset.contains (slots_of words) p ≡ false
no_slot words p e = contains-slots_of words p ∙ ap (λ b. ltb p 256 && b) e ∙ and-false (ltb p 256)

-- the lowest bit of a word where all before it is clear is the least slot
pub least_in_word : (words : List ℕ) (from i low bit : ℕ) → i < 4 → SearchedTo words from i low → IsLowestBit (get_or words i 0) low bit → IsLeastFrom (slots_of words) from (i * 64 + bit)
least_in_word words from i low bit h searched lowest =
    let inside = lowest.inside in
    let above = lowest.at_or_above in
    let reached = searched.reached in
    let place : (i * 64 + bit) / 64 ≡ i = omega arith in
    let rest : (i * 64 + bit) % 64 ≡ bit = omega arith in
    record {
      found =
          contains-slots_of words (i * 64 + bit)
          ∙ ap (λ b. b && is_set words (i * 64 + bit)) (lt-ltb (i * 64 + bit) 256 (omega arith))
          ∙ is_set-word words i (i * 64 + bit) place
          ∙ ap (λ k. bit_at (get_or words i 0) k == 1) rest
          ∙ ap (λ b. b == 1) lowest.is_one;
      at_or_above = omega arith;
      least = λ p at below. no_slot words p (elim (cases_lt p (64 * i + low)) [
        | inl before ↦ searched.nothing p at before
        | inr on ↦ clear_in_word words i p (omega arith) (lowest.lowest (p % 64) (omega arith) (omega arith))
      ]);
    }

-- past the last word there is no slot
pub searched_all : (words : List ℕ) (from i low : ℕ) → 4 ≤ i → SearchedTo words from i low → HasNoneFrom (slots_of words) from
searched_all words from i low h searched p at = elim (cases_lt p 256) [
  | inl below ↦ no_slot words p (searched.nothing p at (omega arith))
  | inr past ↦ contains-slots_of words p ∙ ap (λ b. b && is_set words p) (le-ltb p 256 past)
]
