-- How a set stays kept.
use Rattle.std.proofs.Common.{◌≡◌, ◌≢◌, ℕ, zero, suc, ◌+◌, ◌*◌, ◌-◌, ◌/◌, ◌%◌, ◌<◌, ◌≤◌, Bool, true, false, not, ◌&&◌, ◌||◌, ◌==◌, List, [], ◌∷◌, length, get_or, refl, sym, ap, ◌∙◌, arith, length-set, replicate}
use Rattle.std.proofs.lemmas.Bool.{ne_eqb}
use Rattle.std.proofs.lemmas.Nat.Bits.{bit_at-zero}
use Rattle.std.proofs.Math.Bool.{and-false}
use Rattle.std.specs.Int.{bit_at}
use Rattle.script_tree.specs.Bits.{is_set}
use Rattle.script_tree.proofs.BitLemmas.{is_set-word}
use Rattle.node_set.specs.Bits.{with_bit, without_bit, Summarizes}
use Rattle.node_set.specs.Members.{IsKept}
use Rattle.node_set.proofs.BitLemmas.{is_set-with_bit, is_set-without_bit}
use Rattle.node_set.proofs.Nodes.{nodes_of-clear, length-with, length-without}

pub length-with_bit : (words : List ℕ) (q : ℕ) → length (with_bit words q) ≡ length words
unfolding with_bit
length-with_bit words q = length-set words (q / 64) _

pub length-without_bit : (words : List ℕ) (q : ℕ) → length (without_bit words q) ≡ length words
unfolding without_bit
length-without_bit words q = length-set words (q / 64) _

-- all words are 0
abbrev pub AreZeros : List ℕ → Type 0
AreZeros words = (k : ℕ) → get_or words k 0 ≡ 0

pub zeros_clear : (words : List ℕ) → AreZeros words → (q : ℕ) → is_set words q ≡ false
zeros_clear words z q = is_set-word words (q / 64) q refl ∙ ap (λ w. bit_at w (q % 64) == 1) (z (q / 64)) ∙ ap (λ b. b == 1) (bit_at-zero (q % 64))

pub zeros_of : (n : ℕ) → AreZeros (replicate n 0)
zeros_of zero k = refl
zeros_of (suc n) zero = refl
zeros_of (suc n) (suc k) = zeros_of n k

pub four_zeros : AreZeros (0 ∷ 0 ∷ 0 ∷ 0 ∷ [])
four_zeros zero = refl
four_zeros (suc zero) = refl
four_zeros (suc (suc zero)) = refl
four_zeros (suc (suc (suc zero))) = refl
four_zeros (suc (suc (suc (suc k)))) = refl

pub kept_empty : (words : List ℕ) (size : ℕ) → size ≤ 16384 → length words ≤ 256 → size ≤ 64 * length words → AreZeros words → IsKept words (0 ∷ 0 ∷ 0 ∷ 0 ∷ []) size 0
kept_empty words size few some room z = record {
  few = few;
  some_words = some;
  room = room;
  summary_room = refl;
  summarizes = λ w. zeros_clear (0 ∷ 0 ∷ 0 ∷ 0 ∷ []) four_zeros w ∙ sym (ap (λ v. not (v == 0)) (z w));
  inside = λ q h. zeros_clear words z q;
  counted = sym (ap length (nodes_of-clear words size (zeros_clear words z)));
}

or_other : (y q : ℕ) (b : Bool) → y ≢ q → ((y == q) || b) ≡ b
or_other y q b ne = ap (λ t. t || b) (ne_eqb y q ne)

pub kept_with : (words summary new : List ℕ) (size count q : ℕ) → IsKept words summary size count → q < size → is_set words q ≡ false → length new ≡ length summary → Summarizes new (with_bit words q) → IsKept (with_bit words q) new size (count + 1)
kept_with words summary new size count q kept h missing same says =
    let len = length-with_bit words q in
    let r = kept.room in
    let f = kept.some_words in
    let within : q / 64 < length words = omega arith in
    record {
      few = kept.few;
      some_words = omega arith;
      room = omega arith;
      summary_room = same ∙ kept.summary_room;
      summarizes = says;
      inside = λ y past. is_set-with_bit words q y within ∙ or_other y q (is_set words y) (λ e. absurd (omega arith)) ∙ kept.inside y past;
      counted = let n = length-with words size q h within missing in let c = kept.counted in omega arith;
    }

pub kept_without : (words summary new : List ℕ) (size count q : ℕ) → IsKept words summary size count → q < size → is_set words q ≡ true → length new ≡ length summary → Summarizes new (without_bit words q) → IsKept (without_bit words q) new size (count - 1)
kept_without words summary new size count q kept h there same says =
    let len = length-without_bit words q in
    let r = kept.room in
    let f = kept.some_words in
    let within : q / 64 < length words = omega arith in
    record {
      few = kept.few;
      some_words = omega arith;
      room = omega arith;
      summary_room = same ∙ kept.summary_room;
      summarizes = says;
      inside = λ y past. is_set-without_bit words q y within ∙ ap (λ b. not (y == q) && b) (kept.inside y past) ∙ and-false (not (y == q));
      counted = let n = length-without words size q h within there in let c = kept.counted in omega arith;
    }

-- the count is above 0 where a node is in
pub some_counted : (words summary : List ℕ) (size count q : ℕ) → IsKept words summary size count → q < size → is_set words q ≡ true → 1 ≤ count
some_counted words summary size count q kept h there =
    let r = kept.room in
    let n = length-without words size q h (omega arith) there in
    let c = kept.counted in
    omega arith
