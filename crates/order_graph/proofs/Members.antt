-- The sets of a set's members, which change one after the other.
use Rattle.std.proofs.Common.{◌≡◌, ℕ, ◌+◌, ◌-◌, ◌*◌, inl, inr, ◌/◌, ◌%◌, ◌^◌, ◌<◌, ◌≤◌, true, false, cond, List, length, get_or, set, bit_and, w64, refl, sym, ap, ◌∙◌, subst, arith, zero, suc}
use Rattle.std.specs.Int.{bit_at, trailing_zeros}
use Rattle.std.specs.FinSet as finset
use Rattle.std.proofs.lemmas.Bool.{cases_lt, cases_eq}
use Rattle.std.proofs.lemmas.List.{get_or-set_same, get_or-set_other, get_or_default}
use Rattle.std.proofs.lemmas.Nat.{and_le_r}
use Rattle.std.proofs.lemmas.Nat.Bits.{bit_at_and, bit_at_lowest, bit_at-suc, bit_at-trailing_zeros, bit_at-zero}
use Rattle.script_tree.specs.Bits.{IsLowestBit}
use Rattle.script_tree.proofs.BitLemmas.{clear_in_word}
use Rattle.order_graph.specs.Slots.{Slots, slots_of, IsLeastFrom}
use Rattle.order_graph.specs.Sets.{HasAllBelow, slots_at, changed}
use Rattle.order_graph.proofs.SlotLemmas.{least_in_word, no_slot}

-- the sets of the members below i have changed, and the rest are as they were
pub record ChangedBelow (i : ℕ) (change : Slots → Slots) (members : Slots) (old new : List Slots) : Type 0 where
  pub done : (y : ℕ) → y < i → slots_at new y ≡ changed change old members y
  pub rest : (y : ℕ) → i ≤ y → slots_at new y ≡ slots_at old y

member_changed : (change : Slots → Slots) (members : Slots) (old : List Slots) (y : ℕ) → finset.contains members y ≡ true → changed change old members y ≡ change (slots_at old y)
member_changed change members old y h = ap (λ t. cond t (change (slots_at old y)) (slots_at old y)) h

other_stays : (change : Slots → Slots) (members : Slots) (old : List Slots) (y : ℕ) → finset.contains members y ≡ false → changed change old members y ≡ slots_at old y
other_stays change members old y h = ap (λ t. cond t (change (slots_at old y)) (slots_at old y)) h

-- the next member's set changes
pub change_more : (i q : ℕ) (change : Slots → Slots) (members : Slots) (old new : List Slots) (s : Slots) → q < length new → IsLeastFrom members i q → s ≡ change (slots_at new q) → ChangedBelow i change members old new → ChangedBelow (q + 1) change members old (set new q s)
change_more i q change members old new s fits least is below =
    let above = least.at_or_above in
    record {
      done = λ y h. elim (cases_eq y q) [
        | inl same ↦
            ap (slots_at (set new q s)) same
            ∙ get_or-set_same new q s finset.empty fits
            ∙ is
            ∙ ap change (below.rest q above)
            ∙ sym (member_changed change members old q least.found)
            ∙ ap (changed change old members) (sym same)
        | inr other ↦ get_or-set_other new q y s finset.empty other ∙ elim (cases_lt y i) [
          | inl before ↦ below.done y before
          | inr from ↦ below.rest y from ∙ sym (other_stays change members old y (least.least y from (omega arith)))
        ]
      ];
      rest = λ y h. get_or-set_other new q y s finset.empty (λ e. omega arith) ∙ below.rest y (omega arith);
    }

-- the bits of the word from `low` on are those that are left
pub record IsRest (word rest low : ℕ) : Type 0 where
  pub within : low ≤ 64
  pub gone : (i : ℕ) → i < low → bit_at rest i ≡ 0
  pub same : (i : ℕ) → low ≤ i → i < 64 → bit_at rest i ≡ bit_at word i

-- the word without its lowest bit
abbrev cleared : ℕ → ℕ
cleared rest = bit_and rest (rest - 1)

-- one less has no bit at t, and above t the same bits
abbrev SameAbove : ℕ → ℕ → Type 0
SameAbove t n = (bit_at (n - 1) t ≡ 0) × ((i : ℕ) → t < i → bit_at (n - 1) i ≡ bit_at n i)

odd_less : (n : ℕ) → n % 2 ≡ 1 → SameAbove 0 n
odd_less n odd = (bit_at_lowest (n - 1) ∙ omega (arith, odd), above)
  where
    above : (i : ℕ) → 0 < i → bit_at (n - 1) i ≡ bit_at n i
    above zero h = absurd (omega arith)
    above (suc i) h = let half : (n - 1) / 2 ≡ n / 2 = omega (arith, odd) in bit_at-suc (n - 1) i ∙ ap (λ m. bit_at m i) half ∙ sym (bit_at-suc n i)

even_less : (t n : ℕ) → n % 2 ≡ 0 → SameAbove t (n / 2) → SameAbove (suc t) n
even_less t n even less = (bit_at-suc (n - 1) t ∙ ap (λ m. bit_at m t) half ∙ less.0, above)
  where
    half : (n - 1) / 2 ≡ n / 2 - 1
    half = omega (arith, even)

    above : (i : ℕ) → suc t < i → bit_at (n - 1) i ≡ bit_at n i
    above zero h = absurd (omega arith)
    above (suc i) h = bit_at-suc (n - 1) i ∙ ap (λ m. bit_at m i) half ∙ less.1 i (omega arith) ∙ sym (bit_at-suc n i)

-- where t is the lowest bit
one_less : (t n : ℕ) → bit_at n t ≡ 1 → ((i : ℕ) → i < t → bit_at n i ≡ 0) → SameAbove t n
one_less zero n one none = odd_less n (sym (bit_at_lowest n) ∙ one)
one_less (suc t) n one none = even_less t n (sym (bit_at_lowest n) ∙ none 0 (omega arith)) (one_less t (n / 2) (sym (bit_at-suc n t) ∙ one) (λ i h. sym (bit_at-suc n i) ∙ none (suc i) (omega arith)))

-- the bits when the lowest is cleared
cleared_bits : (n t : ℕ) → bit_at n t ≡ 1 → ((i : ℕ) → i < t → bit_at n i ≡ 0) → ((i : ℕ) → i < t + 1 → bit_at (cleared n) i ≡ 0) × ((i : ℕ) → t < i → bit_at (cleared n) i ≡ bit_at n i)
cleared_bits n t one none = (gone, stays)
  where
    gone : (i : ℕ) → i < t + 1 → bit_at (cleared n) i ≡ 0
    gone i h = bit_at_and n (n - 1) i ∙ elim (cases_eq i t) [
      | inl at ↦ let z : bit_at (n - 1) i ≡ 0 = ap (bit_at (n - 1)) at ∙ (one_less t n one none).0 in omega arith
      | inr other ↦ let z = none i (omega arith) in omega arith
    ]

    stays : (i : ℕ) → t < i → bit_at (cleared n) i ≡ bit_at n i
    stays i h = let same = (one_less t n one none).1 i h in bit_at_and n (n - 1) i ∙ omega arith

pub all_left : (word : ℕ) → IsRest word word 0
all_left word = record { within = omega arith; gone = λ i h. absurd (omega arith); same = λ i h k. refl }

-- the lowest bit that is left is the word's from `low` on
lowest_left : (word rest low : ℕ) → 0 < rest → rest < 2 ^ 64 → IsRest word rest low → IsLowestBit word low (trailing_zeros w64 rest)
lowest_left word rest low some fits left =
    let least = bit_at-trailing_zeros w64 rest some fits in
    let t = trailing_zeros w64 rest in
    let above : low ≤ t = elim (cases_lt t low) [ inl below ↦ let z = left.gone t below in let o = least.1 in absurd (omega arith) | inr above ↦ above ] in
    record {
      inside = least.0;
      at_or_above = above;
      is_one = sym (left.same t above least.0) ∙ least.1;
      lowest = λ i from below. sym (left.same i from (omega arith)) ∙ least.2 i below;
    }

-- what is left when the lowest bit goes
less_left : (word rest low : ℕ) → 0 < rest → rest < 2 ^ 64 → IsRest word rest low → IsRest word (cleared rest) (trailing_zeros w64 rest + 1)
less_left word rest low some fits left =
    let least = bit_at-trailing_zeros w64 rest some fits in
    let t = trailing_zeros w64 rest in
    let lowest = lowest_left word rest low some fits left in
    let bits = cleared_bits rest t least.1 least.2 in
    record {
      within = omega (arith, least.0);
      gone = bits.0;
      same = λ i h k. bits.1 i (omega arith) ∙ left.same i (omega (arith, lowest.at_or_above)) k;
    }

pub smaller : (rest : ℕ) → 0 < rest → cleared rest < rest
smaller rest some = let most = and_le_r rest (rest - 1) in omega arith

-- The members below the lowest bit that is left of this word have changed.
abbrev pub Changing : (index : ℕ) (change : Slots → Slots) (words : List ℕ) (word rest : ℕ) (old new : List Slots) → Type 0
Changing index change words word rest old new = (low : ℕ) × (IsRest word rest low × ChangedBelow (index * 64 + low) change (slots_of words) old new)

-- the next member of the words
next_member : (index word rest low : ℕ) (words : List ℕ) → index < 4 → word ≡ get_or words index 0 → 0 < rest → rest < 2 ^ 64 → IsRest word rest low → IsLeastFrom (slots_of words) (index * 64 + low) (index * 64 + trailing_zeros w64 rest)
next_member index word rest low words fits is some small left =
    let lowest = lowest_left word rest low some small left in
    least_in_word words (index * 64 + low) index low (trailing_zeros w64 rest) fits
    (record { within = omega (arith, lowest.inside, lowest.at_or_above); reached = omega arith; nothing = λ p at below. absurd (omega arith) })
    (subst (λ (w : ℕ). IsLowestBit w low (trailing_zeros w64 rest)) is lowest)

pub member_inside : (index : ℕ) (change : Slots → Slots) (words : List ℕ) (word rest n : ℕ) (old new : List Slots) → index < 4 → word ≡ get_or words index 0 → 0 < rest → rest < 2 ^ 64 → HasAllBelow (slots_of words) n → Changing index change words word rest old new → index * 64 + trailing_zeros w64 rest < n
member_inside index change words word rest n old new fits is some small inside (low, (left, below)) = inside _ (next_member index word rest low words fits is some small left).found

pub change_next : (index : ℕ) (change : Slots → Slots) (words : List ℕ) (word rest : ℕ) (old new : List Slots) (s d : Slots) → index < 4 → word ≡ get_or words index 0 → 0 < rest → rest < 2 ^ 64 → HasAllBelow (slots_of words) (length new) → s ≡ change (get_or new (index * 64 + trailing_zeros w64 rest) d) → Changing index change words word rest old new → Changing index change words word (cleared rest) old (set new (index * 64 + trailing_zeros w64 rest) s)
change_next index change words word rest old new s d fits is some small inside changes (low, (left, below)) =
    let t = trailing_zeros w64 rest in
    let least = next_member index word rest low words fits is some small left in
    let place = inside _ least.found in
    let next : index * 64 + t + 1 ≡ index * 64 + (t + 1) = omega arith in (
      t + 1,
      (
        less_left word rest low some small left,
        subst (λ (i : ℕ). ChangedBelow i change (slots_of words) old (set new (index * 64 + t) s)) next
            (change_more (index * 64 + low) (index * 64 + t) change (slots_of words) old new s place least (changes ∙ ap change (get_or_default new (index * 64 + t) d finset.empty place)) below),
      ),
    )

pub inside_words : (words : List ℕ) (members : Slots) (m n : ℕ) → slots_of words ≡ members → HasAllBelow members m → m ≡ n → HasAllBelow (slots_of words) n
inside_words words members m n is inside same y h = let below = inside y (sym (ap (λ s. finset.contains s y) is) ∙ h) in omega arith

-- before a word's first bit
pub word_begins : (index : ℕ) (change : Slots → Slots) (words : List ℕ) (word : ℕ) (old new : List Slots) → ChangedBelow (index * 64) change (slots_of words) old new → Changing index change words word word old new
word_begins index change words word old new below = (0, (all_left word, subst (λ (i : ℕ). ChangedBelow i change (slots_of words) old new) (omega arith) below))

-- when no bit of a word is left
pub word_ends : (index : ℕ) (change : Slots → Slots) (words : List ℕ) (word rest : ℕ) (old new : List Slots) → word ≡ get_or words index 0 → rest ≡ 0 → Changing index change words word rest old new → ChangedBelow ((index + 1) * 64) change (slots_of words) old new
word_ends index change words word rest old new is empty (low, (left, below)) = record {
  done = λ y h. elim (cases_lt y (index * 64 + low)) [
    | inl before ↦ below.done y before
    | inr from ↦ below.rest y from ∙ sym (other_stays change (slots_of words) old y (none y from h))
  ];
  rest = λ y h. let within = left.within in below.rest y (omega arith);
}
  where
    none : (y : ℕ) → index * 64 + low ≤ y → y < (index + 1) * 64 → finset.contains (slots_of words) y ≡ false
    none y from h = no_slot words y (clear_in_word words index y (omega arith) (ap (λ w. bit_at w (y % 64)) (sym is) ∙ sym (left.same (y % 64) (omega arith) (omega arith)) ∙ ap (λ r. bit_at r (y % 64)) empty ∙ bit_at-zero (y % 64)))

-- past the last word all sets have changed that do
pub words_end : (index : ℕ) (change : Slots → Slots) (words : List ℕ) (members : Slots) (old new : List Slots) → 4 ≤ index → length old ≤ 256 → slots_of words ≡ members → ChangedBelow (index * 64) change (slots_of words) old new → (y : ℕ) → y < length old → slots_at new y ≡ changed change old members y
words_end index change words members old new past few is below y h = below.done y (omega arith) ∙ ap (λ m. changed change old m y) is
