-- A value is read from the words that it is written in.
use Rattle.std.proofs.Common.{◌≡◌, ℕ, zero, suc, ◌^◌, ◌<◌, ◌≤◌, Bool, true, false, List, [], ◌∷◌, length, refl, sym, ap, ◌∙◌, arith, subst}
use Rattle.std.specs.Prelude.{◌&&◌, if◌then◌else◌, nat_lt, nat_le, pos, negsuc, neg_ℤ, codes, decimal, Some, None}
use Rattle.std.specs.List.{list_all}
use Rattle.std.specs.Str.{bytes_eq}
use Rattle.std.specs.Char.{is_ascii_digit}
use Rattle.std.proofs.lemmas.Fmt.{decimal_nonempty}
use Rattle.std.proofs.lemmas.Option.{none-some, same_Some}
use Rattle.std.proofs.lemmas.Bool.{false≢true, and_parts, and_from, lt-ltb, le-leb, ltb-true, leb-true}
use Rattle.script_tree.specs.declared.value.Value.{Value}
use Rattle.script_tree.specs.declared.value.Value.TheVariants.{Int, Bool as Truth}
use Rattle.script_tree.proofs.Texts.{same_text}
use Rattle.expr_script.specs.Words.{value}
use Rattle.expr_script.proofs.Numerals.{decimal_digits, decimal_value}
use Rattle.deck_lines.specs.Forms.{Words}
use Rattle.deck_lines.specs.Values.{is_digits, plain, below_zero, one_word, value_of}
use Rattle.deck_lines.specs.Canonical.{value_words}

pub no_word : (n : ℕ) (word : List ℕ) → n < 2 ^ 64 → list_all is_ascii_digit word ≡ false → bytes_eq (decimal n) word ≡ false
no_word n word h d = by_test (bytes_eq (decimal n) word) refl
  where
    by_test : (t : Bool) → bytes_eq (decimal n) word ≡ t → t ≡ false
    by_test true e = absurd (false≢true (sym d ∙ ap (list_all is_ascii_digit) (sym (same_text (decimal n) word e)) ∙ decimal_digits n h))
    by_test false e = refl

are_digits : (n : ℕ) → n < 2 ^ 64 → is_digits (decimal n) ≡ true
are_digits n h = and_from (nat_lt 0 (length (decimal n))) (list_all is_ascii_digit (decimal n)) (lt-ltb 0 (length (decimal n)) (decimal_nonempty n h)) (decimal_digits n h)

-- a number is read from its digits
pub plain_back : (n : ℕ) → n < 2 ^ 63 → one_word (decimal n) ≡ Some (Int (pos n))
plain_back n h =
    let small : n < 2 ^ 64 = omega (arith, h) in
    ap (λ t. if t then Some (Truth true) else if bytes_eq (decimal n) (codes "false") then Some (Truth false) else plain (decimal n)) (no_word n (codes "true") small refl)
    ∙ ap (λ t. if t then Some (Truth false) else plain (decimal n)) (no_word n (codes "false") small refl)
    ∙ ap (λ t. if t then Some (Int (pos (value 0 (decimal n)))) else None) (and_from (is_digits (decimal n)) (nat_lt (value 0 (decimal n)) (2 ^ 63)) (are_digits n small) (ap (λ v. nat_lt v (2 ^ 63)) (decimal_value n small) ∙ lt-ltb n (2 ^ 63) h))
    ∙ ap (λ v. Some (Int (pos v))) (decimal_value n small)

below_back : (n : ℕ) → n < 2 ^ 63 → below_zero (decimal (suc n)) ≡ Some (Int (negsuc n))
below_back n h =
    let small : suc n < 2 ^ 64 = omega (arith, h) in
    ap (λ t. if t then Some (Int (neg_ℤ (pos (value 0 (decimal (suc n)))))) else None) (and_from (is_digits (decimal (suc n))) (nat_le (value 0 (decimal (suc n))) (2 ^ 63)) (are_digits (suc n) small) (ap (λ v. nat_le v (2 ^ 63)) (decimal_value (suc n) small) ∙ le-leb (suc n) (2 ^ 63) (omega (arith, h))))
    ∙ ap (λ v. Some (Int (neg_ℤ (pos v)))) (decimal_value (suc n) small)

neg_back : (n : ℕ) → n ≤ 2 ^ 63 → value_of (value_words (Int (neg_ℤ (pos n)))) ≡ Some (Int (neg_ℤ (pos n)))
neg_back zero h = plain_back 0 (omega arith)
neg_back (suc n) h = below_back n (omega (arith, h))

-- what holds of each way to spell a value holds of all words that spell one
pub by_spelling : (Q : Words → Value → Type 0) → Q (codes "true" ∷ []) (Truth true) → Q (codes "false" ∷ []) (Truth false)
    → ((word : List ℕ) → is_digits word ≡ true → value 0 word < 2 ^ 63 → Q (word ∷ []) (Int (pos (value 0 word))))
    → ((word : List ℕ) → is_digits word ≡ true → value 0 word ≤ 2 ^ 63 → Q (codes "-" ∷ word ∷ []) (Int (neg_ℤ (pos (value 0 word)))))
    → (words : Words) (v : Value) → value_of words ≡ Some v → Q words v
by_spelling Q yes_is no_is plainly below [] v e = absurd (none-some v e)
by_spelling Q yes_is no_is plainly below (word ∷ []) v e = by_yes (bytes_eq word (codes "true")) refl e
  where
    by_number : (t : Bool) → (is_digits word && nat_lt (value 0 word) (2 ^ 63)) ≡ t → (if t then Some (Int (pos (value 0 word))) else None) ≡ Some v → Q (word ∷ []) v
    by_number true g k =
        let d = and_parts (is_digits word) (nat_lt (value 0 word) (2 ^ 63)) g in
        subst (Q (word ∷ [])) (same_Some (Int (pos (value 0 word))) v k) (plainly word d.0 (ltb-true (value 0 word) (2 ^ 63) d.1))
    by_number false g k = absurd (none-some v k)

    by_no : (t : Bool) → bytes_eq word (codes "false") ≡ t → (if t then Some (Truth false) else plain word) ≡ Some v → Q (word ∷ []) v
    by_no true g k = subst (λ (w : List ℕ). Q (w ∷ []) v) (sym (same_text word (codes "false") g)) (subst (Q (codes "false" ∷ [])) (same_Some (Truth false) v k) no_is)
    by_no false g k = by_number (is_digits word && nat_lt (value 0 word) (2 ^ 63)) refl k

    by_yes : (t : Bool) → bytes_eq word (codes "true") ≡ t → (if t then Some (Truth true) else if bytes_eq word (codes "false") then Some (Truth false) else plain word) ≡ Some v → Q (word ∷ []) v
    by_yes true g k = subst (λ (w : List ℕ). Q (w ∷ []) v) (sym (same_text word (codes "true") g)) (subst (Q (codes "true" ∷ [])) (same_Some (Truth true) v k) yes_is)
    by_yes false g k = by_no (bytes_eq word (codes "false")) refl k
by_spelling Q yes_is no_is plainly below (minus ∷ word ∷ []) v e = by_minus (bytes_eq minus (codes "-")) refl e
  where
    by_number : (t : Bool) → (is_digits word && nat_le (value 0 word) (2 ^ 63)) ≡ t → (if t then Some (Int (neg_ℤ (pos (value 0 word)))) else None) ≡ Some v → Q (codes "-" ∷ word ∷ []) v
    by_number true g k =
        let d = and_parts (is_digits word) (nat_le (value 0 word) (2 ^ 63)) g in
        subst (Q (codes "-" ∷ word ∷ [])) (same_Some (Int (neg_ℤ (pos (value 0 word)))) v k) (below word d.0 (leb-true (value 0 word) (2 ^ 63) d.1))
    by_number false g k = absurd (none-some v k)

    by_minus : (t : Bool) → bytes_eq minus (codes "-") ≡ t → (if t then below_zero word else None) ≡ Some v → Q (minus ∷ word ∷ []) v
    by_minus true g k = subst (λ (m : List ℕ). Q (m ∷ word ∷ []) v) (sym (same_text minus (codes "-") g)) (by_number (is_digits word && nat_le (value 0 word) (2 ^ 63)) refl k)
    by_minus false g k = absurd (none-some v k)
by_spelling Q yes_is no_is plainly below (a ∷ b ∷ c ∷ more) v e = absurd (none-some v e)

-- the words of a value that some words spell are read as it
pub value_back : (words : Words) (v : Value) → value_of words ≡ Some v → value_of (value_words v) ≡ Some v
value_back = by_spelling (λ words v. value_of (value_words v) ≡ Some v) refl refl (λ word d h. plain_back (value 0 word) h) (λ word d h. neg_back (value 0 word) h)
