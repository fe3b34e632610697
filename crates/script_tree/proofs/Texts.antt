-- Texts as lists of their bytes: when two are the same.
use Rattle.std.proofs.Common.{◌≡◌, ℕ, true, false, List, sym}
use Rattle.std.specs.Str.{bytes_eq}
use Rattle.std.specs.Cmp.{both_ways}
use Rattle.std.proofs.lemmas.Bool.{false_from_ne_true}
use Rattle.std.proofs.lemmas.Slice.Eq.{bytes_eq-Decides}

pub same_text : (a b : List ℕ) → bytes_eq a b ≡ true → a ≡ b
same_text a b e = (bytes_eq-Decides a b).0 e

pub text_is : (a b : List ℕ) → a ≡ b → bytes_eq a b ≡ true
text_is a b e = (bytes_eq-Decides a b).1 e

pub other_text : (a b : List ℕ) → (a ≡ b → ⊥) → bytes_eq a b ≡ false
other_text a b other = false_from_ne_true (bytes_eq a b) (λ e. other (same_text a b e))

pub bytes_eq-sym : (a b : List ℕ) → bytes_eq a b ≡ bytes_eq b a
bytes_eq-sym a b = both_ways (bytes_eq a b) (bytes_eq b a) (λ e. text_is b a (sym (same_text a b e))) (λ e. text_is a b (sym (same_text b a e)))
