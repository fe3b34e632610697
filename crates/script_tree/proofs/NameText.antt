-- A name is text: its bytes are ASCII.
use Rattle.std.proofs.Common.{◌≡◌, ℕ, zero, suc, true, List, [], ◌∷◌, arith}
use Rattle.std.specs.Prelude.{◌<◌}
use Rattle.std.specs.List.{list_all}
use Rattle.std.specs.Str.{IsUtf8, IsAscii}
use Rattle.std.proofs.lemmas.Str.{IsUtf8-from_ascii}
use Rattle.std.proofs.lemmas.Bool.{and_parts}
use Rattle.std.proofs.lemmas.Bool.Decides.{nat_tests}
use Rattle.script_tree.specs.Names.{is_word, is_name, starts_well}

word_ascii : (b : ℕ) → is_word b ≡ true → b < 128
word_ascii b h = grind (arith, nat_tests, h)

words_ascii : (bs : List ℕ) → list_all is_word bs ≡ true → IsAscii bs
words_ascii [] h i = omega arith
words_ascii (b ∷ bs) h zero = word_ascii b (and_parts (is_word b) (list_all is_word bs) h).0
words_ascii (b ∷ bs) h (suc i) = words_ascii bs (and_parts (is_word b) (list_all is_word bs) h).1 i

pub name_text : (name : List ℕ) → is_name name ≡ true → (IsUtf8 name → ⊥) → ⊥
name_text name h none =
    let words = (and_parts (list_all is_word name) _ (and_parts (starts_well name) _ h).1).0 in
    none (IsUtf8-from_ascii name (words_ascii name words))
