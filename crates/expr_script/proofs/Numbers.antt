-- The value of digits, and the place of a name.
use Rattle.std.proofs.Common.{◌≡◌, ℕ, ◌+◌, ◌-◌, ◌*◌, ◌<◌, ◌≤◌, false, List, [], ◌∷◌, ◌++◌, length, take, drop, get_or, refl, ap, ◌∙◌, arith}
use Rattle.std.specs.Prelude.{pos, nat_lt, if◌then◌else◌, ◌^◌}
use Rattle.std.proofs.lemmas.Bool.Decides.{nat_tests}
use Rattle.script_grammar.specs.declared.token.Token.TheVariants.{Plain, Stray}
use Rattle.script_grammar.specs.declared.token.Word.TheVariants.{Digits}
use Rattle.std.specs.Prelude.{slice_get, Some}
use Rattle.std.proofs.lemmas.List.{take_more, take-append-drop}
use Rattle.script_tree.proofs.Texts.{text_is, other_text}
use Rattle.script_tree.specs.Names.{place_in}
use Rattle.script_tree.proofs.Lists.{drop_got}
use Rattle.expr_script.specs.Words.{value, number}

pub value_append : (n : ℕ) (a b : List ℕ) → value n (a ++ b) ≡ value (value n a) b
value_append n [] b = refl
value_append n (d ∷ a) b = value_append (n * 10 + (d - 48)) a b

pub value_grows : (n : ℕ) (ds : List ℕ) → n ≤ value n ds
value_grows n [] = omega arith
value_grows n (d ∷ ds) = omega (arith, value_grows (n * 10 + (d - 48)) ds)

-- one more digit
pub value_take_more : (ds : List ℕ) (i : ℕ) → i < length ds → value 0 (take (i + 1) ds) ≡ value 0 (take i ds) * 10 + (get_or ds i 0 - 48)
value_take_more ds i h = ap (value 0) (take_more ds i 0 h) ∙ value_append 0 (take i ds) (get_or ds i 0 ∷ [])

-- a number only grows with its digits
pub value_take : (ds : List ℕ) (i : ℕ) → value 0 (take i ds) ≤ value 0 ds
value_take ds i = omega (arith, ap (value 0) (take-append-drop i ds), value_append 0 (take i ds) (drop i ds), value_grows (value 0 (take i ds)) (drop i ds))

pub ruleset value_laws = (value_take_more, value_take)

-- a name that stands here
pub place_here : (xs : List (List ℕ)) (at : ℕ) (r name : List ℕ) → slice_get xs at ≡ Some r → r ≡ name → place_in (drop at xs) name ≡ 0
place_here xs at r name g e = ap (λ l. place_in l name) (drop_got xs at r g) ∙ ap (λ b. if b then 0 else place_in (drop (at + 1) xs) name + 1) (text_is r name e)

-- a name that doesn't stand here
pub place_on : (xs : List (List ℕ)) (at : ℕ) (r name : List ℕ) → slice_get xs at ≡ Some r → (r ≡ name → ⊥) → place_in (drop at xs) name ≡ place_in (drop (at + 1) xs) name + 1
place_on xs at r name g n = ap (λ l. place_in l name) (drop_got xs at r g) ∙ ap (λ b. if b then 0 else place_in (drop (at + 1) xs) name + 1) (other_text r name n)

test_no : (n : ℕ) → 2 ^ 63 ≤ n → nat_lt n (2 ^ 63) ≡ false
test_no n h = grind (arith, nat_tests)

-- past the greatest number there is no way back
pub too_great : (ds : List ℕ) (i total : ℕ) → i < length ds → total ≡ value 0 (take i ds) → 2 ^ 63 ≤ total * 10 + (get_or ds i 0 - 48) → number ds ≡ Stray
too_great ds i total h e over =
    let great : 2 ^ 63 ≤ value 0 ds = omega (arith, value_take ds (i + 1), value_take_more ds i h) in
    ap (λ b. if b then Plain (Digits (pos (value 0 ds))) else Stray) (test_no (value 0 ds) great)
