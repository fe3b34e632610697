-- Words are the blocks of one list of options at most.
use Rattle.std.proofs.Common.{◌≡◌, ℕ, List, [], ◌∷◌, ◌++◌, refl, sym, ap, subst, ◌∙◌, inl, inr, codes, length, arith, length-append}
use Rattle.std.specs.Prelude.{drop, if◌then◌else◌}
use Rattle.std.specs.Str.{bytes_eq}
use Rattle.command_words.specs.Options.{Given, Json, Versions, IsBlock, AreBlocks}

abbrev pub Text : Type 0
Text = List ℕ

abbrev pub first_word : List Text → Text
first_word [] = []
first_word (word ∷ words) = word

abbrev pub tail : List Text → List Text
tail [] = []
tail (word ∷ words) = words

abbrev pub second_word : List Text → Text
second_word words = first_word (tail words)

-- the option whose block stands first, if one does, and the words behind it

abbrev first_option : List Text → Given
first_option words = if bytes_eq (first_word words) (codes "--json") then Json else
    (if bytes_eq (first_word words) (codes "--versions") then Versions (second_word words) else Versions (drop 11 (first_word words)))

abbrev behind_first : List Text → List Text
behind_first words = if bytes_eq (first_word words) (codes "--versions") then tail (tail words) else tail words

pub option_read : (option : Given) (block rest : List Text) → IsBlock option block → first_option (block ++ rest) ≡ option
option_read Json block rest is = subst (λ b. first_option (b ++ rest) ≡ Json) (sym is) refl
option_read (Versions text) block rest is = elim is.1 [
  | inl behind ↦ subst (λ b. first_option (b ++ rest) ≡ Versions text) (sym behind) refl
  | inr within ↦ subst (λ b. first_option (b ++ rest) ≡ Versions text) (sym within) refl
]

pub rest_read : (option : Given) (block rest : List Text) → IsBlock option block → behind_first (block ++ rest) ≡ rest
rest_read Json block rest is = subst (λ b. behind_first (b ++ rest) ≡ rest) (sym is) refl
rest_read (Versions text) block rest is = elim is.1 [
  | inl behind ↦ subst (λ b. behind_first (b ++ rest) ≡ rest) (sym behind) refl
  | inr within ↦ subst (λ b. behind_first (b ++ rest) ≡ rest) (sym within) refl
]

-- two blocks with which words begin are one
pub one_option : (a b : Given) (x y xs ys words : List Text) → words ≡ x ++ xs → IsBlock a x → words ≡ y ++ ys → IsBlock b y → a ≡ b
one_option a b x y xs ys words e f g h = sym (option_read a x xs f) ∙ ap first_option (sym e ∙ g) ∙ option_read b y ys h

pub one_rest : (a b : Given) (x y xs ys words : List Text) → words ≡ x ++ xs → IsBlock a x → words ≡ y ++ ys → IsBlock b y → xs ≡ ys
one_rest a b x y xs ys words e f g h = sym (rest_read a x xs f) ∙ ap behind_first (sym e ∙ g) ∙ rest_read b y ys h

-- a block has a word
pub block_some : (option : Given) (block : List Text) → IsBlock option block → length block ≡ 0 → ⊥
block_some Json block is none = absurd (omega (arith, ap length is, none))
block_some (Versions text) block is none = elim is.1 [
  | inl behind ↦ absurd (omega (arith, ap length behind, none))
  | inr within ↦ absurd (omega (arith, ap length within, none))
]

pub not_empty : (option : Given) (block rest words : List Text) → words ≡ [] → words ≡ block ++ rest → IsBlock option block → ⊥
not_empty option block rest words none e is = block_some option block is (omega (arith, ap length (sym e ∙ none), length-append block rest))

pub one_given : (xs ys : List Given) (words : List Text) → AreBlocks xs words → AreBlocks ys words → xs ≡ ys
one_given [] [] words f g = refl
one_given [] (b ∷ ys) words f g = absurd (not_empty b g.0 g.1 words f g.2 g.3)
one_given (a ∷ xs) [] words f g = absurd (not_empty a f.0 f.1 words g f.2 f.3)
one_given (a ∷ xs) (b ∷ ys) words f g =
    let same = one_option a b f.0 g.0 f.1 g.1 words f.2 f.3 g.2 g.3 in
    let rest = one_rest a b f.0 g.0 f.1 g.1 words f.2 f.3 g.2 g.3 in
    let others = one_given xs ys f.1 f.4 (subst (AreBlocks ys) (sym rest) g.4) in
    subst (λ o. a ∷ xs ≡ o ∷ ys) same (ap (λ os. a ∷ os) others)
