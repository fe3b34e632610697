-- The carriage return at the end of a line.
use Rattle.std.proofs.Common.{◌≡◌, ℕ, Bool, true, false, List, [], ◌∷◌, ◌++◌, refl, sym, ap, ◌∙◌}
use Rattle.std.specs.Prelude.{◌==◌, if◌then◌else◌}
use Rattle.deck_lines.specs.Texts.{without_return}

at_end : (rest : List ℕ) (last : ℕ) → without_return (rest ++ last ∷ []) ≡ (if last == 13 then rest else rest ++ last ∷ [])
at_end [] last = refl
at_end (b ∷ []) last = by_test (last == 13) refl
  where
    by_test : (t : Bool) → (last == 13) ≡ t → (b ∷ (if last == 13 then [] else last ∷ [])) ≡ (if last == 13 then b ∷ [] else b ∷ last ∷ [])
    by_test true e = rw e refl
    by_test false e = rw e refl
at_end (b ∷ c ∷ rest) last = ap (λ l. b ∷ l) (at_end (c ∷ rest) last) ∙ onto (last == 13) (c ∷ rest) ((c ∷ rest) ++ last ∷ [])
  where
    onto : (t : Bool) (x y : List ℕ) → (b ∷ (if t then x else y)) ≡ (if t then b ∷ x else b ∷ y)
    onto true x y = refl
    onto false x y = refl

pub return_at_end : (line rest : List ℕ) (last : ℕ) → line ≡ rest ++ last ∷ [] → (last == 13) ≡ true → without_return line ≡ rest
return_at_end line rest last e t = ap without_return e ∙ at_end rest last ∙ ap (λ b. if b then rest else rest ++ last ∷ []) t

pub no_return : (line rest : List ℕ) (last : ℕ) → line ≡ rest ++ last ∷ [] → (last == 13) ≡ false → without_return line ≡ line
no_return line rest last e t = ap without_return e ∙ at_end rest last ∙ ap (λ b. if b then rest else rest ++ last ∷ []) t ∙ sym e

pub nothing_to_return : (line : List ℕ) → line ≡ [] → without_return line ≡ line
nothing_to_return line e = ap without_return e ∙ sym e

pub ruleset text_laws = (return_at_end, no_return, nothing_to_return)
