-- Where a text is cut.
use Rattle.std.proofs.Common.{◌≡◌, ℕ, Bool, List, length, arith}
use Rattle.std.specs.Prelude.{not, take_while, reverse}
use Rattle.std.specs.List.{position_or_len, suffix_len}
use Rattle.std.proofs.lemmas.Grind.{common_steps}

-- what stands before the first byte that passes is as long as its place says
pub length-before : (p : ℕ → Bool) (text : List ℕ) → length (take_while (λ b. not (p b)) text) ≡ position_or_len p text
length-before p text = grind (arith, common_steps)

-- what stands behind the last byte that passes, counted from the end
pub length-behind : (p : ℕ → Bool) (text : List ℕ) → length (take_while (λ b. not (p b)) (reverse text)) ≡ suffix_len (λ b. not (p b)) text
length-behind p text = length-before p (reverse text)

pub ruleset cut_laws = (length-before, length-behind)
