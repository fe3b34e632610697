-- Words and signs that stand by themselves, and what may be written beside them.
use Rattle.std.proofs.Common.{◌≡◌, ℕ, ◌<◌, ◌≤◌, Bool, true, false, List, [], ◌∷◌, ◌++◌, length, refl, sym, ap, ◌∙◌, arith, append_assoc, subst}
use Rattle.std.specs.Prelude.{◌==◌, ◌&&◌, ◌||◌, not, nat_le, codes}
use Rattle.std.specs.List.{list_all, list_any, AllByRecursion}
use Rattle.std.specs.Char.{is_ascii_digit}
use Rattle.std.proofs.lemmas.Bool.Decides.{nat_tests}
use Rattle.std.proofs.lemmas.Bool.{or_from, false≢true, and_parts}
use Rattle.script_tree.specs.declared.limits.TheConstants.{NAME_BYTES}
use Rattle.script_tree.specs.Names.{is_word, is_reserved, starts_well}
use Rattle.script_tree.proofs.Lists.{all_append}
use Rattle.expr_script.specs.Joined.{merges, IsWhole, StandApart}
use Rattle.expr_script.proofs.Apart.{follow_more, word_closed, word_after}
use Rattle.expr_script.proofs.TokenBack.{digits_words, word_whole}
use Rattle.deck_lines.specs.Forms.{Words, IsName}
use Rattle.deck_lines.specs.Texts.{is_end}
use Rattle.deck_lines.specs.Cuts.{each_behind, separated}

-- a word of the language by itself
pub record IsWord (w : List ℕ) : Type 0 where
  pub some : 0 < length w
  pub all : list_all is_word w ≡ true

pub name_word : (name : List ℕ) → IsName name → IsWord name
name_word [] h = absurd (false≢true h)
name_word (b ∷ bs) h = record {
  some = omega arith;
  all = (and_parts (list_all is_word (b ∷ bs)) (nat_le (length (b ∷ bs)) NAME_BYTES && not (is_reserved (b ∷ bs))) (and_parts (starts_well (b ∷ bs)) (list_all is_word (b ∷ bs) && (nat_le (length (b ∷ bs)) NAME_BYTES && not (is_reserved (b ∷ bs)))) h).1).0;
}

pub digits_word : (ds : List ℕ) → 0 < length ds → list_all is_ascii_digit ds ≡ true → IsWord ds
digits_word ds some h = record { some = some; all = digits_words ds h }

-- none of these bytes ends a line or what it says
abbrev pub IsClean : List ℕ → Type 0
IsClean w = list_any is_end w ≡ false

word_no_end : (b : ℕ) → is_word b ≡ true → is_end b ≡ false
word_no_end b h = by_tests (b == 35) refl (b == 13) refl (b == 10) refl
  where
    by_tests : (t : Bool) → (b == 35) ≡ t → (u : Bool) → (b == 13) ≡ u → (v : Bool) → (b == 10) ≡ v → (t || (u || v)) ≡ false
    by_tests true e u f v g = let same : b ≡ 35 = grind (arith, nat_tests, e) in absurd (false≢true (sym (ap is_word same) ∙ h))
    by_tests false e true f v g = let same : b ≡ 13 = grind (arith, nat_tests, f) in absurd (false≢true (sym (ap is_word same) ∙ h))
    by_tests false e false f true g = let same : b ≡ 10 = grind (arith, nat_tests, g) in absurd (false≢true (sym (ap is_word same) ∙ h))
    by_tests false e false f false g = refl

pub bytes_clean : (w : List ℕ) → list_all is_word w ≡ true → IsClean w
bytes_clean [] h = refl
bytes_clean (b ∷ bs) h =
    let parts = and_parts (is_word b) (list_all is_word bs) h in
    or_from (is_end b) (list_any is_end bs) (word_no_end b parts.0) (bytes_clean bs parts.1)

-- words that stand apart from whatever is before them, and from what stands apart behind them
pub record Apart (ws : Words) : Type 0 where
  pub stand : (last : List ℕ) (more : Words) → StandApart [] more → StandApart last (ws ++ more)
  pub clean : AllByRecursion IsClean ws

-- the same of words that begin with a sign, which merges with a sign before it
pub record Behind (ws : Words) : Type 0 where
  pub stand : (more : Words) → StandApart [] more → StandApart [] (ws ++ more)
  pub clean : AllByRecursion IsClean ws

pub word_apart : (w : List ℕ) → IsWord w → Apart (w ∷ [])
word_apart w i =
    let whole = word_whole w i.some i.all in
    record { stand = λ last more s. (word_after w last whole.1, whole.0, follow_more more s w (word_closed w whole.1)); clean = (bytes_clean w i.all, tt) }

-- a minus before a number
pub minus_apart : (w : List ℕ) → IsWord w → Apart (codes "-" ∷ w ∷ [])
minus_apart w i = record {
  stand = λ last more s. (after last, record { some = omega arith; no_blank = refl; whole = refl }, (word_apart w i).stand (codes "-") more s);
  clean = (refl, (bytes_clean w i.all, tt));
}
  where
    after : (last : List ℕ) → merges last (codes "-") ≡ false
    after [] = refl
    after (b ∷ []) = refl
    after (b ∷ b' ∷ w) = refl

pub both_apart : (a b : Words) → Apart a → Apart b → Apart (a ++ b)
both_apart a b p q = record { stand = λ last more s. subst (StandApart last) (sym (append_assoc a b more)) (p.stand last (b ++ more) (q.stand [] more s)); clean = all_append IsClean a b p.clean q.clean }

pub then_behind : (a b : Words) → Apart a → Behind b → Apart (a ++ b)
then_behind a b p q = record { stand = λ last more s. subst (StandApart last) (sym (append_assoc a b more)) (p.stand last (b ++ more) (q.stand more s)); clean = all_append IsClean a b p.clean q.clean }

pub none_behind : Behind []
none_behind = record { stand = λ more s. s; clean = tt }

-- a sign by itself
pub record IsSign (sign : List ℕ) : Type 0 where
  pub whole : IsWhole sign
  pub clean : IsClean sign

none_before : (w : List ℕ) → merges [] w ≡ false
none_before w = refl

pub sign_behind : (sign : List ℕ) (ws : Words) → IsSign sign → Apart ws → Behind (sign ∷ ws)
sign_behind sign ws i p = record { stand = λ more s. (none_before sign, i.whole, p.stand sign more s); clean = (i.clean, p.clean) }

pub each_apart : (sign : List ℕ) (parts : List Words) → IsSign sign → AllByRecursion Apart parts → Behind (each_behind sign parts)
each_apart sign [] i all = none_behind
each_apart sign (part ∷ parts) i all = sign_behind sign (part ++ each_behind sign parts) i (then_behind part (each_behind sign parts) all.0 (each_apart sign parts i all.1))

pub separated_apart : (sign : List ℕ) (parts : List Words) → IsSign sign → 1 ≤ length parts → AllByRecursion Apart parts → Apart (separated sign parts)
separated_apart sign [] i some all = absurd (omega (arith, some))
separated_apart sign (part ∷ parts) i some all = then_behind part (each_behind sign parts) all.0 (each_apart sign parts i all.1)

pub comma : IsSign (codes ",")
comma = record { whole = record { some = omega arith; no_blank = refl; whole = refl }; clean = refl }

pub colon : IsSign (codes ":")
colon = record { whole = record { some = omega arith; no_blank = refl; whole = refl }; clean = refl }

pub equals : IsSign (codes "=")
equals = record { whole = record { some = omega arith; no_blank = refl; whole = refl }; clean = refl }
