-- One more line of several.
use Rattle.std.proofs.Common.{◌≡◌, ℕ, ◌+◌, ◌<◌, List, ◌++◌, length, drop, get_or, sym, ap, ◌∙◌, append_assoc}
use Rattle.std.specs.List.{AllByRecursion, flat_map}
use Rattle.std.proofs.lemmas.List.{drop_more}

-- what is left, once one more piece is printed
pub one_more : {A : Type 0} (f : A → List ℕ) (xs : List A) (i : ℕ) (d : A) (before after whole : List ℕ) → i < length xs → after ≡ before ++ f (get_or xs i d) → before ++ flat_map f (drop i xs) ≡ whole → after ++ flat_map f (drop (i + 1) xs) ≡ whole
one_more f xs i d before after whole within printed left =
    ap (λ v. v ++ flat_map f (drop (i + 1) xs)) printed
    ∙ append_assoc before (f (get_or xs i d)) (flat_map f (drop (i + 1) xs))
    ∙ ap (λ l. before ++ flat_map f l) (sym (drop_more xs i d within))
    ∙ left

-- what holds of an item and of those behind it holds from that item on
pub all_from : {A : Type 0} (P : A → Type 0) (xs : List A) (i : ℕ) (d : A) → i < length xs → P (get_or xs i d) → AllByRecursion P (drop (i + 1) xs) → AllByRecursion P (drop i xs)
all_from P xs i d within here behind = rw (drop_more xs i d within) (here, behind)
