-- A sum of numbers of 64 bits, step by step.
use Rattle.std.proofs.Common.{◌≡◌, ℕ, ◌+◌, ◌<◌, ◌+ℤ◌, ℤ, pos, List, map, drop, length, get_or, sym, ap, ◌∙◌}
use Rattle.std.specs.Prelude.{fold}
use Rattle.std.proofs.lemmas.List.{at_drop_more}
use Rattle.script_tree.specs.declared.value.Value.{Value}
use Rattle.script_tree.specs.declared.value.Value.TheVariants.{Int}
use Rattle.deck_maker.specs.Summary.{added}

pub one_more : (xs : List Value) (k : ℕ) (s t x total : ℤ) → k < length xs → fold ◌+ℤ◌ s (map added (drop k xs)) ≡ total
    → x ≡ added (get_or xs k (Int (pos 0))) → t ≡ s +ℤ x → fold ◌+ℤ◌ t (map added (drop (k + 1) xs)) ≡ total
one_more xs k s t x total low whole is_added sum =
    ap (λ u. fold ◌+ℤ◌ u (map added (drop (k + 1) xs))) (sum ∙ ap (λ y. s +ℤ y) is_added)
    ∙ sym (at_drop_more (λ ys. fold ◌+ℤ◌ s (map added ys)) xs k (Int (pos 0)) low)
    ∙ whole
