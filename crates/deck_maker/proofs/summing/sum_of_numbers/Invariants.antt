use Rattle.std.proofs.Common.{◌≡◌, ◌*◌, ◌^◌, ◌+ℤ◌, ◌≤ℤ◌, pos, neg_ℤ, map, drop}
use Rattle.std.specs.Prelude.{fold}
use Rattle.deck_maker.specs.Summary.{added, sum_of_numbers}
use Rattle.deck_maker.proofs.summing.sum_of_numbers.Given as goal

-- what is still to be added makes the whole sum, and so many numbers of 64 bits are no more than so many times 2^63
abbrev pub invariant-loop-value : goal.invariant-loop-value
invariant-loop-value l =
    (fold ◌+ℤ◌ l.sum (map added (drop l.value-index l.finals)) ≡ sum_of_numbers l.finals)
    × (neg_ℤ (pos (2 ^ 63 * l.value-index)) ≤ℤ l.sum) × (l.sum ≤ℤ pos (2 ^ 63 * l.value-index))
