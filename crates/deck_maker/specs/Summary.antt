-- The summary of a run of the workload's deck.
use Rattle.std.specs.Prelude.{ℕ, ℤ, pos, ◌+ℤ◌, Bool, true, false, List, [], ◌∷◌, ◌++◌, codes, decimal, count_by, fold, map}
use Rattle.std.specs.Fmt.{signed_decimal}
use Rattle.script_tree.specs.declared.value.Value.{Value}
use Rattle.script_tree.specs.declared.value.Value.TheVariants.{Int, Bool as Truth, Fault as Faulty}

-- a final value is a fault
abbrev pub is_fault : Value → Bool
is_fault (Int x) = false
is_fault (Truth b) = false
is_fault (Faulty f) = true

-- what a final value adds to the sum: a number itself, a truth or a fault nothing
abbrev pub added : Value → ℤ
added (Int x) = x
added (Truth b) = pos 0
added (Faulty f) = pos 0

-- the sum of the numbers among final values
abbrev pub sum_of_numbers : List Value → ℤ
sum_of_numbers finals = fold ◌+ℤ◌ (pos 0) (map added finals)

-- a line: what it tells, a space, and how much
abbrev pub line : List ℕ → List ℕ → List ℕ
line label amount = label ++ (amount ++ 10 ∷ [])

-- the summary of a run, from the workload's number, how many nodes its graph has, how many calls were made, and the
-- final values
abbrev pub summary_of : ℕ → ℕ → ℕ → List Value → List ℕ
summary_of number nodes calls finals =
    line (codes "number ") (decimal number)
    ++ (line (codes "threads ") (decimal 8)
    ++ (line (codes "nodes ") (decimal nodes)
    ++ (line (codes "calls ") (decimal calls)
    ++ (line (codes "faults ") (decimal (count_by is_fault finals))
    ++ line (codes "sum ") (signed_decimal (sum_of_numbers finals))))))
