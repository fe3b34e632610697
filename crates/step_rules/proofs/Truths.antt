-- Conditions that are joined by "and".
use Rattle.std.proofs.Common.{◌≡◌, Bool, true, false, ◌&&◌, ◌||◌, sym, true≢false}

-- where the first holds the second decides
pub second_decides : (a b r : Bool) → a ≡ true → r ≡ b → r ≡ (a && b)
second_decides true b r h e = e
second_decides false b r h e = absurd (true≢false (sym h))

-- where the first holds and the second does not, the third decides
pub other_decides : (a b c r : Bool) → a ≡ true → b ≡ false → r ≡ c → r ≡ (a && (b || c))
other_decides true true c r h k e = absurd (true≢false k)
other_decides true false c r h k e = e
other_decides false b c r h k e = absurd (true≢false (sym h))
