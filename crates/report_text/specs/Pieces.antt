-- The pieces of a line.
use Rattle.std.specs.Prelude.{◌≡◌, ℕ, Bool, false, not, ◌&&◌, ◌==◌, List, [], ◌∷◌, FitsSigned}
use Rattle.std.specs.Int.{w64}
use Rattle.script_tree.specs.declared.value.Value.{Value}
use Rattle.script_tree.specs.declared.value.Value.TheVariants.{Int, Bool as Truth, Fault as Faulty}

-- a byte within a piece: no space, comma, `=` or line feed
abbrev pub is_inner : ℕ → Bool
is_inner b = not (b == 32) && (not (b == 44) && (not (b == 61) && not (b == 10)))

-- a text that a piece ends before
abbrev pub Ends : List ℕ → Type 0
Ends [] = Unit {0}
Ends (b ∷ bs) = is_inner b ≡ false

-- a value whose number is one of 64 bits
abbrev pub IsValue : Value → Type 0
IsValue (Int x) = FitsSigned w64 x
IsValue (Truth b) = Unit {0}
IsValue (Faulty f) = Unit {0}

abbrev pub IsPlain : Value → Type 0
IsPlain (Int x) = Unit {0}
IsPlain (Truth b) = Unit {0}
IsPlain (Faulty f) = ⊥

-- a label that begins with a space
abbrev pub IsBlankFirst : List ℕ → Type 0
IsBlankFirst [] = ⊥
IsBlankFirst (b ∷ bs) = b ≡ 32
