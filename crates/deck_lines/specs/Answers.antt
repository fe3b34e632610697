-- What a part of a line is read as.
use Rattle.std.specs.Prelude.{◌≡◌, Option, Some, None, Result, Ok, Err}
use Rattle.deck_lines.specs.declared.fault.LineFault.{LineFault}
use Rattle.deck_lines.specs.declared.fault.LineFault.TheVariants.{Syntax, TooMany, Memory}

-- what words are, or `Syntax` where they are nothing
abbrev pub Reads : {A : Type 0} → Option A → Result A LineFault → Type 0
Reads found (Ok x) = found ≡ Some x
Reads found (Err Syntax) = found ≡ None
Reads found (Err (TooMany limit)) = ⊥
Reads found (Err Memory) = Unit {0}
