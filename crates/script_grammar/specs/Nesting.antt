-- The nesting of a token as the reader sees it: what is on its stack.
use Rattle.std.specs.Prelude.{ℕ, ◌+◌, List, [], ◌∷◌, Option, Some, None}
use Rattle.script_grammar.specs.declared.token.Token.{Token}
use Rattle.script_grammar.specs.declared.token.Token.TheVariants.{Closes, ThenWord, ElseWord}
use Rattle.script_grammar.specs.Reading.{InRight, Stack, State, Wants, Has, close, step}

-- how much of what is begun nests what stands inside it: all but operators between two sides
abbrev pub count : Stack → ℕ
count [] = 0
count (InRight x op ∷ s) = count s
count (pending ∷ s) = count s + 1

-- the same of a state
abbrev pub count_of : State → ℕ
count_of (Wants s) = count s
count_of (Has s x) = count s

-- a closing token stands behind the choices and prefix operators that end before it
abbrev pub nesting : State → Token → ℕ
nesting (Has s x) Closes = count_of (close s x)
nesting (Has s x) ThenWord = count_of (close s x)
nesting (Has s x) ElseWord = count_of (close s x)
nesting st t = count_of st

-- the nesting of each token, as far as a script begins so
abbrev pub nests : Option State → List Token → List ℕ
nests None ts = []
nests (Some st) [] = []
nests (Some st) (t ∷ ts) = nesting st t ∷ nests (step st t) ts
