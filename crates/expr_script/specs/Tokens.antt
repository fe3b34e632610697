-- The names and the tokens among words. A word here is a word or a sign of a text, as bytes.
use Rattle.std.specs.Prelude.{ℕ, ◌&&◌, ◌==◌, if◌then◌else◌, Bool, List, [], ◌∷◌, ◌++◌, length, take, map, fold}
use Rattle.script_tree.specs.declared.limits.TheConstants.{INPUTS}
use Rattle.script_tree.specs.Names.{is_name, place_in}
use Rattle.script_grammar.specs.declared.token.Token.{Token}
use Rattle.expr_script.specs.declared.atoms.Atoms.{Atoms}
use Rattle.expr_script.specs.declared.atoms.Atoms.TheVariants.{Script, Body}
use Rattle.expr_script.specs.Words.{token}

-- a name that isn't there yet comes to the end
abbrev pub with_name : List (List ℕ) → List ℕ → List (List ℕ)
with_name names word = if is_name word && place_in names word == length names then names ++ word ∷ [] else names

-- the different names among words, in the order of their first appearance
abbrev pub script_names : List (List ℕ) → List (List ℕ)
script_names words = fold with_name [] words

-- the names that stand for values: a body has none
abbrev pub names : Atoms → List (List ℕ) → List (List ℕ)
names (Script acc) words = script_names words
names (Body picks) words = []

-- the names that are told apart: the first 64. Where there are more, all others are the input behind them
abbrev pub inputs : Atoms → List (List ℕ) → List (List ℕ)
inputs atoms words = take INPUTS (names atoms words)

-- the tokens of words over known names
abbrev pub tokens_among : Atoms → List (List ℕ) → List (List ℕ) → List Token
tokens_among atoms known words = map (token atoms known) words

-- the tokens of words, one for each
abbrev pub tokens : Atoms → List (List ℕ) → List Token
tokens atoms words = tokens_among atoms (inputs atoms words) words

-- the tokens of a script, in which `acc` may stand or not
abbrev pub script_tokens : Bool → List (List ℕ) → List Token
script_tokens acc words = tokens (Script acc) words

-- the tokens of a body over so many picks
abbrev pub body_tokens : ℕ → List (List ℕ) → List Token
body_tokens picks words = tokens (Body picks) words
