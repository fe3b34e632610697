-- The canonical text of a script.
use Rattle.std.specs.Prelude.{ℕ, ◌+◌, List, [], ◌++◌, map, codes, decimal, slice_get, unwrap_or}
use Rattle.std.specs.Fmt.{signed_decimal}
use Rattle.script_tree.specs.declared.expr.Binary.{Binary}
use Rattle.script_tree.specs.declared.expr.Binary.TheVariants.{OrElse, Or, And, Equal, Unequal, Less, AtMost, Greater}
use Rattle.script_tree.specs.declared.expr.Binary.TheVariants.{AtLeast, Add, Subtract, Multiply, Divide, Remainder}
use Rattle.script_tree.specs.Scripts.{Scripted}
use Rattle.script_grammar.specs.declared.token.Word.{Word}
use Rattle.script_grammar.specs.declared.token.Word.TheVariants.{Digits, Yes, No, Called, Pick, Acc}
use Rattle.script_grammar.specs.declared.token.Token.{Token}
use Rattle.script_grammar.specs.declared.token.Token.TheVariants.{Plain, Sign, Minus, Bang, Opens, Closes}
use Rattle.script_grammar.specs.declared.token.Token.TheVariants.{IfWord, ThenWord, ElseWord, Stray}
use Rattle.script_grammar.specs.Grammar.{tokens}
use Rattle.script_grammar.specs.Canonical.{canonical}
use Rattle.expr_script.specs.Joined.{joined}

-- how an operator is written
abbrev pub sign_text : Binary → List ℕ
sign_text OrElse = codes "??"
sign_text Or = codes "||"
sign_text And = codes "&&"
sign_text Equal = codes "=="
sign_text Unequal = codes "!="
sign_text Less = codes "<"
sign_text AtMost = codes "<="
sign_text Greater = codes ">"
sign_text AtLeast = codes ">="
sign_text Add = codes "+"
sign_text Subtract = codes "-"
sign_text Multiply = codes "*"
sign_text Divide = codes "/"
sign_text Remainder = codes "%"

-- how a word is written that is a script by itself; picks count from 1
abbrev pub word_text : List (List ℕ) → Word → List ℕ
word_text names (Digits z) = signed_decimal z
word_text names Yes = codes "true"
word_text names No = codes "false"
word_text names (Called i) = unwrap_or (slice_get names i) []
word_text names (Pick i) = codes "pick" ++ decimal (i + 1)
word_text names Acc = codes "acc"

-- how a token is written in a script with these names
abbrev pub token_text : List (List ℕ) → Token → List ℕ
token_text names (Plain word) = word_text names word
token_text names (Sign op) = sign_text op
token_text names Minus = codes "-"
token_text names Bang = codes "!"
token_text names Opens = codes "("
token_text names Closes = codes ")"
token_text names IfWord = codes "if"
token_text names ThenWord = codes "then"
token_text names ElseWord = codes "else"
token_text names Stray = []

-- the words and signs of the canonical text
abbrev pub printed_words : Scripted → List (List ℕ)
printed_words script = map (token_text script.names) (tokens (canonical script.tree))

-- the canonical text
abbrev pub printed : Scripted → List ℕ
printed script = joined (printed_words script)
