-- What the words of a text have in common.
use Rattle.std.specs.Prelude.{Bool, true, ◌&&◌, List, [], ◌∷◌}
use Rattle.script_grammar.specs.declared.token.Word.{Word}
use Rattle.script_grammar.specs.declared.token.Token.{Token}
use Rattle.script_grammar.specs.declared.token.Token.TheVariants.{Plain as W}

-- a test of every word of a text that is a script by itself
abbrev pub all_words : (Word → Bool) → List Token → Bool
all_words test [] = true
all_words test (W word ∷ text) = test word && all_words test text
all_words test (token ∷ text) = all_words test text
