-- The token that a word or a sign is.
use Rattle.std.specs.Prelude.{ℕ, ◌+◌, ◌-◌, ◌*◌, ◌^◌, pos, Bool, ◌&&◌, nat_lt, if◌then◌else◌, List, [], ◌∷◌, length, codes}
use Rattle.std.specs.List.{list_all}
use Rattle.std.specs.Str.{bytes_eq}
use Rattle.std.specs.Char.{is_ascii_digit}
use Rattle.script_tree.specs.Names.{is_name, place_in}
use Rattle.script_tree.specs.declared.expr.Binary.TheVariants.{OrElse, Or, And, Equal, Unequal, Less, AtMost}
use Rattle.script_tree.specs.declared.expr.Binary.TheVariants.{Greater, AtLeast, Add, Multiply, Divide, Remainder}
use Rattle.script_grammar.specs.declared.token.Word.TheVariants.{Digits, Yes, No, Called, Pick, Acc}
use Rattle.script_grammar.specs.declared.token.Token.{Token}
use Rattle.script_grammar.specs.declared.token.Token.TheVariants.{Plain, Sign, Minus, Bang, Opens, Closes}
use Rattle.script_grammar.specs.declared.token.Token.TheVariants.{IfWord, ThenWord, ElseWord, Stray}
use Rattle.expr_script.specs.declared.atoms.Atoms.{Atoms}
use Rattle.expr_script.specs.declared.atoms.Atoms.TheVariants.{Script, Body}

-- one digit or more and nothing else
abbrev pub is_digits : List ℕ → Bool
is_digits word = nat_lt 0 (length word) && list_all is_ascii_digit word

-- the number that digits spell behind the digits of n
abbrev pub value : ℕ → List ℕ → ℕ
value n [] = n
value n (d ∷ ds) = value (n * 10 + (d - 48)) ds

-- a number of at most 9223372036854775807; a greater one stands in no script
abbrev pub number : List ℕ → Token
number digits = if nat_lt (value 0 digits) (2 ^ 63) then Plain (Digits (pos (value 0 digits))) else Stray

-- a name stands in scripts alone
abbrev pub name_token : Atoms → List (List ℕ) → List ℕ → Token
name_token (Script acc) inputs name = Plain (Called (place_in inputs name))
name_token (Body picks) inputs name = Stray

-- the token that stands beside a word in a table, or another one where the word isn't there
abbrev pub look_up : List (List ℕ × Token) → List ℕ → Token → Token
look_up [] word other = other
look_up (row ∷ table) word other = if bytes_eq word row.0 then row.1 else look_up table word other

-- the signs of one byte
abbrev pub short_signs : List (List ℕ × Token)
short_signs =
    (codes "<", Sign Less) ∷ (codes ">", Sign Greater)
    ∷ (codes "+", Sign Add) ∷ (codes "-", Minus)
    ∷ (codes "*", Sign Multiply) ∷ (codes "/", Sign Divide) ∷ (codes "%", Sign Remainder)
    ∷ (codes "!", Bang) ∷ (codes "(", Opens) ∷ (codes ")", Closes) ∷ []

-- the signs of two bytes
abbrev pub long_signs : List (List ℕ × Token)
long_signs =
    (codes "??", Sign OrElse) ∷ (codes "||", Sign Or) ∷ (codes "&&", Sign And)
    ∷ (codes "==", Sign Equal) ∷ (codes "!=", Sign Unequal)
    ∷ (codes "<=", Sign AtMost) ∷ (codes ">=", Sign AtLeast) ∷ []

-- the reserved words that stand in every script
abbrev pub script_words : List (List ℕ × Token)
script_words =
    (codes "true", Plain Yes) ∷ (codes "false", Plain No)
    ∷ (codes "if", IfWord) ∷ (codes "then", ThenWord) ∷ (codes "else", ElseWord) ∷ []

abbrev pub short_sign : List ℕ → Token
short_sign word = look_up short_signs word Stray

abbrev pub sign_token : List ℕ → Token
sign_token word = look_up long_signs word (short_sign word)

-- the token of a reserved word or a sign that stands in every script, and of any other one that stands in none
abbrev pub fixed_token : List ℕ → Token
fixed_token word = look_up script_words word (sign_token word)

-- the picks, so many of them
abbrev pub pick_token : ℕ → List ℕ → Token
pick_token picks word =
    if nat_lt 0 picks && bytes_eq word (codes "pick1") then Plain (Pick 0)
    else if nat_lt 1 picks && bytes_eq word (codes "pick2") then Plain (Pick 1)
    else if nat_lt 2 picks && bytes_eq word (codes "pick3") then Plain (Pick 2)
    else if nat_lt 3 picks && bytes_eq word (codes "pick4") then Plain (Pick 3)
    else fixed_token word

-- a word or a sign that is no number and no name
abbrev pub other_token : Atoms → List ℕ → Token
other_token (Script acc) word = if acc && bytes_eq word (codes "acc") then Plain Acc else fixed_token word
other_token (Body picks) word = pick_token picks word

-- the token of a word or a sign, in a script with these names
abbrev pub token : Atoms → List (List ℕ) → List ℕ → Token
token atoms inputs word =
    if is_digits word then number word
    else if is_name word then name_token atoms inputs word
    else other_token atoms word
