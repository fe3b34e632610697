-- Few short words are a short text.
use Rattle.std.proofs.Common.{◌≡◌, ℕ, zero, suc, ◌*◌, ◌^◌, ◌<◌, ◌≤◌, Bool, true, false, List, [], ◌∷◌, length, map, arith}
use Rattle.std.specs.Prelude.{not, ◌&&◌, nat_lt, nat_le, pos, negsuc, decimal, slice_get, unwrap_or}
use Rattle.std.specs.List.{AllByRecursion, list_all}
use Rattle.std.proofs.lemmas.Bool.Decides.{Decides-ltb, nat_tests}
use Rattle.std.proofs.lemmas.Fmt.{length-decimal-le}
use Rattle.std.proofs.lemmas.Bool.{and_parts}
use Rattle.script_tree.specs.declared.limits.TheConstants.{NAME_BYTES}
use Rattle.script_tree.specs.declared.expr.Binary.{Binary}
use Rattle.script_tree.specs.declared.expr.Binary.TheVariants.{OrElse, Or, And, Equal, Unequal, Less, AtMost, Greater, AtLeast, Add, Subtract, Multiply, Divide, Remainder}
use Rattle.script_tree.specs.Names.{is_word, is_reserved, starts_well}
use Rattle.script_grammar.specs.declared.token.Word.TheVariants.{Digits, Yes, No, Called, Pick, Acc}
use Rattle.script_grammar.specs.declared.token.Token.{Token}
use Rattle.script_grammar.specs.declared.token.Token.TheVariants.{Plain, Sign, Minus, Bang, Opens, Closes, IfWord, ThenWord, ElseWord, Stray}
use Rattle.expr_script.specs.Joined.{behind}
use Rattle.expr_script.specs.Printed.{sign_text, token_text}
use Rattle.expr_script.proofs.CutBack.{length_behind, between_short}
use Rattle.deck_lines.specs.Forms.{IsName}

-- a word of no more bytes than a name may have
abbrev pub Short : List ℕ → Type 0
Short word = length word ≤ NAME_BYTES

pub name_short : (name : List ℕ) → IsName name → Short name
name_short name h =
    let some = and_parts (starts_well name) (list_all is_word name && (nat_le (length name) NAME_BYTES && not (is_reserved name))) h in
    let all = and_parts (list_all is_word name) (nat_le (length name) NAME_BYTES && not (is_reserved name)) some.1 in
    let few = (and_parts (nat_le (length name) NAME_BYTES) (not (is_reserved name)) all.1).0 in
    grind (arith, nat_tests, few)

pub words_short : (last : List ℕ) (ws : List (List ℕ)) → AllByRecursion Short ws → length (behind last ws) ≤ 33 * length ws
words_short last [] h = omega arith
words_short last (w ∷ ws) h =
    let rest = words_short w ws h.1 in
    let first = h.0 in
    let whole = length_behind last w ws in
    let space = between_short last w in
    omega (arith, rest, first, whole, space)

-- a token that is written in a short word, whatever the names are; a number has no sign, and a pick is left out
abbrev pub is_short : Token → Bool
is_short (Plain (Digits (pos n))) = nat_lt n (2 ^ 63)
is_short (Plain (Digits (negsuc n))) = false
is_short (Plain (Pick i)) = false
is_short token = true

sign_short : (op : Binary) → Short (sign_text op)
sign_short OrElse = omega arith
sign_short Or = omega arith
sign_short And = omega arith
sign_short Equal = omega arith
sign_short Unequal = omega arith
sign_short Less = omega arith
sign_short AtMost = omega arith
sign_short Greater = omega arith
sign_short AtLeast = omega arith
sign_short Add = omega arith
sign_short Subtract = omega arith
sign_short Multiply = omega arith
sign_short Divide = omega arith
sign_short Remainder = omega arith

pub digits_short : (n : ℕ) → n < 2 ^ 63 → Short (decimal n)
digits_short n h = length-decimal-le 32 n (omega arith) (omega (arith, h)) (omega (arith, h))

called_short : (names : List (List ℕ)) (i : ℕ) → AllByRecursion Short names → Short (unwrap_or (slice_get names i) [])
called_short [] i h = omega arith
called_short (name ∷ names) zero h = h.0
called_short (name ∷ names) (suc i) h = called_short names i h.1

token_short : (names : List (List ℕ)) (t : Token) → AllByRecursion Short names → is_short t ≡ true → Short (token_text names t)
token_short names (Plain (Digits (pos n))) h e = digits_short n ((Decides-ltb n (2 ^ 63)).0 e)
token_short names (Plain (Digits (negsuc n))) h e = absurd (cc)
token_short names (Plain Yes) h e = omega arith
token_short names (Plain No) h e = omega arith
token_short names (Plain (Called i)) h e = called_short names i h
token_short names (Plain (Pick i)) h e = absurd (cc)
token_short names (Plain Acc) h e = omega arith
token_short names (Sign op) h e = sign_short op
token_short names Minus h e = omega arith
token_short names Bang h e = omega arith
token_short names Opens h e = omega arith
token_short names Closes h e = omega arith
token_short names IfWord h e = omega arith
token_short names ThenWord h e = omega arith
token_short names ElseWord h e = omega arith
token_short names Stray h e = omega arith

pub tokens_short : (names : List (List ℕ)) (ts : List Token) → AllByRecursion Short names → list_all is_short ts ≡ true → AllByRecursion Short (map (token_text names) ts)
tokens_short names [] h e = tt
tokens_short names (t ∷ ts) h e =
    let parts = and_parts (is_short t) (list_all is_short ts) e in
    (token_short names t h parts.0, tokens_short names ts h parts.1)
