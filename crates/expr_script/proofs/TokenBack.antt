-- A token that is written is read as itself.
use Rattle.std.proofs.Common.{◌≡◌, ℕ, zero, suc, ◌^◌, ◌<◌, ◌≤◌, Bool, true, false, List, [], ◌∷◌, length, refl, sym, ap, ◌∙◌, subst, arith}
use Rattle.std.specs.Prelude.{◌&&◌, not, if◌then◌else◌, nat_lt, nat_le, pos, negsuc, codes, decimal, slice_get, unwrap_or, take_while}
use Rattle.std.specs.List.{list_all}
use Rattle.std.specs.Str.{bytes_eq}
use Rattle.std.specs.Char.{is_ascii_digit}
use Rattle.std.proofs.lemmas.Fmt.{decimal_nonempty}
use Rattle.std.proofs.lemmas.List.Sums.{take_while-cons}
use Rattle.std.specs.Cmp.Derive.{both_true}
use Rattle.std.proofs.Math.Bool.{and-false}
use Rattle.std.proofs.lemmas.Bool.{lt-ltb, ltb-true}
use Rattle.script_tree.specs.declared.limits.TheConstants.{NAME_BYTES}
use Rattle.script_tree.specs.declared.expr.Unary.{Unary}
use Rattle.script_tree.specs.declared.expr.Unary.TheVariants.{Negate, Not}
use Rattle.script_tree.specs.declared.expr.Binary.{Binary}
use Rattle.script_tree.specs.declared.expr.Binary.TheVariants.{OrElse, Or, And, Equal, Unequal, Less, AtMost, Greater, AtLeast, Add, Subtract, Multiply, Divide, Remainder}
use Rattle.script_tree.specs.Names.{is_name, is_word, starts_well, is_reserved, place_in}
use Rattle.script_tree.specs.Tree.{Tree, Number, Input, Pick, Acc}
use Rattle.script_tree.proofs.Truths.{and_left, and_right}
use Rattle.script_grammar.specs.declared.token.Word.{Word}
use Rattle.script_grammar.specs.declared.token.Word.TheVariants as word
use Rattle.script_grammar.specs.declared.token.Token.{Token}
use Rattle.script_grammar.specs.declared.token.Token.TheVariants.{Plain, Sign, Minus, Bang, Opens, Closes, IfWord, ThenWord, ElseWord, Stray}
use Rattle.script_grammar.specs.Grammar.{word_tree, sign, prefix_sign}
use Rattle.expr_script.specs.declared.atoms.Atoms.{Atoms}
use Rattle.expr_script.specs.declared.atoms.Atoms.TheVariants.{Script, Body}
use Rattle.expr_script.specs.Words.{is_digits, number, name_token, fixed_token, other_token, token}
use Rattle.expr_script.specs.Pieces.{piece_len, sign_len}
use Rattle.expr_script.specs.Cut.{begins_word, begins_blank}
use Rattle.expr_script.specs.Joined.{IsWhole}
use Rattle.expr_script.specs.Printed.{token_text}
use Rattle.expr_script.proofs.Lean.{digit_word, digits_begin, pick_text}
use Rattle.expr_script.proofs.Numerals.{decimal_digits, decimal_value}
use Rattle.expr_script.proofs.OneCut.{word_no_blank}
use Rattle.expr_script.proofs.WrittenWords.{OfTokens}

-- whether a token is a word
abbrev pub is_word_token : Token → Bool
is_word_token (Plain word) = true
is_word_token IfWord = true
is_word_token ThenWord = true
is_word_token ElseWord = true
is_word_token t = false

-- the name that a token calls, if it calls one
abbrev pub called : List (List ℕ) → Token → List (List ℕ)
called names (Plain (word.Called i)) = unwrap_or (slice_get names i) [] ∷ []
called names t = []

-- a word, if it is a name
abbrev pub named : List ℕ → List (List ℕ)
named w = if is_name w then w ∷ [] else []

-- a token that is written is read as itself
pub record Reads (atoms : Atoms) (names : List (List ℕ)) (t : Token) : Type 0 where
  pub back : token atoms names (token_text names t) ≡ t
  pub whole : IsWhole (token_text names t)
  pub kind : begins_word (token_text names t) ≡ is_word_token t
  pub name : named (token_text names t) ≡ called names t

no_pick : (b : Bool) (t rest : Token) (c : Bool) → c ≡ false → (if b && c then t else rest) ≡ rest
no_pick b t rest c e = ap (λ d. if b && d then t else rest) e ∙ ap (λ d. if d then t else rest) (and-false b)

-- a word that is none of those of one kind alone
record IsFixed (w : List ℕ) : Type 0 where
  digits : is_digits w ≡ false
  names : is_name w ≡ false
  acc : bytes_eq w (codes "acc") ≡ false
  pick1 : bytes_eq w (codes "pick1") ≡ false
  pick2 : bytes_eq w (codes "pick2") ≡ false
  pick3 : bytes_eq w (codes "pick3") ≡ false
  pick4 : bytes_eq w (codes "pick4") ≡ false

other_fixed : (atoms : Atoms) (w : List ℕ) → IsFixed w → other_token atoms w ≡ fixed_token w
other_fixed (Script acc) w f = no_pick acc (Plain word.Acc) (fixed_token w) (bytes_eq w (codes "acc")) f.acc
other_fixed (Body k) w f =
    no_pick (nat_lt 0 k) (Plain (word.Pick 0)) _ (bytes_eq w (codes "pick1")) f.pick1
    ∙ no_pick (nat_lt 1 k) (Plain (word.Pick 1)) _ (bytes_eq w (codes "pick2")) f.pick2
    ∙ no_pick (nat_lt 2 k) (Plain (word.Pick 2)) _ (bytes_eq w (codes "pick3")) f.pick3
    ∙ no_pick (nat_lt 3 k) (Plain (word.Pick 3)) (fixed_token w) (bytes_eq w (codes "pick4")) f.pick4

other_back : (atoms : Atoms) (names : List (List ℕ)) (w : List ℕ) → is_digits w ≡ false → is_name w ≡ false → token atoms names w ≡ other_token atoms w
other_back atoms names w d n =
    ap (λ b. if b then number w else if is_name w then name_token atoms names w else other_token atoms w) d
    ∙ ap (λ b. if b then name_token atoms names w else other_token atoms w) n

fixed_back : (atoms : Atoms) (names : List (List ℕ)) (w : List ℕ) → IsFixed w → token atoms names w ≡ fixed_token w
fixed_back atoms names w f = other_back atoms names w f.digits f.names ∙ other_fixed atoms w f

fixed : (atoms : Atoms) (names : List (List ℕ)) (t : Token) (w : List ℕ) → token_text names t ≡ w → called names t ≡ [] → IsFixed w → fixed_token w ≡ t → IsWhole w → begins_word w ≡ is_word_token t → Reads atoms names t
fixed atoms names t w e c f b i k = record {
  back = ap (token atoms names) e ∙ fixed_back atoms names w f ∙ b;
  whole = subst IsWhole (sym e) i;
  kind = ap begins_word e ∙ k;
  name = ap named e ∙ ap (λ b. if b then w ∷ [] else []) f.names ∙ sym c;
}

closed : (w : List ℕ) → is_digits w ≡ false → is_name w ≡ false → bytes_eq w (codes "acc") ≡ false → bytes_eq w (codes "pick1") ≡ false → bytes_eq w (codes "pick2") ≡ false → bytes_eq w (codes "pick3") ≡ false → bytes_eq w (codes "pick4") ≡ false → IsFixed w
closed w a b c d e f g = record { digits = a; names = b; acc = c; pick1 = d; pick2 = e; pick3 = f; pick4 = g }

whole : (w : List ℕ) → 0 < length w → begins_blank w ≡ false → piece_len w ≡ length w → IsWhole w
whole w s b p = record { some = s; no_blank = b; whole = p }

pub reads_sign : (atoms : Atoms) (names : List (List ℕ)) (op : Binary) → Reads atoms names (sign op)
reads_sign atoms names OrElse = fixed atoms names (Sign OrElse) (codes "??") refl refl (closed (codes "??") refl refl refl refl refl refl refl) refl (whole (codes "??") (omega arith) refl refl) refl
reads_sign atoms names Or = fixed atoms names (Sign Or) (codes "||") refl refl (closed (codes "||") refl refl refl refl refl refl refl) refl (whole (codes "||") (omega arith) refl refl) refl
reads_sign atoms names And = fixed atoms names (Sign And) (codes "&&") refl refl (closed (codes "&&") refl refl refl refl refl refl refl) refl (whole (codes "&&") (omega arith) refl refl) refl
reads_sign atoms names Equal = fixed atoms names (Sign Equal) (codes "==") refl refl (closed (codes "==") refl refl refl refl refl refl refl) refl (whole (codes "==") (omega arith) refl refl) refl
reads_sign atoms names Unequal = fixed atoms names (Sign Unequal) (codes "!=") refl refl (closed (codes "!=") refl refl refl refl refl refl refl) refl (whole (codes "!=") (omega arith) refl refl) refl
reads_sign atoms names Less = fixed atoms names (Sign Less) (codes "<") refl refl (closed (codes "<") refl refl refl refl refl refl refl) refl (whole (codes "<") (omega arith) refl refl) refl
reads_sign atoms names AtMost = fixed atoms names (Sign AtMost) (codes "<=") refl refl (closed (codes "<=") refl refl refl refl refl refl refl) refl (whole (codes "<=") (omega arith) refl refl) refl
reads_sign atoms names Greater = fixed atoms names (Sign Greater) (codes ">") refl refl (closed (codes ">") refl refl refl refl refl refl refl) refl (whole (codes ">") (omega arith) refl refl) refl
reads_sign atoms names AtLeast = fixed atoms names (Sign AtLeast) (codes ">=") refl refl (closed (codes ">=") refl refl refl refl refl refl refl) refl (whole (codes ">=") (omega arith) refl refl) refl
reads_sign atoms names Add = fixed atoms names (Sign Add) (codes "+") refl refl (closed (codes "+") refl refl refl refl refl refl refl) refl (whole (codes "+") (omega arith) refl refl) refl
reads_sign atoms names Subtract = fixed atoms names Minus (codes "-") refl refl (closed (codes "-") refl refl refl refl refl refl refl) refl (whole (codes "-") (omega arith) refl refl) refl
reads_sign atoms names Multiply = fixed atoms names (Sign Multiply) (codes "*") refl refl (closed (codes "*") refl refl refl refl refl refl refl) refl (whole (codes "*") (omega arith) refl refl) refl
reads_sign atoms names Divide = fixed atoms names (Sign Divide) (codes "/") refl refl (closed (codes "/") refl refl refl refl refl refl refl) refl (whole (codes "/") (omega arith) refl refl) refl
reads_sign atoms names Remainder = fixed atoms names (Sign Remainder) (codes "%") refl refl (closed (codes "%") refl refl refl refl refl refl refl) refl (whole (codes "%") (omega arith) refl refl) refl

reads_mark : (atoms : Atoms) (names : List (List ℕ)) (op : Unary) → Reads atoms names (prefix_sign op)
reads_mark atoms names Negate = fixed atoms names Minus (codes "-") refl refl (closed (codes "-") refl refl refl refl refl refl refl) refl (whole (codes "-") (omega arith) refl refl) refl
reads_mark atoms names Not = fixed atoms names Bang (codes "!") refl refl (closed (codes "!") refl refl refl refl refl refl refl) refl (whole (codes "!") (omega arith) refl refl) refl

pub reads_tokens : (atoms : Atoms) (names : List (List ℕ)) → OfTokens (Reads atoms names)
reads_tokens atoms names = record {
  signs = reads_sign atoms names;
  marks = reads_mark atoms names;
  opens = fixed atoms names Opens (codes "(") refl refl (closed (codes "(") refl refl refl refl refl refl refl) refl (whole (codes "(") (omega arith) refl refl) refl;
  closes = fixed atoms names Closes (codes ")") refl refl (closed (codes ")") refl refl refl refl refl refl refl) refl (whole (codes ")") (omega arith) refl refl) refl;
  if_word = fixed atoms names IfWord (codes "if") refl refl (closed (codes "if") refl refl refl refl refl refl refl) refl (whole (codes "if") (omega arith) refl refl) refl;
  then_word = fixed atoms names ThenWord (codes "then") refl refl (closed (codes "then") refl refl refl refl refl refl refl) refl (whole (codes "then") (omega arith) refl refl) refl;
  else_word = fixed atoms names ElseWord (codes "else") refl refl (closed (codes "else") refl refl refl refl refl refl refl) refl (whole (codes "else") (omega arith) refl refl) refl;
}

all_run : (w : List ℕ) → list_all is_word w ≡ true → length (take_while is_word w) ≡ length w
all_run [] h = refl
all_run (b ∷ bs) h =
    ap length (take_while-cons is_word b bs)
    ∙ ap (λ t. length (if t then b ∷ take_while is_word bs else [])) (and_left (is_word b) (list_all is_word bs) h)
    ∙ ap suc (all_run bs (and_right (is_word b) (list_all is_word bs) h))

pub word_whole : (w : List ℕ) → 0 < length w → list_all is_word w ≡ true → IsWhole w × (begins_word w ≡ true)
word_whole [] s h = absurd (omega (arith, s))
word_whole (b ∷ bs) s h =
    let w = and_left (is_word b) (list_all is_word bs) h in
    (whole (b ∷ bs) s (word_no_blank (b ∷ bs) w) (ap (λ t. if t then length (take_while is_word (b ∷ bs)) else sign_len b bs) w ∙ all_run (b ∷ bs) h), w)

pub digits_words : (ds : List ℕ) → list_all is_ascii_digit ds ≡ true → list_all is_word ds ≡ true
digits_words [] h = refl
digits_words (c ∷ cs) h = both_true (digit_word c (and_left (is_ascii_digit c) (list_all is_ascii_digit cs) h)) (digits_words cs (and_right (is_ascii_digit c) (list_all is_ascii_digit cs) h))

-- what digits alone have: one at least, and all are digits
pub all_digits : (ds : List ℕ) → is_digits ds ≡ true → list_all is_ascii_digit ds ≡ true
all_digits ds h = and_right (nat_lt 0 (length ds)) (list_all is_ascii_digit ds) h

pub are_digits : (ds : List ℕ) → 0 < length ds → list_all is_ascii_digit ds ≡ true → is_digits ds ≡ true
are_digits ds s h = both_true (lt-ltb 0 (length ds) s) h

pub digits_no_name : (ds : List ℕ) → is_digits ds ≡ true → is_name ds ≡ false
digits_no_name [] h = refl
digits_no_name (c ∷ cs) h = ap (λ b. not b && (list_all is_word (c ∷ cs) && (nat_le (length (c ∷ cs)) NAME_BYTES && not (is_reserved (c ∷ cs))))) (and_left (is_ascii_digit c) (list_all is_ascii_digit cs) (all_digits (c ∷ cs) h))

name_no_digits : (w : List ℕ) → is_name w ≡ true → is_digits w ≡ false
name_no_digits w h = by_test (is_digits w) refl
  where
    by_test : (b : Bool) → is_digits w ≡ b → b ≡ false
    by_test true e = let f : false ≡ true = sym (digits_no_name w e) ∙ h in cc
    by_test false e = refl

name_some : (w : List ℕ) → is_name w ≡ true → 0 < length w
name_some [] h = let e : false ≡ true = h in cc
name_some (b ∷ bs) h = omega arith

name_words : (w : List ℕ) → is_name w ≡ true → list_all is_word w ≡ true
name_words w h =
    and_left (list_all is_word w) (nat_le (length w) NAME_BYTES && not (is_reserved w))
    (and_right (starts_well w) (list_all is_word w && (nat_le (length w) NAME_BYTES && not (is_reserved w))) h)

-- the names of a script: each is a name, and no two are the same
pub record KnownNames (names : List (List ℕ)) : Type 0 where
  pub named : list_all is_name names ≡ true
  pub distinct : (i : ℕ) → i < length names → place_in names (unwrap_or (slice_get names i) []) ≡ i

pub name_is : (names : List (List ℕ)) (i : ℕ) → i < length names → list_all is_name names ≡ true → is_name (unwrap_or (slice_get names i) []) ≡ true
name_is [] i h n = absurd (omega (arith, h))
name_is (w ∷ names) zero h n = and_left (is_name w) (list_all is_name names) n
name_is (w ∷ names) (suc i) h n = name_is names i (omega (arith, h)) (and_right (is_name w) (list_all is_name names) n)

-- a name of a script begins as a word, and so does a number
pub name_begins : (names : List (List ℕ)) (i : ℕ) → nat_lt i (length names) ≡ true → list_all is_name names ≡ true → begins_word (unwrap_or (slice_get names i) []) ≡ true
name_begins names i h k =
    let w = unwrap_or (slice_get names i) [] in
    let n : is_name w ≡ true = name_is names i (ltb-true i (length names) h) k in
    (word_whole w (name_some w n) (name_words w n)).1

pub digits_first : (n : ℕ) → nat_lt n (2 ^ 63) ≡ true → begins_word (decimal n) ≡ true
digits_first n h = let small : n < 2 ^ 63 = ltb-true n (2 ^ 63) h in digits_begin (decimal n) (decimal_digits n (omega (arith, small))) (decimal_nonempty n (omega (arith, small)))

reads_called : (acc : Bool) (names : List (List ℕ)) (i : ℕ) → KnownNames names → i < length names → Reads (Script acc) names (Plain (word.Called i))
reads_called acc names i k h =
    let w = unwrap_or (slice_get names i) [] in
    let n : is_name w ≡ true = name_is names i h k.named in
    let all = word_whole w (name_some w n) (name_words w n) in
    record {
      back =
          ap (λ b. if b then number w else if is_name w then name_token (Script acc) names w else other_token (Script acc) w) (name_no_digits w n)
          ∙ ap (λ b. if b then name_token (Script acc) names w else other_token (Script acc) w) n
          ∙ ap (λ j. Plain (word.Called j)) (k.distinct i h);
      whole = all.0;
      kind = all.1;
      name = ap (λ b. if b then w ∷ [] else []) n;
    }

reads_digits : (atoms : Atoms) (names : List (List ℕ)) (n : ℕ) → nat_lt n (2 ^ 63) ≡ true → Reads atoms names (Plain (word.Digits (pos n)))
reads_digits atoms names n h =
    let small : n < 2 ^ 63 = ltb-true n (2 ^ 63) h in
    let w = decimal n in
    let some : 0 < length w = decimal_nonempty n (omega (arith, small)) in
    let d : is_digits w ≡ true = are_digits w some (decimal_digits n (omega (arith, small))) in
    let all = word_whole w some (digits_words w (all_digits w d)) in
    record {
      back =
          ap (λ b. if b then number w else if is_name w then name_token atoms names w else other_token atoms w) d
          ∙ ap (λ m. if nat_lt m (2 ^ 63) then Plain (word.Digits (pos m)) else Stray) (decimal_value n (omega (arith, small)))
          ∙ ap (λ b. if b then Plain (word.Digits (pos n)) else Stray) h;
      whole = all.0;
      kind = all.1;
      name = ap (λ b. if b then w ∷ [] else []) (digits_no_name w d);
    }

written_as : (atoms : Atoms) (names : List (List ℕ)) (t : Token) (w : List ℕ) → token_text names t ≡ w → token atoms names w ≡ t → IsWhole w → begins_word w ≡ is_word_token t → named w ≡ called names t → Reads atoms names t
written_as atoms names t w e b i k n = record { back = ap (token atoms names) e ∙ b; whole = subst IsWhole (sym e) i; kind = ap begins_word e ∙ k; name = ap named e ∙ n }

pick_here : (b : Bool) (t rest : Token) → b ≡ true → (if b && true then t else rest) ≡ t
pick_here b t rest e = ap (λ c. if c && true then t else rest) e

reads_pick : (k : ℕ) (names : List (List ℕ)) (i : ℕ) → k ≤ 4 → nat_lt i k ≡ true → Reads (Body k) names (Plain (word.Pick i))
reads_pick k names zero f h =
    written_as (Body k) names (Plain (word.Pick 0)) (codes "pick1") (pick_text names 0 (49 ∷ []) (omega arith) refl)
    (other_back (Body k) names (codes "pick1") refl refl ∙ pick_here (nat_lt 0 k) (Plain (word.Pick 0)) _ h)
    (whole (codes "pick1") (omega arith) refl refl) refl refl
reads_pick k names (suc zero) f h =
    written_as (Body k) names (Plain (word.Pick 1)) (codes "pick2") (pick_text names 1 (50 ∷ []) (omega arith) refl)
    (other_back (Body k) names (codes "pick2") refl refl
    ∙ no_pick (nat_lt 0 k) (Plain (word.Pick 0)) _ (bytes_eq (codes "pick2") (codes "pick1")) refl
    ∙ pick_here (nat_lt 1 k) (Plain (word.Pick 1)) _ h)
    (whole (codes "pick2") (omega arith) refl refl) refl refl
reads_pick k names (suc (suc zero)) f h =
    written_as (Body k) names (Plain (word.Pick 2)) (codes "pick3") (pick_text names 2 (51 ∷ []) (omega arith) refl)
    (other_back (Body k) names (codes "pick3") refl refl
    ∙ no_pick (nat_lt 0 k) (Plain (word.Pick 0)) _ (bytes_eq (codes "pick3") (codes "pick1")) refl
    ∙ no_pick (nat_lt 1 k) (Plain (word.Pick 1)) _ (bytes_eq (codes "pick3") (codes "pick2")) refl
    ∙ pick_here (nat_lt 2 k) (Plain (word.Pick 2)) _ h)
    (whole (codes "pick3") (omega arith) refl refl) refl refl
reads_pick k names (suc (suc (suc zero))) f h =
    written_as (Body k) names (Plain (word.Pick 3)) (codes "pick4") (pick_text names 3 (52 ∷ []) (omega arith) refl)
    (other_back (Body k) names (codes "pick4") refl refl
    ∙ no_pick (nat_lt 0 k) (Plain (word.Pick 0)) _ (bytes_eq (codes "pick4") (codes "pick1")) refl
    ∙ no_pick (nat_lt 1 k) (Plain (word.Pick 1)) _ (bytes_eq (codes "pick4") (codes "pick2")) refl
    ∙ no_pick (nat_lt 2 k) (Plain (word.Pick 2)) _ (bytes_eq (codes "pick4") (codes "pick3")) refl
    ∙ pick_here (nat_lt 3 k) (Plain (word.Pick 3)) _ h)
    (whole (codes "pick4") (omega arith) refl refl) refl refl
reads_pick k names (suc (suc (suc (suc i)))) f h = absurd (omega (arith, f, ltb-true (suc (suc (suc (suc i)))) k h))

reads_acc : (names : List (List ℕ)) → Reads (Script true) names (Plain word.Acc)
reads_acc names = written_as (Script true) names (Plain word.Acc) (codes "acc") refl refl (whole (codes "acc") (omega arith) refl refl) refl refl

reads_yes : (atoms : Atoms) (names : List (List ℕ)) → Reads atoms names (Plain word.Yes)
reads_yes atoms names = fixed atoms names (Plain word.Yes) (codes "true") refl refl (closed (codes "true") refl refl refl refl refl refl refl) refl (whole (codes "true") (omega arith) refl refl) refl

reads_no : (atoms : Atoms) (names : List (List ℕ)) → Reads atoms names (Plain word.No)
reads_no atoms names = fixed atoms names (Plain word.No) (codes "false") refl refl (closed (codes "false") refl refl refl refl refl refl refl) refl (whole (codes "false") (omega arith) refl refl) refl

-- which leaves a script of a kind may have, over so many names
unfoldable pub stands : Atoms → ℕ → Tree → Bool
stands atoms n (Number (pos m)) = nat_lt m (2 ^ 63)
stands atoms n (Number (negsuc m)) = false
stands (Script acc) n (Input i) = nat_lt i n
stands (Body picks) n (Input i) = false
stands (Script acc) n (Pick i) = false
stands (Body picks) n (Pick i) = nat_lt i picks
stands (Script acc) n Acc = acc
stands (Body picks) n Acc = false
stands atoms n leaf = true

-- a body has at most four picks
abbrev pub FewPicks : Atoms → Type 0
FewPicks (Script acc) = Unit {0}
FewPicks (Body picks) = picks ≤ 4

pub reads_word : (atoms : Atoms) (names : List (List ℕ)) → KnownNames names → FewPicks atoms → (word : Word) → stands atoms (length names) (word_tree word) ≡ true → Reads atoms names (Plain word)
unfolding stands
reads_word atoms names k f (word.Digits (pos n)) h = reads_digits atoms names n h
reads_word atoms names k f (word.Digits (negsuc n)) h = let e : false ≡ true = h in cc
reads_word atoms names k f word.Yes h = reads_yes atoms names
reads_word atoms names k f word.No h = reads_no atoms names
reads_word (Script acc) names k f (word.Called i) h = reads_called acc names i k (ltb-true i (length names) h)
reads_word (Body picks) names k f (word.Called i) h = let e : false ≡ true = h in cc
reads_word (Script acc) names k f (word.Pick i) h = let e : false ≡ true = h in cc
reads_word (Body picks) names k f (word.Pick i) h = reads_pick picks names i f h
reads_word (Script true) names k f word.Acc h = reads_acc names
reads_word (Script false) names k f word.Acc h = let e : false ≡ true = h in cc
reads_word (Body picks) names k f word.Acc h = let e : false ≡ true = h in cc
