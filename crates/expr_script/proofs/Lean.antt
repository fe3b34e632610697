-- The token of a word is written in no more bytes than the word.
use Rattle.std.proofs.Common.{◌≡◌, ℕ, suc, ◌+◌, ◌^◌, ◌<◌, ◌≤◌, Bool, true, false, List, [], ◌∷◌, ◌++◌, length, map, refl, sym, ap, ◌∙◌, arith}
use Rattle.std.specs.Prelude.{◌&&◌, if◌then◌else◌, nat_lt, pos, codes, decimal, slice_get, unwrap_or}
use Rattle.std.specs.List.{list_all, AllByRecursion}
use Rattle.std.specs.Str.{bytes_eq}
use Rattle.std.specs.Char.{is_ascii_digit}
use Rattle.std.proofs.lemmas.Fmt.{decimal_digit, decimal_nonempty}
use Rattle.std.proofs.lemmas.Bool.{ltb-true, or_left}
use Rattle.script_tree.specs.Names.{is_name, is_word, place_in}
use Rattle.script_tree.proofs.Truths.{and_left, and_right}
use Rattle.script_tree.proofs.Texts.{same_text}
use Rattle.script_grammar.specs.declared.token.Word.TheVariants as word
use Rattle.script_grammar.specs.declared.token.Token.{Token}
use Rattle.script_grammar.specs.declared.token.Token.TheVariants.{Plain, Stray}
use Rattle.expr_script.specs.declared.atoms.Atoms.{Atoms}
use Rattle.expr_script.specs.declared.atoms.Atoms.TheVariants.{Script, Body}
use Rattle.expr_script.specs.Words.{is_digits, value, number, name_token, look_up, short_signs, long_signs, script_words, short_sign, sign_token, fixed_token, other_token, token}
use Rattle.expr_script.specs.Cut.{begins_word}
use Rattle.expr_script.specs.Joined.{between, behind}
use Rattle.expr_script.specs.Tokens.{tokens_among}
use Rattle.expr_script.specs.Printed.{token_text}
use Rattle.expr_script.proofs.CutBack.{length_behind}
use Rattle.expr_script.proofs.Numerals.{decimal_digits, decimal_short}

-- a token is written as a word: in no more bytes, and as a word where it is one
pub record Lean (names : List (List ℕ)) (w : List ℕ) (t : Token) : Type 0 where
  pub short : length (token_text names t) ≤ length w
  pub kind : begins_word (token_text names t) ≡ begins_word w

-- a token that stands in scripts is written as it was read
pub record Exact (names : List (List ℕ)) (w : List ℕ) (t : Token) : Type 0 where
  pub same : (t ≡ Stray → ⊥) → token_text names t ≡ w

exact_lean : (names : List (List ℕ)) (w : List ℕ) (t : Token) → token_text names t ≡ w → Lean names w t
exact_lean names w t e = record { short = omega (arith, ap length e); kind = ap begins_word e }

either : (names : List (List ℕ)) (w : List ℕ) (b : Bool) (t u : Token) → (b ≡ true → Exact names w t) → (b ≡ false → Exact names w u) → Exact names w (if b then t else u)
either names w true t u p q = p refl
either names w false t u p q = q refl

table_exact : (names : List (List ℕ)) (table : List (List ℕ × Token)) (w : List ℕ) (other : Token) → AllByRecursion (λ row. token_text names row.1 ≡ row.0) table → Exact names w other → Exact names w (look_up table w other)
table_exact names [] w other rows o = o
table_exact names (row ∷ table) w other rows o =
    either names w (bytes_eq w row.0) row.1 (look_up table w other)
    (λ e. record { same = λ _. rows.0 ∙ sym (same_text w row.0 e) }) (λ _. table_exact names table w other rows.1 o)

fixed_exact : (names : List (List ℕ)) (w : List ℕ) → Exact names w (fixed_token w)
fixed_exact names w =
    table_exact names script_words w (sign_token w) (refl, (refl, (refl, (refl, (refl, tt)))))
    (table_exact names long_signs w (short_sign w) (refl, (refl, (refl, (refl, (refl, (refl, (refl, tt)))))))
    (table_exact names short_signs w Stray (refl, (refl, (refl, (refl, (refl, (refl, (refl, (refl, (refl, (refl, tt))))))))))
    (record { same = λ n. absurd (n refl) })))

pub pick_text : (names : List (List ℕ)) (i : ℕ) (d : List ℕ) → i + 1 < 10 → d ≡ (48 + (i + 1)) ∷ [] → token_text names (Plain (word.Pick i)) ≡ codes "pick" ++ d
pick_text names i d h e = ap (λ l. codes "pick" ++ l) (decimal_digit (i + 1) h ∙ sym e)

pick_step : (names : List (List ℕ)) (i k : ℕ) (w name : List ℕ) (rest : Token) → token_text names (Plain (word.Pick i)) ≡ name → Exact names w rest → Exact names w (if nat_lt i k && bytes_eq w name then Plain (word.Pick i) else rest)
pick_step names i k w name rest e r =
    either names w (nat_lt i k && bytes_eq w name) (Plain (word.Pick i)) rest
    (λ h. record { same = λ _. e ∙ sym (same_text w name (and_right (nat_lt i k) (bytes_eq w name) h)) }) (λ _. r)

other_exact : (atoms : Atoms) (names : List (List ℕ)) (w : List ℕ) → Exact names w (other_token atoms w)
other_exact (Script acc) names w =
    either names w (acc && bytes_eq w (codes "acc")) (Plain word.Acc) (fixed_token w)
    (λ h. record { same = λ _. sym (same_text w (codes "acc") (and_right acc (bytes_eq w (codes "acc")) h)) }) (λ _. fixed_exact names w)
other_exact (Body k) names w =
    pick_step names 0 k w (codes "pick1") _ (pick_text names 0 (49 ∷ []) (omega arith) refl)
    (pick_step names 1 k w (codes "pick2") _ (pick_text names 1 (50 ∷ []) (omega arith) refl)
    (pick_step names 2 k w (codes "pick3") _ (pick_text names 2 (51 ∷ []) (omega arith) refl)
    (pick_step names 3 k w (codes "pick4") (fixed_token w) (pick_text names 3 (52 ∷ []) (omega arith) refl) (fixed_exact names w))))

-- the name at the place of a name
pub name_at : (names : List (List ℕ)) (w : List ℕ) → place_in names w < length names → unwrap_or (slice_get names (place_in names w)) [] ≡ w
name_at [] w h = absurd (omega (arith, h))
name_at (n ∷ names) w h = by_test (bytes_eq n w) refl (λ k. name_at names w k) h
  where
    by_test : (b : Bool) → bytes_eq n w ≡ b → (place_in names w < length names → unwrap_or (slice_get names (place_in names w)) [] ≡ w) → (if b then 0 else place_in names w + 1) < suc (length names) → unwrap_or (slice_get (n ∷ names) (if b then 0 else place_in names w + 1)) [] ≡ w
    by_test true e f k = same_text n w e
    by_test false e f k = ap (λ i. unwrap_or (slice_get (n ∷ names) i) []) {x = place_in names w + 1} {y = suc (place_in names w)} (omega arith) ∙ f (omega (arith, k))

-- a name is among the known ones, where names stand in this kind of script
abbrev pub IsThere : Atoms → List (List ℕ) → List ℕ → Type 0
IsThere (Script acc) names w = is_name w ≡ true → place_in names w < length names
IsThere (Body picks) names w = Unit {0}

name_exact : (atoms : Atoms) (names : List (List ℕ)) (w : List ℕ) → is_name w ≡ true → IsThere atoms names w → Exact names w (name_token atoms names w)
name_exact (Script acc) names w n h = record { same = λ _. name_at names w (h n) }
name_exact (Body picks) names w n h = record { same = λ s. absurd (s refl) }

pub digit_word : (c : ℕ) → is_ascii_digit c ≡ true → is_word c ≡ true
digit_word c h = or_left _ _ (or_left _ _ (or_left _ _ h))

pub digits_begin : (ds : List ℕ) → list_all is_ascii_digit ds ≡ true → 0 < length ds → begins_word ds ≡ true
digits_begin [] h some = absurd (omega (arith, some))
digits_begin (c ∷ cs) h some = digit_word c (and_left (is_ascii_digit c) (list_all is_ascii_digit cs) h)

-- what is lean where it isn't stray
record LeanToken (names : List (List ℕ)) (w : List ℕ) (t : Token) : Type 0 where
  lean : (t ≡ Stray → ⊥) → Lean names w t

pick_lean : (names : List (List ℕ)) (w : List ℕ) (b : Bool) (t u : Token) → (b ≡ true → LeanToken names w t) → (b ≡ false → LeanToken names w u) → LeanToken names w (if b then t else u)
pick_lean names w true t u p q = p refl
pick_lean names w false t u p q = q refl

lean_of : (names : List (List ℕ)) (w : List ℕ) (t : Token) → Exact names w t → LeanToken names w t
lean_of names w t e = record { lean = λ s. exact_lean names w t (e.same s) }

number_lean : (names : List (List ℕ)) (w : List ℕ) → is_digits w ≡ true → LeanToken names w (number w)
number_lean names w h =
    let some : 0 < length w = ltb-true 0 (length w) (and_left (nat_lt 0 (length w)) (list_all is_ascii_digit w) h) in
    let d : list_all is_ascii_digit w ≡ true = and_right (nat_lt 0 (length w)) (list_all is_ascii_digit w) h in
    pick_lean names w (nat_lt (value 0 w) (2 ^ 63)) (Plain (word.Digits (pos (value 0 w)))) Stray
    (λ h. let small : value 0 w < 2 ^ 63 = ltb-true (value 0 w) (2 ^ 63) h in
    record {
      lean = λ _. record {
        short = decimal_short w d some (omega (arith, small));
        kind = digits_begin (decimal (value 0 w)) (decimal_digits (value 0 w) (omega (arith, small))) (decimal_nonempty (value 0 w) (omega (arith, small))) ∙ sym (digits_begin w d some);
      };
    })
    (λ _. record { lean = λ s. absurd (s refl) })

token_lean : (atoms : Atoms) (names : List (List ℕ)) (w : List ℕ) → IsThere atoms names w → LeanToken names w (token atoms names w)
token_lean atoms names w h =
    pick_lean names w (is_digits w) (number w) (if is_name w then name_token atoms names w else other_token atoms w)
    (λ d. number_lean names w d)
    (λ _. pick_lean names w (is_name w) (name_token atoms names w) (other_token atoms w)
    (λ n. lean_of names w (name_token atoms names w) (name_exact atoms names w n h))
    (λ _. lean_of names w (other_token atoms w) (other_exact atoms names w)))

-- a token that stands in some script
abbrev pub Stands : Token → Type 0
Stands t = t ≡ Stray → ⊥

-- what is written behind a word depends on whether that is a word
behind_alike : (last other : List ℕ) (more : List (List ℕ)) → begins_word last ≡ begins_word other → length (behind last more) ≡ length (behind other more)
behind_alike last other [] e = refl
behind_alike last other (w ∷ more) e = ap (λ b. length ((if b && begins_word w then codes " " else []) ++ (w ++ behind w more))) e

between_alike : (last other v w : List ℕ) → begins_word last ≡ begins_word other → begins_word v ≡ begins_word w → length (between last v) ≡ length (between other w)
between_alike last other v w e f = ap (λ b. length (if b && begins_word v then codes " " else [])) e ∙ ap (λ b. length (if begins_word other && b then codes " " else [])) f

-- the tokens of words are written in no more bytes than the words
pub words_lean : (atoms : Atoms) (names ws more : List (List ℕ)) (last other : List ℕ) → AllByRecursion (IsThere atoms names) ws → AllByRecursion Stands (tokens_among atoms names ws) → begins_word last ≡ begins_word other → length (behind last (map (token_text names) (tokens_among atoms names ws) ++ more)) ≤ length (behind other (ws ++ more))
words_lean atoms names [] more last other there stands e = omega (arith, behind_alike last other more e)
words_lean atoms names (w ∷ ws) more last other there stands e =
    let l = (token_lean atoms names w there.0).lean stands.0 in
    omega (
      arith,
      l.short,
      between_alike last other (token_text names (token atoms names w)) w e l.kind,
      words_lean atoms names ws more (token_text names (token atoms names w)) w there.1 stands.1 l.kind,
      length_behind last (token_text names (token atoms names w)) (map (token_text names) (tokens_among atoms names ws) ++ more),
      length_behind other w (ws ++ more),
    )
