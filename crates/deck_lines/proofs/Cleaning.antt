-- No byte that ends what a line says stands in a script, and a text without one says all of itself.
use Rattle.std.proofs.Common.{◌≡◌, ℕ, suc, ◌+◌, Bool, true, false, List, [], ◌∷◌, ◌++◌, length, take, refl, sym, ap, ◌∙◌, arith}
use Rattle.std.specs.Prelude.{◌==◌, ◌&&◌, if◌then◌else◌, nat_lt, not, codes, ◌||◌}
use Rattle.std.specs.List.{list_all, list_any, AllByRecursion, position_or_len}
use Rattle.std.specs.Str.{bytes_eq}
use Rattle.std.specs.Char.{is_ascii_digit}
use Rattle.std.proofs.lemmas.Bool.{or_parts, or_from, false≢true, and_parts}
use Rattle.script_tree.specs.Names.{is_name}
use Rattle.script_tree.specs.Scripts.{Scripted}
use Rattle.script_tree.proofs.Texts.{same_text}
use Rattle.script_grammar.specs.declared.token.Token.{Token}
use Rattle.script_grammar.specs.declared.token.Word.TheVariants.{Pick, Acc}
use Rattle.script_grammar.specs.declared.token.Token.TheVariants.{Plain, Stray}
use Rattle.expr_script.specs.declared.atoms.Atoms.{Atoms}
use Rattle.expr_script.specs.declared.atoms.Atoms.TheVariants.{Script, Body}
use Rattle.expr_script.specs.Cut.{begins_word}
use Rattle.expr_script.specs.Joined.{behind, joined}
use Rattle.expr_script.specs.Words.{is_digits, number, name_token, look_up, short_signs, long_signs, script_words, short_sign, sign_token, fixed_token, other_token, token}
use Rattle.expr_script.specs.Tokens.{inputs, tokens_among}
use Rattle.expr_script.specs.Spelled.{SpellsWith}
use Rattle.deck_lines.specs.Forms.{Words}
use Rattle.deck_lines.specs.Texts.{is_end, is_hash, without_comment, without_return, said}
use Rattle.deck_lines.proofs.NoSigns.{is_stray, has_stray, no_strays}
use Rattle.expr_script.proofs.TokenBack.{digits_words}
use Rattle.deck_lines.proofs.Wholes.{IsClean, name_word, bytes_clean}

-- a word is clean, or stands in no script
record CleanToken (w : List ℕ) (t : Token) : Type 0 where
  clean : is_stray t ≡ false → IsClean w

either : (w : List ℕ) (b : Bool) (t u : Token) → (b ≡ true → CleanToken w t) → CleanToken w u → CleanToken w (if b then t else u)
either w true t u p q = p refl
either w false t u p q = q

same_clean : (w word : List ℕ) (t : Token) → IsClean word → bytes_eq w word ≡ true → CleanToken w t
same_clean w word t c e = record { clean = λ s. ap (list_any is_end) (same_text w word e) ∙ c }

table_clean : (table : List (List ℕ × Token)) (w : List ℕ) (other : Token) → AllByRecursion (λ (row : List ℕ × Token). IsClean row.0) table → CleanToken w other → CleanToken w (look_up table w other)
table_clean [] w other rows o = o
table_clean (row ∷ table) w other rows o = either w (bytes_eq w row.0) row.1 (look_up table w other) (same_clean w row.0 row.1 rows.0) (table_clean table w other rows.1 o)

fixed_clean : (w : List ℕ) → CleanToken w (fixed_token w)
fixed_clean w =
    table_clean script_words w (sign_token w) (refl, (refl, (refl, (refl, (refl, tt)))))
    (table_clean long_signs w (short_sign w) (refl, (refl, (refl, (refl, (refl, (refl, (refl, tt)))))))
    (table_clean short_signs w Stray (refl, (refl, (refl, (refl, (refl, (refl, (refl, (refl, (refl, (refl, tt))))))))))
    (record { clean = λ s. absurd (false≢true (sym s)) })))

pick_clean : (w word : List ℕ) (b : Bool) (t u : Token) → IsClean word → CleanToken w u → CleanToken w (if b && bytes_eq w word then t else u)
pick_clean w word b t u c q = either w (b && bytes_eq w word) t u (λ e. same_clean w word t c (and_parts b (bytes_eq w word) e).1) q

other_clean : (atoms : Atoms) (w : List ℕ) → CleanToken w (other_token atoms w)
other_clean (Script acc) w = pick_clean w (codes "acc") acc (Plain Acc) (fixed_token w) refl (fixed_clean w)
other_clean (Body k) w =
    pick_clean w (codes "pick1") (nat_lt 0 k) (Plain (Pick 0)) _ refl
    (pick_clean w (codes "pick2") (nat_lt 1 k) (Plain (Pick 1)) _ refl
    (pick_clean w (codes "pick3") (nat_lt 2 k) (Plain (Pick 2)) _ refl
    (pick_clean w (codes "pick4") (nat_lt 3 k) (Plain (Pick 3)) (fixed_token w) refl (fixed_clean w))))

token_clean : (atoms : Atoms) (known : List (List ℕ)) (w : List ℕ) → CleanToken w (token atoms known w)
token_clean atoms known w =
    either w (is_digits w) (number w) (if is_name w then name_token atoms known w else other_token atoms w)
    (λ d. record { clean = λ s. bytes_clean w (digits_words w (and_parts (nat_lt 0 (length w)) (list_all is_ascii_digit w) d).1) })
    (either w (is_name w) (name_token atoms known w) (other_token atoms w) (λ n. record { clean = λ s. bytes_clean w (name_word w n).all }) (other_clean atoms w))

words_clean : (atoms : Atoms) (known : List (List ℕ)) (ws : Words) → has_stray (tokens_among atoms known ws) ≡ false → AllByRecursion IsClean ws
words_clean atoms known [] h = tt
words_clean atoms known (w ∷ ws) h =
    let parts = or_parts (is_stray (token atoms known w)) (has_stray (tokens_among atoms known ws)) h in
    ((token_clean atoms known w).clean parts.0, words_clean atoms known ws parts.1)

pub script_clean : (atoms : Atoms) (ws : Words) (s : Scripted) → SpellsWith atoms ws s → AllByRecursion IsClean ws
script_clean atoms ws s h = words_clean atoms (inputs atoms ws) ws (no_strays atoms ws s h)

clean_append : (a b : List ℕ) → IsClean a → IsClean b → IsClean (a ++ b)
clean_append [] b p q = q
clean_append (x ∷ a) b p q = let parts = or_parts (is_end x) (list_any is_end a) p in or_from (is_end x) (list_any is_end (a ++ b)) parts.0 (clean_append a b parts.1 q)

pub behind_clean : (last : List ℕ) (ws : Words) → AllByRecursion IsClean ws → IsClean (behind last ws)
behind_clean last [] all = refl
behind_clean last (w ∷ ws) all = clean_append (if begins_word last && begins_word w then codes " " else []) (w ++ behind w ws) (space (begins_word last && begins_word w)) (clean_append w (behind w ws) all.0 (behind_clean w ws all.1))
  where
    space : (t : Bool) → IsClean (if t then codes " " else [])
    space true = refl
    space false = refl

no_return : (text : List ℕ) → IsClean text → without_return text ≡ text
no_return [] h = refl
no_return (b ∷ []) h = ap (λ t. if t then [] else b ∷ []) (or_parts (b == 13) (b == 10) (or_parts (b == 35) (b == 13 || b == 10) (or_parts (is_end b) false h).0).1).0
no_return (b ∷ c ∷ text) h = ap (λ l. b ∷ l) (no_return (c ∷ text) (or_parts (is_end b) (list_any is_end (c ∷ text)) h).1)

no_comment : (text : List ℕ) → IsClean text → without_comment text ≡ text
no_comment [] h = refl
no_comment (b ∷ text) h =
    let parts = or_parts (is_end b) (list_any is_end text) h in
    by_test (b == 35) (or_parts (b == 35) (b == 13 || b == 10) parts.0).0 ∙ ap (λ l. b ∷ l) (no_comment text parts.1)
  where
    by_test : (t : Bool) → t ≡ false → take (if not t then 1 + position_or_len is_hash text else 0) (b ∷ text) ≡ b ∷ take (position_or_len is_hash text) text
    by_test true e = absurd (false≢true (sym e))
    by_test false e = ap (λ k. take k (b ∷ text)) {x = 1 + position_or_len is_hash text} {y = suc (position_or_len is_hash text)} (omega arith)

-- a line of clean words says all of itself
pub all_said : (ws : Words) → AllByRecursion IsClean ws → said (joined ws) ≡ joined ws
all_said ws all =
    let clean = behind_clean [] ws all in
    ap without_comment (no_return (joined ws) clean) ∙ no_comment (joined ws) clean
