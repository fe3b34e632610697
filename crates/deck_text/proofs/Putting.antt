-- Words put one by one behind a text, with a space between two words: they stand there as they are joined.
use Rattle.std.proofs.Common.{◌≡◌, ℕ, Bool, true, false, List, [], ◌∷◌, ◌++◌, length, drop, refl, sym, ap, ◌∙◌, arith, append_assoc, append-nil, length-append}
use Rattle.std.specs.Prelude.{◌-◌, if◌then◌else◌, codes, slice_get, take_while, Some}
use Rattle.std.specs.List.{AllByRecursion, list_all}
use Rattle.std.specs.Option.{option_map_or}
use Rattle.std.proofs.lemmas.Bool.{and_parts}
use Rattle.script_tree.specs.Names.{is_word}
use Rattle.script_tree.proofs.Lists.{all_front, all_behind}
use Rattle.expr_script.specs.Cut.{begins_word}
use Rattle.expr_script.specs.Joined.{gap, behind, joined, IsWhole, StandApart}
use Rattle.expr_script.specs.Pieces.{is_pair, sign_len}
use Rattle.expr_script.proofs.FoundCut.{run_bytes, second_no_word}
use Rattle.deck_lines.specs.Cuts.{each_behind}
use Rattle.deck_lines.specs.Forms.{Words, IsName, one_each, with_commas}
use Rattle.deck_lines.proofs.Wholes.{name_word}
use Rattle.deck_text.specs.Appended.{ends_with_word, with_word, with_names, with_more_names}

-- a text with a word or a sign behind it, and a space between two words
pub put : List ℕ → List ℕ → List ℕ
put text word = text ++ (gap (ends_with_word text) word ++ word)

-- a text with words behind it
abbrev pub added : List ℕ → Words → List ℕ
added text [] = text
added text (word ∷ words) = added (put text word) words

abbrev pub AllWhole : Words → Type 0
AllWhole words = AllByRecursion IsWhole words

-- words behind words
pub added_on : (text : List ℕ) (a b : Words) → added text (a ++ b) ≡ added (added text a) b
added_on text [] b = refl
added_on text (word ∷ a) b = added_on (put text word) a b

-- what holds all along two lists in a row holds along each
pub all_parts : {A : Type 0} (P : A → Type 0) (xs ys : List A) → AllByRecursion P (xs ++ ys) → AllByRecursion P xs × AllByRecursion P ys
all_parts P xs ys h = (all_front P xs ys h, all_behind P xs ys h)

-- words that stand apart are whole
pub apart_whole : (last : List ℕ) (words : Words) → StandApart last words → AllWhole words
apart_whole last [] s = tt
apart_whole last (word ∷ words) s = (s.1, apart_whole word words s.2)

-- a text ends with a word where its last byte is in one
get_end : (text : List ℕ) (b : ℕ) → slice_get (text ++ b ∷ []) (length text) ≡ Some b
get_end [] b = refl
get_end (c ∷ text) b = get_end text b

pub byte_ends : (text : List ℕ) (b : ℕ) → ends_with_word (text ++ b ∷ []) ≡ is_word b
byte_ends text b =
    ap (λ n. option_map_or is_word (slice_get (text ++ b ∷ []) n) false) {x = length (text ++ b ∷ []) - 1} {y = length text} (omega (arith, length-append text (b ∷ [])))
    ∙ ap (λ found. option_map_or is_word found false) (get_end text b)

bytes_end : (text : List ℕ) (b : ℕ) (bs : List ℕ) → ends_with_word (text ++ b ∷ bs) ≡ begins_word (drop (length bs) (b ∷ bs))
bytes_end text b [] = byte_ends text b
bytes_end text b (c ∷ cs) = ap ends_with_word (sym (append_assoc text (b ∷ []) (c ∷ cs))) ∙ bytes_end (text ++ b ∷ []) c cs

-- the last byte of a sign is in no word
sign_last : (b : ℕ) (bs : List ℕ) → is_word b ≡ false → sign_len b bs ≡ length (b ∷ bs) → begins_word (drop (length bs) (b ∷ bs)) ≡ false
sign_last b [] w h = w
sign_last b (c ∷ cs) w h = by_test (is_pair b c) refl h
  where
    by_test : (t : Bool) → is_pair b c ≡ t → (if t then 2 else 1) ≡ length (b ∷ c ∷ cs) → begins_word (drop (length cs) (c ∷ cs)) ≡ false
    by_test true e h = ap (λ n. begins_word (drop n (c ∷ cs))) {x = length cs} {y = 0} (omega (arith, h)) ∙ second_no_word b c e
    by_test false e h = absurd (omega (arith, h))

-- so a text ends as the word or sign at its end
whole_ends : (text word : List ℕ) → IsWhole word → ends_with_word (text ++ word) ≡ begins_word word
whole_ends text [] i = absurd (omega (arith, i.some))
whole_ends text (b ∷ bs) i = bytes_end text b bs ∙ by_test (is_word b) refl i.whole
  where
    by_test : (t : Bool) → is_word b ≡ t → (if t then length (take_while is_word (b ∷ bs)) else sign_len b bs) ≡ length (b ∷ bs) → begins_word (drop (length bs) (b ∷ bs)) ≡ t
    by_test true e h = run_bytes (b ∷ bs) (length bs) (omega (arith, h))
    by_test false e h = sign_last b bs e h

pub put_ends : (text word : List ℕ) → IsWhole word → ends_with_word (put text word) ≡ begins_word word
unfolding put
put_ends text word i = ap ends_with_word (sym (append_assoc text (gap (ends_with_word text) word) word)) ∙ whole_ends (text ++ gap (ends_with_word text) word) word i

-- whole words are added as they are written behind the last one
added_behind : (text last : List ℕ) (words : Words) → ends_with_word text ≡ begins_word last → AllWhole words → added text words ≡ text ++ behind last words
unfolding put
added_behind text last [] e h = sym (append-nil text)
added_behind text last (word ∷ words) e h =
    added_behind (put text word) word words (put_ends text word h.0) h.1
    ∙ append_assoc text (gap (ends_with_word text) word ++ word) (behind word words)
    ∙ ap (λ rest. text ++ rest) (append_assoc (gap (ends_with_word text) word) word (behind word words))
    ∙ ap (λ t. text ++ (gap t word ++ (word ++ behind word words))) e

-- behind a text that ends with no word they are added as they are joined
pub joined_added : (text : List ℕ) (words : Words) → ends_with_word text ≡ false → AllWhole words → text ++ joined words ≡ added text words
joined_added text words e h = sym (added_behind text [] words e h)

-- what the printer adds for a word is put, and so is a sign that it adds as it is
pub word_put : (text word : List ℕ) → begins_word word ≡ true → with_word text word ≡ put text word
unfolding put
word_put text word e = by_test (ends_with_word text)
  where
    by_test : (t : Bool) → (if t then text ++ 32 ∷ [] else text) ++ word ≡ text ++ (gap t word ++ word)
    by_test true = append_assoc text (32 ∷ []) word ∙ ap (λ t. text ++ ((if t then codes " " else []) ++ word)) (sym e)
    by_test false = refl

pub sign_put : (text sign : List ℕ) → begins_word sign ≡ false → text ++ sign ≡ put text sign
unfolding put
sign_put text sign e = by_test (ends_with_word text)
  where
    by_test : (t : Bool) → text ++ sign ≡ text ++ (gap t sign ++ sign)
    by_test true = ap (λ t. text ++ ((if t then codes " " else []) ++ sign)) (sym e)
    by_test false = refl

name_begins : (name : List ℕ) → IsName name → begins_word name ≡ true
name_begins [] n = absurd (omega (arith, (name_word [] n).some))
name_begins (b ∷ bs) n = (and_parts (is_word b) (list_all is_word bs) (name_word (b ∷ bs) n).all).0

pub name_put : (text name : List ℕ) → IsName name → with_word text name ≡ put text name
name_put text name n = word_put text name (name_begins name n)

more_names_added : (text : List ℕ) (names : List (List ℕ)) → AllByRecursion IsName names → with_more_names text names ≡ added text (each_behind (codes ",") (one_each names))
more_names_added text [] n = refl
more_names_added text (name ∷ names) n =
    ap (λ t. with_more_names (with_word t name) names) (sign_put text (codes ",") refl)
    ∙ ap (λ t. with_more_names t names) (name_put (put text (codes ",")) name n.0)
    ∙ more_names_added (put (put text (codes ",")) name) names n.1

pub names_added : (text : List ℕ) (names : List (List ℕ)) → AllByRecursion IsName names → with_names text names ≡ added text (with_commas names)
names_added text [] n = refl
names_added text (name ∷ names) n = ap (λ t. with_more_names t names) (name_put text name n.0) ∙ more_names_added (put text name) names n.1
