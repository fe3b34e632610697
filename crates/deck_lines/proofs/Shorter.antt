-- The canonical words of a line are written in no more bytes than the line.
use Rattle.std.proofs.Common.{◌≡◌, ℕ, zero, suc, ◌^◌, ◌<◌, ◌≤◌, Bool, true, false, List, [], ◌∷◌, ◌++◌, length, map, refl, sym, ap, ◌∙◌, arith, subst, append-nil, append_assoc}
use Rattle.std.specs.Prelude.{◌&&◌, ◌==◌, if◌then◌else◌, All, min, codes, decimal, pos, neg_ℤ, nat_lt, Option, Some, None}
use Rattle.std.specs.Option.{option_map}
use Rattle.std.specs.List.{list_all, AllByRecursion, AllZip}
use Rattle.std.specs.Char.{is_ascii_digit}
use Rattle.std.proofs.lemmas.Bool.Decides.{nat_tests}
use Rattle.std.proofs.lemmas.Fmt.{decimal_nonempty}
use Rattle.std.proofs.lemmas.Grind.{common_steps}
use Rattle.std.proofs.lemmas.List.Elements.{recursion_from_All, All-from_recursion}
use Rattle.std.proofs.lemmas.Bool.{and_parts}
use Rattle.script_tree.specs.declared.limits.TheConstants.{SELECTORS}
use Rattle.script_tree.specs.declared.value.Value.{Value}
use Rattle.script_tree.specs.declared.value.Value.TheVariants.{Int}
use Rattle.script_tree.specs.Scripts.{Scripted}
use Rattle.expr_script.specs.Cut.{begins_word}
use Rattle.expr_script.specs.Joined.{gap, between, behind, joined}
use Rattle.expr_script.specs.Pieces.{words}
use Rattle.expr_script.specs.Printed.{printed_words}
use Rattle.expr_script.specs.Spelled.{SpellsScript, SpellsBody}
use Rattle.expr_script.specs.Words.{value}
use Rattle.expr_script.proofs.CutBack.{length_behind, between_short}
use Rattle.expr_script.proofs.Lean.{digits_begin}
use Rattle.expr_script.proofs.Numerals.{decimal_digits, decimal_short}
use Rattle.signal_graph.specs.Declarations.{Part}
use Rattle.deck_lines.specs.declared.line.Line.{Line}
use Rattle.deck_lines.specs.Canonical.{value_words, set_form, part_form, canonical_words, line_text}
use Rattle.deck_lines.specs.Cuts.{each_behind, separated}
use Rattle.deck_lines.specs.Forms as form
use Rattle.deck_lines.specs.Forms.{Words, SetForm, PartForm, Form, with_commas, spelled, spelled_set, spelled_part, spelled_looks, pieces_of}
use Rattle.deck_lines.specs.Lines.{SaysSet, SaysPart, SaysBody, Says, IsLine}
use Rattle.deck_lines.specs.Texts.{without_return, without_comment, said, line_words}
use Rattle.deck_lines.specs.Values.{is_digits, value_of}
use Rattle.deck_lines.proofs.ValueBack.{by_spelling}

-- words are written in no more bytes than others, whatever is before them
pub record NoLonger (a b : Words) : Type 0 where
  pub bound : (last : List ℕ) → length (behind last a) ≤ length (behind last b)

-- the same with what is behind them
pub record Lean (a b : Words) : Type 0 where
  pub bound : (more other : Words) → NoLonger more other → NoLonger (a ++ more) (b ++ other)

word_on : (w : List ℕ) (more other : Words) → NoLonger more other → NoLonger (w ∷ more) (w ∷ other)
word_on w more other h = record { bound = λ last. omega (arith, length_behind last w more, length_behind last w other, h.bound w) }

same_on : (ws more other : Words) → NoLonger more other → NoLonger (ws ++ more) (ws ++ other)
same_on [] more other h = h
same_on (w ∷ ws) more other h = word_on w (ws ++ more) (ws ++ other) (same_on ws more other h)

same_lean : (ws : Words) → Lean ws ws
same_lean ws = record { bound = same_on ws }

both_lean : (a b c d : Words) → Lean a b → Lean c d → Lean (a ++ c) (b ++ d)
both_lean a b c d p q = record {
  bound = λ more other h. subst (λ (ws : Words). NoLonger ws ((b ++ d) ++ other)) (sym (append_assoc a c more))
      (subst (λ (ws : Words). NoLonger (a ++ (c ++ more)) ws) (sym (append_assoc b d other)) (p.bound (c ++ more) (d ++ other) (q.bound more other h)));
}

word_lean : (w : List ℕ) (c d : Words) → Lean c d → Lean (w ∷ c) (w ∷ d)
word_lean w c d q = both_lean (w ∷ []) (w ∷ []) c d (same_lean (w ∷ [])) q

-- what is written behind a word depends on whether it is one
alike : (last other : List ℕ) (more : Words) → begins_word last ≡ begins_word other → behind last more ≡ behind other more
alike last other [] e = refl
alike last other (w ∷ more) e = ap (λ b. gap b w ++ (w ++ behind w more)) e

between_alike : (last w v : List ℕ) → begins_word w ≡ begins_word v → length (between last w) ≡ length (between last v)
between_alike last w v e = ap (λ b. length (if begins_word last && b then codes " " else [])) e

-- a shorter word for another one
shorter_word : (w v : List ℕ) → length w ≤ length v → begins_word w ≡ true → begins_word v ≡ true → Lean (w ∷ []) (v ∷ [])
shorter_word w v s p q = record {
  bound = λ more other h. record {
    bound = λ last. omega (arith, s, length_behind last w more, length_behind last v other, between_alike last w v (p ∙ sym q), h.bound w, ap length (alike w v other (p ∙ sym q)));
  };
}

-- a number without a minus for one with it
no_minus : (w v : List ℕ) → length w ≤ length v → begins_word w ≡ true → begins_word v ≡ true → Lean (w ∷ []) (codes "-" ∷ v ∷ [])
no_minus w v s p q = record {
  bound = λ more other h. record {
    bound = λ last. omega (
      arith,
      s,
      length_behind last w more,
      length_behind last (codes "-") (v ∷ other),
      length_behind (codes "-") v other,
      between_short last w,
      h.bound w,
      ap length (alike w v other (p ∙ sym q)),
    );
  };
}

record Digits (word : List ℕ) : Type 0 where
  some : 0 < length word
  all : list_all is_ascii_digit word ≡ true

are_digits : (word : List ℕ) → is_digits word ≡ true → Digits word
are_digits word d =
    let parts = and_parts (nat_lt 0 (length word)) (list_all is_ascii_digit word) d in
    record { some = some parts.0; all = parts.1 }
  where
    some : nat_lt 0 (length word) ≡ true → 0 < length word
    some h = grind (arith, nat_tests)

decimal_begins : (n : ℕ) → n < 2 ^ 64 → begins_word (decimal n) ≡ true
decimal_begins n h = digits_begin (decimal n) (decimal_digits n h) (decimal_nonempty n h)

number_lean : (word : List ℕ) → is_digits word ≡ true → value 0 word < 2 ^ 63 → Lean (decimal (value 0 word) ∷ []) (word ∷ [])
number_lean word d h =
    let k = are_digits word d in
    let small : value 0 word < 2 ^ 64 = omega (arith, h) in
    shorter_word (decimal (value 0 word)) word (decimal_short word k.all k.some small) (decimal_begins (value 0 word) small) (digits_begin word k.all k.some)

below_lean : (word : List ℕ) (n : ℕ) → Digits word → length (decimal n) ≤ length word → n < 2 ^ 64 → Lean (value_words (Int (neg_ℤ (pos n)))) (codes "-" ∷ word ∷ [])
below_lean word zero k s h = no_minus (decimal 0) word s (decimal_begins 0 h) (digits_begin word k.all k.some)
below_lean word (suc n) k s h = word_lean (codes "-") (decimal (suc n) ∷ []) (word ∷ []) (shorter_word (decimal (suc n)) word s (decimal_begins (suc n) h) (digits_begin word k.all k.some))

negative_lean : (word : List ℕ) → is_digits word ≡ true → value 0 word ≤ 2 ^ 63 → Lean (value_words (Int (neg_ℤ (pos (value 0 word))))) (codes "-" ∷ word ∷ [])
negative_lean word d h =
    let k = are_digits word d in
    let small : value 0 word < 2 ^ 64 = omega (arith, h) in
    below_lean word (value 0 word) k (decimal_short word k.all k.some small) small

value_lean : (list : Words) (v : Value) → value_of list ≡ Some v → Lean (value_words v) list
value_lean = by_spelling (λ list v. Lean (value_words v) list) (same_lean (codes "true" ∷ [])) (same_lean (codes "false" ∷ [])) number_lean negative_lean

-- the canonical words of scripts and bodies are no longer
pub record ScriptsShort : Type 0 where
  pub script : (acc : Bool) (list : Words) (s : Scripted) (last : List ℕ) (more : Words) → SpellsScript acc list s → length (behind last (printed_words s ++ more)) ≤ length (behind last (list ++ more))
  pub body : (picks : ℕ) (list : Words) (s : Scripted) (last : List ℕ) (more : Words) → SpellsBody picks list s → length (behind last (printed_words s ++ more)) ≤ length (behind last (list ++ more))

script_lean : ScriptsShort → (acc : Bool) (list : Words) (s : Scripted) → SpellsScript acc list s → Lean (printed_words s) list
script_lean k acc list s h = record {
  bound = λ more other n. record {
    bound = λ last. omega (arith, k.script acc list s last other h, (same_on (printed_words s) more other n).bound last);
  };
}

body_lean : ScriptsShort → (picks : ℕ) (list : Words) (s : Scripted) → SpellsBody picks list s → Lean (printed_words s) list
body_lean k picks list s h = record {
  bound = λ more other n. record {
    bound = λ last. omega (arith, k.body picks list s last other h, (same_on (printed_words s) more other n).bound last);
  };
}

each_lean : (sign : List ℕ) (parts others : List Words) → AllZip Lean parts others → Lean (each_behind sign parts) (each_behind sign others)
each_lean sign [] [] z = same_lean []
each_lean sign [] (o ∷ others) z = absurd z
each_lean sign (part ∷ parts) [] z = absurd z
each_lean sign (part ∷ parts) (o ∷ others) z = word_lean sign (part ++ each_behind sign parts) (o ++ each_behind sign others) (both_lean part o (each_behind sign parts) (each_behind sign others) z.0 (each_lean sign parts others z.1))

separated_lean : (sign : List ℕ) (parts others : List Words) → AllZip Lean parts others → Lean (separated sign parts) (separated sign others)
separated_lean sign [] [] z = same_lean []
separated_lean sign [] (o ∷ others) z = absurd z
separated_lean sign (part ∷ parts) [] z = absurd z
separated_lean sign (part ∷ parts) (o ∷ others) z = both_lean part o (each_behind sign parts) (each_behind sign others) z.0 (each_lean sign parts others z.1)

named_lean : (name other : List ℕ) (a b : Words) → name ≡ other → Lean a b → Lean (other ∷ codes "=" ∷ a) (name ∷ codes "=" ∷ b)
named_lean name other a b e h = subst (λ (n : List ℕ). Lean (n ∷ codes "=" ∷ a) (name ∷ codes "=" ∷ b)) e (word_lean name (codes "=" ∷ a) (codes "=" ∷ b) (word_lean (codes "=") a b h))

sets_lean : (forms : List SetForm) (sets : List (List ℕ × Value)) → AllZip SaysSet forms sets → AllZip Lean (map spelled_set (map set_form sets)) (map spelled_set forms)
sets_lean [] [] z = tt
sets_lean [] (s ∷ sets) z = absurd z
sets_lean (f ∷ forms) [] z = absurd z
sets_lean (f ∷ forms) (s ∷ sets) z = (named_lean f.0 s.0 (value_words s.1) f.1 z.0.0 (value_lean f.1 s.1 z.0.1), sets_lean forms sets z.1)

part_lean : ScriptsShort → (f : PartForm) (q : Part) → SaysPart f q → Lean (spelled_part (part_form q)) (spelled_part f)
part_lean k f q s =
    both_lean (printed_words q.0) f.0 (codes "among" ∷ with_commas q.1) (codes "among" ∷ with_commas f.1)
    (script_lean k false f.0 q.0 s.0)
    (subst (λ (ns : List (List ℕ)). Lean (codes "among" ∷ with_commas ns) (codes "among" ∷ with_commas f.1)) s.1 (same_lean (codes "among" ∷ with_commas f.1)))

pieces_lean : ScriptsShort → (n : ℕ) (forms : List PartForm) (parts : List Part) (over : Option Words) (body : Option Scripted) → AllZip SaysPart forms parts → SaysBody n over body → AllZip Lean (pieces_of (map part_form parts) (option_map printed_words body)) (pieces_of forms over)
pieces_lean k n [] [] None None z b = tt
pieces_lean k n [] [] (Some list) (Some s) z b = (body_lean k (min n SELECTORS) list s b, tt)
pieces_lean k n (f ∷ forms) (q ∷ parts) None None z b = (part_lean k f q z.0, pieces_lean k n forms parts None None z.1 b)
pieces_lean k n (f ∷ forms) (q ∷ parts) (Some list) (Some s) z b = (part_lean k f q z.0, pieces_lean k n forms parts (Some list) (Some s) z.1 b)
pieces_lean k n forms parts None (Some s) z b = absurd b
pieces_lean k n forms parts (Some list) None z b = absurd b
pieces_lean k n [] (q ∷ parts) None None z b = absurd z
pieces_lean k n [] (q ∷ parts) (Some list) (Some s) z b = absurd z
pieces_lean k n (f ∷ forms) [] None None z b = absurd z
pieces_lean k n (f ∷ forms) [] (Some list) (Some s) z b = absurd z

head_lean : (keyword name : List ℕ) (a b : Words) → Lean a b → Lean (keyword ∷ name ∷ codes "=" ∷ a) (keyword ∷ name ∷ codes "=" ∷ b)
head_lean keyword name a b h = word_lean keyword (name ∷ codes "=" ∷ a) (name ∷ codes "=" ∷ b) (named_lean name name a b refl h)

by_form : ScriptsShort → (f : Form) (line : Line) → Says f line → Lean (canonical_words line) (spelled f)
by_form k form.Nothing line s = subst (λ (l : Line). Lean (canonical_words l) []) (sym s) (same_lean [])
by_form k (form.Source name start) line s =
    subst (λ (l : Line). Lean (canonical_words l) (codes "source" ∷ name ∷ codes "=" ∷ start)) (sym s.2) (head_lean (codes "source") name (value_words s.0) start (value_lean start s.0 s.1))
by_form k (form.Signal name list) line s =
    subst (λ (l : Line). Lean (canonical_words l) (codes "signal" ∷ name ∷ codes "=" ∷ list)) (sym s.2) (head_lean (codes "signal") name (printed_words s.0) list (script_lean k false list s.0 s.1))
by_form k (form.Fold name start list) line s =
    subst (λ (l : Line). Lean (canonical_words l) (codes "fold" ∷ name ∷ codes "=" ∷ (start ++ codes ":" ∷ list))) (sym s.4)
    (head_lean (codes "fold") name (value_words s.0 ++ codes ":" ∷ printed_words s.1) (start ++ codes ":" ∷ list)
    (both_lean (value_words s.0) start (codes ":" ∷ printed_words s.1) (codes ":" ∷ list) (value_lean start s.0 s.2) (word_lean (codes ":") (printed_words s.1) list (script_lean k true list s.1 s.3))))
by_form k (form.Choose name forms over) line s =
    let new = pieces_of (map part_form s.0) (option_map printed_words s.1) in
    let old = pieces_of forms over in
    subst (λ (l : Line). Lean (canonical_words l) (codes "choose" ∷ name ∷ codes "=" ∷ separated (codes ":") old)) (sym s.4)
    (head_lean (codes "choose") name (separated (codes ":") new) (separated (codes ":") old)
    (separated_lean (codes ":") new old (pieces_lean k (length forms) forms s.0 over s.1 s.2 s.3)))
by_form k form.Thread line s = subst (λ (l : Line). Lean (canonical_words l) (codes "thread" ∷ [])) (sym s) (same_lean (codes "thread" ∷ []))
by_form k (form.Fire forms looks) line s =
    let new = separated (codes ",") (map spelled_set (map set_form s.0)) in
    let old = separated (codes ",") (map spelled_set forms) in
    subst (λ (l : Line). Lean (canonical_words l) (codes "fire" ∷ (old ++ spelled_looks looks))) (sym s.2)
    (word_lean (codes "fire") (new ++ spelled_looks looks) (old ++ spelled_looks looks)
    (both_lean new old (spelled_looks looks) (spelled_looks looks) (separated_lean (codes ",") (map spelled_set (map set_form s.0)) (map spelled_set forms) (sets_lean forms s.0 s.1)) (same_lean (spelled_looks looks))))
by_form k (form.Read looks) line s = subst (λ (l : Line). Lean (canonical_words l) (codes "read" ∷ with_commas looks)) (sym s) (same_lean (codes "read" ∷ with_commas looks))

no_longer : (a b : Words) → Lean a b → length (joined a) ≤ length (joined b)
no_longer a b h =
    omega (arith, (h.bound [] [] (record { bound = λ last. omega arith })).bound [], ap (λ ws. length (behind [] ws)) (append-nil a), ap (λ ws. length (behind [] ws)) (append-nil b))

-- what a line says is no longer than the line
return_short : (line : List ℕ) → length (without_return line) ≤ length line
return_short [] = omega arith
return_short (b ∷ []) = by_test (b == 13)
  where
    by_test : (t : Bool) → length (if t then [] else b ∷ []) ≤ 1
    by_test true = omega arith
    by_test false = omega arith
return_short (b ∷ c ∷ line) = omega (arith, return_short (c ∷ line))

comment_short : (line : List ℕ) → length (without_comment line) ≤ length line
comment_short line = grind (arith, common_steps)

said_short : (line : List ℕ) → length (said line) ≤ length line
said_short line = omega (arith, return_short line, comment_short (without_return line))

-- the canonical text is no longer than a line that says the same
pub line_short : ScriptsShort → ((text : List ℕ) → length (joined (words text)) ≤ length text) → (text : List ℕ) (line : Line) → IsLine (line_words text) line → length (line_text line) ≤ length text
line_short k short text line l =
    let lean = by_form k l.f line l.says in
    omega (arith, no_longer (canonical_words line) (spelled l.f) lean, ap (λ ws. length (joined ws)) l.fits.same, short (said text), said_short text)
