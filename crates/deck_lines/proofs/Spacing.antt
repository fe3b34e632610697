-- The canonical words of a line stand apart, and none of their bytes ends what the line says.
use Rattle.std.proofs.Common.{◌≡◌, ℕ, ◌<◌, ◌≤◌, Bool, true, false, List, [], ◌∷◌, ◌++◌, length, map, refl, sym, ap, ◌∙◌, arith, subst, append-nil}
use Rattle.std.specs.Prelude.{min, codes, Option, Some, None, nat_lt}
use Rattle.std.specs.Option.{option_map}
use Rattle.std.specs.List.{list_all, list_any, AllByRecursion, AllZip}
use Rattle.std.specs.Char.{is_ascii_digit}
use Rattle.std.proofs.lemmas.Bool.Decides.{nat_tests}
use Rattle.std.proofs.lemmas.Bool.{and_parts}
use Rattle.script_tree.specs.declared.limits.TheConstants.{SELECTORS}
use Rattle.script_tree.specs.declared.value.Value.{Value}
use Rattle.script_tree.specs.Scripts.{Scripted}
use Rattle.expr_script.specs.declared.atoms.Atoms.TheVariants.{Script, Body}
use Rattle.expr_script.specs.Joined.{joined, StandApart}
use Rattle.expr_script.specs.Pieces.{words}
use Rattle.expr_script.specs.Printed.{printed_words}
use Rattle.expr_script.specs.Spelled.{SpellsScript, SpellsBody}
use Rattle.signal_graph.specs.Declarations.{Part}
use Rattle.deck_lines.specs.declared.line.Line.{Line}
use Rattle.deck_lines.specs.Canonical.{value_words, set_form, part_form, canonical_words, line_text}
use Rattle.deck_lines.specs.Cuts.{separated}
use Rattle.deck_lines.specs.Forms as form
use Rattle.deck_lines.specs.Forms.{Words, SetForm, PartForm, Form, IsName, IsSet, IsPart, IsOver, IsProper, one_each, with_commas, spelled_set, spelled_part, spelled_looks, pieces_of}
use Rattle.deck_lines.specs.Lines.{SaysSet, SaysPart, SaysBody, Says, IsLine}
use Rattle.deck_lines.specs.Texts.{is_end, line_words}
use Rattle.deck_lines.specs.Values.{is_digits, value_of}
use Rattle.deck_lines.proofs.Cleaning.{script_clean, behind_clean, all_said}
use Rattle.deck_lines.proofs.Restating.{Canons}
use Rattle.deck_lines.proofs.ValueBack.{by_spelling, value_back}
use Rattle.deck_lines.proofs.Wholes.{IsWord, IsClean, name_word, digits_word, Apart, word_apart, minus_apart, both_apart, then_behind, none_behind, sign_behind, separated_apart, comma, colon, equals}

-- the canonical words of scripts and bodies stand apart
pub record ScriptsApart : Type 0 where
  pub script : (acc : Bool) (list : Words) (s : Scripted) (last : List ℕ) (more : Words) → SpellsScript acc list s → StandApart [] more → StandApart last (printed_words s ++ more)
  pub body : (picks : ℕ) (list : Words) (s : Scripted) (last : List ℕ) (more : Words) → picks ≤ SELECTORS → SpellsBody picks list s → StandApart [] more → StandApart last (printed_words s ++ more)

-- all that is known of canonical scripts
pub record Scripts : Type 0 where
  pub canon : Canons
  pub stand : ScriptsApart

script_apart : Scripts → (acc : Bool) (list : Words) (s : Scripted) → SpellsScript acc list s → Apart (printed_words s)
script_apart k acc list s h = record { stand = λ last more m. k.stand.script acc list s last more h m; clean = script_clean (Script acc) (printed_words s) s (k.canon.script acc list s h) }

body_apart : Scripts → (picks : ℕ) (list : Words) (s : Scripted) → picks ≤ SELECTORS → SpellsBody picks list s → Apart (printed_words s)
body_apart k picks list s few h = record { stand = λ last more m. k.stand.body picks list s last more few h m; clean = script_clean (Body picks) (printed_words s) s (k.canon.body picks list s few h) }

-- words that spell a value stand apart
some_digits : (word : List ℕ) → is_digits word ≡ true → IsWord word
some_digits word d =
    let parts = and_parts (nat_lt 0 (length word)) (list_all is_ascii_digit word) d in
    digits_word word (some parts.0) parts.1
  where
    some : nat_lt 0 (length word) ≡ true → 0 < length word
    some h = grind (arith, nat_tests)

value_apart : (list : Words) (v : Value) → value_of list ≡ Some v → Apart list
value_apart = by_spelling (λ list v. Apart list)
    (word_apart (codes "true") (record { some = omega arith; all = refl })) (word_apart (codes "false") (record { some = omega arith; all = refl }))
    (λ word d h. word_apart word (some_digits word d)) (λ word d h. minus_apart word (some_digits word d))

written_apart : (list : Words) (v : Value) → value_of list ≡ Some v → Apart (value_words v)
written_apart list v e = value_apart (value_words v) v (value_back list v e)

ones_apart : (names : List (List ℕ)) → AllByRecursion IsName names → AllByRecursion Apart (one_each names)
ones_apart [] all = tt
ones_apart (name ∷ names) all = (word_apart name (name_word name all.0), ones_apart names all.1)

names_apart : (names : List (List ℕ)) → 1 ≤ length names → AllByRecursion IsName names → Apart (with_commas names)
names_apart [] some all = absurd (omega (arith, some))
names_apart (name ∷ names) some all = separated_apart (codes ",") (one_each (name ∷ names)) comma (omega arith) (ones_apart (name ∷ names) all)

-- a name, `=` and what is behind it
named_apart : (name : List ℕ) (rest : Words) → IsName name → Apart rest → Apart (name ∷ codes "=" ∷ rest)
named_apart name rest n r = then_behind (name ∷ []) (codes "=" ∷ rest) (word_apart name (name_word name n)) (sign_behind (codes "=") rest equals r)

sets_apart : (forms : List SetForm) (sets : List (List ℕ × Value)) → AllByRecursion IsSet forms → AllZip SaysSet forms sets → AllByRecursion Apart (map spelled_set (map set_form sets))
sets_apart [] [] all z = tt
sets_apart [] (s ∷ sets) all z = absurd z
sets_apart (f ∷ forms) [] all z = absurd z
sets_apart (f ∷ forms) (s ∷ sets) all z = (named_apart s.0 (value_words s.1) (subst IsName z.0.0 all.0.named) (written_apart f.1 s.1 z.0.1), sets_apart forms sets all.1 z.1)

parts_apart : Scripts → (forms : List PartForm) (parts : List Part) → AllByRecursion IsPart forms → AllZip SaysPart forms parts → AllByRecursion Apart (map spelled_part (map part_form parts))
parts_apart k [] [] all z = tt
parts_apart k [] (q ∷ parts) all z = absurd z
parts_apart k (f ∷ forms) [] all z = absurd z
parts_apart k (f ∷ forms) (q ∷ parts) all z =
    let names = names_apart q.1 (subst (λ (ns : List (List ℕ)). 1 ≤ length ns) z.0.1 all.0.some) (subst (AllByRecursion IsName) z.0.1 all.0.named) in (
      both_apart (printed_words q.0) (codes "among" ∷ with_commas q.1) (script_apart k false f.0 q.0 z.0.0)
          (both_apart (codes "among" ∷ []) (with_commas q.1) (word_apart (codes "among") (record { some = omega arith; all = refl })) names),
      parts_apart k forms parts all.1 z.1,
    )

one_more : (parts : List Words) (part : Words) → AllByRecursion Apart parts → Apart part → AllByRecursion Apart (parts ++ part ∷ [])
one_more [] part all p = (p, tt)
one_more (q ∷ parts) part all p = (all.0, one_more parts part all.1 p)

pieces_apart : Scripts → (n : ℕ) (parts : List PartForm) (over : Option Words) (body : Option Scripted) → AllByRecursion Apart (map spelled_part parts) → SaysBody n over body → AllByRecursion Apart (pieces_of parts (option_map printed_words body))
pieces_apart k n parts None None all s = all
pieces_apart k n parts None (Some b) all s = absurd s
pieces_apart k n parts (Some list) None all s = absurd s
pieces_apart k n parts (Some list) (Some b) all s = one_more (map spelled_part parts) (printed_words b) all (body_apart k (min n SELECTORS) list b (omega arith) s)

some_pieces : (parts : List PartForm) (over : Option Words) → 1 ≤ length parts → 1 ≤ length (pieces_of parts over)
some_pieces [] over h = absurd (omega (arith, h))
some_pieces (q ∷ parts) None h = omega arith
some_pieces (q ∷ parts) (Some list) h = omega arith

head_apart : (keyword name : List ℕ) (rest : Words) → IsWord keyword → IsName name → Apart rest → Apart (keyword ∷ name ∷ codes "=" ∷ rest)
head_apart keyword name rest w n r = both_apart (keyword ∷ []) (name ∷ codes "=" ∷ rest) (word_apart keyword w) (named_apart name rest n r)

looks_apart : (ws : Words) (looks : List (List ℕ)) → Apart ws → AllByRecursion IsName looks → Apart (ws ++ spelled_looks looks)
looks_apart ws [] a all = then_behind ws [] a none_behind
looks_apart ws (name ∷ looks) a all =
    both_apart ws (codes "look" ∷ with_commas (name ∷ looks)) a
    (both_apart (codes "look" ∷ []) (with_commas (name ∷ looks)) (word_apart (codes "look") (record { some = omega arith; all = refl })) (names_apart (name ∷ looks) (omega arith) all))

some_sets : (forms : List SetForm) (sets : List (List ℕ × Value)) → 1 ≤ length forms → AllZip SaysSet forms sets → 1 ≤ length (map spelled_set (map set_form sets))
some_sets [] sets h z = absurd (omega (arith, h))
some_sets (f ∷ forms) [] h z = absurd z
some_sets (f ∷ forms) (s ∷ sets) h z = omega arith

some_parts : (forms : List PartForm) (parts : List Part) → 1 ≤ length forms → AllZip SaysPart forms parts → 1 ≤ length (map part_form parts)
some_parts [] parts h z = absurd (omega (arith, h))
some_parts (f ∷ forms) [] h z = absurd z
some_parts (f ∷ forms) (q ∷ parts) h z = omega arith

-- words that are cut again as they were written
pub record Cuts (ws : Words) : Type 0 where
  pub stand : StandApart [] ws
  pub clean : AllByRecursion IsClean ws

cuts : (ws : Words) → Apart ws → Cuts ws
cuts ws a = record { stand = subst (StandApart []) (append-nil ws) (a.stand [] [] tt); clean = a.clean }

by_form : Scripts → (f : Form) (line : Line) → IsProper f → Says f line → Cuts (canonical_words line)
by_form k form.Nothing line p s = subst (λ (l : Line). Cuts (canonical_words l)) (sym s) (record { stand = tt; clean = tt })
by_form k (form.Source name start) line p s =
    subst (λ (l : Line). Cuts (canonical_words l)) (sym s.2) (cuts (codes "source" ∷ name ∷ codes "=" ∷ value_words s.0) (head_apart (codes "source") name (value_words s.0) (record { some = omega arith; all = refl }) p.0 (written_apart start s.0 s.1)))
by_form k (form.Signal name list) line p s =
    subst (λ (l : Line). Cuts (canonical_words l)) (sym s.2) (cuts (codes "signal" ∷ name ∷ codes "=" ∷ printed_words s.0) (head_apart (codes "signal") name (printed_words s.0) (record { some = omega arith; all = refl }) p (script_apart k false list s.0 s.1)))
by_form k (form.Fold name start list) line p s =
    let rest = value_words s.0 ++ codes ":" ∷ printed_words s.1 in
    subst (λ (l : Line). Cuts (canonical_words l)) (sym s.4)
    (cuts (codes "fold" ∷ name ∷ codes "=" ∷ rest)
    (head_apart (codes "fold") name rest (record { some = omega arith; all = refl }) p.0
    (then_behind (value_words s.0) (codes ":" ∷ printed_words s.1) (written_apart start s.0 s.2) (sign_behind (codes ":") (printed_words s.1) colon (script_apart k true list s.1 s.3)))))
by_form k (form.Choose name forms over) line p s =
    let pieces = pieces_of (map part_form s.0) (option_map printed_words s.1) in
    let rest = separated (codes ":") pieces in
    subst (λ (l : Line). Cuts (canonical_words l)) (sym s.4)
    (cuts (codes "choose" ∷ name ∷ codes "=" ∷ rest)
    (head_apart (codes "choose") name rest (record { some = omega arith; all = refl }) p.0
    (separated_apart (codes ":") pieces colon (some_pieces (map part_form s.0) (option_map printed_words s.1) (some_parts forms s.0 p.1 s.2))
    (pieces_apart k (length forms) (map part_form s.0) over s.1 (parts_apart k forms s.0 p.2 s.2) s.3))))
by_form k form.Thread line p s = subst (λ (l : Line). Cuts (canonical_words l)) (sym s) (cuts (codes "thread" ∷ []) (word_apart (codes "thread") (record { some = omega arith; all = refl })))
by_form k (form.Fire forms looks) line p s =
    let sets = separated (codes ",") (map spelled_set (map set_form s.0)) in
    subst (λ (l : Line). Cuts (canonical_words l)) (sym s.2)
    (cuts (codes "fire" ∷ (sets ++ spelled_looks looks))
    (both_apart (codes "fire" ∷ []) (sets ++ spelled_looks looks) (word_apart (codes "fire") (record { some = omega arith; all = refl }))
    (looks_apart sets looks (separated_apart (codes ",") (map spelled_set (map set_form s.0)) comma (some_sets forms s.0 p.0 s.1) (sets_apart forms s.0 p.1 s.1)) p.2)))
by_form k (form.Read looks) line p s =
    subst (λ (l : Line). Cuts (canonical_words l)) (sym s)
    (cuts (codes "read" ∷ with_commas looks) (both_apart (codes "read" ∷ []) (with_commas looks) (word_apart (codes "read") (record { some = omega arith; all = refl })) (names_apart looks p.0 p.1)))

-- the canonical words of a line stand apart
pub apart_again : Scripts → (list : Words) (line : Line) → IsLine list line → StandApart [] (canonical_words line)
apart_again k list line l = (by_form k l.f line l.fits.proper l.says).stand

-- so its canonical text is cut into the words that it was written of
pub cut_again : Scripts → ((list : Words) → StandApart [] list → words (joined list) ≡ list) → (list : Words) (line : Line) → IsLine list line → line_words (line_text line) ≡ canonical_words line
cut_again k back list line l =
    let known = by_form k l.f line l.fits.proper l.says in
    ap words (all_said (canonical_words line) known.clean) ∙ back (canonical_words line) known.stand

-- and it is one line
pub whole_again : Scripts → (list : Words) (line : Line) → IsLine list line → list_any is_end (line_text line) ≡ false
whole_again k list line l = behind_clean [] (canonical_words line) (by_form k l.f line l.fits.proper l.says).clean
