-- The canonical text of a deck is read as the same deck again.
use Rattle.std.proofs.Common.{◌≡◌, ◌≢◌, ℕ, suc, ◌+◌, ◌≤◌, ◌⊎◌, inl, inr, Bool, true, false, List, [], ◌∷◌, ◌++◌, length, map, refl, sym, ap, ◌∙◌, arith, subst, append_assoc, append-nil, length-append}
use Rattle.std.specs.Prelude.{if◌then◌else◌, Result, Ok, Err}
use Rattle.std.specs.List.{All, AllByRecursion, flat_map, list_any, onto_first}
use Rattle.std.proofs.lemmas.List.{map_push}
use Rattle.std.proofs.lemmas.List.Concat.{flat_map-append}
use Rattle.std.proofs.lemmas.List.Elements.{All-nil, All-from_recursion}
use Rattle.script_tree.specs.declared.limits.TheConstants.{DECK_BYTES}
use Rattle.signal_graph.specs.declared.call.Call.{Call}
use Rattle.deck_lines.specs.declared.line.Line as said_lines
use Rattle.deck_lines.specs.declared.line.Line.TheVariants as said
use Rattle.deck_lines.specs.Canonical.{canonical_words, line_text}
use Rattle.deck_lines.specs.Forms.{Words}
use Rattle.deck_lines.specs.Lines.{IsLine}
use Rattle.deck_lines.specs.Texts.{is_end, line_words}
use Rattle.deck_text.specs.declared.fault.DeckFault.{DeckFault}
use Rattle.deck_text.specs.declared.fault.DeckFault.TheVariants as fault
use Rattle.deck_text.specs.Appended.{CandidatesBelow}
use Rattle.deck_text.specs.Decks.{Decked}
use Rattle.deck_text.specs.Kept.{IsCanonical}
use Rattle.deck_text.specs.Lines.{is_line_feed, lines, with_line_feeds}
use Rattle.deck_text.specs.Printed.{thread_lines, lines_of, line_and_feed, canonical}
use Rattle.deck_text.specs.Reasons.{IsDeckFault, ReadsDeck}
use Rattle.deck_text.specs.Spelled.{Joins, Adds, Extends, Lead, Spell, SpellsDeck, nothing_yet}
use Rattle.deck_text.proofs.Declarations.{IsInOrder, order_declared, declarations, one_declared}

-- what is known of the canonical text of a line that some words say
pub record Again : Type 0 where
  pub says : (words : Words) (line : said_lines.Line) → IsLine words line → IsLine (canonical_words line) line
  pub back : (words : Words) (line : said_lines.Line) → IsLine words line → IsLine (line_words (line_text line)) line
  pub whole : (words : Words) (line : said_lines.Line) → IsLine words line → list_any is_end (line_text line) ≡ false
  pub short : (text : List ℕ) (line : said_lines.Line) → IsLine (line_words text) line → length (line_text line) ≤ length text

-- what is known of answers: bytes spell one deck, and those that spell a deck have no fault
pub record OneAnswer : Type 0 where
  pub deck : (bytes : List ℕ) (a b : Decked) → SpellsDeck bytes a → SpellsDeck bytes b → a ≡ b
  pub apart : (bytes : List ℕ) (deck : Decked) (f : DeckFault) → SpellsDeck bytes deck → IsDeckFault bytes f → f ≡ fault.Memory

-- a line leaves a graph in order
order_added : (line : said_lines.Line) (old new : Decked) → Adds line old new → IsInOrder old.graph → IsInOrder new.graph
order_added said.Nothing old new x h = subst (λ (d : Decked). IsInOrder d.graph) (sym x) h
order_added (said.Declares name kind) old new x h = subst IsInOrder (sym x.2) (order_declared old.graph name kind h)
order_added said.Thread old new x h = subst IsInOrder (sym x.1) h
order_added (said.Calls call) old new x h = subst IsInOrder (sym x.1) h

order_extended : (line : List ℕ) (old new : Decked) → Extends line old new → IsInOrder old.graph → IsInOrder new.graph
order_extended line old new x h = order_added x.said old new x.adds h

order_led : (text : List (List ℕ)) (old new : Decked) → Lead text old new → IsInOrder old.graph → IsInOrder new.graph
order_led [] old new l h = subst (λ (d : Decked). IsInOrder d.graph) (sym l) h
order_led (line ∷ rest) old new l h = order_led rest l.0 new l.2 (order_extended line old l.0 l.1 h)

nothing_in_order : IsInOrder nothing_yet.graph
nothing_in_order = record { even = refl; candidates = All-nil (CandidatesBelow 0) }

in_order : (text : List (List ℕ)) (deck : Decked) → Spell text deck → IsInOrder deck.graph
in_order text deck s = order_led text nothing_yet deck s.lead nothing_in_order

-- a graph has as many names as nodes
pub canonical_even : (text : List (List ℕ)) (deck : Decked) → Spell text deck → length deck.graph.names ≡ length deck.graph.nodes
canonical_even text deck s = (in_order text deck s).even

no_threads : (deck : Decked) → deck.scripts ≡ [] → lines_of deck ≡ declarations deck.graph
no_threads deck e = ap (λ scripts. declarations deck.graph ++ flat_map thread_lines scripts) e ∙ append-nil (declarations deck.graph)

-- a declaration is the last line of a deck that has no threads
last_declared : (old new : Decked) (line : said_lines.Line) → old.scripts ≡ [] → new.scripts ≡ [] → declarations new.graph ≡ declarations old.graph ++ line ∷ [] → lines_of new ≡ lines_of old ++ line ∷ []
last_declared old new line before after e = no_threads new after ∙ e ∙ ap (λ ls. ls ++ line ∷ []) (sym (no_threads old before))

-- the last line of a deck's threads is its last line
last_of_threads : (old new : Decked) (line : said_lines.Line) → new.graph ≡ old.graph → flat_map thread_lines new.scripts ≡ flat_map thread_lines old.scripts ++ line ∷ [] → lines_of new ≡ lines_of old ++ line ∷ []
last_of_threads old new line g e =
    ap (λ graph. declarations graph ++ flat_map thread_lines new.scripts) g
    ∙ ap (λ ls. declarations old.graph ++ ls) e
    ∙ sym (append_assoc (declarations old.graph) (flat_map thread_lines old.scripts) (line ∷ []))

call_last : (call : Call) (old new : List (List Call)) → Joins call old new → flat_map thread_lines new ≡ flat_map thread_lines old ++ said.Calls call ∷ []
call_last call old new j = rw (j.is, j.was) (simp (flat_map-append, map_push, append-nil, append_assoc))

-- a line says nothing and adds nothing, or it becomes a deck's last line
line_added : (line : said_lines.Line) (old new : Decked) → IsInOrder old.graph → Adds line old new → (new ≡ old) ⊎ (lines_of new ≡ lines_of old ++ line ∷ [])
line_added said.Nothing old new h x = inl x
line_added (said.Declares name kind) old new h x = inr (last_declared old new (said.Declares name kind) x.0 x.3 (ap declarations x.2 ∙ one_declared old.graph name kind h x.1))
line_added said.Thread old new h x = inr (last_of_threads old new said.Thread x.1 (ap (flat_map thread_lines) x.2 ∙ flat_map-append thread_lines old.scripts ([] ∷ [])))
line_added (said.Calls call) old new h x = inr (last_of_threads old new (said.Calls call) x.1 (call_last call old.scripts new.scripts x.0))

-- what a text adds to a deck, in canonical lines: they lead to the same deck as the text
record Retold (text : List (List ℕ)) (old new : Decked) : Type 0 where
  added : List said_lines.Line
  same : lines_of new ≡ lines_of old ++ added
  lead : Lead (map line_text added) old new
  each : AllByRecursion IsCanonical added
  short : with_line_feeds (map line_text added) ≤ with_line_feeds text

-- what a line says extends a deck in its canonical text too
extends_again : Again → (line : List ℕ) (old new : Decked) (x : Extends line old new) → Extends (line_text x.said) old new
extends_again again line old new x =
    let shorter = again.short line x.said x.says in
    let short = x.short in
    record { short = omega (arith, shorter, short); said = x.said; says = again.back (line_words line) x.said x.says; adds = x.adds }

retold_more : Again → (line : List ℕ) (rest : List (List ℕ)) (old next new : Decked) (x : Extends line old next)
    → (next ≡ old) ⊎ (lines_of next ≡ lines_of old ++ x.said ∷ []) → Retold rest next new → Retold (line ∷ rest) old new
retold_more again line rest old next new x (inl e) r =
    let short = r.short in
    subst (λ (d : Decked). Retold (line ∷ rest) d new) e (record { added = r.added; same = r.same; lead = r.lead; each = r.each; short = omega (arith, short) })
retold_more again line rest old next new x (inr e) r =
    let first = again.short line x.said x.says in
    let others = r.short in
    let extends = extends_again again line old next x in
    record {
      added = x.said ∷ r.added;
      same = r.same ∙ ap (λ ls. ls ++ r.added) e ∙ append_assoc (lines_of old) (x.said ∷ []) r.added;
      lead = (next, extends, r.lead);
      each = (record { says = again.says (line_words line) x.said x.says; short = extends.short }, r.each);
      short = omega (arith, first, others);
    }

retold : Again → (text : List (List ℕ)) (old new : Decked) → IsInOrder old.graph → Lead text old new → Retold text old new
retold again [] old new h l = record { added = []; same = ap lines_of l ∙ sym (append-nil (lines_of old)); lead = l; each = tt; short = omega arith }
retold again (line ∷ rest) old new h l =
    retold_more again line rest old l.0 new l.1 (line_added l.1.said old l.0 h l.1.adds) (retold again rest l.0 new (order_extended line old l.0 l.1 h) l.2)

-- the lines of a deck are all that its text adds
retold_whole : Again → (text : List (List ℕ)) (deck : Decked) → Spell text deck → Retold text nothing_yet deck
retold_whole again text deck s = retold again text nothing_yet deck nothing_in_order s.lead

-- a line that holds no byte that ends one is cut at its line feed
line_cut : (line rest : List ℕ) → list_any is_end line ≡ false → lines ((line ++ 10 ∷ []) ++ rest) ≡ line ∷ lines rest
line_cut [] rest h = refl
line_cut (b ∷ line) rest h =
    let inner : is_line_feed b ≡ false = grind (arith, h) in
    let others : list_any is_end line ≡ false = grind (arith, h) in
    let behind = line_cut line rest others in
    rw (inner, behind) refl

cut_again : Again → (ls : List said_lines.Line) → AllByRecursion IsCanonical ls → lines (flat_map line_and_feed ls) ≡ map line_text ls
cut_again again [] h = refl
cut_again again (line ∷ ls) h =
    line_cut (line_text line) (flat_map line_and_feed ls) (again.whole (canonical_words line) line h.0.says)
    ∙ ap (λ more. line_text line ∷ more) (cut_again again ls h.1)

-- printed lines are as long as their texts with line feeds
printed_length : (ls : List said_lines.Line) → length (flat_map line_and_feed ls) ≡ with_line_feeds (map line_text ls)
printed_length [] = refl
printed_length (line ∷ ls) =
    let rest = printed_length ls in
    let all = length-append (line_and_feed line) (flat_map line_and_feed ls) in
    let first = length-append (line_text line) (10 ∷ []) in
    omega (arith, rest, all, first)

fed_byte : (ends : Bool) (b n : ℕ) (ls : List (List ℕ)) → with_line_feeds ls ≤ n + 1 → with_line_feeds (if ends then [] ∷ ls else onto_first b ls) ≤ suc n + 1
fed_byte true b n ls h = omega (arith, h)
fed_byte false b n [] h = omega arith
fed_byte false b n (line ∷ ls) h = omega (arith, h)

-- a text lacks at most the last line feed of its lines
fed_lines : (text : List ℕ) → with_line_feeds (lines text) ≤ length text + 1
fed_lines [] = omega arith
fed_lines (b ∷ text) = fed_byte (is_line_feed b) b (length text) (lines text) (fed_lines text)

-- the canonical words of each line of a deck say it
pub canonical_each_by_recursion : Again → (text : List (List ℕ)) (deck : Decked) → Spell text deck → AllByRecursion IsCanonical (lines_of deck)
canonical_each_by_recursion again text deck s = let r = retold_whole again text deck s in subst (AllByRecursion IsCanonical) (sym r.same) r.each

pub canonical_each : Again → (text : List (List ℕ)) (deck : Decked) → Spell text deck → All IsCanonical (lines_of deck)
canonical_each again text deck s = All-from_recursion IsCanonical (lines_of deck) (canonical_each_by_recursion again text deck s)

-- the canonical text of a deck is cut into the deck's lines
pub canonical_lines : Again → (text : List (List ℕ)) (deck : Decked) → Spell text deck → lines (canonical deck) ≡ map line_text (lines_of deck)
canonical_lines again text deck s = cut_again again (lines_of deck) (canonical_each_by_recursion again text deck s)

-- which spell the deck
pub canonical_back : Again → (text : List (List ℕ)) (deck : Decked) → Spell text deck → length (canonical deck) ≤ DECK_BYTES → SpellsDeck (canonical deck) deck
canonical_back again text deck s short =
    let r = retold_whole again text deck s in
    let same = ap (map line_text) (sym r.same) ∙ sym (canonical_lines again text deck s) in
    record { short = short; spells = record { lead = subst (λ (ls : List (List ℕ)). Lead ls nothing_yet deck) same r.lead; thread = s.thread } }

-- bytes that spell a deck are no shorter than its canonical text, but for a last line feed
pub canonical_short : Again → (bytes : List ℕ) (deck : Decked) → SpellsDeck bytes deck → length (canonical deck) ≤ length bytes + 1
canonical_short again bytes deck s =
    let r = retold_whole again (lines bytes) deck s.spells in
    let short = r.short in
    let same = ap (λ ls. with_line_feeds (map line_text ls)) r.same in
    let long = printed_length (lines_of deck) in
    let fed = fed_lines bytes in
    omega (arith, short, same, long, fed)

-- want of memory aside, the one right answer for the canonical text of a deck is the deck
pub canonical_again : Again → OneAnswer → (text : List (List ℕ)) (deck : Decked) (answer : Result Decked DeckFault) → Spell text deck
    → length (canonical deck) ≤ DECK_BYTES → ReadsDeck (canonical deck) answer → answer ≢ Err fault.Memory → answer ≡ Ok deck
canonical_again again one text deck (Ok d) s short h some = ap Ok (one.deck (canonical deck) d deck h (canonical_back again text deck s short))
canonical_again again one text deck (Err f) s short h some = absurd (some (ap Err (one.apart (canonical deck) deck f (canonical_back again text deck s short) h)))
