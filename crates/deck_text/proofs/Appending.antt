-- What the printer adds for a deck is its canonical text: it puts the canonical words of each line one by one.
use Rattle.std.proofs.Common.{◌≡◌, ℕ, ◌+◌, ◌≤◌, true, false, List, [], ◌∷◌, ◌++◌, length, get_or, drop, refl, sym, ap, ◌∙◌, arith, subst, append_assoc, append-nil, drop-drop}
use Rattle.std.proofs.lemmas.List.{get_or-drop}
use Rattle.std.specs.Prelude.{map, codes, Option, Some, None}
use Rattle.std.specs.List.{AllByRecursion, AllZip, flat_map, zip}
use Rattle.std.specs.Option.{option_map}
use Rattle.script_tree.specs.Printed.{value_text}
use Rattle.script_tree.specs.Scripts.{Scripted}
use Rattle.script_tree.specs.declared.value.Value.{Value}
use Rattle.expr_script.specs.Cut.{begins_word}
use Rattle.expr_script.specs.Joined.{joined, IsWhole, StandApart}
use Rattle.expr_script.specs.Printed.{printed, printed_words}
use Rattle.signal_graph.specs.declared.builder.DeclKind.{DeclKind}
use Rattle.signal_graph.specs.declared.builder.DeclKind.TheVariants as kind
use Rattle.signal_graph.specs.declared.call.Call.{Call}
use Rattle.signal_graph.specs.declared.call.Call.TheVariants.{Fire, Read}
use Rattle.signal_graph.specs.declared.node.Node.{Node}
use Rattle.signal_graph.specs.declared.node.Node.TheVariants.{Source, Signal, Fold, Choose}
use Rattle.signal_graph.specs.declared.node.Selector.{Selector}
use Rattle.signal_graph.specs.Declarations.{Part}
use Rattle.signal_graph.specs.Graph.{Graph, name_at}
use Rattle.deck_lines.specs.declared.line.Line.{Line}
use Rattle.deck_lines.specs.declared.line.Line.TheVariants.{Nothing, Declares, Thread, Calls}
use Rattle.deck_lines.specs.Canonical.{value_words, set_form, part_form, canonical_words}
use Rattle.deck_lines.specs.Cuts.{each_behind, separated}
use Rattle.deck_lines.specs.Forms as form
use Rattle.deck_lines.specs.Forms.{Words, SetForm, PartForm, Form, IsName, IsSet, IsPart, IsProper, with_commas, spelled_set, spelled_part, spelled_looks, pieces_of}
use Rattle.deck_lines.specs.Lines.{SaysSet, SaysPart, Says, IsLine}
use Rattle.deck_lines.proofs.Wholes.{colon, equals}
use Rattle.deck_text.specs.Appended.{ends_with_word, with_word, with_head, with_names, with_set, with_sets, with_more_sets, with_looks, with_call, with_calls, with_threads, with_selector, with_selectors, with_more_selectors, with_body, with_declaration, with_node, with_nodes, appended}
use Rattle.deck_text.specs.Decks.{Decked}
use Rattle.deck_text.specs.Kept.{IsCanonical}
use Rattle.deck_text.specs.Printed.{part_of, declaration, thread_lines, lines_of, line_and_feed, canonical}
use Rattle.deck_text.proofs.Putting.{put, added, AllWhole, added_on, all_parts, apart_whole, byte_ends, put_ends, joined_added, word_put, sign_put, name_put, names_added}

-- each value is printed as its words are joined
abbrev pub ValuesJoined : Type 0
ValuesJoined = (value : Value) → joined (value_words value) ≡ value_text value

value_added : ValuesJoined → (text : List ℕ) (value : Value) → ends_with_word text ≡ false → AllWhole (value_words value) → text ++ value_text value ≡ added text (value_words value)
value_added joins text value e h = ap (λ v. text ++ v) (sym (joins value)) ∙ joined_added text (value_words value) e h

-- a name and `=`
named_added : (text name : List ℕ) → IsName name → with_word text name ++ 61 ∷ [] ≡ put (put text name) (codes "=")
named_added text name n = ap (λ t. t ++ 61 ∷ []) (name_put text name n) ∙ sign_put (put text name) (codes "=") refl

abbrev set_words : List ℕ × Value → Words
set_words s = spelled_set (set_form s)

abbrev sets_words : List (List ℕ × Value) → List Words
sets_words sets = map spelled_set (map set_form sets)

abbrev NamedSet : List ℕ × Value → Type 0
NamedSet s = IsName s.0

set_added : ValuesJoined → (text : List ℕ) (s : List ℕ × Value) → NamedSet s → AllWhole (set_words s) → with_set text s ≡ added text (set_words s)
set_added joins text s n h =
    ap (λ t. t ++ value_text s.1) (named_added text s.0 n)
    ∙ value_added joins (put (put text s.0) (codes "=")) s.1 (put_ends (put text s.0) (codes "=") equals.whole) h.1.1

more_sets_added : ValuesJoined → (text : List ℕ) (sets : List (List ℕ × Value)) → AllByRecursion NamedSet sets → AllWhole (each_behind (codes ",") (sets_words sets))
    → with_more_sets text sets ≡ added text (each_behind (codes ",") (sets_words sets))
more_sets_added joins text [] n h = refl
more_sets_added joins text (s ∷ sets) n h =
    let rest = each_behind (codes ",") (sets_words sets) in
    let whole = all_parts IsWhole (set_words s) rest h.1 in
    let comma_put = put text (codes ",") in
    ap (λ t. with_more_sets (with_set t s) sets) (sign_put text (codes ",") refl)
    ∙ ap (λ t. with_more_sets t sets) (set_added joins comma_put s n.0 whole.0)
    ∙ more_sets_added joins (added comma_put (set_words s)) sets n.1 whole.1
    ∙ sym (added_on comma_put (set_words s) rest)

sets_added : ValuesJoined → (text : List ℕ) (sets : List (List ℕ × Value)) → AllByRecursion NamedSet sets → AllWhole (separated (codes ",") (sets_words sets)) → with_sets text sets ≡ added text (separated (codes ",") (sets_words sets))
sets_added joins text [] n h = refl
sets_added joins text (s ∷ sets) n h =
    let rest = each_behind (codes ",") (sets_words sets) in
    let whole = all_parts IsWhole (set_words s) rest h in
    ap (λ t. with_more_sets t sets) (set_added joins text s n.0 whole.0)
    ∙ more_sets_added joins (added text (set_words s)) sets n.1 whole.1
    ∙ sym (added_on text (set_words s) rest)

looks_added : (text : List ℕ) (looks : List (List ℕ)) → AllByRecursion IsName looks → with_looks text looks ≡ added text (spelled_looks looks)
looks_added text [] n = refl
looks_added text (name ∷ looks) n = ap (λ t. with_names t (name ∷ looks)) (word_put text (codes "look") refl) ∙ names_added (put text (codes "look")) (name ∷ looks) n

-- the candidates of a selector are names
abbrev NamedPart : Part → Type 0
NamedPart part = AllByRecursion IsName part.1

-- and a choose has a selector
abbrev NamedKind : DeclKind → Type 0
NamedKind (kind.Choose parts body) = (1 ≤ length parts) × AllByRecursion NamedPart parts
NamedKind what = Unit {0}

-- what a line names, it calls by names
abbrev Named : Line → Type 0
Named Nothing = Unit {0}
Named (Declares name what) = IsName name × NamedKind what
Named Thread = Unit {0}
Named (Calls (Fire sets looks)) = AllByRecursion NamedSet sets × AllByRecursion IsName looks
Named (Calls (Read looks)) = AllByRecursion IsName looks

-- a line whose words stand by themselves, and whose names are such
record Sound (line : Line) : Type 0 where
  whole : AllWhole (canonical_words line)
  named : Named line

-- a text with the words of a line and a line feed behind it
abbrev fed : List ℕ → Line → List ℕ
fed text line = added text (canonical_words line) ++ 10 ∷ []

call_added : ValuesJoined → (text : List ℕ) (call : Call) → Sound (Calls call) → with_call text call ≡ fed text (Calls call)
call_added joins text (Fire sets looks) s =
    let start = put text (codes "fire") in
    let setting = separated (codes ",") (sets_words sets) in
    let whole = all_parts IsWhole setting (spelled_looks looks) s.whole.1 in
    ap (λ t. with_looks (with_sets t sets) looks ++ 10 ∷ []) (word_put text (codes "fire") refl)
    ∙ ap (λ t. with_looks t looks ++ 10 ∷ []) (sets_added joins start sets s.named.0 whole.0)
    ∙ ap (λ t. t ++ 10 ∷ []) (looks_added (added start setting) looks s.named.1)
    ∙ ap (λ t. t ++ 10 ∷ []) (sym (added_on start setting (spelled_looks looks)))
call_added joins text (Read looks) s =
    ap (λ t. with_names t looks ++ 10 ∷ []) (word_put text (codes "read") refl)
    ∙ ap (λ t. t ++ 10 ∷ []) (names_added (put text (codes "read")) looks s.named)

abbrev selector_words : Graph → Selector → Words
selector_words graph s = spelled_part (part_form (part_of graph s))

abbrev selectors_words : Graph → List Selector → List Words
selectors_words graph selectors = map spelled_part (map part_form (map (part_of graph) selectors))

selector_added : (graph : Graph) (text : List ℕ) (s : Selector) → ends_with_word text ≡ false → NamedPart (part_of graph s) → AllWhole (selector_words graph s) → with_selector graph text s ≡ added text (selector_words graph s)
selector_added graph text s e n h =
    let script = printed_words s.script in
    let names = map (name_at graph) s.candidates in
    let whole = all_parts IsWhole script (codes "among" ∷ with_commas names) h in
    ap (λ t. with_names (with_word t (codes "among")) names) (joined_added text script e whole.0)
    ∙ ap (λ t. with_names t names) (word_put (added text script) (codes "among") refl)
    ∙ names_added (put (added text script) (codes "among")) names n
    ∙ sym (added_on text script (codes "among" ∷ with_commas names))

more_selectors_added : (graph : Graph) (text : List ℕ) (selectors : List Selector) → AllByRecursion NamedPart (map (part_of graph) selectors) → AllWhole (each_behind (codes ":") (selectors_words graph selectors))
    → with_more_selectors graph text selectors ≡ added text (each_behind (codes ":") (selectors_words graph selectors))
more_selectors_added graph text [] n h = refl
more_selectors_added graph text (s ∷ selectors) n h =
    let rest = each_behind (codes ":") (selectors_words graph selectors) in
    let whole = all_parts IsWhole (selector_words graph s) rest h.1 in
    let colon_put = put text (codes ":") in
    ap (λ t. with_more_selectors graph (with_selector graph t s) selectors) (sign_put text (codes ":") refl)
    ∙ ap (λ t. with_more_selectors graph t selectors) (selector_added graph colon_put s (put_ends text (codes ":") colon.whole) n.0 whole.0)
    ∙ more_selectors_added graph (added colon_put (selector_words graph s)) selectors n.1 whole.1
    ∙ sym (added_on colon_put (selector_words graph s) rest)

selectors_added : (graph : Graph) (text : List ℕ) (selectors : List Selector) → ends_with_word text ≡ false → AllByRecursion NamedPart (map (part_of graph) selectors) → AllWhole (separated (codes ":") (selectors_words graph selectors))
    → with_selectors graph text selectors ≡ added text (separated (codes ":") (selectors_words graph selectors))
selectors_added graph text [] e n h = refl
selectors_added graph text (s ∷ selectors) e n h =
    let rest = each_behind (codes ":") (selectors_words graph selectors) in
    let whole = all_parts IsWhole (selector_words graph s) rest h in
    ap (λ t. with_more_selectors graph t selectors) (selector_added graph text s e n.0 whole.0)
    ∙ more_selectors_added graph (added text (selector_words graph s)) selectors n.1 whole.1
    ∙ sym (added_on text (selector_words graph s) rest)

-- one more list behind a sign
each_more : (sign : List ℕ) (parts : List Words) (part : Words) → each_behind sign (parts ++ part ∷ []) ≡ each_behind sign parts ++ sign ∷ part
each_more sign [] part = ap (λ words. sign ∷ words) (append-nil part)
each_more sign (first ∷ parts) part = ap (λ words. sign ∷ (first ++ words)) (each_more sign parts part) ∙ ap (λ words. sign ∷ words) (sym (append_assoc first (each_behind sign parts) (sign ∷ part)))

separated_more : (sign : List ℕ) (first : Words) (parts : List Words) (part : Words) → separated sign (first ∷ (parts ++ part ∷ [])) ≡ separated sign (first ∷ parts) ++ sign ∷ part
separated_more sign first parts part = ap (λ words. first ++ words) (each_more sign parts part) ∙ sym (append_assoc first (each_behind sign parts) (sign ∷ part))

-- a script behind a colon
colon_added : (text : List ℕ) (script : Scripted) → AllWhole (printed_words script) → (text ++ 58 ∷ []) ++ printed script ≡ added text (codes ":" ∷ printed_words script)
colon_added text script h =
    ap (λ t. t ++ printed script) (sign_put text (codes ":") refl)
    ∙ joined_added (put text (codes ":")) (printed_words script) (put_ends text (codes ":") colon.whole) h

abbrev choose_words : Graph → List Selector → Option Scripted → Words
choose_words graph selectors body = separated (codes ":") (pieces_of (map part_form (map (part_of graph) selectors)) (option_map printed_words body))

choose_added : (graph : Graph) (text : List ℕ) (selectors : List Selector) (body : Option Scripted) → ends_with_word text ≡ false → NamedKind (kind.Choose (map (part_of graph) selectors) body) → AllWhole (choose_words graph selectors body)
    → with_body (with_selectors graph text selectors) body ≡ added text (choose_words graph selectors body)
choose_added graph text [] body e n h = absurd (omega (arith, n.0))
choose_added graph text (s ∷ selectors) None e n h = selectors_added graph text (s ∷ selectors) e n.1 h
choose_added graph text (s ∷ selectors) (Some body) e n h =
    let first = separated (codes ":") (selectors_words graph (s ∷ selectors)) in
    let more = separated_more (codes ":") (selector_words graph s) (selectors_words graph selectors) (printed_words body) in
    let whole = all_parts IsWhole first (codes ":" ∷ printed_words body) (subst AllWhole more h) in
    ap (λ t. (t ++ 58 ∷ []) ++ printed body) (selectors_added graph text (s ∷ selectors) e n.1 whole.0)
    ∙ colon_added (added text first) body whole.1.1
    ∙ sym (added_on text first (codes ":" ∷ printed_words body))
    ∙ ap (added text) (sym more)

-- the first words of a declaration
abbrev head : List ℕ → List ℕ → Words
head keyword name = keyword ∷ name ∷ codes "=" ∷ []

head_added : (text keyword name : List ℕ) → begins_word keyword ≡ true → IsName name → with_head text keyword name ≡ added text (head keyword name)
head_added text keyword name e n = ap (λ t. with_word t name ++ 61 ∷ []) (word_put text keyword e) ∙ named_added (put text keyword) name n

head_ends : (text keyword name : List ℕ) → ends_with_word (added text (head keyword name)) ≡ false
head_ends text keyword name = put_ends (put (put text keyword) name) (codes "=") equals.whole

declaration_added : ValuesJoined → (graph : Graph) (text name : List ℕ) (node : Node) → Sound (declaration graph (name, node)) → with_declaration graph text name node ≡ added text (canonical_words (declaration graph (name, node)))
declaration_added joins graph text name (Source start) s =
    ap (λ t. t ++ value_text start) (head_added text (codes "source") name refl s.named.0)
    ∙ value_added joins (added text (head (codes "source") name)) start (head_ends text (codes "source") name) s.whole.1.1.1
declaration_added joins graph text name (Signal script inputs) s =
    ap (λ t. t ++ printed script) (head_added text (codes "signal") name refl s.named.0)
    ∙ joined_added (added text (head (codes "signal") name)) (printed_words script) (head_ends text (codes "signal") name) s.whole.1.1.1
declaration_added joins graph text name (Fold start script inputs) s =
    let first = added text (head (codes "fold") name) in
    let rest = codes ":" ∷ printed_words script in
    let whole = all_parts IsWhole (value_words start) rest s.whole.1.1.1 in
    ap (λ t. ((t ++ value_text start) ++ 58 ∷ []) ++ printed script) (head_added text (codes "fold") name refl s.named.0)
    ∙ ap (λ t. (t ++ 58 ∷ []) ++ printed script) (value_added joins first start (head_ends text (codes "fold") name) whole.0)
    ∙ colon_added (added first (value_words start)) script whole.1.1
    ∙ sym (added_on first (value_words start) rest)
declaration_added joins graph text name (Choose selectors body inputs) s =
    ap (λ t. with_body (with_selectors graph t selectors) body) (head_added text (codes "choose") name refl s.named.0)
    ∙ choose_added graph (added text (head (codes "choose") name)) selectors body (head_ends text (codes "choose") name) s.named.1 s.whole.1.1.1

-- a text with lines behind it
abbrev added_lines : List ℕ → List Line → List ℕ
added_lines text [] = text
added_lines text (line ∷ lines) = added_lines (fed text line) lines

lines_on : (text : List ℕ) (a b : List Line) → added_lines text (a ++ b) ≡ added_lines (added_lines text a) b
lines_on text [] b = refl
lines_on text (line ∷ a) b = lines_on (fed text line) a b

lines_added : (text : List ℕ) (lines : List Line) → ends_with_word text ≡ false → AllByRecursion Sound lines → added_lines text lines ≡ text ++ flat_map line_and_feed lines
lines_added text [] e s = sym (append-nil text)
lines_added text (line ∷ lines) e s =
    let words = canonical_words line in
    let rest = flat_map line_and_feed lines in
    lines_added (fed text line) lines (byte_ends (added text words) 10) s.1
    ∙ ap (λ t. (t ++ 10 ∷ []) ++ rest) (sym (joined_added text words e s.0.whole))
    ∙ ap (λ t. t ++ rest) (append_assoc text (joined words) (10 ∷ []))
    ∙ append_assoc text (line_and_feed line) rest

-- the name of a node, by the names from it on
name_there : (graph : Graph) (n : ℕ) (name : List ℕ) (names : List (List ℕ)) → drop n graph.names ≡ name ∷ names → name_at graph n ≡ name
name_there graph n name names e = ap (name_at graph) {x = n} {y = n + 0} (omega arith) ∙ sym (get_or-drop n graph.names 0 []) ∙ ap (λ rest. get_or rest 0 []) e

-- the lines of nodes that begin at a number
nodes_added : ValuesJoined → (graph : Graph) (text : List ℕ) (n : ℕ) (names : List (List ℕ)) (nodes : List Node) → drop n graph.names ≡ names → length names ≡ length nodes → AllByRecursion Sound (map (declaration graph) (zip names nodes))
    → with_nodes graph text n nodes ≡ added_lines text (map (declaration graph) (zip names nodes))
nodes_added joins graph text n [] [] e l s = refl
nodes_added joins graph text n [] (node ∷ nodes) e l s = absurd (omega (arith, l))
nodes_added joins graph text n (name ∷ names) [] e l s = refl
nodes_added joins graph text n (name ∷ names) (node ∷ nodes) e l s =
    ap (λ m. with_nodes graph (with_node graph text m node) (n + 1) nodes) (name_there graph n name names e)
    ∙ ap (λ t. with_nodes graph (t ++ 10 ∷ []) (n + 1) nodes) (declaration_added joins graph text name node s.0)
    ∙ nodes_added joins graph (fed text (declaration graph (name, node))) (n + 1) names nodes (sym (drop-drop 1 n graph.names) ∙ ap (drop 1) e) (omega (arith, l)) s.1

calls_added : ValuesJoined → (text : List ℕ) (calls : List Call) → AllByRecursion Sound (map Calls calls) → with_calls text calls ≡ added_lines text (map Calls calls)
calls_added joins text [] s = refl
calls_added joins text (call ∷ calls) s = ap (λ t. with_calls t calls) (call_added joins text call s.0) ∙ calls_added joins (fed text (Calls call)) calls s.1

threads_added : ValuesJoined → (text : List ℕ) (threads : List (List Call)) → AllByRecursion Sound (flat_map thread_lines threads) → with_threads text threads ≡ added_lines text (flat_map thread_lines threads)
threads_added joins text [] s = refl
threads_added joins text (calls ∷ threads) s =
    let start = fed text Thread in
    let rest = flat_map thread_lines threads in
    let sound = all_parts Sound (map Calls calls) rest s.1 in
    ap (λ t. with_threads (with_calls (t ++ 10 ∷ []) calls) threads) (word_put text (codes "thread") refl)
    ∙ ap (λ t. with_threads t threads) (calls_added joins start calls sound.0)
    ∙ threads_added joins (added_lines start (map Calls calls)) threads sound.1
    ∙ sym (lines_on start (map Calls calls) rest)

deck_added : ValuesJoined → (deck : Decked) → length deck.graph.names ≡ length deck.graph.nodes → AllByRecursion Sound (lines_of deck) → appended deck ≡ canonical deck
deck_added joins deck l s =
    let declarations = map (declaration deck.graph) (zip deck.graph.names deck.graph.nodes) in
    let calls = flat_map thread_lines deck.scripts in
    let sound = all_parts Sound declarations calls s in
    ap (λ t. with_threads t deck.scripts) (nodes_added joins deck.graph [] 0 deck.graph.names deck.graph.nodes refl l sound.0)
    ∙ threads_added joins (added_lines [] declarations) deck.scripts sound.1
    ∙ sym (lines_on [] declarations calls)
    ∙ lines_added [] (lines_of deck) refl s

-- the names of what a form says are names
sets_named : (forms : List SetForm) (sets : List (List ℕ × Value)) → AllByRecursion IsSet forms → AllZip SaysSet forms sets → AllByRecursion NamedSet sets
sets_named [] [] p z = tt
sets_named [] (s ∷ sets) p z = absurd z
sets_named (f ∷ forms) [] p z = absurd z
sets_named (f ∷ forms) (s ∷ sets) p z = (subst IsName z.0.0 p.0.named, sets_named forms sets p.1 z.1)

parts_named : (forms : List PartForm) (parts : List Part) → AllByRecursion IsPart forms → AllZip SaysPart forms parts → AllByRecursion NamedPart parts
parts_named [] [] p z = tt
parts_named [] (q ∷ parts) p z = absurd z
parts_named (f ∷ forms) [] p z = absurd z
parts_named (f ∷ forms) (q ∷ parts) p z = (subst (AllByRecursion IsName) z.0.1 p.0.named, parts_named forms parts p.1 z.1)

some_parts : (forms : List PartForm) (parts : List Part) → AllZip SaysPart forms parts → 1 ≤ length forms → 1 ≤ length parts
some_parts [] parts z some = absurd (omega (arith, some))
some_parts (f ∷ forms) [] z some = absurd z
some_parts (f ∷ forms) (q ∷ parts) z some = omega arith

line_named : (f : Form) (line : Line) → IsProper f → Says f line → Named line
line_named form.Nothing line p s = subst Named (sym s) tt
line_named (form.Source name start) line p s = subst Named (sym s.2) (p.0, tt)
line_named (form.Signal name words) line p s = subst Named (sym s.2) (p, tt)
line_named (form.Fold name start words) line p s = subst Named (sym s.4) (p.0, tt)
line_named (form.Choose name forms over) line p s = subst Named (sym s.4) (p.0, (some_parts forms s.0 s.2 p.1, parts_named forms s.0 p.2 s.2))
line_named form.Thread line p s = subst Named (sym s) tt
line_named (form.Fire forms looks) line p s = subst Named (sym s.2) (sets_named forms s.0 p.1 s.1, p.2)
line_named (form.Read looks) line p s = subst Named (sym s) p.1

-- the canonical words of lines stand apart
abbrev pub LinesApart : Type 0
LinesApart = (words : Words) (line : Line) → IsLine words line → StandApart [] (canonical_words line)

line_sound : LinesApart → (line : Line) → IsCanonical line → Sound line
line_sound apart line i =
    let said = i.says in
    record { whole = apart_whole [] (canonical_words line) (apart (canonical_words line) line said); named = line_named said.f line said.fits.proper said.says }

lines_sound : LinesApart → (lines : List Line) → AllByRecursion IsCanonical lines → AllByRecursion Sound lines
lines_sound apart [] all = tt
lines_sound apart (line ∷ lines) all = (line_sound apart line all.0, lines_sound apart lines all.1)

-- what the printer adds for a deck is its canonical text, where each line is one that its canonical words say
pub appended_is_canonical : ValuesJoined → LinesApart → (deck : Decked) → length deck.graph.names ≡ length deck.graph.nodes → AllByRecursion IsCanonical (lines_of deck) → appended deck ≡ canonical deck
appended_is_canonical joins apart deck l all = deck_added joins deck l (lines_sound apart (lines_of deck) all)
