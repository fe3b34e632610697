-- What the parts of the printer add. Each definition is a text with something added at its end: a space stands before a
-- word where the text ends with one. That what is added for a whole deck is its canonical text is a law.
use Rattle.std.specs.Prelude.{ℕ, ◌+◌, ◌-◌, ◌<◌, Bool, false, if◌then◌else◌, List, [], ◌∷◌}
use Rattle.std.specs.Prelude.{◌++◌, length, map, codes, slice_get, All, Option, Some, None}
use Rattle.std.specs.Option.{option_map_or}
use Rattle.script_tree.specs.Names.{is_word}
use Rattle.script_tree.specs.Scripts.{Scripted}
use Rattle.script_tree.specs.declared.value.Value.{Value}
use Rattle.script_tree.specs.Printed.{value_text}
use Rattle.expr_script.specs.Printed.{printed}
use Rattle.signal_graph.specs.declared.call.Call.{Call}
use Rattle.signal_graph.specs.declared.call.Call.TheVariants.{Fire, Read}
use Rattle.signal_graph.specs.declared.node.Selector.{Selector}
use Rattle.signal_graph.specs.declared.node.Node.{Node}
use Rattle.signal_graph.specs.declared.node.Node.TheVariants.{Source, Signal, Fold, Choose}
use Rattle.signal_graph.specs.Graph.{Graph, name_at}
use Rattle.deck_text.specs.Decks.{Decked}

-- whether a text ends with a byte of a word
abbrev pub ends_with_word : List ℕ → Bool
ends_with_word text = option_map_or is_word (slice_get text (length text - 1)) false

-- a word, with a space before it where it follows another one
abbrev pub with_word : List ℕ → List ℕ → List ℕ
with_word text word = (if ends_with_word text then text ++ 32 ∷ [] else text) ++ word

-- the word of a declaration, the declared name and `=`
abbrev pub with_head : List ℕ → List ℕ → List ℕ → List ℕ
with_head text word name = with_word (with_word text word) name ++ 61 ∷ []

-- names, each behind a comma
abbrev pub with_more_names : List ℕ → List (List ℕ) → List ℕ
with_more_names text [] = text
with_more_names text (name ∷ names) = with_more_names (with_word (text ++ 44 ∷ []) name) names

-- names, separated by commas
abbrev pub with_names : List ℕ → List (List ℕ) → List ℕ
with_names text [] = text
with_names text (name ∷ names) = with_more_names (with_word text name) names

-- a name, `=` and a value
abbrev pub with_set : List ℕ → List ℕ × Value → List ℕ
with_set text s = (with_word text s.0 ++ 61 ∷ []) ++ value_text s.1

abbrev pub with_more_sets : List ℕ → List (List ℕ × Value) → List ℕ
with_more_sets text [] = text
with_more_sets text (s ∷ sets) = with_more_sets (with_set (text ++ 44 ∷ []) s) sets

-- sets, separated by commas
abbrev pub with_sets : List ℕ → List (List ℕ × Value) → List ℕ
with_sets text [] = text
with_sets text (s ∷ sets) = with_more_sets (with_set text s) sets

-- the looks of a fire
abbrev pub with_looks : List ℕ → List (List ℕ) → List ℕ
with_looks text [] = text
with_looks text (name ∷ names) = with_names (with_word text (codes "look")) (name ∷ names)

-- the line of a call
abbrev pub with_call : List ℕ → Call → List ℕ
with_call text (Fire sets looks) = with_looks (with_sets (with_word text (codes "fire")) sets) looks ++ 10 ∷ []
with_call text (Read looks) = with_names (with_word text (codes "read")) looks ++ 10 ∷ []

abbrev pub with_calls : List ℕ → List Call → List ℕ
with_calls text [] = text
with_calls text (call ∷ calls) = with_calls (with_call text call) calls

-- the line of a thread, and the lines of its calls
abbrev pub with_thread : List ℕ → List Call → List ℕ
with_thread text calls = with_calls (with_word text (codes "thread") ++ 10 ∷ []) calls

abbrev pub with_threads : List ℕ → List (List Call) → List ℕ
with_threads text [] = text
with_threads text (calls ∷ threads) = with_threads (with_thread text calls) threads

-- a selector: its script, `among` and its candidates
abbrev pub with_selector : Graph → List ℕ → Selector → List ℕ
with_selector graph text s = with_names (with_word (text ++ printed s.script) (codes "among")) (map (name_at graph) s.candidates)

abbrev pub with_more_selectors : Graph → List ℕ → List Selector → List ℕ
with_more_selectors graph text [] = text
with_more_selectors graph text (s ∷ selectors) = with_more_selectors graph (with_selector graph (text ++ 58 ∷ []) s) selectors

-- selectors, separated by colons
abbrev pub with_selectors : Graph → List ℕ → List Selector → List ℕ
with_selectors graph text [] = text
with_selectors graph text (s ∷ selectors) = with_more_selectors graph (with_selector graph text s) selectors

-- a body, behind a colon
abbrev pub with_body : List ℕ → Option Scripted → List ℕ
with_body text None = text
with_body text (Some body) = (text ++ 58 ∷ []) ++ printed body

-- a declaration
abbrev pub with_declaration : Graph → List ℕ → List ℕ → Node → List ℕ
with_declaration graph text name (Source start) = with_head text (codes "source") name ++ value_text start
with_declaration graph text name (Signal script inputs) = with_head text (codes "signal") name ++ printed script
with_declaration graph text name (Fold start script inputs) = ((with_head text (codes "fold") name ++ value_text start) ++ 58 ∷ [])
    ++ printed script
with_declaration graph text name (Choose selectors body inputs) =
    with_body (with_selectors graph (with_head text (codes "choose") name) selectors) body

-- its line
abbrev pub with_node : Graph → List ℕ → List ℕ → Node → List ℕ
with_node graph text name node = with_declaration graph text name node ++ 10 ∷ []

-- the lines of nodes whose numbers count from n
abbrev pub with_nodes : Graph → List ℕ → ℕ → List Node → List ℕ
with_nodes graph text n [] = text
with_nodes graph text n (node ∷ nodes) = with_nodes graph (with_node graph text (name_at graph n) node) (n + 1) nodes

-- what is added for a whole deck
abbrev pub appended : Decked → List ℕ
appended deck = with_threads (with_nodes deck.graph [] 0 deck.graph.nodes) deck.scripts

-- the candidates of selectors are below a number
abbrev pub CandidatesBelow : ℕ → Node → Type 0
CandidatesBelow n (Choose selectors body inputs) = All (λ s. All (λ m. m < n) s.candidates) selectors
CandidatesBelow n node = Unit {0}
