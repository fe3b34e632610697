-- The deck that lines spell.
use Rattle.std.specs.Prelude.{◌≡◌, ◌<◌, ◌≤◌, ℕ, List, [], ◌∷◌, ◌++◌, length, None}
use Rattle.script_tree.specs.declared.limits.TheConstants.{DECK_BYTES, LINE_BYTES, THREADS}
use Rattle.signal_graph.specs.declared.call.Call.{Call}
use Rattle.signal_graph.specs.Declarations.{refusal, with_declaration}
use Rattle.signal_graph.specs.Graph.{no_nodes}
use Rattle.deck_lines.specs.declared.line.Line.{Line}
use Rattle.deck_lines.specs.declared.line.Line.TheVariants.{Nothing, Declares, Thread, Calls}
use Rattle.deck_lines.specs.Lines.{IsLine}
use Rattle.deck_lines.specs.Texts.{line_words}
use Rattle.deck_text.specs.Decks.{Decked}
use Rattle.deck_text.specs.Lines.{lines}

-- a call joins the newest thread
pub record Joins (call : Call) (old new : List (List Call)) : Type 0 where
  pub earlier : List (List Call)
  pub newest : List Call
  pub was : old ≡ earlier ++ newest ∷ []
  pub is : new ≡ earlier ++ (newest ++ call ∷ []) ∷ []

-- what a line adds to a deck: declarations stand before the first thread, and calls behind one
abbrev pub Adds : Line → Decked → Decked → Type 0
Adds Nothing old new = new ≡ old
Adds (Declares name kind) old new = (old.scripts ≡ []) × (refusal old.graph name kind ≡ None)
    × (new.graph ≡ with_declaration old.graph name kind) × (new.scripts ≡ [])
Adds Thread old new = (length old.scripts < THREADS) × (new.graph ≡ old.graph) × (new.scripts ≡ old.scripts ++ [] ∷ [])
Adds (Calls call) old new = Joins call old.scripts new.scripts × (new.graph ≡ old.graph)

-- a line that is not too long says something, which joins a deck
pub record Extends (line : List ℕ) (old new : Decked) : Type 0 where
  pub short : length line ≤ LINE_BYTES
  pub said : Line
  pub says : IsLine (line_words line) said
  pub adds : Adds said old new

-- lines lead from one deck to another, each without a fault
abbrev pub Lead : List (List ℕ) → Decked → Decked → Type 0
Lead [] old new = new ≡ old
Lead (line ∷ rest) old new = (next : Decked) × Extends line old next × Lead rest next new

abbrev pub nothing_yet : Decked
nothing_yet = record { graph = no_nodes; scripts = [] }

-- lines spell a deck: they lead to it from nothing, and one of them begins a thread
pub record Spell (text : List (List ℕ)) (deck : Decked) : Type 0 where
  pub lead : Lead text nothing_yet deck
  pub thread : 1 ≤ length deck.scripts

-- no line is faulty, and none begins a thread
pub record HasNoThread (text : List (List ℕ)) : Type 0 where
  pub deck : Decked
  pub lead : Lead text nothing_yet deck
  pub none : deck.scripts ≡ []

-- bytes spell a deck: there are not too many, and their lines spell it
pub record SpellsDeck (bytes : List ℕ) (deck : Decked) : Type 0 where
  pub short : length bytes ≤ DECK_BYTES
  pub spells : Spell (lines bytes) deck
