-- Why a line is refused: the reasons in their order, of which the first one counts.
use Rattle.std.specs.Prelude.{◌≡◌, ◌<◌, ◌≤◌, ◌+◌, ℕ, ◌⊎◌, List, [], ◌∷◌, ◌++◌, length, Some, Result, Ok, Err}
use Rattle.script_tree.specs.declared.limits.TheConstants.{DECK_BYTES, LINE_BYTES, NODES, THREADS}
use Rattle.signal_graph.specs.declared.builder.DeclKind.{DeclKind}
use Rattle.signal_graph.specs.declared.builder.GraphFault.{GraphFault}
use Rattle.signal_graph.specs.declared.builder.GraphFault.TheVariants as graph
use Rattle.signal_graph.specs.Declarations.{refusal}
use Rattle.deck_lines.specs.declared.fault.Limit.TheVariants as limit
use Rattle.deck_lines.specs.declared.fault.LineFault.TheVariants as line
use Rattle.deck_lines.specs.declared.line.Line.TheVariants.{Declares}
use Rattle.deck_lines.specs.Forms as form
use Rattle.deck_lines.specs.Forms.{Words, Form, Fits}
use Rattle.deck_lines.specs.Lines.{IsLine, IsLineFault}
use Rattle.deck_lines.specs.Texts.{line_words}
use Rattle.deck_text.specs.declared.fault.What.TheVariants.{Bytes, Nodes, Threads, Levels, Inputs, Candidates, Selectors, Sets, Looks}
use Rattle.deck_text.specs.declared.fault.DeckFault.{DeckFault}
use Rattle.deck_text.specs.declared.fault.DeckFault.TheVariants as fault
use Rattle.deck_text.specs.declared.reason.Reason.{Reason}
use Rattle.deck_text.specs.declared.reason.Reason.TheVariants.{LineTooLong, Syntax, TooMany, DoubleName, UnknownInput, Memory}
use Rattle.deck_text.specs.Decks.{Decked}
use Rattle.deck_text.specs.Lines.{lines, end_of}
use Rattle.deck_text.specs.Spelled.{Lead, HasNoThread, SpellsDeck, nothing_yet}

-- what a line is for, by its form
pub data Part : Type 0 where
  Silent : Part
  Declaring : Part
  Beginning : Part
  Calling : Part

abbrev pub part_of : Form → Part
part_of form.Nothing = Silent
part_of (form.Source name start) = Declaring
part_of (form.Signal name script) = Declaring
part_of (form.Fold name start script) = Declaring
part_of (form.Choose name parts over) = Declaring
part_of form.Thread = Beginning
part_of (form.Fire sets looks) = Calling
part_of (form.Read looks) = Calling

-- the form that words have is for this
pub record Are (words : Words) (part : Part) : Type 0 where
  pub f : Form
  pub fits : Fits words f
  pub for : part_of f ≡ part

-- a declaration behind a thread, or a call before any
abbrev pub AreMisplaced : Words → Decked → Type 0
AreMisplaced words deck = (Are words Declaring × (1 ≤ length deck.scripts)) ⊎ (Are words Calling × (deck.scripts ≡ []))

-- words declare a node that a graph refuses for a fault
pub record AreDenied (words : Words) (deck : Decked) (fault : GraphFault) : Type 0 where
  pub name : List ℕ
  pub kind : DeclKind
  pub says : IsLine words (Declares name kind)
  pub refused : refusal deck.graph name kind ≡ Some fault

-- a line in its place: the deck that the lines before it lead to, how many bytes there are up to its end, and its own bytes
pub record Place : Type 0 where
  pub deck : Decked
  pub end : ℕ
  pub line : List ℕ

-- a reason to refuse a line is there, whatever others are
abbrev pub Has : Place → Reason → Type 0
Has p (TooMany Bytes) = DECK_BYTES < p.end
Has p LineTooLong = LINE_BYTES < length p.line
Has p Syntax = IsLineFault (line_words p.line) line.Syntax ⊎ AreMisplaced (line_words p.line) p.deck
Has p (TooMany Nodes) = Are (line_words p.line) Declaring × (NODES ≤ length p.deck.graph.nodes)
Has p (TooMany Threads) = Are (line_words p.line) Beginning × (THREADS ≤ length p.deck.scripts)
Has p (TooMany Levels) = IsLineFault (line_words p.line) (line.TooMany limit.Levels)
Has p (TooMany Inputs) = IsLineFault (line_words p.line) (line.TooMany limit.Inputs)
Has p (TooMany Candidates) = IsLineFault (line_words p.line) (line.TooMany limit.Candidates)
Has p (TooMany Selectors) = IsLineFault (line_words p.line) (line.TooMany limit.Selectors)
Has p (TooMany Sets) = IsLineFault (line_words p.line) (line.TooMany limit.Sets)
Has p (TooMany Looks) = IsLineFault (line_words p.line) (line.TooMany limit.Looks)
Has p DoubleName = AreDenied (line_words p.line) p.deck graph.DoubleName
Has p UnknownInput = (name : List ℕ) × AreDenied (line_words p.line) p.deck (graph.UnknownInput name)
Has p Memory = ⊥

-- all reasons in their order
abbrev pub reasons : List Reason
reasons = TooMany Bytes ∷ LineTooLong ∷ Syntax ∷ TooMany Nodes ∷ TooMany Threads ∷ TooMany Levels ∷ TooMany Inputs ∷ TooMany Candidates
    ∷ TooMany Selectors ∷ TooMany Sets ∷ TooMany Looks ∷ DoubleName ∷ UnknownInput ∷ []

-- the first of some reasons that is there
abbrev pub IsFirstOf : List Reason → Place → Reason → Type 0
IsFirstOf [] p reason = ⊥
IsFirstOf (r ∷ more) p reason = ((reason ≡ r) × Has p r) ⊎ ((Has p r → ⊥) × IsFirstOf more p reason)

-- the line of this number is refused for a reason: the lines before it lead to a deck within the bytes of one, and of all reasons it is
-- the line's first
pub record IsFaultyLine (bytes : List ℕ) (number : ℕ) (reason : Reason) : Type 0 where
  pub before : List (List ℕ)
  pub line : List ℕ
  pub rest : List (List ℕ)
  pub cut : lines bytes ≡ before ++ line ∷ rest
  pub counted : number ≡ length before + 1
  pub deck : Decked
  pub lead : Lead before nothing_yet deck
  pub within : end_of bytes before ≤ DECK_BYTES
  pub first : IsFirstOf reasons (record { deck = deck; end = end_of bytes (before ++ line ∷ []); line = line }) reason

-- no line is faulty, and none begins a thread
pub record IsThreadless (bytes : List ℕ) : Type 0 where
  pub short : length bytes ≤ DECK_BYTES
  pub none : HasNoThread (lines bytes)

-- why bytes spell no deck: the first faulty line with its first reason, or no thread; want of memory may always come
abbrev pub IsDeckFault : List ℕ → DeckFault → Type 0
IsDeckFault bytes (fault.Syntax number) = IsFaultyLine bytes number Syntax
IsDeckFault bytes (fault.DoubleName number) = IsFaultyLine bytes number DoubleName
IsDeckFault bytes (fault.UnknownInput number) = IsFaultyLine bytes number UnknownInput
IsDeckFault bytes (fault.TooMany number what) = IsFaultyLine bytes number (TooMany what)
IsDeckFault bytes (fault.LineTooLong number) = IsFaultyLine bytes number LineTooLong
IsDeckFault bytes fault.NoThread = IsThreadless bytes
IsDeckFault bytes fault.Memory = Unit {0}

-- bytes are read as the deck that they spell, or refused for the first reason of their first faulty line
abbrev pub ReadsDeck : List ℕ → Result Decked DeckFault → Type 0
ReadsDeck bytes (Ok deck) = SpellsDeck bytes deck
ReadsDeck bytes (Err fault) = IsDeckFault bytes fault
