-- What the reader of a deck refuses, call by call.
use Rattle.std.specs.Prelude.{◌≡◌, ◌<◌, ◌≤◌, ℕ, true, false, List, [], length, Some}
use Rattle.script_tree.specs.declared.limits.TheConstants.{NODES, THREADS}
use Rattle.signal_graph.specs.declared.builder.DeclKind.{DeclKind}
use Rattle.signal_graph.specs.declared.builder.GraphFault.TheVariants as graph
use Rattle.signal_graph.specs.Declarations.{refusal}
use Rattle.deck_lines.specs.declared.fault.Limit.{Limit}
use Rattle.deck_lines.specs.declared.fault.Limit.TheVariants as limit
use Rattle.deck_lines.specs.declared.fault.LineFault.{LineFault}
use Rattle.deck_lines.specs.declared.fault.LineFault.TheVariants as line
use Rattle.deck_lines.specs.declared.line.Line.{Line}
use Rattle.deck_lines.specs.declared.line.Line.TheVariants.{Nothing, Declares, Thread, Calls}
use Rattle.deck_text.specs.declared.fault.What.TheVariants.{Nodes, Threads}
use Rattle.deck_text.specs.declared.reader.Reader.{Reader}
use Rattle.deck_text.specs.declared.reason.Reason.{Reason}
use Rattle.deck_text.specs.declared.reason.Reason.TheVariants.{Syntax, TooMany, DoubleName, UnknownInput, Memory}
use Rattle.deck_text.specs.Decks.{Decked}
use Rattle.deck_text.specs.Faults.{limit_reason}
use Rattle.deck_text.specs.Reasons.{Place, IsFirstOf, reasons}

-- why a deck takes no declaration
abbrev pub NotDeclared : Decked → List ℕ → DeclKind → Reason → Type 0
NotDeclared deck name kind Syntax = 1 ≤ length deck.scripts
NotDeclared deck name kind (TooMany Nodes) = (deck.scripts ≡ []) × (refusal deck.graph name kind ≡ Some graph.TooManyNodes)
NotDeclared deck name kind DoubleName = (deck.scripts ≡ []) × (refusal deck.graph name kind ≡ Some graph.DoubleName)
NotDeclared deck name kind UnknownInput = (deck.scripts ≡ []) × (unknown : List ℕ)
    × (refusal deck.graph name kind ≡ Some (graph.UnknownInput unknown))
NotDeclared deck name kind Memory = Unit {0}
NotDeclared deck name kind reason = ⊥

-- why a deck takes no further thread
abbrev pub NotBegun : Decked → Reason → Type 0
NotBegun deck (TooMany Threads) = THREADS ≤ length deck.scripts
NotBegun deck Memory = Unit {0}
NotBegun deck reason = ⊥

-- why a deck takes no call
abbrev pub NotCalled : Decked → Reason → Type 0
NotCalled deck Syntax = deck.scripts ≡ []
NotCalled deck Memory = Unit {0}
NotCalled deck reason = ⊥

-- why a deck doesn't take what a line says
abbrev pub NotTaken : Line → Decked → Reason → Type 0
NotTaken Nothing deck reason = ⊥
NotTaken (Declares name kind) deck reason = NotDeclared deck name kind reason
NotTaken Thread deck reason = NotBegun deck reason
NotTaken (Calls call) deck reason = NotCalled deck reason

-- a declaration beyond a limit of its own: in the wrong part it is none, and the limit of nodes comes before its own
pub record BeyondDeclaring (reader : Reader) (limit : Limit) (reason : Reason) : Type 0 where
  pub begun : reader.begun ≡ true → reason ≡ Syntax
  pub full : reader.begun ≡ false → NODES ≤ length reader.builder.nodes → reason ≡ TooMany Nodes
  pub free : reader.begun ≡ false → length reader.builder.nodes < NODES → reason ≡ limit_reason limit

-- a call beyond a limit of its own: in the wrong part it is none
pub record BeyondCalling (reader : Reader) (limit : Limit) (reason : Reason) : Type 0 where
  pub early : reader.begun ≡ false → reason ≡ Syntax
  pub begun : reader.begun ≡ true → reason ≡ limit_reason limit

-- why a line is refused that is none, or that goes beyond a limit of its own
abbrev pub NotRead : Reader → LineFault → Reason → Type 0
NotRead reader line.Syntax reason = reason ≡ Syntax
NotRead reader (line.TooMany limit.Levels) reason = BeyondDeclaring reader limit.Levels reason
NotRead reader (line.TooMany limit.Inputs) reason = BeyondDeclaring reader limit.Inputs reason
NotRead reader (line.TooMany limit.Candidates) reason = BeyondDeclaring reader limit.Candidates reason
NotRead reader (line.TooMany limit.Selectors) reason = BeyondDeclaring reader limit.Selectors reason
NotRead reader (line.TooMany limit.Sets) reason = BeyondCalling reader limit.Sets reason
NotRead reader (line.TooMany limit.Looks) reason = BeyondCalling reader limit.Looks reason
NotRead reader line.Memory reason = reason ≡ Memory

-- a line is refused for its first reason, or for want of memory
abbrev pub IsReason : Place → Reason → Type 0
IsReason p Memory = Unit {0}
IsReason p reason = IsFirstOf reasons p reason
