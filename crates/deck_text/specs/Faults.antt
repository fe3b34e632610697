-- What a faulty line makes of its deck.
use Rattle.std.specs.Prelude.{ℕ, ◌≤◌}
use Rattle.signal_graph.specs.declared.builder.GraphFault.{GraphFault}
use Rattle.signal_graph.specs.declared.builder.GraphFault.TheVariants as graph
use Rattle.deck_lines.specs.declared.fault.Limit.{Limit}
use Rattle.deck_lines.specs.declared.fault.Limit.TheVariants as limit
use Rattle.deck_text.specs.declared.fault.What.TheVariants.{Nodes, Levels, Inputs, Candidates, Selectors, Sets, Looks}
use Rattle.deck_text.specs.declared.fault.DeckFault.{DeckFault}
use Rattle.deck_text.specs.declared.fault.DeckFault.TheVariants as fault
use Rattle.deck_text.specs.declared.reason.Reason.{Reason}
use Rattle.deck_text.specs.declared.reason.Reason.TheVariants.{LineTooLong, Syntax, TooMany, DoubleName, UnknownInput, Memory}

-- the fault of a deck whose line of this number is refused for a reason
abbrev pub fault_at : ℕ → Reason → DeckFault
fault_at line LineTooLong = fault.LineTooLong line
fault_at line Syntax = fault.Syntax line
fault_at line (TooMany what) = fault.TooMany line what
fault_at line DoubleName = fault.DoubleName line
fault_at line UnknownInput = fault.UnknownInput line
fault_at line Memory = fault.Memory

-- the line that a fault names, if it names one, is one of so many
abbrev pub NamesLine : ℕ → DeckFault → Type 0
NamesLine lines (fault.LineTooLong line) = (1 ≤ line) × (line ≤ lines)
NamesLine lines (fault.Syntax line) = (1 ≤ line) × (line ≤ lines)
NamesLine lines (fault.TooMany line what) = (1 ≤ line) × (line ≤ lines)
NamesLine lines (fault.DoubleName line) = (1 ≤ line) × (line ≤ lines)
NamesLine lines (fault.UnknownInput line) = (1 ≤ line) × (line ≤ lines)
NamesLine lines fault.NoThread = Unit {0}
NamesLine lines fault.Memory = Unit {0}

-- why a line is refused that goes beyond one of its own limits
abbrev pub limit_reason : Limit → Reason
limit_reason limit.Levels = TooMany Levels
limit_reason limit.Inputs = TooMany Inputs
limit_reason limit.Candidates = TooMany Candidates
limit_reason limit.Selectors = TooMany Selectors
limit_reason limit.Sets = TooMany Sets
limit_reason limit.Looks = TooMany Looks

-- why a line is refused whose declaration is
abbrev pub declaration_reason : GraphFault → Reason
declaration_reason graph.DoubleName = DoubleName
declaration_reason (graph.UnknownInput name) = UnknownInput
declaration_reason graph.TooManyNodes = TooMany Nodes
declaration_reason graph.Memory = Memory
