-- The lines on standard error. Each ends with LF.
use Rattle.std.specs.Prelude.{ℕ, List, [], ◌∷◌, ◌++◌, codes, decimal, Option, Some, None}
use Rattle.deck_text.specs.declared.fault.What.{What}
use Rattle.deck_text.specs.declared.fault.What.TheVariants.{Bytes, Nodes, Threads, Levels, Inputs, Candidates, Selectors, Sets, Looks}
use Rattle.deck_text.specs.declared.fault.DeckFault.{DeckFault}
use Rattle.deck_text.specs.declared.fault.DeckFault.TheVariants.{Syntax, DoubleName, UnknownInput, TooMany, LineTooLong, NoThread, Memory}
use Rattle.framesweep_cli.specs.declared.ending.Ending.{Ending}
use Rattle.framesweep_cli.specs.declared.ending.Ending.TheVariants.{Done, Refused, ReadFailed, WriteFailed, OutOfMemory}
use Rattle.framesweep_cli.specs.declared.fault.InputFault.{InputFault}
use Rattle.framesweep_cli.specs.declared.fault.InputFault.TheVariants as input

abbrev pub words_line : List ℕ
words_line = codes "framesweep: words refused\n"

abbrev pub memory_line : List ℕ
memory_line = codes "framesweep: want of memory\n"

abbrev pub what_text : What → List ℕ
what_text Bytes = codes "bytes"
what_text Nodes = codes "nodes"
what_text Threads = codes "threads"
what_text Levels = codes "levels"
what_text Inputs = codes "inputs"
what_text Candidates = codes "candidates"
what_text Selectors = codes "selectors"
what_text Sets = codes "sets"
what_text Looks = codes "looks"

-- a reason for a line of the deck, which counts from 1
abbrev pub at_line : ℕ → List ℕ → List ℕ
at_line line reason = codes "framesweep: line " ++ (decimal line ++ reason)

-- why a deck is refused
abbrev pub fault_line : DeckFault → List ℕ
fault_line (Syntax line) = at_line line (codes ": syntax\n")
fault_line (DoubleName line) = at_line line (codes ": double name\n")
fault_line (UnknownInput line) = at_line line (codes ": unknown input\n")
fault_line (TooMany line what) = at_line line (codes ": too many " ++ (what_text what ++ 10 ∷ []))
fault_line (LineTooLong line) = at_line line (codes ": line too long\n")
fault_line NoThread = codes "framesweep: no thread\n"
fault_line Memory = memory_line

-- why input is refused
abbrev pub input_line : InputFault → List ℕ
input_line input.TooLong = codes "framesweep: input too long\n"
input_line (input.Deck fault) = fault_line fault
input_line (input.ScheduleNumber place) = codes "framesweep: schedule number " ++ (decimal place ++ 10 ∷ [])
input_line (input.ReportLine line) = codes "framesweep: report line " ++ (decimal line ++ codes ": syntax\n")

-- the one line that an ending gives standard error, if any
abbrev pub line_of : Ending → Option (List ℕ)
line_of Done = None
line_of (Refused fault) = Some (input_line fault)
line_of ReadFailed = Some (codes "framesweep: read fault\n")
line_of WriteFailed = Some (codes "framesweep: write fault\n")
line_of OutOfMemory = Some memory_line
