-- What the line that was read keeps, whatever its words are.
use Rattle.std.specs.Prelude.{ℕ, ◌≤◌, IsTrue, List, length}
use Rattle.std.specs.List.{All}
use Rattle.script_tree.specs.declared.limits.TheConstants.{SETS, LOOKS}
use Rattle.script_tree.specs.declared.value.Value.{Value}
use Rattle.signal_graph.specs.declared.call.Call.{Call}
use Rattle.signal_graph.specs.declared.call.Call.TheVariants.{Fire, Read}
use Rattle.signal_graph.specs.Declarations.{IsDeclaration}
use Rattle.signal_graph.specs.Graph.{is_start}
use Rattle.signal_graph.specs.Machine.{sets_of, looks_of}
use Rattle.deck_lines.specs.declared.line.Line.{Line}
use Rattle.deck_lines.specs.declared.line.Line.TheVariants.{Nothing, Declares, Thread, Calls}

-- a set gives a number or a truth, and no fault
abbrev pub SetsWell : List ℕ × Value → Type 0
SetsWell s = IsTrue (is_start s.1)

-- what a call is made for: the sets of a fire, the looks of a read
abbrev pub asked : Call → ℕ
asked (Fire sets looks) = length sets
asked (Read looks) = length looks

-- a call of a deck: a fire has a set and a read a look, and there are at most so many sets and looks
pub record IsCall (call : Call) : Type 0 where
  pub some : 1 ≤ asked call
  pub few_sets : length (sets_of call) ≤ SETS
  pub few_looks : length (looks_of call) ≤ LOOKS
  pub no_faults : All SetsWell (sets_of call)

-- a declaration is one that a graph's builder takes, and a call one of a deck
abbrev pub IsKept : Line → Type 0
IsKept Nothing = Unit {0}
IsKept (Declares name kind) = IsDeclaration kind
IsKept Thread = Unit {0}
IsKept (Calls call) = IsCall call
