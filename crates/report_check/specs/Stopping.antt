-- Where a pass over the lines of calls stops.
use Rattle.std.specs.Prelude.{◌≡◌, ℕ, ◌<◌, ◌≤◌, List, length, take, slice_get, Some}
use Rattle.signal_graph.specs.declared.call.Call.{Call}
use Rattle.signal_graph.specs.Graph.{Graph}
use Rattle.report_text.specs.declared.data.CallLine.{CallLine}
use Rattle.report_check.specs.Right.{log_of, IsRightCall}

-- the first lines of calls, as many as stand before an end, are right
abbrev pub AreRightCalls : Graph → List (List Call) → ℕ → List CallLine → ℕ → Type 0
AreRightCalls graph scripts made lines end =
    (place : ℕ) (line : CallLine) → place < end → slice_get lines place ≡ Some line
    → IsRightCall graph scripts made (log_of graph scripts (take place lines)) line

-- the line of a call at a place is not right, or there is none though a call is due there; those before it are right
pub record StopsAt (graph : Graph) (scripts : List (List Call)) (made : ℕ) (lines : List CallLine) (place : ℕ) : Type 0 where
  pub below : place < made
  pub within : place ≤ length lines
  pub before : AreRightCalls graph scripts made lines place
  pub wrong : (line : CallLine) → slice_get lines place ≡ Some line
      → ¬ IsRightCall graph scripts made (log_of graph scripts (take place lines)) line

-- as many lines of calls as are made are right
pub record IsThrough (graph : Graph) (scripts : List (List Call)) (made : ℕ) (lines : List CallLine) : Type 0 where
  pub enough : made ≤ length lines
  pub each : AreRightCalls graph scripts made lines made
