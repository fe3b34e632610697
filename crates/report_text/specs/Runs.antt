-- Finished runs that a report can have the data of.
use Rattle.std.specs.Prelude.{◌≡◌, ℕ, List, length}
use Rattle.script_tree.specs.declared.value.Value.{Value}
use Rattle.signal_graph.specs.declared.call.Call.{Call}
use Rattle.signal_graph.specs.declared.log.Logged.{Logged}
use Rattle.signal_graph.specs.declared.log.Refused.{Refused}
use Rattle.signal_graph.specs.Graph.{Graph}
use Rattle.call_log.specs.Merge.{Merge}
use Rattle.report_text.specs.Printed.{data_of, IsReport}
use Rattle.report_text.specs.Report.{report_of}
use Rattle.report_text.specs.Json.{json_of}

-- what a run leaves: the calls that were made, those that were not, and the values of all nodes afterwards
pub record Run : Type 0 where
  pub log : List Logged
  pub refused : List Refused
  pub finals : List Value

-- the run is a merge of scripts on a graph for some limit of versions, has a value for each node, and its data is such
-- that a report can have it: each number has the bits of its field, and each name is one
pub record IsRun (graph : Graph) (scripts : List (List Call)) (limit : ℕ) (run : Run) : Type 0 where
  pub merge : Merge graph scripts limit run.log run.refused
  pub one_each : length run.finals ≡ length graph.names
  pub fits : IsReport (data_of run.log run.refused graph.names run.finals)

-- the report of a run, as text and as JSON
abbrev pub text_of : Graph → Run → List ℕ
text_of graph run = report_of run.log run.refused graph.names run.finals

abbrev pub json_text_of : Graph → Run → List ℕ
json_text_of graph run = json_of run.log run.refused graph.names run.finals
