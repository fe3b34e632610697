-- Which reports are those of a run.
use Rattle.std.specs.Prelude.{◌≡◌, ℕ, List}
use Rattle.script_tree.specs.declared.value.Value.{Value}
use Rattle.signal_graph.specs.declared.call.Call.{Call}
use Rattle.signal_graph.specs.declared.log.Logged.{Logged}
use Rattle.signal_graph.specs.declared.log.Refused.{Refused}
use Rattle.signal_graph.specs.Graph.{Graph}
use Rattle.signal_graph.specs.Legal.{Legal, finals}
use Rattle.call_log.specs.Merge.{Merge}
use Rattle.report_text.specs.declared.data.Report.{Report}
use Rattle.report_text.specs.Report.{report_of}
use Rattle.report_text.specs.Printed.{data_of, IsReport}

-- a report is the data of a run of these scripts: of a log and refusals that are a merge of them, where each reply is the
-- one-thread machine's and the last values are those after the calls of the log
pub record IsOfRun (graph : Graph) (scripts : List (List Call)) (limit : ℕ) (report : Report) (log : List Logged) : Type 0 where
  pub refused : List Refused
  pub last : List Value
  pub lines : report ≡ data_of log refused graph.names last
  pub merge : Merge graph scripts limit log refused
  pub legal : Legal graph log
  pub finals : last ≡ finals graph log

-- it is so of some log
pub record IsReportOfRun (graph : Graph) (scripts : List (List Call)) (limit : ℕ) (report : Report) : Type 0 where
  pub log : List Logged
  pub run : IsOfRun graph scripts limit report log

-- bytes are the report of a run of these scripts, whose data is such that a report can have it
pub record AreReportOfRun (graph : Graph) (scripts : List (List Call)) (limit : ℕ) (bytes : List ℕ) : Type 0 where
  pub log : List Logged
  pub refused : List Refused
  pub last : List Value
  pub text : bytes ≡ report_of log refused graph.names last
  pub fits : IsReport (data_of log refused graph.names last)
  pub merge : Merge graph scripts limit log refused
  pub legal : Legal graph log
  pub finals : last ≡ finals graph log
