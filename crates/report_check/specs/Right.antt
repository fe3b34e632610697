-- Which line of a report is right at its place, for the graph and the scripts of a deck and a limit of versions, and
-- which line is the first that isn't.
use Rattle.std.specs.Prelude.{◌≡◌, ℕ, ◌+◌, ◌-◌, ◌<◌, ◌≤◌, ◌==◌, min, List, [], ◌∷◌, ◌++◌}
use Rattle.std.specs.Prelude.{length, take, count_by, slice_get, slice_index_or, Some}
use Rattle.std.specs.List.{AllByRecursion, zip}
use Rattle.signal_graph.specs.declared.call.Call.{Call}
use Rattle.signal_graph.specs.declared.call.Call.TheVariants.{Read}
use Rattle.signal_graph.specs.declared.log.Logged.{Logged}
use Rattle.signal_graph.specs.Graph.{Graph}
use Rattle.signal_graph.specs.Machine.{looks_of, reply}
use Rattle.signal_graph.specs.Legal.{state_after, finals}
use Rattle.call_log.specs.Made.{entries_of, versions_in, well_named, count_well_named, script_of}
use Rattle.call_log.specs.LeftOut.{left_out}
use Rattle.report_text.specs.declared.data.CallLine.{CallLine}
use Rattle.report_text.specs.declared.data.Report.{Report}
use Rattle.report_check.specs.Lines.{ReportLine, OfCall, lines_behind, lines_of}

-- how many calls are made: all well-named ones, or as many as there are versions
abbrev pub count_made : Graph → List (List Call) → ℕ → ℕ
count_made graph scripts limit = min limit (count_well_named graph scripts)

-- ---- the calls that lines of calls stand for

-- the next call of a caller behind a log: its first well-named call that the log has not
abbrev pub next_call : Graph → List (List Call) → List Logged → ℕ → Call
next_call graph scripts log caller = slice_index_or (well_named graph (script_of scripts (caller - 1))) (length (entries_of caller log))
    (Read [])

-- the entry that a line stands for, behind the log of the lines before it
abbrev pub entry_of : Graph → List (List Call) → List Logged → CallLine → Logged
entry_of graph scripts log line =
    record { caller = line.caller; version = line.version; call = next_call graph scripts log line.caller; reply = line.reply }

abbrev pub log_behind : Graph → List (List Call) → List Logged → List CallLine → List Logged
log_behind graph scripts log [] = log
log_behind graph scripts log (line ∷ lines) = log_behind graph scripts (log ++ entry_of graph scripts log line ∷ []) lines

-- the log that lines stand for: the k-th line of a caller is its k-th well-named call
abbrev pub log_of : Graph → List (List Call) → List CallLine → List Logged
log_of graph scripts lines = log_behind graph scripts [] lines

-- ---- lines that are right

-- the line of a call is right behind the log of the lines before it, where so many calls are made: its thread is one of
-- the scripts and has a well-named call left; the looks are those of its next call; the version is one of 1 to so many,
-- on no line before, and greater than on that thread's lines before; and the reply, with its kind, is what the one-thread
-- machine answers to the call in the state after the lines before
pub record IsRightCall (graph : Graph) (scripts : List (List Call)) (made : ℕ) (log : List Logged) (line : CallLine) : Type 0 where
  pub from_one : 1 ≤ line.caller
  pub thread : line.caller ≤ length scripts
  pub left : length (entries_of line.caller log) < length (well_named graph (script_of scripts (line.caller - 1)))
  pub names : line.names ≡ looks_of (next_call graph scripts log line.caller)
  pub low : 1 ≤ line.version
  pub high : line.version ≤ made
  pub once : count_by (λ (entry : Logged). entry.version == line.version) log ≡ 0
  pub rises : AllByRecursion (λ version. version < line.version) (versions_in (entries_of line.caller log))
  pub reply : line.reply ≡ reply graph (state_after graph log) (next_call graph scripts log line.caller)

abbrev pub IsRightCallLine : Graph → List (List Call) → ℕ → List Logged → ReportLine → Type 0
IsRightCallLine graph scripts made log (OfCall line) = IsRightCall graph scripts made log line
IsRightCallLine graph scripts made log line = ⊥

-- the lines that are due behind those of the calls of a log: the calls that the log has not, the last value of each
-- node, and the two counts
abbrev pub lines_due : Graph → List (List Call) → ℕ → List Logged → List ReportLine
lines_due graph scripts limit log =
    let refused = left_out graph limit log scripts in
    lines_behind refused (zip graph.names (finals graph log)) (count_made graph scripts limit) (length refused)

-- a line is right at its place, counted from 0: as many lines as calls are made are right lines of calls, and behind them
-- stand exactly the lines that are due
pub record IsRight (graph : Graph) (scripts : List (List Call)) (limit : ℕ) (report : Report) (place : ℕ) (line : ReportLine) : Type 0 where
  pub made : place < count_made graph scripts limit
      → IsRightCallLine graph scripts (count_made graph scripts limit) (log_of graph scripts (take place report.calls)) line
  pub due : count_made graph scripts limit ≤ place
      → slice_get (lines_due graph scripts limit (log_of graph scripts (take (count_made graph scripts limit) report.calls)))
      (place - count_made graph scripts limit) ≡ Some line

-- the lines of a report before a place are right
abbrev pub AreRightBefore : Graph → List (List Call) → ℕ → Report → ℕ → Type 0
AreRightBefore graph scripts limit report end =
    (place : ℕ) (line : ReportLine) → place < end → slice_get (lines_of report) place ≡ Some line
    → IsRight graph scripts limit report place line

-- every line of a report is right
abbrev pub AreRight : Graph → List (List Call) → ℕ → Report → Type 0
AreRight graph scripts limit report = AreRightBefore graph scripts limit report (length (lines_of report))

-- the line with a number, counted from 1, is the first line of a report that isn't right
pub record IsFirstWrong (graph : Graph) (scripts : List (List Call)) (limit : ℕ) (report : Report) (count : ℕ) : Type 0 where
  pub place : ℕ
  pub line : ReportLine
  pub number : count ≡ place + 1
  pub there : slice_get (lines_of report) place ≡ Some line
  pub before : AreRightBefore graph scripts limit report place
  pub wrong : ¬ IsRight graph scripts limit report place line
