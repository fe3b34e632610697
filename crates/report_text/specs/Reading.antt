-- What the reading of bytes answers.
use Rattle.std.specs.Prelude.{◌≡◌, ℕ, List, Result, Ok, Err}
use Rattle.report_text.specs.declared.data.Report.{Report}
use Rattle.report_text.specs.declared.reading.ReportFault.{ReportFault}
use Rattle.report_text.specs.declared.reading.ReportFault.TheVariants.{Syntax, Memory}
use Rattle.report_text.specs.Printed.{printed, IsReport, Stops}

-- a syntax fault names the first line that stands in no report; want of memory says nothing of the bytes
abbrev pub IsFault : List ℕ → ReportFault → Type 0
IsFault bytes (Syntax line) = Stops bytes line
IsFault bytes Memory = Unit {0}

-- what may be answered for bytes: the data that they are the report of, or why they are none
abbrev pub IsReadAs : List ℕ → Result Report ReportFault → Type 0
IsReadAs bytes (Ok report) = (bytes ≡ printed report) × IsReport report
IsReadAs bytes (Err fault) = IsFault bytes fault
