-- The bytes that data is the report of.
use Rattle.std.specs.Prelude.{◌≡◌, ◌≢◌, ℕ, ◌+◌, ◌<◌, ◌^◌, IsTrue, ◌⊎◌, List, [], ◌++◌, length, map}
use Rattle.std.specs.List.{AllByRecursion, flat_map, zip}
use Rattle.script_tree.specs.Names.{is_name}
use Rattle.script_tree.specs.declared.value.Value.{Value}
use Rattle.signal_graph.specs.declared.call.Reply.{Reply}
use Rattle.signal_graph.specs.declared.call.Reply.TheVariants.{Fire as Fired, Read as Seen}
use Rattle.signal_graph.specs.declared.log.Logged.{Logged}
use Rattle.signal_graph.specs.declared.log.Refused.{Refused}
use Rattle.signal_graph.specs.declared.log.Why.{Why}
use Rattle.signal_graph.specs.declared.log.Why.TheVariants.{UnknownName, VersionsUsedUp}
use Rattle.report_text.specs.declared.data.CallLine.{CallLine}
use Rattle.report_text.specs.declared.data.Report.{Report}
use Rattle.report_text.specs.Pieces.{IsValue}
use Rattle.report_text.specs.Report.{line_of, call_line, refused_line, final_line, done_line}

-- ---- what data of a line can be

-- a name with a value whose number has 64 bits
abbrev pub IsLook : List ℕ × Value → Type 0
IsLook look = IsTrue (is_name look.0) × IsValue look.1

abbrev pub AreLooks : List (List ℕ × Value) → Type 0
AreLooks looks = AllByRecursion IsLook looks

-- a reply with a value for each name, its counts numbers of 32 bits
abbrev pub IsReply : List (List ℕ) → Reply → Type 0
IsReply names (Fired changed evaluated values) = (changed < 2 ^ 32) × (evaluated < 2 ^ 32) × (length values ≡ length names)
    × AreLooks (zip names values)
IsReply names (Seen values) = (length values ≡ length names) × AreLooks (zip names values)

pub record IsLine (line : CallLine) : Type 0 where
  pub version : line.version < 2 ^ 32
  pub caller : line.caller < 2 ^ 32
  pub reply : IsReply line.names line.reply

abbrev pub IsWhy : Why → Type 0
IsWhy (UnknownName place) = place < 2 ^ 32
IsWhy (VersionsUsedUp limit) = limit < 2 ^ 32

pub record IsRefusal (refused : Refused) : Type 0 where
  pub caller : refused.caller < 2 ^ 32
  pub number : refused.number < 2 ^ 32
  pub why : IsWhy refused.why

abbrev pub AreLines : List CallLine → Type 0
AreLines lines = AllByRecursion IsLine lines

abbrev pub AreRefusals : List Refused → Type 0
AreRefusals lines = AllByRecursion IsRefusal lines

-- ---- whole reports

-- the lines of a report before its last one, kind after kind, and what stands behind them
abbrev pub lines_before : List CallLine → List Refused → List (List ℕ × Value) → List ℕ → List ℕ
lines_before calls refused finals behind = flat_map call_line calls
    ++ (flat_map refused_line refused ++ (flat_map final_line finals ++ behind))

-- the text of a report
abbrev pub printed : Report → List ℕ
printed report = lines_before report.calls report.refused report.finals (done_line report.accepted report.refusals)

-- the data of a finished run
abbrev pub data_of : List Logged → List Refused → List (List ℕ) → List Value → Report
data_of log refused names finals = record {
  calls = map line_of log;
  refused = refused;
  finals = zip names finals;
  accepted = length log;
  refusals = length refused;
}

-- data that a report can have
pub record IsReport (report : Report) : Type 0 where
  pub calls : AreLines report.calls
  pub refused : AreRefusals report.refused
  pub finals : AreLooks report.finals
  pub accepted : report.accepted < 2 ^ 32
  pub refusals : report.refusals < 2 ^ 32

-- ---- where bytes stop to be a report

-- a text that begins with no line of a call, of a refusal, of a last value, or with no last line
abbrev pub NoCall : List ℕ → Type 0
NoCall text = (line : CallLine) (rest : List ℕ) → IsLine line → text ≢ call_line line ++ rest

abbrev pub NoRefusal : List ℕ → Type 0
NoRefusal text = (refused : Refused) (rest : List ℕ) → IsRefusal refused → text ≢ refused_line refused ++ rest

abbrev pub NoFinal : List ℕ → Type 0
NoFinal text = (last : List ℕ × Value) (rest : List ℕ) → IsLook last → text ≢ final_line last ++ rest

abbrev pub NoDone : List ℕ → Type 0
NoDone text = (accepted refused : ℕ) (rest : List ℕ) → accepted < 2 ^ 32 → refused < 2 ^ 32 → text ≢ done_line accepted refused ++ rest

-- the lines before are lines of a report, and what stands behind them begins with no line that may stand there:
-- with no last value and no last line, without last values before it with no refusal, and without refusals too with no call
pub record StopsWithin (bytes : List ℕ) (line : ℕ) : Type 0 where
  pub calls : List CallLine
  pub refused : List Refused
  pub finals : List (List ℕ × Value)
  pub behind : List ℕ
  pub are_calls : AreLines calls
  pub are_refused : AreRefusals refused
  pub are_finals : AreLooks finals
  pub text : bytes ≡ lines_before calls refused finals behind
  pub number : line ≡ length calls + length refused + length finals + 1
  pub no_call : refused ≡ [] → finals ≡ [] → NoCall behind
  pub no_refusal : finals ≡ [] → NoRefusal behind
  pub no_final : NoFinal behind
  pub no_done : NoDone behind

-- bytes stand behind the last line of a report
pub record StopsBehind (bytes : List ℕ) (line : ℕ) : Type 0 where
  pub report : Report
  pub behind : List ℕ
  pub is_report : IsReport report
  pub more : behind ≢ []
  pub text : bytes ≡ printed report ++ behind
  pub number : line ≡ length report.calls + length report.refused + length report.finals + 2

-- the line, counted from 1, is the first that stands in no report behind the lines before it
abbrev pub Stops : List ℕ → ℕ → Type 0
Stops bytes line = StopsWithin bytes line ⊎ StopsBehind bytes line
