-- The bytes of a report: a line for each call that was made, for each that was refused, for each node's last value, and
-- one with the counts. Each line ends with LF.
use Rattle.std.specs.Prelude.{◌≡◌, ℕ, List, [], ◌∷◌, ◌++◌, length, map, codes, decimal}
use Rattle.std.specs.List.{AllByRecursion, flat_map, zip}
use Rattle.script_tree.specs.declared.value.Value.{Value}
use Rattle.script_tree.specs.Printed.{value_text}
use Rattle.signal_graph.specs.declared.call.Call.{Call}
use Rattle.signal_graph.specs.declared.call.Call.TheVariants.{Fire, Read}
use Rattle.signal_graph.specs.declared.call.Reply.{Reply}
use Rattle.signal_graph.specs.declared.call.Reply.TheVariants.{Fire as Fired, Read as Seen}
use Rattle.signal_graph.specs.declared.log.Logged.{Logged}
use Rattle.signal_graph.specs.declared.log.Refused.{Refused}
use Rattle.signal_graph.specs.declared.log.Why.{Why}
use Rattle.signal_graph.specs.declared.log.Why.TheVariants.{UnknownName, VersionsUsedUp}
use Rattle.signal_graph.specs.Machine.{looks_of}
use Rattle.report_text.specs.declared.data.CallLine.{CallLine}

-- words, a number, and what comes behind them
abbrev pub counted : List ℕ → ℕ → List ℕ → List ℕ
counted words number rest = words ++ (decimal number ++ rest)

-- a name with a value
abbrev pub named_value : List ℕ × Value → List ℕ
named_value look = look.0 ++ (codes "=" ++ value_text look.1)

abbrev pub more_looks : List (List ℕ × Value) → List ℕ
more_looks looks = flat_map (λ look. codes ", " ++ named_value look) looks

-- looks, joined by a comma and a space
abbrev pub looks_text : List (List ℕ × Value) → List ℕ
looks_text [] = []
looks_text (look ∷ looks) = named_value look ++ more_looks looks

-- what a fire looked at, if it looked at anything
abbrev pub fire_looks : List (List ℕ × Value) → List ℕ
fire_looks [] = []
fire_looks (look ∷ looks) = codes " look " ++ looks_text (look ∷ looks)

abbrev pub fire_text : ℕ → ℕ → List (List ℕ × Value) → List ℕ
fire_text changed evaluated looks = counted (codes " fire changed ") changed (counted (codes " evaluated ") evaluated (fire_looks looks))

-- what a call did and saw
abbrev pub reply_text : List (List ℕ) → Reply → List ℕ
reply_text names (Fired changed evaluated values) = fire_text changed evaluated (zip names values)
reply_text names (Seen values) = codes " read " ++ looks_text (zip names values)

abbrev pub line_end : List ℕ
line_end = 10 ∷ []

-- what a report shows of a call that was made: its version, its thread, its reply, and the names that it looked at
abbrev pub line_of : Logged → CallLine
line_of entry = record { version = entry.version; caller = entry.caller; reply = entry.reply; names = looks_of entry.call }

-- the line of such a call
abbrev pub call_line : CallLine → List ℕ
call_line line =
    counted (codes "call ") line.version (counted (codes " thread ") line.caller (reply_text line.names line.reply ++ line_end))

abbrev pub why_text : Why → List ℕ
why_text (UnknownName place) = codes " unknown name " ++ decimal place
why_text (VersionsUsedUp limit) = codes " versions used up " ++ decimal limit

-- the line of a call that was not made
abbrev pub refused_line : Refused → List ℕ
refused_line refused =
    counted (codes "refused thread ") refused.caller (counted (codes " call ") refused.number (why_text refused.why ++ line_end))

-- the line of a node's last value
abbrev pub final_line : List ℕ × Value → List ℕ
final_line last = codes "final " ++ (named_value last ++ line_end)

-- the last line
abbrev pub done_line : ℕ → ℕ → List ℕ
done_line accepted refused = counted (codes "done ") accepted (counted (codes " accepted ") refused (codes " refused" ++ line_end))

-- the report of the calls that were made, those that were refused, and the names and last values of all nodes
abbrev pub report_of : List Logged → List Refused → List (List ℕ) → List Value → List ℕ
report_of log refused names finals =
    flat_map call_line (map line_of log)
    ++ (flat_map refused_line refused ++ (flat_map final_line (zip names finals) ++ done_line (length log) (length refused)))

-- a reply is of its call's kind and has a value for each look
abbrev pub Answers : Call → Reply → Type 0
Answers (Fire sets looks) (Fired changed evaluated values) = length values ≡ length looks
Answers (Read looks) (Seen values) = length values ≡ length looks
Answers call reply = ⊥

-- every reply of a log answers its call
abbrev pub AreAnswered : List Logged → Type 0
AreAnswered log = AllByRecursion (λ entry. Answers entry.call entry.reply) log
