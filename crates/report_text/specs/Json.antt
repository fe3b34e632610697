-- The JSON report: a JSON value, and the one line that it is written as.
use Rattle.std.specs.Prelude.{ℕ, List, [], ◌∷◌, ◌++◌, length, map, codes}
use Rattle.std.specs.List.{zip}
use Rattle.serde_json.specs.Data.{Data, boolean, number, unsigned, string, array, object, member, no_members}
use Rattle.serde_json.specs.Find.{of_integer}
use Rattle.serde_json.specs.View.{items_of}
use Rattle.serde_json.specs.Written.{compact_text}
use Rattle.script_tree.specs.declared.value.Value.{Value}
use Rattle.script_tree.specs.declared.value.Value.TheVariants.{Int, Bool as Truth, Fault as Faulty}
use Rattle.script_tree.specs.Printed.{fault_text}
use Rattle.signal_graph.specs.declared.call.Reply.{Reply}
use Rattle.signal_graph.specs.declared.call.Reply.TheVariants.{Fire as Fired, Read as Seen}
use Rattle.signal_graph.specs.declared.log.Logged.{Logged}
use Rattle.signal_graph.specs.declared.log.Refused.{Refused}
use Rattle.signal_graph.specs.declared.log.Why.{Why}
use Rattle.signal_graph.specs.declared.log.Why.TheVariants.{UnknownName, VersionsUsedUp}
use Rattle.report_text.specs.declared.data.CallLine.{CallLine}
use Rattle.report_text.specs.Report.{line_of}

-- a number that counts
abbrev pub count_data : ℕ → Data
count_data n = number (unsigned n)

-- a value: a number, a truth, or an object with a fault's kind
abbrev pub value_data : Value → Data
value_data (Int x) = number (of_integer x)
value_data (Truth b) = boolean b
value_data (Faulty f) = object (member (codes "fault") (string (fault_text f)) no_members)

-- a look or a last value: a name with a value
abbrev pub look_data : List ℕ × Value → Data
look_data look = object (member (codes "name") (string look.0) (member (codes "value") (value_data look.1) no_members))

abbrev pub list_data : {A : Type 0} → (A → Data) → List A → Data
list_data f xs = array (items_of (map f xs))

-- a fire with its looks
abbrev pub fire_data : ℕ → ℕ → ℕ → ℕ → Data → Data
fire_data caller version changed evaluated looks =
    object (member (codes "changed") (count_data changed)
    (member (codes "evaluated") (count_data evaluated) (member (codes "kind") (string (codes "fire"))
    (member (codes "looks") looks (member (codes "thread") (count_data caller)
    (member (codes "version") (count_data version) no_members))))))

-- a read with its looks
abbrev pub read_data : ℕ → ℕ → Data → Data
read_data caller version looks =
    object (member (codes "kind") (string (codes "read")) (member (codes "looks") looks (member (codes "thread") (count_data caller)
    (member (codes "version") (count_data version) no_members))))

-- a call by its thread, its version, the names that it looked at and its reply
abbrev pub reply_data : ℕ → ℕ → List (List ℕ) → Reply → Data
reply_data caller version names (Fired changed evaluated values) =
    fire_data caller version changed evaluated (list_data look_data (zip names values))
reply_data caller version names (Seen values) = read_data caller version (list_data look_data (zip names values))

-- a call that was made, of what a report shows of it
abbrev pub call_data : CallLine → Data
call_data line = reply_data line.caller line.version line.names line.reply

-- a call that was not made, by its thread, its number and why
abbrev pub why_data : ℕ → ℕ → Why → Data
why_data caller at (UnknownName place) =
    object (member (codes "call") (count_data at) (member (codes "place") (count_data place)
    (member (codes "reason") (string (codes "unknown name")) (member (codes "thread") (count_data caller) no_members))))
why_data caller at (VersionsUsedUp limit) =
    object (member (codes "call") (count_data at) (member (codes "limit") (count_data limit)
    (member (codes "reason") (string (codes "versions used up")) (member (codes "thread") (count_data caller) no_members))))

abbrev pub refused_data : Refused → Data
refused_data refused = why_data refused.caller refused.number refused.why

-- the number of calls, and three lists
abbrev pub whole_data : ℕ → Data → Data → Data → Data
whole_data accepted calls finals refused =
    object (member (codes "accepted") (count_data accepted)
    (member (codes "calls") calls (member (codes "finals") finals (member (codes "refused") refused no_members))))

-- the whole report: the keys of each object are in the order of their bytes
abbrev pub report_data : List Logged → List Refused → List (List ℕ) → List Value → Data
report_data log refused names finals =
    whole_data (length log) (list_data call_data (map line_of log)) (list_data look_data (zip names finals))
    (list_data refused_data refused)

-- its line: the JSON text without a space, and LF
abbrev pub json_of : List Logged → List Refused → List (List ℕ) → List Value → List ℕ
json_of log refused names finals = compact_text (report_data log refused names finals) ++ 10 ∷ []
