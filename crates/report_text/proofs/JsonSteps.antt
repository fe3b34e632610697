-- No number in the JSON value of a call is a float.
use Rattle.std.proofs.Common.{◌≡◌, ℕ, false, List, [], ◌∷◌, map, refl}
use Rattle.std.specs.Prelude.{pos, negsuc}
use Rattle.std.specs.List.{zip}
use Rattle.serde_json.specs.View.{items_of}
use Rattle.serde_json.specs.Written.{has_float, items_have_float}
use Rattle.script_tree.specs.declared.value.Value.{Value}
use Rattle.script_tree.specs.declared.value.Value.TheVariants.{Int, Bool as Truth, Fault as Faulty}
use Rattle.signal_graph.specs.declared.call.Reply.{Reply}
use Rattle.signal_graph.specs.declared.call.Reply.TheVariants.{Fire as Fired, Read as Seen}
use Rattle.report_text.specs.declared.data.CallLine.{CallLine}
use Rattle.report_text.specs.Json.{value_data, look_data, reply_data, call_data}

value_has_no_float : (v : Value) → has_float (value_data v) ≡ false
value_has_no_float (Int (pos n)) = refl
value_has_no_float (Int (negsuc n)) = refl
value_has_no_float (Truth b) = refl
value_has_no_float (Faulty f) = refl

looks_have_no_float : (looks : List (List ℕ × Value)) → items_have_float (items_of (map look_data looks)) ≡ false
looks_have_no_float [] = refl
looks_have_no_float (look ∷ looks) = rw (value_has_no_float look.1, looks_have_no_float looks) refl

reply_has_no_float : (caller version : ℕ) (names : List (List ℕ)) (reply : Reply) → has_float (reply_data caller version names reply) ≡ false
reply_has_no_float t v names (Fired c e values) = rw (looks_have_no_float (zip names values)) refl
reply_has_no_float t v names (Seen values) = rw (looks_have_no_float (zip names values)) refl

pub call_has_no_float : (line : CallLine) → has_float (call_data line) ≡ false
call_has_no_float line = reply_has_no_float line.caller line.version line.names line.reply
