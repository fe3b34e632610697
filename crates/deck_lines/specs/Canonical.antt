-- The canonical words of a line.
use Rattle.std.specs.Prelude.{ℕ, suc, pos, negsuc, true, false, List, [], ◌∷◌, map, codes, decimal}
use Rattle.std.specs.Option.{option_map}
use Rattle.script_tree.specs.declared.value.Value.{Value}
use Rattle.script_tree.specs.declared.value.Value.TheVariants.{Int, Bool as Truth, Fault as Faulty}
use Rattle.script_tree.specs.Printed.{fault_text}
use Rattle.expr_script.specs.Joined.{joined}
use Rattle.expr_script.specs.Printed.{printed_words}
use Rattle.signal_graph.specs.declared.builder.DeclKind.TheVariants as kind
use Rattle.signal_graph.specs.declared.call.Call.TheVariants as call
use Rattle.signal_graph.specs.Declarations.{Part}
use Rattle.deck_lines.specs.declared.line.Line.{Line}
use Rattle.deck_lines.specs.declared.line.Line.TheVariants.{Nothing, Declares, Thread, Calls}
use Rattle.deck_lines.specs.Forms as form
use Rattle.deck_lines.specs.Forms.{Words, SetForm, PartForm, Form, spelled}

-- the words of a value, of which a minus is one
abbrev pub value_words : Value → Words
value_words (Int (pos n)) = decimal n ∷ []
value_words (Int (negsuc n)) = codes "-" ∷ decimal (suc n) ∷ []
value_words (Truth true) = codes "true" ∷ []
value_words (Truth false) = codes "false" ∷ []
value_words (Faulty f) = codes "fault" ∷ fault_text f ∷ []

abbrev pub set_form : List ℕ × Value → SetForm
set_form s = (s.0, value_words s.1)

abbrev pub part_form : Part → PartForm
part_form part = (printed_words part.0, part.1)

-- the form of a line whose values and scripts are written canonically
abbrev pub canonical_form : Line → Form
canonical_form Nothing = form.Nothing
canonical_form (Declares name (kind.Source start)) = form.Source name (value_words start)
canonical_form (Declares name (kind.Signal script)) = form.Signal name (printed_words script)
canonical_form (Declares name (kind.Fold start script)) = form.Fold name (value_words start) (printed_words script)
canonical_form (Declares name (kind.Choose parts body)) = form.Choose name (map part_form parts) (option_map printed_words body)
canonical_form Thread = form.Thread
canonical_form (Calls (call.Fire sets looks)) = form.Fire (map set_form sets) looks
canonical_form (Calls (call.Read looks)) = form.Read looks

-- its words
abbrev pub canonical_words : Line → Words
canonical_words line = spelled (canonical_form line)

-- its canonical text, without a line feed
abbrev pub line_text : Line → List ℕ
line_text line = joined (canonical_words line)
