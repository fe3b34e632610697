-- What a node's new value asks and makes.
use Rattle.std.proofs.Common.{◌≡◌, ℕ, Bool, true, false, not, List, Option, Some, None, refl, ap, ◌∙◌}
use Rattle.script_tree.specs.declared.value.Fault.TheVariants.{NoChoice}
use Rattle.script_tree.specs.declared.value.Value.{Value}
use Rattle.script_tree.specs.declared.value.Value.TheVariants.{Fault as Faulty}
use Rattle.script_tree.specs.Scripts.{Scripted}
use Rattle.signal_graph.specs.Graph.{Graph, node_at, is_source, body_of}
use Rattle.signal_graph.specs.Machine.{same}
use Rattle.node_versions.specs.declared.entry.State.TheVariants.{Done}
use Rattle.node_versions.specs.Entries.{Versions, value_before, with_state, with_entries}
use Rattle.flow_model.specs.declared.step.Step.TheVariants.{Resolve}
use Rattle.flow_model.specs.Machine.State.{Core, Found, LiveCall, call, cell}
use Rattle.flow_model.specs.Machine.Words.{set_value, value_without, value_by, value_now, picks_of_found}
use Rattle.flow_model.specs.Machine.Changes.{closed}
use Rattle.flow_state.specs.Booked.{Booked, call_in, work_at, on_call, on_work}
use Rattle.flow_model.specs.Parts.Books.{Work, work_in, forgotten, Book}
use Rattle.flow_state.specs.Fitting.{IsBookOf, MakesList}
use Rattle.sweep.specs.NewValues.{value_found, worked_value, new_value}
use Rattle.flow_state.proofs.Fits.{same_work}
use Rattle.flow_state.proofs.Resolved.{resolve_front, resolved}

-- ---- the new value

-- from the call and the work at the node
abbrev new_from : Graph → ℕ → LiveCall → Work → Value
new_from graph n c w = elim (is_source (node_at graph n)) [ true ↦ set_value n (Faulty NoChoice) c.sets | false ↦ worked_value w (body_of (node_at graph n)) ]

found-same : (s : Core) (n : ℕ) (o : Option Found) → value_found (work_in (cell s n)) o ≡ value_without s n o
found-same s n None = refl
found-same s n (Some f) = refl

worked-same : (s : Core) (n : ℕ) (o : Option Scripted) → worked_value (work_in (cell s n)) o ≡ value_by s n o
worked-same s n None = found-same s n (cell s n).found
worked-same s n (Some body) = refl

same_value : (graph : Graph) (s : Core) (book : Booked) (t n : ℕ) → IsBookOf graph s book → new_value graph book t n ≡ value_now graph s t n
same_value graph s book t n fits =
    ap (λ (c : LiveCall). new_from graph n c (work_at book n)) (ap (λ (f : Book). call_in (record book { book = f }) t) fits.parts)
    ∙ ap (new_from graph n (call s t)) (same_work graph s book n fits)
    ∙ ap (λ (v : Value). elim (is_source (node_at graph n)) [ true ↦ set_value n (Faulty NoChoice) (call s t).sets | false ↦ v ]) (worked-same s n (body_of (node_at graph n)))

-- ---- what is made

pub resolve-makes : (graph : Graph) (book mid new : Booked) (n : ℕ) (list new_list : Versions) (t : ℕ) (v old : Value) (is_same : Bool) (picks : List (Option ℕ))
    → v ≡ new_value graph book t n → old ≡ value_before list.entries t → is_same ≡ same v old → picks ≡ picks_of_found (work_at book n).found
    → new_list ≡ with_entries list (with_state t (Done v (not is_same) picks) list.entries) → mid ≡ on_call book t (closed n (not is_same)) → new ≡ on_work mid n forgotten
    → MakesList graph book n list (Resolve t n) new new_list
resolve-makes graph book mid new n list new_list t v old is_same picks value before compared picked made mid_is new_is s fits is_list h =
    resolved graph s book mid new n list new_list t v old is_same picks (resolve_front graph s book n list t fits is_list h) (value ∙ same_value graph s book t n fits) before compared
    (picked ∙ ap (λ (w : Work). picks_of_found w.found) (same_work graph s book n fits)) made mid_is new_is
