-- What a state finds as the outcome of an evaluation, and back.
use Rattle.std.proofs.Common.{◌≡◌, ℕ, List, [], ◌∷◌, map, Result, Ok, Err, refl, sym, ap, ◌∙◌}
use Rattle.script_tree.specs.declared.value.Fault.{Fault}
use Rattle.signal_graph.specs.Graph.{Graph}
use Rattle.flow_model.specs.Machine.State.{Core}
use Rattle.flow_model.specs.Machine.State as state
use Rattle.flow_model.specs.Machine.Words.{found_now}
use Rattle.flow_state.specs.Answers.{IsOutcome}
use Rattle.flow_state.specs.Found.{selection_of}
use Rattle.flow_state.specs.Jobs.{outcome_in, found_as}

pub selections-back : (rs : List (Result ℕ Fault)) → map selection_of (map found_as rs) ≡ rs
selections-back [] = refl
selections-back (Ok c ∷ rs) = ap (λ (xs : List (Result ℕ Fault)). Ok c ∷ xs) (selections-back rs)
selections-back (Err f ∷ rs) = ap (λ (xs : List (Result ℕ Fault)). Err f ∷ xs) (selections-back rs)

pub outcome-right : (graph : Graph) (s : Core) (t n : ℕ) (found : state.Found) → found_now graph s t n ≡ found → IsOutcome graph s t n (outcome_in found)
outcome-right graph s t n (state.Gives v) is = is
outcome-right graph s t n (state.Selects rs) is = is ∙ ap state.Selects (sym (selections-back rs))
