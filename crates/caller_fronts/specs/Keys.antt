-- Keys: each move of a history stands under the key of the caller whose own move it is.
use Rattle.std.specs.Prelude.{◌≡◌, ℕ, true, false, List, [], ◌∷◌}
use Rattle.chronicle.specs.declared.entry.Entry.{Entry}
use Rattle.signal_graph.specs.Graph.{Graph}
use Rattle.flow_model.specs.declared.step.Step.{Step}
use Rattle.flow_model.specs.Machine.Keys.{is_own_step}
use Rattle.flow_model.specs.Machine.State.{Core}
use Rattle.flow_model.specs.Machine.Histories.{Move, after_move}
use Rattle.flow_model.specs.Follows.Others.{caller_of}

-- the key of a step that a caller makes: its own where nobody else may make the step, else none
abbrev pub key_for : ℕ → Step → ℕ
key_for caller step = elim (is_own_step step) [ true ↦ caller | false ↦ 0 ]

-- Each entry stands under the key of the caller whose own move it is in the state before it, and under no other.
abbrev pub AreKeyed : Graph → Core → List (Entry Move) → Type 0
AreKeyed graph s [] = Unit {0}
AreKeyed graph s (e ∷ es) = (e.first_key ≡ caller_of s e.event) × (e.second_key ≡ 0) × AreKeyed graph (after_move graph s e.event) es
