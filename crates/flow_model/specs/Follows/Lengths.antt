-- The steps of one call alone.
use Rattle.std.specs.Prelude.{◌≡◌, ℕ, true, List, [], ◌∷◌}
use Rattle.signal_graph.specs.Graph.{Graph}
use Rattle.flow_model.specs.declared.step.Step.{Step}
use Rattle.flow_model.specs.declared.step.Turn.TheVariants as turn
use Rattle.flow_model.specs.Machine.State.{Core, live}
use Rattle.flow_model.specs.Machine.Next.{next}
use Rattle.flow_model.specs.Machine.Steps.{apply}

-- The steps are a live call's next ones, one after the other.
abbrev pub AreNext : Graph → ℕ → Core → List Step → Type 0
AreNext graph t s [] = Unit {0}
AreNext graph t s (step ∷ rest) = (live s t ≡ true) × (next graph s t ≡ turn.Step step) × AreNext graph t (apply graph s step) rest
