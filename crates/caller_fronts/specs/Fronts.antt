-- Fronts: the beginnings of one history that callers have seen.
use Rattle.std.specs.Prelude.{◌≡◌, ◌⊎◌, ℕ, true, List, [], ◌∷◌, ◌++◌}
use Rattle.signal_graph.specs.declared.call.Call.{Call}
use Rattle.signal_graph.specs.Graph.{Graph}
use Rattle.flow_model.specs.declared.step.Step.TheVariants.{End}
use Rattle.flow_model.specs.Machine.Histories.{Move, Make, state, is_history}
use Rattle.flow_model.specs.Follows.Others.{none_by}
use Rattle.flow_model.specs.Follows.Callers.{begun_by, calls_of}

-- The later list is a history that begins with the front, and none of the moves behind the front is the caller's own.
pub record IsLater (graph : Graph) (callers limit caller : ℕ) (front later : List Move) : Type 0 where
  pub rest : List Move
  pub joined : front ++ rest ≡ later
  pub history : is_history graph callers limit later ≡ true
  pub others : none_by graph caller (state graph callers limit front) rest ≡ true

-- the calls that a caller has begun in a front, in their order
abbrev pub own_calls : ℕ → List Move → List Call
own_calls caller front = calls_of (begun_by caller front)

-- The last of the moves is the end of a call.
pub record IsEndLast (moves : List Move) : Type 0 where
  pub earlier : List Move
  pub version : ℕ
  pub split : moves ≡ earlier ++ (Make (End version) ∷ [])

-- Where no call lives after the moves, none was made or the last of them is the end of a call.
pub record RestsAtEnds (graph : Graph) (callers limit : ℕ) (moves : List Move) : Type 0 where
  pub last : (state graph callers limit moves).calls ≡ [] → (moves ≡ []) ⊎ IsEndLast moves
