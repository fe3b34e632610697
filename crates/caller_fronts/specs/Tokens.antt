-- What contracts see of idle callers and of callers within a call, and what their types keep.
use Rattle.std.specs.Prelude.{◌≡◌, ◌≢◌, ℕ, ◌<◌, ◌≤◌, true, false, List, length, Some}
use Rattle.signal_graph.specs.Graph.{Graph, is_in}
use Rattle.signal_graph.specs.Machine.{looks_of}
use Rattle.flow_model.specs.declared.step.Step.{Step}
use Rattle.flow_model.specs.declared.step.Step.TheVariants.{Evaluate, Body, End}
use Rattle.flow_model.specs.declared.step.Turn.{Turn}
use Rattle.flow_model.specs.declared.step.Turn.TheVariants as turn
use Rattle.flow_model.specs.Machine.Keys.{version_of_step, is_own_step}
use Rattle.flow_model.specs.Machine.State.{Core, live, call}
use Rattle.flow_model.specs.Machine.Steps.{has_call, allowed, IsEvaluationDue}
use Rattle.flow_model.specs.Machine.Histories.{Move, state, is_history}
use Rattle.flow_state.specs.declared.outcome.Answer.{Answer}
use Rattle.caller_fronts.specs.Jobs.{jobs_at}

-- an idle caller: its number, and the moves that it has seen
pub record Idle : Type 0 where
  pub caller : ℕ
  pub front : List Move

-- a caller within a call: its number, the moves that it has seen, the call's version, and the jobs that are out, by node, each with
-- what it finds
pub record Going : Type 0 where
  pub caller : ℕ
  pub front : List Move
  pub version : ℕ
  pub out : List Answer

-- One of the callers has seen a history, and it has no live call after it.
pub record IsIdle (graph : Graph) (callers limit caller : ℕ) (front : List Move) : Type 0 where
  pub some : 0 < caller
  pub one_of : caller ≤ callers
  pub history : is_history graph callers limit front ≡ true
  pub idle : has_call caller (state graph callers limit front).calls ≡ false

-- One of the callers has seen a history, the version is of its live call after it, and at each of the nodes an evaluation is due for
-- that call.
pub record IsGoing (graph : Graph) (callers limit caller version : ℕ) (nodes : List ℕ) (front : List Move) : Type 0 where
  pub some : 0 < caller
  pub one_of : caller ≤ callers
  pub history : is_history graph callers limit front ≡ true
  pub lives : live (state graph callers limit front) version ≡ true
  pub whose : (call (state graph callers limit front) version).caller ≡ caller
  pub due : (n : ℕ) → is_in n nodes ≡ true → IsEvaluationDue graph (state graph callers limit front) version n

-- a live call that has seen these moves, with jobs out at these nodes
abbrev pub going_at : Graph → ℕ → ℕ → ℕ → ℕ → List ℕ → List Move → Going
going_at graph callers limit caller version nodes moves = record {
  caller = caller;
  front = moves;
  version = version;
  out = jobs_at graph (state graph callers limit moves) version nodes;
}

-- There is room for as many values as the call looks at.
abbrev pub HasLooks : Graph → ℕ → ℕ → ℕ → List Move → ℕ → Type 0
HasLooks graph callers limit version moves room =
    length (looks_of (call (state graph callers limit moves) version).call) ≤ room

-- The step is none of the evaluations of a call at these nodes.
abbrev pub IsNoJob : ℕ → List ℕ → Step → Type 0
IsNoJob version nodes step = (n : ℕ) → is_in n nodes ≡ true → (step ≢ Evaluate version n) × (step ≢ Body version n)

-- The turn is one of the call: a step in it is allowed and not the call's end, and nobody else's own.
pub record IsTurnOf (graph : Graph) (s : Core) (version : ℕ) (x : Turn) : Type 0 where
  pub allowed : (step : Step) → x ≡ turn.Step step → allowed graph s step ≡ true
  pub own : (step : Step) → x ≡ turn.Step step → is_own_step step ≡ true → version_of_step step ≡ Some version
  pub goes_on : (step : Step) → x ≡ turn.Step step → step ≢ End version
