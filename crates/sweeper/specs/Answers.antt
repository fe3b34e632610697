-- What the calls of a sweeper answer. In each of them f is the history at the call's lock, and s the state after it.
use Rattle.std.specs.Prelude.{◌≡◌, ℕ, suc, true, List, [], ◌∷◌, ◌++◌, Option, Some, None, Result, Ok, Err}
use Rattle.signal_graph.specs.declared.call.Call.{Call}
use Rattle.signal_graph.specs.declared.log.Why.{Why}
use Rattle.signal_graph.specs.Graph.{Graph}
use Rattle.signal_graph.specs.Machine.{misnamed}
use Rattle.flow_state.specs.declared.outcome.Answer.{Answer}
use Rattle.flow_state.specs.Answers.{step_of}
use Rattle.flow_model.specs.declared.step.Step.{Step}
use Rattle.flow_model.specs.declared.step.Step.TheVariants as step
use Rattle.flow_model.specs.declared.step.Cause.{Cause}
use Rattle.flow_model.specs.declared.step.Cause.TheVariants.{JobOut}
use Rattle.flow_model.specs.declared.step.Turn.{Turn}
use Rattle.flow_model.specs.declared.step.Turn.TheVariants as turn
use Rattle.flow_model.specs.Machine.State.{call}
use Rattle.flow_model.specs.Machine.Steps.{allowed, reply_of}
use Rattle.flow_model.specs.Machine.Next.{next, next_at, why_not_ended}
use Rattle.flow_model.specs.Machine.Schedules.{refused_for}
use Rattle.flow_model.specs.Machine.Histories.{Move, Begin, Make, state}
use Rattle.flow_model.specs.Follows.Callers.{count_begins}
use Rattle.interleave_core.specs.Beginning.{why_of}
use Rattle.interleave_core.specs.declared.refusal.Refusal.TheVariants.{Memory}
use Rattle.script_tree.specs.declared.memory.OutOfMemory.{OutOfMemory}
use Rattle.sweeper.specs.declared.locked.Prepared.{Prepared}
use Rattle.sweeper.specs.declared.token.Begun.{Begun}
use Rattle.sweeper.specs.declared.token.Begun.TheVariants as begun
use Rattle.sweeper.specs.declared.token.Advance.{Advance}
use Rattle.sweeper.specs.declared.token.Advance.TheVariants as advance
use Rattle.sweeper.specs.declared.token.Ended.{Ended}
use Rattle.sweeper.specs.declared.token.Ended.TheVariants as ended
use Rattle.caller_fronts.specs.Jobs.{job_of, is_job_out, with_job, without_job}
use Rattle.caller_fronts.specs.Tokens.{Idle, Going}

-- why a call is refused after a history, whoever its caller is
abbrev pub refused_after : Graph → ℕ → Call → List Move → Option Why
refused_after graph limit call f = refused_for (count_begins f) limit (misnamed graph call)

-- the cause of a turn: that which it names, or that the evaluation which comes next is out already
abbrev pub cause_out : ℕ → Option Answer → Option Cause
cause_out n None = None
cause_out n (Some job) = Some (JobOut n)

abbrev pub cause_of : Turn → List Answer → Option Cause
cause_of (turn.NotYet cause) out = Some cause
cause_of (turn.Step (step.Evaluate t n)) out = cause_out n (job_of n out)
cause_of (turn.Step (step.Body t n)) out = cause_out n (job_of n out)
cause_of other out = None

-- the step of a turn, where it is one that needs no job
abbrev pub plain_step : Turn → Option Step
plain_step (turn.Step (step.Evaluate t n)) = None
plain_step (turn.Step (step.Body t n)) = None
plain_step (turn.Step other) = Some other
plain_step other = None

-- a live call that has seen f, with no step made
abbrev pub seen : Going → List Move → Going
seen live f = record live { front = f }

-- a live call that has made a step after all that it has seen
abbrev pub stepped : Going → Step → Going
stepped live step = record live { front = live.front ++ Make step ∷ [] }

module _ {J : Type 0} (graph : Graph) (callers limit : ℕ) where
  -- A call begins: the new front is f and its beginning, and its version is how many calls have begun then. Or it is refused, and the
  -- new front is f.
  abbrev pub Begins : Idle → Call → List Move → Begun J → Type 0
  Begins pass call f (begun.Live live) =
      (refused_after graph limit call f ≡ None)
      × (live ≡ record { caller = pass.caller; front = f ++ Begin pass.caller call ∷ []; version = suc (count_begins f); out = [] })
  Begins pass call f (begun.Refused new refusal) =
      (why_of refusal ≡ refused_after graph limit call f) × (new ≡ record pass { front = f })

  -- An admitted call of an idle caller begins, where there was memory for it.
  abbrev pub Starts : ℕ → List Move → Result Prepared OutOfMemory → Begun J → Type 0
  Starts caller f (Ok prepared) (begun.Live live) =
      live ≡ record { caller = caller; front = f ++ Begin caller prepared.call ∷ []; version = suc (count_begins f); out = [] }
  Starts caller f (Err none) (begun.Refused pass refusal) = (refusal ≡ Memory) × (pass ≡ record { caller = caller; front = f })
  Starts caller f other answer = ⊥

  -- What a turn of a call comes to, which has seen all moves: a step that needs no job is made; or the job of its evaluation goes out,
  -- which was not out before; or there is a cause; or nothing is left but the end. But for the first, no move is made.
  abbrev pub Takes : Going → Turn → Advance J → Type 0
  Takes live x (advance.Stepped new) = (step : Step) × (plain_step x ≡ Some step) × (new ≡ stepped live step)
  Takes live x (advance.Evaluate new job) =
      (x ≡ turn.Step (step_of job)) × (job.version ≡ live.version) × (job_of job.node live.out ≡ None)
      × (job_of job.node new.out ≡ Some job) × (new ≡ record live { out = with_job job live.out })
  Takes live x (advance.NotYet new cause) = (cause_of x live.out ≡ Some cause) × (new ≡ live)
  Takes live x (advance.Ready new) = (x ≡ turn.Ready) × (new ≡ live)

  -- The job at a node for a call goes out, whichever of its evaluations is due, unless it was out before.
  abbrev pub HandsOut : Going → ℕ → Advance J → Type 0
  HandsOut live n (advance.Evaluate new job) =
      (allowed graph (state graph callers limit live.front) (step.Evaluate live.version n) ≡ true
      → step_of job ≡ step.Evaluate live.version n)
      × (allowed graph (state graph callers limit live.front) (step.Body live.version n) ≡ true
      → step_of job ≡ step.Body live.version n)
      × (job.version ≡ live.version) × (job.node ≡ n) × (job_of n live.out ≡ None) × (job_of n new.out ≡ Some job)
      × (new ≡ record live { out = with_job job live.out })
  HandsOut live n (advance.NotYet new cause) = (cause ≡ JobOut n) × (is_job_out n live.out ≡ true) × (new ≡ live)
  HandsOut live n other = ⊥

  -- The turn is what comes next for the call after f; or what comes next at a node.
  abbrev pub Advances : Going → List Move → Advance J → Type 0
  Advances live f answer = Takes (seen live f) (next graph (state graph callers limit f) live.version) answer

  abbrev pub AdvancesAt : Going → ℕ → List Move → Advance J → Type 0
  AdvancesAt live n f answer = Takes (seen live f) (next_at graph (state graph callers limit f) live.version n) answer

  -- The call ends: the new front is f and its end, which is allowed there, and the reply is what it replies there. Or there is a cause,
  -- and the new front is f.
  abbrev pub Finishes : Going → List Move → Ended J → Type 0
  Finishes live f (ended.Ended pass reply) =
      (why_not_ended (state graph callers limit f) live.version ≡ None)
      × (allowed graph (state graph callers limit f) (step.End live.version) ≡ true)
      × (pass ≡ record { caller = live.caller; front = f ++ Make (step.End live.version) ∷ [] })
      × (reply ≡ reply_of (call (state graph callers limit f) live.version) (call (state graph callers limit f) live.version).call)
  Finishes live f (ended.NotYet new cause) =
      (why_not_ended (state graph callers limit f) live.version ≡ Some cause) × (new ≡ seen live f)

-- a live call that has made the step of its job's answer after all that it has seen
abbrev pub handed_in : Going → Answer → Going
handed_in live answer = record live { front = live.front ++ Make (step_of answer) ∷ []; out = without_job answer.node live.out }
