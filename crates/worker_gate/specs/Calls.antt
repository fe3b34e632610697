-- What a worker makes of one call.
use Rattle.std.specs.Prelude.{◌≡◌, ℕ, suc, ◌≤◌, ◌⊎◌, Option, Some, None, List, [], ◌∷◌, ◌++◌}
use Rattle.signal_graph.specs.declared.call.Call.{Call}
use Rattle.signal_graph.specs.declared.log.Refused.{Refused}
use Rattle.signal_graph.specs.declared.log.Why.{Why}
use Rattle.signal_graph.specs.Graph.{Graph}
use Rattle.signal_graph.specs.Machine.{misnamed}
use Rattle.flow_model.specs.Machine.Histories.{Move}
use Rattle.flow_model.specs.Follows.Callers.{count_begins}
use Rattle.sweeper.specs.Answers.{refused_after}
use Rattle.caller_fronts.specs.Fronts.{own_calls}
use Rattle.caller_fronts.specs.Tokens.{Going}
use Rattle.worker_gate.specs.Scripts.{GoesOn}
use Rattle.worker_gate.specs.declared.worker.Gone.{Gone}
use Rattle.worker_gate.specs.declared.worker.Gone.TheVariants.{On, Ended}

-- A caller has seen more of the history, and begun no call.
abbrev pub Sees : ℕ → List Move → List Move → Type 0
Sees caller old new = GoesOn old new × (own_calls caller new ≡ own_calls caller old)

module _ {J : Type 0} where
  -- A live call goes on, or has ended in a history with no more calls than may begin.
  abbrev pub HasGone : ℕ → Going → Gone J → Type 0
  HasGone limit live (On next) = (next.caller ≡ live.caller) × Sees live.caller live.front next.front
  HasGone limit live (Ended pass) = (pass.caller ≡ live.caller) × Sees live.caller live.front pass.front × (count_begins pass.front ≤ limit)

-- A caller has begun the call, which is well-named.
pub record HasBegun (graph : Graph) (caller : ℕ) (call : Call) (old new : List Move) : Type 0 where
  pub named : misnamed graph call ≡ None
  pub further : GoesOn old new
  pub grown : own_calls caller new ≡ own_calls caller old ++ call ∷ []
  pub more : suc (count_begins old) ≤ count_begins new

-- A call was refused for the reason that there is after the history, none where there was no memory. Nothing has begun.
pub record IsCallRefused (graph : Graph) (limit caller : ℕ) (call : Call) (old new : List Move) (reason : Option Why) : Type 0 where
  pub sees : Sees caller old new
  pub within : count_begins new ≤ limit
  pub why : reason ≡ refused_after graph limit call new

-- A call is listed, by its number in its caller's script, with the reason for which it was refused.
abbrev pub IsListed : ℕ → ℕ → Option Why → List Refused → List Refused → Type 0
IsListed caller number reason listed now =
    (why : Why) × (reason ≡ Some why) × (now ≡ listed ++ record { caller = caller; number = number; why = why } ∷ [])

-- One call of a script is made, and nothing is listed; or it was refused for a reason, and is listed with that.
abbrev pub IsTaken : Graph → ℕ → ℕ → ℕ → Call → List Move → List Move → List Refused → List Refused → Type 0
IsTaken graph limit caller number call old new listed now =
    (HasBegun graph caller call old new × (count_begins new ≤ limit) × (now ≡ listed))
    ⊎ ((reason : Option Why) × IsCallRefused graph limit caller call old new reason × IsListed caller number reason listed now)
