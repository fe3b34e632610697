-- A call that is admitted, with what it needs besides its room.
use Rattle.std.proofs.Common.{◌≡◌, ℕ, ◌≤◌, suc, List, [], ◌∷◌, ◌++◌, length, Result, Ok, Err, None, sym, ap, ◌∙◌, subst, vec_capacity}
use Rattle.std.specs.Prelude.{IfOk}
use Rattle.script_tree.specs.declared.memory.OutOfMemory.{OutOfMemory}
use Rattle.signal_graph.specs.declared.call.Call.{Call}
use Rattle.signal_graph.specs.Graph.{Graph}
use Rattle.signal_graph.specs.Machine.{looks_of}
use Rattle.flow_model.specs.Machine.Histories.{Move, Begin}
use Rattle.flow_model.specs.Follows.Callers.{count_begins}
use Rattle.interleave_core.specs.Beginning.{why_of}
use Rattle.caller_fronts.specs.Tokens.{Idle, Going}
use Rattle.sweeper.specs.declared.locked.Prepared.{Prepared}
use Rattle.sweeper.specs.declared.token.Begun.{Begun}
use Rattle.sweeper.specs.declared.token.Begun.TheVariants as begun
use Rattle.sweeper.specs.Answers.{Begins, Starts, refused_after}

abbrev pub IsCopy : Call → Result Prepared OutOfMemory → Type 0
IsCopy call prepared = IfOk prepared (λ p. (p.call ≡ call) × (p.looks.items ≡ []) × (length (looks_of call) ≤ vec_capacity p.looks))

-- what holds of the call holds of its copy
pub copy-has : (P : Call → Type 0) (call : Call) (prepared : Result Prepared OutOfMemory) → IsCopy call prepared → P call → IfOk prepared (λ p. P p.call)
copy-has P call (Ok p) is h = subst P (sym is.0) h
copy-has P call (Err e) is h = tt

pub copy-looks : (call : Call) (prepared : Result Prepared OutOfMemory) → IsCopy call prepared
    → IfOk prepared (λ p. (p.looks.items ≡ []) × (length (looks_of p.call) ≤ vec_capacity p.looks))
copy-looks call (Ok p) is = (is.1, subst (λ (c : Call). length (looks_of c) ≤ vec_capacity p.looks) (sym is.0) is.2)
copy-looks call (Err e) is = tt

module _ {J : Type 0} (graph : Graph) (callers limit : ℕ) where
  pub starts-begins : (pass : Idle) (call : Call) (f : List Move) (prepared : Result Prepared OutOfMemory) → IsCopy call prepared
      → refused_after graph limit call f ≡ None → (answer : Begun J) → Starts graph callers limit pass.caller f prepared answer → Begins graph callers limit pass call f answer
  starts-begins pass call f (Ok p) is none (begun.Live live) h =
      (none, h ∙ ap (λ (c : Call). begin pass.caller f c) is.0)
    where
      begin : ℕ → List Move → Call → Going
      begin k ms c = record { caller = k; front = ms ++ Begin k c ∷ []; version = suc (count_begins ms); out = [] }
  starts-begins pass call f (Ok p) is none (begun.Refused new refusal) h = absurd h
  starts-begins pass call f (Err e) is none (begun.Live live) h = absurd h
  starts-begins pass call f (Err e) is none (begun.Refused new refusal) h = (ap why_of h.0 ∙ sym none, h.1)
