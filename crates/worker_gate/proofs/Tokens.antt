-- What each answer of the sweeper says of the token that comes back.
use Rattle.std.proofs.Common.{◌≡◌, ℕ, ◌≤◌, ◌<◌, Bool, true, false, inl, inr, arith, refl, sym, ap, List, [], ◌∷◌, ◌++◌, length, ◌∙◌, subst, Some}
use Rattle.std.specs.Prelude.{MatchBool}
use Rattle.signal_graph.specs.declared.log.Refused.{Refused}
use Rattle.signal_graph.specs.declared.call.Call.{Call}
use Rattle.signal_graph.specs.declared.call.Reply.{Reply}
use Rattle.signal_graph.specs.Graph.{Graph}
use Rattle.flow_state.specs.declared.outcome.Answer.{Answer}
use Rattle.flow_model.specs.declared.step.Cause.{Cause}
use Rattle.flow_model.specs.declared.step.Step.TheVariants as step
use Rattle.flow_model.specs.Machine.Histories.{Move, Make}
use Rattle.flow_model.specs.Follows.Callers.{count_begins}
use Rattle.flow_state.specs.Answers.{step_of}
use Rattle.sweeper.specs.declared.token.Begun.{Begun}
use Rattle.sweeper.specs.declared.token.Begun.TheVariants as begun
use Rattle.sweeper.specs.declared.token.Advance.{Advance}
use Rattle.sweeper.specs.declared.token.Advance.TheVariants as advance
use Rattle.sweeper.specs.declared.token.Ended.{Ended}
use Rattle.sweeper.specs.declared.token.Ended.TheVariants as ended
use Rattle.interleave_core.specs.declared.refusal.Refusal.{Refusal}
use Rattle.interleave_core.specs.Beginning.{why_of}
use Rattle.sweeper.specs.Answers.{refused_after, seen, handed_in, Begins, Advances, Finishes}
use Rattle.caller_fronts.specs.Fronts.{IsLater}
use Rattle.caller_fronts.specs.Jobs.{job_of}
use Rattle.caller_fronts.specs.Tokens.{Idle, Going}
use Rattle.worker_gate.specs.declared.worker.Gone.{Gone}
use Rattle.worker_gate.specs.declared.worker.Gone.TheVariants as gone
use Rattle.worker_gate.specs.Calls.{Sees, HasGone, HasBegun, IsCallRefused, IsListed, IsTaken}
use Rattle.worker_gate.proofs.Begun.{goes_nowhere, goes_further, further-count}
use Rattle.worker_gate.proofs.Turns.{later-Sees, later-count, step-Sees, step-count, sees-further, begin-HasBegun}

-- a live call that comes back, having begun nothing
abbrev pub Still : Going → Going → Type 0
Still live next = (next.caller ≡ live.caller) × Sees live.caller live.front next.front

still : (graph : Graph) (callers limit : ℕ) (live next : Going) (f : List Move) → IsLater graph callers limit live.caller live.front f → next.caller ≡ live.caller → next.front ≡ f → Still live next
still graph callers limit live next f l who is = (who, subst (λ (g : List Move). Sees live.caller live.front g) (sym is) (later-Sees graph callers limit live.caller live.front f l))

pub waits-Still : (graph : Graph) (callers limit : ℕ) (live next : Going) → ((f : List Move) × IsLater graph callers limit live.caller live.front f × (next ≡ seen live f) × (length live.front < length f)) → Still live next
waits-Still graph callers limit live next h = still graph callers limit live next h.0 h.1 (ap (λ (t : Going). t.caller) h.2) (ap (λ (t : Going). t.front) h.2)

pub put-Still : (graph : Graph) (callers limit : ℕ) (live next : Going) (answer : Answer) → ((f : List Move) × IsLater graph callers limit live.caller live.front f × (next ≡ handed_in (seen live f) answer)) → Still live next
put-Still graph callers limit live next answer h =
    (ap (λ (t : Going). t.caller) h.2, subst (λ (g : List Move). Sees live.caller live.front g) (sym (ap (λ (t : Going). t.front) h.2)) (step-Sees graph callers limit live.caller live.front h.0 (step_of answer) h.1))

pub further-Still : (a b c : Going) → Still a b → Still b c → Still a c
further-Still a b c p q = (q.0 ∙ p.0, sees-further a.caller a.front b.front c.front p.1 (subst (λ (k : ℕ). Sees k b.front c.front) p.0 q.1))

pub same-Still : (live : Going) → Still live live
same-Still live = (refl, (goes_nowhere live.front, refl))

module _ {J : Type 0} where
  -- ---- what comes next

  abbrev AfterAdvance : Graph → ℕ → ℕ → Going → Advance J → Type 0
  AfterAdvance graph callers limit live answer = (f : List Move) × IsLater graph callers limit live.caller live.front f × Advances graph callers limit live f answer

  pub stepped-Still : (graph : Graph) (callers limit : ℕ) (live next : Going) (answer : Advance J) → AfterAdvance graph callers limit live answer → answer ≡ advance.Stepped next → Still live next
  stepped-Still graph callers limit live next answer h is =
      let k : AfterAdvance graph callers limit live (advance.Stepped next) = subst (AfterAdvance graph callers limit live) is h in
      (ap (λ (t : Going). t.caller) k.2.2, subst (λ (g : List Move). Sees live.caller live.front g) (sym (ap (λ (t : Going). t.front) k.2.2)) (step-Sees graph callers limit live.caller live.front k.0 k.2.0 k.1))

  pub job-Still : (graph : Graph) (callers limit : ℕ) (live next : Going) (job : Answer) (answer : Advance J) → AfterAdvance graph callers limit live answer → answer ≡ advance.Evaluate next job
      → Still live next × (job_of job.node next.out ≡ Some job)
  job-Still graph callers limit live next job answer h is =
      let k : AfterAdvance graph callers limit live (advance.Evaluate next job) = subst (AfterAdvance graph callers limit live) is h in
      (still graph callers limit live next k.0 k.1 (ap (λ (t : Going). t.caller) k.2.4) (ap (λ (t : Going). t.front) k.2.4), k.2.3)

  pub not_yet-Still : (graph : Graph) (callers limit : ℕ) (live next : Going) (cause : Cause) (answer : Advance J) → AfterAdvance graph callers limit live answer → answer ≡ advance.NotYet next cause → Still live next
  not_yet-Still graph callers limit live next cause answer h is =
      let k : AfterAdvance graph callers limit live (advance.NotYet next cause) = subst (AfterAdvance graph callers limit live) is h in
      still graph callers limit live next k.0 k.1 (ap (λ (t : Going). t.caller) k.2.1) (ap (λ (t : Going). t.front) k.2.1)

  pub ready-Still : (graph : Graph) (callers limit : ℕ) (live next : Going) (answer : Advance J) → AfterAdvance graph callers limit live answer → answer ≡ advance.Ready next → Still live next
  ready-Still graph callers limit live next answer h is =
      let k : AfterAdvance graph callers limit live (advance.Ready next) = subst (AfterAdvance graph callers limit live) is h in
      still graph callers limit live next k.0 k.1 (ap (λ (t : Going). t.caller) k.2.1) (ap (λ (t : Going). t.front) k.2.1)

  -- ---- an end

  abbrev AfterEnd : Graph → ℕ → ℕ → Going → Ended J → Type 0
  AfterEnd graph callers limit live answer = (f : List Move) × IsLater graph callers limit live.caller live.front f × Finishes graph callers limit live f answer

  pub ended-Sees : (graph : Graph) (callers limit : ℕ) (live : Going) (pass : Idle) (reply : Reply) (answer : Ended J) → AfterEnd graph callers limit live answer → answer ≡ ended.Ended pass reply
      → (pass.caller ≡ live.caller) × Sees live.caller live.front pass.front × (count_begins pass.front ≤ limit)
  ended-Sees graph callers limit live pass reply answer h is =
      let k : AfterEnd graph callers limit live (ended.Ended pass reply) = subst (AfterEnd graph callers limit live) is h in
      let front : k.0 ++ Make (step.End live.version) ∷ [] ≡ pass.front = sym (ap (λ (t : Idle). t.front) k.2.2) in (
        ap (λ (t : Idle). t.caller) k.2.2,
        subst (λ (g : List Move). Sees live.caller live.front g) front (step-Sees graph callers limit live.caller live.front k.0 (step.End live.version) k.1),
        subst (λ (g : List Move). count_begins g ≤ limit) front (step-count graph callers limit live.caller live.front k.0 (step.End live.version) k.1),
      )

  pub not_ended-Still : (graph : Graph) (callers limit : ℕ) (live next : Going) (cause : Cause) (answer : Ended J) → AfterEnd graph callers limit live answer → answer ≡ ended.NotYet next cause → Still live next
  not_ended-Still graph callers limit live next cause answer h is =
      let k : AfterEnd graph callers limit live (ended.NotYet next cause) = subst (AfterEnd graph callers limit live) is h in
      still graph callers limit live next k.0 k.1 (ap (λ (t : Going). t.caller) k.2.1) (ap (λ (t : Going). t.front) k.2.1)

  pub further-HasGone : (limit : ℕ) (live next : Going) (gone : Gone J) → Still live next → HasGone limit next gone → HasGone limit live gone
  further-HasGone limit live next (gone.On last) s g = further-Still live next last s g
  further-HasGone limit live next (gone.Ended pass) s g =
      (g.0 ∙ s.0, sees-further live.caller live.front next.front pass.front s.1 (subst (λ (k : ℕ). Sees k next.front pass.front) s.0 g.1), g.2)

  pub on-Still : (limit : ℕ) (live next : Going) (answer : Gone J) → HasGone limit live answer → answer ≡ gone.On next → Still live next
  on-Still limit live next answer h is = subst (HasGone limit live) is h

  pub over-Sees : (limit : ℕ) (live mid : Going) (pass : Idle) (answer : Gone J) → Still live mid → HasGone limit mid answer → answer ≡ gone.Ended pass
      → (pass.caller ≡ live.caller) × Sees live.caller live.front pass.front × (count_begins pass.front ≤ limit)
  over-Sees limit live mid pass answer s h is = further-HasGone limit live mid (gone.Ended pass) s (subst (HasGone limit mid) is h)

  -- ---- a beginning

  abbrev AfterBegin : Graph → ℕ → ℕ → Idle → Call → Begun J → Type 0
  AfterBegin graph callers limit pass call answer = (f : List Move) × IsLater graph callers limit pass.caller pass.front f × Begins graph callers limit pass call f answer

  pub live-HasBegun : (graph : Graph) (callers limit : ℕ) (pass : Idle) (call : Call) (live : Going) (answer : Begun J) → AfterBegin graph callers limit pass call answer → answer ≡ begun.Live live
      → (live.caller ≡ pass.caller) × HasBegun graph pass.caller call pass.front live.front
  live-HasBegun graph callers limit pass call live answer h is =
      let k : AfterBegin graph callers limit pass call (begun.Live live) = subst (AfterBegin graph callers limit pass call) is h in
      (ap (λ (t : Going). t.caller) k.2.1, subst (λ (g : List Move). HasBegun graph pass.caller call pass.front g) (sym (ap (λ (t : Going). t.front) k.2.1)) (begin-HasBegun graph callers limit pass.caller pass.front k.0 call k.1 k.2.0))

  pub refused-Sees : (graph : Graph) (callers limit : ℕ) (pass new : Idle) (call : Call) (refusal : Refusal) (answer : Begun J) → AfterBegin graph callers limit pass call answer → answer ≡ begun.Refused new refusal
      → (new.caller ≡ pass.caller) × IsCallRefused graph limit pass.caller call pass.front new.front (why_of refusal)
  refused-Sees graph callers limit pass new call refusal answer h is =
      let k : AfterBegin graph callers limit pass call (begun.Refused new refusal) = subst (AfterBegin graph callers limit pass call) is h in
      let front : k.0 ≡ new.front = sym (ap (λ (t : Idle). t.front) k.2.1) in (
        ap (λ (t : Idle). t.caller) k.2.1,
        record {
          sees = subst (λ (g : List Move). Sees pass.caller pass.front g) front (later-Sees graph callers limit pass.caller pass.front k.0 k.1);
          within = subst (λ (g : List Move). count_begins g ≤ limit) front (later-count graph callers limit pass.caller pass.front k.0 k.1);
          why = k.2.0 ∙ ap (λ (g : List Move). refused_after graph limit call g) front;
        },
      )

  pub refused-IsTaken : (graph : Graph) (callers limit number : ℕ) (pass new : Idle) (call : Call) (refusal : Refusal) (answer : Begun J) (listed now : List Refused) (b : Bool) → AfterBegin graph callers limit pass call answer → answer ≡ begun.Refused new refusal
      → MatchBool b (IsListed pass.caller number (why_of refusal) listed now) (Unit {0})
      → MatchBool b (IsTaken graph limit pass.caller number call pass.front new.front listed now) (Sees pass.caller pass.front new.front)
  refused-IsTaken graph callers limit number pass new call refusal answer listed now true h is l =
      inr (why_of refusal, (refused-Sees graph callers limit pass new call refusal answer h is).1, l)
  refused-IsTaken graph callers limit number pass new call refusal answer listed now false h is l =
      (refused-Sees graph callers limit pass new call refusal answer h is).1.sees

  pub ended-IsTaken : (graph : Graph) (callers limit number : ℕ) (pass : Idle) (call : Call) (live : Going) (last : Idle) (answer : Begun J) (listed : List Refused) → AfterBegin graph callers limit pass call answer → answer ≡ begun.Live live
      → last.caller ≡ live.caller → Sees live.caller live.front last.front → count_begins last.front ≤ limit
      → (last.caller ≡ pass.caller) × IsTaken graph limit pass.caller number call pass.front last.front listed listed
  ended-IsTaken graph callers limit number pass call live last answer listed h is who sees within =
      let b = live-HasBegun graph callers limit pass call live answer h is in
      let s : Sees pass.caller live.front last.front = subst (λ (k : ℕ). Sees k live.front last.front) b.0 sees in
      (who ∙ b.0, inl (grown b.1 s, within, refl))
    where
      grown : HasBegun graph pass.caller call pass.front live.front → Sees pass.caller live.front last.front → HasBegun graph pass.caller call pass.front last.front
      grown b s = record {
        named = b.named;
        further = goes_further pass.front live.front last.front b.further s.0;
        grown = s.1 ∙ b.grown;
        more = let l = further-count live.front last.front s.0 in let m = b.more in omega (arith, l, m);
      }
