-- What the sweeper's answers say of a caller's calls.
use Rattle.std.proofs.Common.{◌≡◌, ℕ, suc, ◌≤◌, Bool, true, false, nat_lt, refl, sym, ap, arith, List, [], ◌∷◌, ◌++◌, ◌∙◌, Option, Some, None}
use Rattle.std.proofs.lemmas.Bool.Decides.{nat_tests}
use Rattle.signal_graph.specs.declared.call.Call.{Call}
use Rattle.signal_graph.specs.declared.log.Why.{Why}
use Rattle.signal_graph.specs.declared.log.Why.TheVariants.{UnknownName, VersionsUsedUp}
use Rattle.signal_graph.specs.Graph.{Graph}
use Rattle.signal_graph.specs.Machine.{misnamed}
use Rattle.flow_model.specs.declared.step.Step.{Step}
use Rattle.flow_model.specs.Machine.Histories.{Move, Begin, Make}
use Rattle.flow_model.specs.Machine.Schedules.{refused_for}
use Rattle.flow_model.specs.Follows.Callers.{count_begins, calls_of}
use Rattle.flow_model.proofs.Schedules.ThreadsTakeTheirScripts.{begin-count}
use Rattle.sweeper.specs.Answers.{refused_after}
use Rattle.caller_fronts.specs.Fronts.{IsLater}
use Rattle.caller_fronts.proofs.OwnCalls.{calls-stay}
use Rattle.worker_gate.specs.Scripts.{GoesOn}
use Rattle.worker_gate.specs.Calls.{Sees, HasBegun}
use Rattle.worker_gate.proofs.Begun.{step-calls, begin-calls, count-append, further-count, history-count, goes_further, goes_one}

pub later-GoesOn : (graph : Graph) (callers limit k : ℕ) (front f : List Move) → IsLater graph callers limit k front f → GoesOn front f
later-GoesOn graph callers limit k front f l = (l.rest, sym l.joined)

pub later-Sees : (graph : Graph) (callers limit k : ℕ) (front f : List Move) → IsLater graph callers limit k front f → Sees k front f
later-Sees graph callers limit k front f l =
    (later-GoesOn graph callers limit k front f l, ap calls_of (calls-stay graph callers limit k front f l))

pub later-count : (graph : Graph) (callers limit k : ℕ) (front f : List Move) → IsLater graph callers limit k front f → count_begins f ≤ limit
later-count graph callers limit k front f l = history-count graph callers limit f l.history

-- ---- a step

pub step-Sees : (graph : Graph) (callers limit k : ℕ) (front f : List Move) (step : Step) → IsLater graph callers limit k front f → Sees k front (f ++ Make step ∷ [])
step-Sees graph callers limit k front f step l =
    let s = later-Sees graph callers limit k front f l in
    (goes_further front f (f ++ Make step ∷ []) s.0 (goes_one f (Make step)), step-calls k f step ∙ s.1)

pub step-count : (graph : Graph) (callers limit k : ℕ) (front f : List Move) (step : Step) → IsLater graph callers limit k front f → count_begins (f ++ Make step ∷ []) ≤ limit
step-count graph callers limit k front f step l =
    let a = count-append f (Make step ∷ []) in
    let b = later-count graph callers limit k front f l in
    omega (arith, a, b)

-- ---- a beginning

begins-below : (begun limit : ℕ) (o : Option ℕ) → refused_for begun limit o ≡ None → (o ≡ None) × (suc begun ≤ limit)
begins-below begun limit (Some place) e = cc
begins-below begun limit None e = (refl, go (nat_lt begun limit) refl e)
  where
    go : (b : Bool) → nat_lt begun limit ≡ b → elim b as (λ _. Option Why) [ true ↦ None | false ↦ Some (VersionsUsedUp limit) ] ≡ None → suc begun ≤ limit
    go true k e = grind (arith, nat_tests)
    go false k e = cc

pub begin-HasBegun : (graph : Graph) (callers limit k : ℕ) (front f : List Move) (call : Call) → IsLater graph callers limit k front f → refused_after graph limit call f ≡ None
    → HasBegun graph k call front (f ++ Begin k call ∷ [])
begin-HasBegun graph callers limit k front f call l e = record {
  named = (begins-below (count_begins f) limit (misnamed graph call) e).0;
  further = goes_further front f (f ++ Begin k call ∷ []) s.0 (goes_one f (Begin k call));
  grown = begin-calls k f call ∙ ap (λ (cs : List Call). cs ++ call ∷ []) s.1;
  more = let a = begin-count f k call in let b = further-count front f s.0 in omega (arith, a, b);
}
  where
    s : Sees k front f
    s = later-Sees graph callers limit k front f l

-- why a well-named call is refused
pub used-up : (begun limit : ℕ) (o : Option ℕ) (why : Why) → begun ≤ limit → refused_for begun limit o ≡ Some why → o ≡ None → (why ≡ VersionsUsedUp limit) × (begun ≡ limit)
used-up begun limit (Some place) why l e n = cc
used-up begun limit None why l e n = go (nat_lt begun limit) refl e
  where
    go : (b : Bool) → nat_lt begun limit ≡ b → elim b as (λ _. Option Why) [ true ↦ None | false ↦ Some (VersionsUsedUp limit) ] ≡ Some why → (why ≡ VersionsUsedUp limit) × (begun ≡ limit)
    go true k e = cc
    go false k e = (grind (arith, e), grind (arith, nat_tests))

pub misnamed-why : (begun limit place : ℕ) (o : Option ℕ) (why : Why) → refused_for begun limit o ≡ Some why → o ≡ Some place → why ≡ UnknownName place
misnamed-why begun limit place (Some other) why e n = grind (arith, e, n)
misnamed-why begun limit place None why e n = cc

-- ---- further

pub sees-further : (k : ℕ) (a b c : List Move) → Sees k a b → Sees k b c → Sees k a c
sees-further k a b c f g = (goes_further a b c f.0 g.0, g.1 ∙ f.1)
