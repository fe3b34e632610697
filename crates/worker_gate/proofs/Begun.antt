-- What a longer history says of a caller's calls.
use Rattle.std.proofs.Common.{◌≡◌, ℕ, suc, ◌+◌, ◌≤◌, Bool, true, false, ◌==◌, refl, sym, ap, arith, List, [], ◌∷◌, ◌++◌, ◌∙◌, subst, append-nil, append_assoc}
use Rattle.std.proofs.lemmas.List.{map-append}
use Rattle.std.proofs.lemmas.Bool.{eq-eqb}
use Rattle.signal_graph.specs.declared.call.Call.{Call}
use Rattle.signal_graph.specs.Graph.{Graph}
use Rattle.flow_model.specs.declared.step.Step.{Step}
use Rattle.flow_model.specs.Machine.Histories.{Move, Begin, Make, state, is_history}
use Rattle.flow_model.specs.Follows.Callers.{count_begins, begun_from, begun_by, calls_of}
use Rattle.flow_model.proofs.Callers.CallersHaveTheirCalls.{history-counts, history-begun}
use Rattle.caller_fronts.proofs.OwnCalls.{begun-append}
use Rattle.worker_gate.specs.Scripts.{GoesOn}

pub count-append : (xs ys : List Move) → count_begins (xs ++ ys) ≡ count_begins xs + count_begins ys
count-append [] ys = omega arith
count-append (Begin caller c ∷ xs) ys = let a = count-append xs ys in omega (arith, a)
count-append (Make step ∷ xs) ys = count-append xs ys

calls-append : (k : ℕ) (xs ys : List Move) → calls_of (begun_by k (xs ++ ys)) ≡ calls_of (begun_by k xs) ++ calls_of (begun_from k (0 + count_begins xs) ys)
calls-append k xs ys = ap calls_of (begun-append k 0 xs ys) ∙ map-append (λ (p : ℕ × Call). p.1) (begun_by k xs) (begun_from k (0 + count_begins xs) ys)

-- ---- own calls

pub step-calls : (k : ℕ) (xs : List Move) (step : Step) → calls_of (begun_by k (xs ++ Make step ∷ [])) ≡ calls_of (begun_by k xs)
step-calls k xs step = calls-append k xs (Make step ∷ []) ∙ append-nil (calls_of (begun_by k xs))

pub begin-calls : (k : ℕ) (xs : List Move) (c : Call) → calls_of (begun_by k (xs ++ Begin k c ∷ [])) ≡ calls_of (begun_by k xs) ++ c ∷ []
begin-calls k xs c = calls-append k xs (Begin k c ∷ []) ∙ ap (λ (cs : List Call). calls_of (begun_by k xs) ++ cs) (one (k == k) (eq-eqb k k refl))
  where
    one : (b : Bool) → b ≡ true → calls_of (elim b as (λ _. List (ℕ × Call)) [ true ↦ (suc (0 + count_begins xs), c) ∷ [] | false ↦ [] ]) ≡ c ∷ []
    one true e = refl
    one false e = absurd (cc)

-- ---- how many calls have begun

pub further-count : (old new : List Move) → GoesOn old new → count_begins old ≤ count_begins new
further-count old new g = let a = count-append old g.0 in let b : count_begins new ≡ count_begins (old ++ g.0) = ap count_begins g.1 in omega (arith, a, b)

pub history-count : (graph : Graph) (callers limit : ℕ) (moves : List Move) → is_history graph callers limit moves ≡ true → count_begins moves ≤ limit
history-count graph callers limit moves h =
    let c = history-counts graph callers limit moves h in
    subst (λ (m : ℕ). m ≤ limit) (history-begun graph callers limit moves h) (subst (λ (m : ℕ). (state graph callers limit moves).begun ≤ m) c.limit c.counted.within)

-- ---- going on

pub goes_nowhere : (moves : List Move) → GoesOn moves moves
goes_nowhere moves = ([], sym (append-nil moves))

pub goes_further : (a b c : List Move) → GoesOn a b → GoesOn b c → GoesOn a c
goes_further a b c f g = (f.0 ++ g.0, g.1 ∙ ap (λ (ms : List Move). ms ++ g.0) f.1 ∙ append_assoc a f.0 g.0)

pub goes_one : (a : List Move) (m : Move) → GoesOn a (a ++ m ∷ [])
goes_one a m = (m ∷ [], refl)
