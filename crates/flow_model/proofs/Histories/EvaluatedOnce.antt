-- A history has at most one evaluation of a node by a call, and at most one of its body.
-- This rests on each move keeping a lawful state lawful, which comes as a premise.
use Rattle.std.proofs.Common.{◌≡◌, ℕ, Bool, true, false, refl, sym, List, ◌∷◌, ◌++◌, true≢false, Option, Some, None}
use Rattle.std.proofs.lemmas.Bool.{false_from_ne_true, both_ways, not-true}
use Rattle.std.specs.Prelude.{is_some, is_none}
use Rattle.script_tree.specs.declared.value.Value.{Value}
use Rattle.script_tree.proofs.Truths.{and_right}
use Rattle.signal_graph.specs.Graph.{Graph, IsGraph}
use Rattle.flow_model.specs.declared.step.Step.{Step}
use Rattle.flow_model.specs.declared.step.Step.TheVariants as steps
use Rattle.flow_model.specs.Machine.State.{Core, Cell, cell, opening}
use Rattle.flow_model.specs.Machine.Words.{at_front}
use Rattle.flow_model.specs.Machine.Steps.{allowed, apply}
use Rattle.flow_model.specs.Kept.Lawful.{IsLawful}
use Rattle.flow_model.specs.Machine.Histories.{Move, Begin, Make, may, after_move, after_moves, is_history}
use Rattle.flow_model.proofs.OneStep.WhoMayStep.{evaluate-at_front, body-at_front}
use Rattle.flow_model.proofs.Opening.OpeningIsLawful.{opening-lawful}
use Rattle.flow_model.proofs.Histories.Moves.{KeepsLawful, may_first, may_parts, moves-lawful, moves-reach}
use Rattle.flow_model.proofs.Histories.FoundUntilDone.{IsKeptWork, HasWorked, step-worked, begin-worked, worked-kept, found-work, body-work, evaluated-worked, body-worked}

-- ---- work that is done once

-- A step by which the call does the work at the node: it is done after it, and not before.
record IsWorkStep (graph : Graph) (kept : Cell → Bool) (t n : ℕ) (step : Step) : Type 0 where
  work : IsKeptWork graph kept
  front : (s : Core) → allowed graph s step ≡ true → at_front graph s t n ≡ true
  new : (s : Core) → allowed graph s step ≡ true → kept (cell s n) ≡ false
  done : (s : Core) → IsLawful graph s → allowed graph s step ≡ true → HasWorked kept (apply graph s step) t n

worked-once : (graph : Graph) → IsGraph graph → KeepsLawful graph → (kept : Cell → Bool) (t n : ℕ) (step : Step) → IsWorkStep graph kept t n step → (callers limit : ℕ) (first more rest : List Move) → is_history graph callers limit (first ++ (Make step ∷ (more ++ Make step ∷ rest))) ≡ false
worked-once graph g keeps kept t n step w callers limit first more rest = false_from_ne_true _ (λ k. go k)
  where
    stays : (s : Core) (move : Move) → IsLawful graph s → may graph s move ≡ true → HasWorked kept s t n → HasWorked kept (after_move graph s move) t n
    stays s (Begin caller call) h m k = begin-worked graph kept s h caller call t n k
    stays s (Make x) h m k = step-worked graph kept w.work s h x m t n k

    s0 : Core
    s0 = opening graph callers limit

    s1 : Core
    s1 = after_moves graph s0 first

    s2 : Core
    s2 = after_move graph s1 (Make step)

    s3 : Core
    s3 = after_moves graph s2 more

    go : is_history graph callers limit (first ++ (Make step ∷ (more ++ Make step ∷ rest))) ≡ true → ⊥
    go k =
        let a = may_parts graph first (Make step ∷ more ++ Make step ∷ rest) s0 k in
        let h1 = moves-lawful graph keeps first s0 (opening-lawful graph g callers limit) a.0 in
        let b = may_first graph s1 (Make step) (more ++ Make step ∷ rest) a.1 in
        let c = may_parts graph more (Make step ∷ rest) s2 b.1 in
        let r = moves-reach graph keeps (λ s. HasWorked kept s t n) stays more s2 (keeps s1 (Make step) h1 b.0) (w.done s1 h1 b.0) c.0 in
        let d = may_first graph s3 (Make step) rest c.1 in
        both_ways _ (w.new s3 d.0) (worked-kept graph kept s3 r.lawful t n r.holds (w.front s3 d.0))

-- ---- evaluations and bodies

evaluate-step : (graph : Graph) (t n : ℕ) → IsWorkStep graph (λ c. is_some c.found) t n (steps.Evaluate t n)
evaluate-step graph t n = record {
  work = found-work graph;
  front = λ s a. evaluate-at_front graph s t n a;
  new = λ s a. not-true _ (and_right _ _ a);
  done = λ s h a. evaluated-worked graph s h t n a;
}

body-step : (graph : Graph) (t n : ℕ) → IsWorkStep graph (λ c. is_some c.body) t n (steps.Body t n)
body-step graph t n = record {
  work = body-work graph;
  front = λ s a. body-at_front graph s t n a;
  new = λ s a. none (cell s n).body (and_right _ _ a);
  done = λ s h a. body-worked graph s h t n a;
}
  where
    none : (o : Option Value) → is_none o ≡ true → is_some o ≡ false
    none None k = refl
    none (Some v) k = absurd (true≢false (sym k))

pub evaluated-once : (graph : Graph) → IsGraph graph → KeepsLawful graph → (callers limit : ℕ) (first more rest : List Move) (t n : ℕ) → is_history graph callers limit (first ++ (Make (steps.Evaluate t n) ∷ (more ++ Make (steps.Evaluate t n) ∷ rest))) ≡ false
evaluated-once graph g keeps callers limit first more rest t n = worked-once graph g keeps (λ c. is_some c.found) t n (steps.Evaluate t n) (evaluate-step graph t n) callers limit first more rest

pub body-once : (graph : Graph) → IsGraph graph → KeepsLawful graph → (callers limit : ℕ) (first more rest : List Move) (t n : ℕ) → is_history graph callers limit (first ++ (Make (steps.Body t n) ∷ (more ++ Make (steps.Body t n) ∷ rest))) ≡ false
body-once graph g keeps callers limit first more rest t n = worked-once graph g keeps (λ c. is_some c.body) t n (steps.Body t n) (body-step graph t n) callers limit first more rest
