-- The value before a call at a node that it has evaluated is, when it ends, the node's value before the call in the log.
use Rattle.std.proofs.Common.{◌≡◌, ℕ, suc, ◌<◌, Bool, true, false, ◌==◌, ◌⊎◌, inl, inr, refl, sym, ap, arith, List, [], ◌∷◌, ◌++◌, length, ◌∙◌, subst, Option, Some}
use Rattle.std.proofs.lemmas.Bool.{both_ways}
use Rattle.std.specs.Prelude.{is_some}
use Rattle.script_tree.specs.declared.value.Value.{Value}
use Rattle.signal_graph.specs.declared.call.Call.{Call}
use Rattle.signal_graph.specs.Graph.{Graph, IsGraph}
use Rattle.signal_graph.specs.Values.{val}
use Rattle.signal_graph.specs.Legal.{state_after}
use Rattle.node_versions.specs.declared.entry.Entry.{Entry}
use Rattle.node_versions.specs.Entries.{value_before, value_of, state_of}
use Rattle.flow_model.specs.declared.step.Step.{Step}
use Rattle.flow_model.specs.declared.step.Step.TheVariants as steps
use Rattle.flow_model.specs.Machine.State.{Core, Cell, call_of, live, entries, opening}
use Rattle.flow_model.specs.Machine.Words.{found_now}
use Rattle.flow_model.specs.Machine.Steps.{allowed, apply, begin, keep_found, new_call}
use Rattle.flow_model.specs.Kept.Lawful.{IsLawful}
use Rattle.flow_model.specs.Machine.Histories.{Move, Begin, Make, may, after_move, after_moves, may_all, state, is_history, HasEvaluated}
use Rattle.flow_model.proofs.OneStep.ChangesOfOneList.{same_cell, step-list}
use Rattle.flow_model.proofs.OneStep.WhoLivesAndFrames.{step-phases}
use Rattle.flow_model.proofs.OneStep.SameCallers.{phase-live}
use Rattle.flow_model.proofs.OneStep.BegunCalls.{begin-call}
use Rattle.flow_model.proofs.OneStep.WhoMayStep.{opens-live}
use Rattle.flow_model.proofs.OrderStays.OpenNodesHaveFrames.{entry-there}
use Rattle.flow_model.proofs.Wants.FramedWith.{heads-opens}
use Rattle.flow_model.proofs.Opening.OpeningIsLawful.{opening-lawful}
use Rattle.flow_model.proofs.Values.NothingComesBefore.{IsUnblocked, head-unblocked, done-unblocked, kept-before}
use Rattle.flow_model.proofs.Ended.WhoEndsIsFirst.{end-live}
use Rattle.flow_model.proofs.Ended.AfterEnd.{MachineLaws, reads-old}
use Rattle.flow_model.proofs.Histories.FoundUntilDone.{HasWorked, by_done, by_work, by_end, found-work, step-worked, begin-worked, evaluated-worked}
use Rattle.flow_model.proofs.Histories.Moves.{KeepsLawful, may_first, may_parts, after_parts, moves-lawful, moves-reach, history-lawful}

abbrev is_evaluated : Cell → Bool
is_evaluated c = is_some c.found

-- The call has evaluated the node, and while it lives the value before it is this one.
record HasBefore (s : Core) (t n : ℕ) (v : Value) : Type 0 where
  worked : HasWorked is_evaluated s t n
  before : live s t ≡ true → v ≡ value_before (entries s n) t

-- Where it lives it has its entry there, and no Frame stands before that.
unblocked : (graph : Graph) (s : Core) → IsLawful graph s → (t n : ℕ) → live s t ≡ true → HasWorked is_evaluated s t n → IsUnblocked (entries s n) t
unblocked graph s h t n l (by_done k d) = done-unblocked graph s h t n d
unblocked graph s h t n l (by_work hd f) = head-unblocked graph s h t n hd
unblocked graph s h t n l (by_end d b) = absurd (both_ways _ d l)

step-before : (graph : Graph) (s : Core) → IsLawful graph s → (step : Step) → allowed graph s step ≡ true → (t n : ℕ) (v : Value) → HasBefore s t n v → HasBefore (apply graph s step) t n v
step-before graph s h step a t n v r = record {
  worked = step-worked graph is_evaluated (found-work graph) s h step a t n r.worked;
  before = λ lq. let l = phase-live s q (step-phases graph s step a) t lq in
      r.before l ∙ sym (ap (λ (o : Option Entry). value_of (state_of o)) (kept-before graph s h n t l (unblocked graph s h t n l r.worked) (entries q n) (step-list graph s step h a n)));
}
  where
    q : Core
    q = apply graph s step

begin-before : (graph : Graph) (s : Core) → IsLawful graph s → (caller : ℕ) (c : Call) (t n : ℕ) (v : Value) → HasBefore s t n v → HasBefore (begin graph s caller c) t n v
begin-before graph s h caller c t n v r = record {
  worked = begin-worked graph is_evaluated s h caller c t n r.worked;
  before = λ lq. go r.worked (begin-call graph s h caller c t) lq;
}
  where
    q : Core
    q = begin graph s caller c

    old : live s t ≡ true → v ≡ value_before (entries q n) t
    old l = r.before l

    go : HasWorked is_evaluated s t n → ((call_of q.calls t ≡ call_of s.calls t) × ((suc s.begun == t) ≡ false)) ⊎ ((t ≡ suc s.begun) × (call_of q.calls t ≡ Some (new_call graph s caller c)))
        → live q t ≡ true → v ≡ value_before (entries q n) t
    go k (inl e) lq = old (sym (ap is_some e.0) ∙ lq)
    go (by_done l d) (inr e) lq = old l
    go (by_work hd f) (inr e) lq = old (opens-live s t n (heads-opens graph s h t n hd))
    go (by_end d b) (inr e) lq = absurd (let x = e.0 in omega (arith, x, b))

move-before : (graph : Graph) (s : Core) (move : Move) → IsLawful graph s → may graph s move ≡ true → (t n : ℕ) (v : Value) → HasBefore s t n v → HasBefore (after_move graph s move) t n v
move-before graph s (Begin caller c) h a t n v r = begin-before graph s h caller c t n v r
move-before graph s (Make step) h a t n v r = step-before graph s h step a t n v r

evaluates-before : (graph : Graph) (s : Core) → IsLawful graph s → (t n : ℕ) → allowed graph s (steps.Evaluate t n) ≡ true → HasBefore (apply graph s (steps.Evaluate t n)) t n (value_before (entries s n) t)
evaluates-before graph s h t n a = record {
  worked = evaluated-worked graph s h t n a;
  before = λ l. ap (λ (es : List Entry). value_before es t) (sym (same_cell graph s n (keep_found (found_now graph s t n)) (λ c. refl) n));
}

-- ---- the end

end-before : (graph : Graph) → IsGraph graph → MachineLaws graph → (s : Core) → IsLawful graph s → (t n : ℕ) (v : Value) → allowed graph s (steps.End t) ≡ true → HasBefore s t n v → v ≡ val graph (state_after graph s.log) n
end-before graph g laws s h t n v a r =
    let k = (unblocked graph s h t n lt r.worked).entry in
    let i : n < length graph.nodes = (let x = entry-there s n t k in let y = h.lists in omega (arith, x, y)) in
    r.before lt ∙ reads-old graph g laws s h t a n i k
  where
    lt : live s t ≡ true
    lt = end-live graph s h t a

pub before-right : (graph : Graph) → IsGraph graph → MachineLaws graph → KeepsLawful graph → (callers limit : ℕ) (moves : List Move) (t n : ℕ) (v : Value) → is_history graph callers limit (moves ++ Make (steps.End t) ∷ []) ≡ true → HasEvaluated graph callers limit moves t n v
    → v ≡ val graph (state_after graph (state graph callers limit moves).log) n
before-right graph g laws keeps callers limit moves t n v k r =
    let p = may_parts graph moves (Make (steps.End t) ∷ []) s0 k in
    let e = may_first graph s1 (Make (steps.End t)) [] p.1 in
    let parts = may_parts graph r.earlier (Make (steps.Evaluate t n) ∷ r.later) s0 (subst (λ (ms : List Move). may_all graph s0 ms ≡ true) r.split p.0) in
    let f = may_first graph before (Make (steps.Evaluate t n)) r.later parts.1 in
    let hb = moves-lawful graph keeps r.earlier s0 (opening-lawful graph g callers limit) parts.0 in
    let now = moves-reach graph keeps (λ s. HasBefore s t n (value_before (entries before n) t)) (λ s move h a x. move-before graph s move h a t n (value_before (entries before n) t) x) r.later (after_move graph before (Make (steps.Evaluate t n)))
    (keeps before (Make (steps.Evaluate t n)) hb f.0) (evaluates-before graph before hb t n f.0) f.1 in
    let last = subst (λ (s : Core). HasBefore s t n (value_before (entries before n) t)) (sym (after_parts graph r.earlier (Make (steps.Evaluate t n) ∷ r.later) s0) ∙ ap (after_moves graph s0) (sym r.split)) now.holds in
    r.read ∙ end-before graph g laws s1 (history-lawful graph g keeps callers limit moves p.0) t n (value_before (entries before n) t) e.0 last
  where
    s0 : Core
    s0 = opening graph callers limit

    s1 : Core
    s1 = after_moves graph s0 moves

    before : Core
    before = after_moves graph s0 r.earlier
