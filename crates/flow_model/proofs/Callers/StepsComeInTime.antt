-- In a history the steps of a call come after its beginning, and none comes after its end.
use Rattle.std.proofs.Common.{◌≡◌, ℕ, zero, suc, ◌≤◌, true, false, refl, sym, ap, arith, List, [], ◌∷◌, ◌++◌, ◌∙◌, subst, Some}
use Rattle.std.proofs.lemmas.Bool.{eqb-true, false_from_ne_true, both_ways}
use Rattle.std.specs.Prelude.{is_some}
use Rattle.signal_graph.specs.declared.call.Call.{Call}
use Rattle.signal_graph.specs.Graph.{Graph}
use Rattle.flow_model.specs.declared.step.Step.{Step}
use Rattle.flow_model.specs.declared.step.Step.TheVariants as steps
use Rattle.flow_model.specs.Machine.State.{Core, call_of, live, opening}
use Rattle.flow_model.specs.Machine.Steps.{allowed, apply, new_call}
use Rattle.flow_model.specs.Machine.Keys.{version_of_step}
use Rattle.flow_model.specs.Machine.Histories.{Move, Begin, Make, may, after_move, after_moves, may_all, state, is_history}
use Rattle.flow_model.specs.Follows.Callers.{count_begins, IsBegunIn}
use Rattle.flow_model.proofs.OneStep.WhoMayStep.{executes-live, wants-live, is_framing-live, frame-wants, start-is_framing, can_work-at_front, due-can_work, idle-executes, skip-can_work, gather-due, evaluate-at_front, body-at_front, discover-due, drop-due, resolve-can_work, mark-executes, look-idle, end-idle}
use Rattle.flow_model.proofs.OneList.CallsAndCells.{without_call-same, call_of-append, last_call-other}
use Rattle.flow_model.proofs.OneStep.WhoLivesAndFrames.{step-phases, phase-ended}
use Rattle.flow_model.proofs.OneStep.VersionsStayFresh.{live-version}
use Rattle.flow_model.proofs.Wants.WantsAreFree.{at_front-live}
use Rattle.flow_model.proofs.OneStep.SameLengths.{step-begun}
use Rattle.flow_model.proofs.Histories.Moves.{may_first, may_parts}
use Rattle.flow_model.proofs.Callers.CallersHaveTheirCalls.{history-counts}
use Rattle.flow_model.proofs.General.AnyAndAll.{some-same}

-- ---- a step is of a live call

pub step_of-live : (graph : Graph) (s : Core) (step : Step) (t : ℕ) → allowed graph s step ≡ true → version_of_step step ≡ Some t → live s t ≡ true
step_of-live graph s step t a v = go step a v
  where
    that : (u : ℕ) → live s u ≡ true → Some u ≡ Some t → live s t ≡ true
    that u l e = subst (λ (w : ℕ). live s w ≡ true) (some-same u t e) l

    go : (x : Step) → allowed graph s x ≡ true → version_of_step x ≡ Some t → live s t ≡ true
    go (steps.Frame u n) a v = that u (wants-live s u n (frame-wants graph s u n a)) v
    go (steps.Start u) a v = that u (is_framing-live s u (start-is_framing graph s u a)) v
    go (steps.Skip u n) a v = that u (at_front-live graph s u n (can_work-at_front graph s u n (skip-can_work graph s u n a))) v
    go (steps.Gather u n m) a v = that u (at_front-live graph s u n (can_work-at_front graph s u n (due-can_work graph s u n (gather-due graph s u n m a)))) v
    go (steps.Evaluate u n) a v = that u (at_front-live graph s u n (evaluate-at_front graph s u n a)) v
    go (steps.Body u n) a v = that u (at_front-live graph s u n (body-at_front graph s u n a)) v
    go (steps.Resolve u n) a v = that u (at_front-live graph s u n (can_work-at_front graph s u n (resolve-can_work graph s u n a))) v
    go (steps.Discover u n c) a v = that u (at_front-live graph s u n (can_work-at_front graph s u n (due-can_work graph s u n (discover-due graph s u n c a)))) v
    go (steps.Drop u n o) a v = that u (at_front-live graph s u n (can_work-at_front graph s u n (due-can_work graph s u n (drop-due graph s u n o a)))) v
    go (steps.Mark u m) a v = that u (executes-live s u (mark-executes graph s u m a)) v
    go (steps.Look u) a v = that u (executes-live s u (idle-executes s u (look-idle graph s u a))) v
    go (steps.End u) a v = that u (executes-live s u (idle-executes s u (end-idle graph s u a))) v
    go (steps.Collect n) a v = cc

-- ---- a live call has begun

begun-behind : (caller : ℕ) (c : Call) (moves : List Move) (t : ℕ) → IsBegunIn moves t → IsBegunIn (Begin caller c ∷ moves) (suc t)
begun-behind caller c moves t r = record { earlier = Begin caller c ∷ r.earlier; caller = r.caller; call = r.call; later = r.later; split = ap (λ (ms : List Move). Begin caller c ∷ ms) r.split; version = ap suc r.version }

step-behind : (step : Step) (moves : List Move) (t : ℕ) → IsBegunIn moves t → IsBegunIn (Make step ∷ moves) t
step-behind step moves t r = record { earlier = Make step ∷ r.earlier; caller = r.caller; call = r.call; later = r.later; split = ap (λ (ms : List Move). Make step ∷ ms) r.split; version = r.version }

begun-split : (moves : List Move) (t : ℕ) → 1 ≤ t → t ≤ count_begins moves → IsBegunIn moves t
begun-split [] t a b = absurd (omega (arith, a, b))
begun-split (Begin caller c ∷ moves) zero a b = absurd (omega (arith, a))
begun-split (Begin caller c ∷ moves) (suc zero) a b = record { earlier = []; caller = caller; call = c; later = moves; split = refl; version = refl }
begun-split (Begin caller c ∷ moves) (suc (suc t)) a b = begun-behind caller c moves (suc t) (begun-split moves (suc t) (omega arith) (omega (arith, b)))
begun-split (Make step ∷ moves) t a b = step-behind step moves t (begun-split moves t a b)

live-begun : (graph : Graph) (callers limit : ℕ) (moves : List Move) → is_history graph callers limit moves ≡ true → (t : ℕ) → live (state graph callers limit moves) t ≡ true → IsBegunIn moves t
live-begun graph callers limit moves h t l =
    let c = history-counts graph callers limit moves h in
    let f = c.counted.fresh.fit t (live-version (state graph callers limit moves) t l) in
    let b = c.begun in
    begun-split moves t f.0 (omega (arith, f.1, b))

-- A step of a call comes after the call's beginning.
pub step-begun_before : (graph : Graph) (callers limit : ℕ) (first rest : List Move) (step : Step) (t : ℕ) → is_history graph callers limit (first ++ (Make step ∷ rest)) ≡ true → version_of_step step ≡ Some t → IsBegunIn first t
step-begun_before graph callers limit first rest step t h v =
    let p = may_parts graph first (Make step ∷ rest) (opening graph callers limit) h in
    let m = may_first graph (state graph callers limit first) (Make step) rest p.1 in
    live-begun graph callers limit first p.0 t (step_of-live graph (state graph callers limit first) step t m.0 v)

-- ---- a call that has ended

-- The version has begun and is of no live call.
record HasEnded (s : Core) (t : ℕ) : Type 0 where
  begun : t ≤ s.begun
  ended : live s t ≡ false

move-ended : (graph : Graph) (s : Core) (move : Move) (t : ℕ) → may graph s move ≡ true → HasEnded s t → HasEnded (after_move graph s move) t
move-ended graph s (Begin caller c) t m h = record {
  begun = let b = h.begun in omega (arith, b);
  ended = ap is_some (call_of-append s.calls (new_call graph s caller c) t ∙ last_call-other (call_of s.calls t) (new_call graph s caller c) t (false_from_ne_true _ (λ e. let x = eqb-true (suc s.begun) t e in let b = h.begun in omega (arith, x, b)))) ∙ h.ended;
}
move-ended graph s (Make step) t m h = record {
  begun = subst (λ (n : ℕ). t ≤ n) (sym (step-begun graph s step)) h.begun;
  ended = phase-ended s (apply graph s step) (step-phases graph s step m) t h.ended;
}

moves-ended : (graph : Graph) (moves : List Move) (s : Core) (t : ℕ) → may_all graph s moves ≡ true → HasEnded s t → HasEnded (after_moves graph s moves) t
moves-ended graph [] s t m h = h
moves-ended graph (move ∷ moves) s t m h = let f = may_first graph s move moves m in moves-ended graph moves (after_move graph s move) t f.1 (move-ended graph s move t f.0 h)

-- No step of a call comes after the call's end.
pub ended-no_step : (graph : Graph) (callers limit : ℕ) (first more rest : List Move) (step : Step) (t : ℕ) → version_of_step step ≡ Some t → is_history graph callers limit (first ++ (Make (steps.End t) ∷ (more ++ (Make step ∷ rest)))) ≡ false
ended-no_step graph callers limit first more rest step t v = false_from_ne_true _ go
  where
    s0 : Core
    s0 = opening graph callers limit

    s1 : Core
    s1 = after_moves graph s0 first

    s2 : Core
    s2 = after_move graph s1 (Make (steps.End t))

    s3 : Core
    s3 = after_moves graph s2 more

    go : is_history graph callers limit (first ++ (Make (steps.End t) ∷ (more ++ (Make step ∷ rest)))) ≡ true → ⊥
    go h =
        let p = may_parts graph first (Make (steps.End t) ∷ (more ++ (Make step ∷ rest))) s0 h in
        let e = may_first graph s1 (Make (steps.End t)) (more ++ (Make step ∷ rest)) p.1 in
        let q = may_parts graph more (Make step ∷ rest) s2 e.1 in
        let m = may_first graph s3 (Make step) rest q.1 in
        let c = history-counts graph callers limit first p.0 in
        let l = step_of-live graph s1 (steps.End t) t e.0 refl in
        let f = c.counted.fresh.fit t (live-version s1 t l) in
        let d = moves-ended graph more s2 t q.0 (record { begun = f.1; ended = ap is_some (without_call-same t s1.calls) }) in
        both_ways _ d.ended (step_of-live graph s3 step t m.0 v)
