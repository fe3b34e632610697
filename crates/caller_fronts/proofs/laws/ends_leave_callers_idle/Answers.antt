use Rattle.std.proofs.Common.{◌≡◌, ◌≤◌, ℕ, ◌==◌, true, false, length, filter, ⊎_elim, refl, sym, ap, ◌∙◌, subst, arith, true≢false}
use Rattle.std.specs.Prelude.{is_some}
use Rattle.std.proofs.lemmas.List.{length-map}
use Rattle.flow_model.specs.declared.step.Step.TheVariants as steps
use Rattle.flow_model.specs.Machine.State.{Core, LiveCall, live, call}
use Rattle.flow_model.specs.Machine.Steps.{allowed, apply, has_call}
use Rattle.flow_model.specs.Machine.Histories.{Make, state}
use Rattle.flow_model.specs.Follows.Callers.{live_of}
use Rattle.flow_model.proofs.OneList.CallsAndCells.{without_call-same}
use Rattle.caller_fronts.proofs.KeysTell.{history-more}
use Rattle.caller_fronts.proofs.Endings.{ended-idle, any-idle, nothing_in}
use Rattle.caller_fronts.proofs.laws.ends_leave_callers_idle.Goals as goal

no_end_evaluates : (t n : ℕ) → Make (steps.End t) ≡ Make (steps.Evaluate t n) → ⊥
no_end_evaluates t n same = absurd (cc)

no_end_is_body : (t n : ℕ) → Make (steps.End t) ≡ Make (steps.Body t n) → ⊥
no_end_is_body t n same = absurd (cc)

pub returns-clause-jobs : goal.returns-clause-jobs
returns-clause-jobs c graph is_graph callers limit caller version nodes moves h a =
    let s = state graph callers limit moves in
    let q = apply graph s (steps.End version) in
    let lawful = c.histories_are_lawful.ensures graph is_graph callers limit moves h.history in
    let dead : live q version ≡ false = ap is_some (without_call-same version s.calls) in
    nothing_in nodes (λ n i. ⊎_elim
    (λ (e : allowed graph s (steps.Evaluate version n) ≡ true).
    let after = c.evaluations_stay.ensures.node graph s (Make (steps.End version)) lawful a version n (no_end_evaluates version n) e in
    true≢false (sym (c.steps_come_in_time.ensures.live graph q (steps.Evaluate version n) version after.0 refl) ∙ dead))
    (λ (e : allowed graph s (steps.Body version n) ≡ true).
    let after = c.evaluations_stay.ensures.body graph s (Make (steps.End version)) lawful a version n (no_end_is_body version n) e in
    true≢false (sym (c.steps_come_in_time.ensures.live graph q (steps.Body version n) version after.0 refl) ∙ dead))
    (h.due n i))

pub returns-clause-idle : goal.returns-clause-idle
returns-clause-idle c graph callers limit caller version nodes moves h a =
    let s = state graph callers limit moves in
    let more = history-more graph callers limit moves (Make (steps.End version)) h.history a in
    let one : length (live_of caller s.calls) ≤ 1 = c.callers_have_their_calls.ensures.one_live graph callers limit moves h.history caller in
    let count : length (live_of caller s.calls) ≡ length (filter (λ (x : LiveCall). x.caller == caller) s.calls) = length-map (filter (λ (x : LiveCall). x.caller == caller) s.calls) (λ (x : LiveCall). (x.version, x.call)) in record {
      some = h.some;
      one_of = h.one_of;
      history = more.0;
      idle = subst (λ (q : Core). has_call caller q.calls ≡ false) (sym more.1) (ended-idle caller version s.calls (omega (arith, one, count)) h.lives h.whose);
    }

pub returns-clause-none_live : goal.returns-clause-none_live
returns-clause-none_live c graph is_graph callers limit moves history idle =
    let s = state graph callers limit moves in
    let lawful = c.histories_are_lawful.ensures graph is_graph callers limit moves history in
    let same : s.callers ≡ callers = (c.histories_have_bounds.ensures.counted graph callers limit moves history).0 in
    any-idle s.calls (λ t l. let fit = lawful.room_is_kept.callers_fit t l in idle (call s t).caller (omega (arith, fit.0)) (omega (arith, fit.1, same)))
