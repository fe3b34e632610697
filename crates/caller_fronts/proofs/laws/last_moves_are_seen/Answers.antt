use Rattle.std.proofs.Common.{◌≡◌, ◌<◌, ◌≤◌, ℕ, [], ◌∷◌, refl, subst, arith}
use Rattle.flow_model.specs.declared.step.Step.TheVariants as steps
use Rattle.flow_model.specs.Machine.State.{opening, call}
use Rattle.flow_model.specs.Machine.Histories.{Make, state}
use Rattle.flow_model.proofs.Histories.Moves.{may_parts, may_first}
use Rattle.caller_fronts.proofs.Rests.{last-seen}
use Rattle.caller_fronts.proofs.laws.last_moves_are_seen.Goals as goal

pub returns-clause-whole : goal.returns-clause-whole
returns-clause-whole c graph callers limit caller front earlier move l mine = last-seen graph callers limit caller front earlier move l mine

pub returns-clause-one_of : goal.returns-clause-one_of
returns-clause-one_of c graph is_graph callers limit version earlier h =
    let s = state graph callers limit earlier in
    let parts = may_parts graph earlier (Make (steps.End version) ∷ []) (opening graph callers limit) h in
    let may = (may_first graph s (Make (steps.End version)) [] parts.1).0 in
    let lawful = c.histories_are_lawful.ensures graph is_graph callers limit earlier parts.0 in
    let same : s.callers ≡ callers = (c.histories_have_bounds.ensures.counted graph callers limit earlier parts.0).0 in
    let lives = c.steps_come_in_time.ensures.live graph s (steps.End version) version may refl in
    let fit = lawful.room_is_kept.callers_fit version lives in
    let some : 0 < (call s version).caller = omega (arith, fit.0) in
    (some, subst (λ (n : ℕ). (call s version).caller ≤ n) same fit.1)
