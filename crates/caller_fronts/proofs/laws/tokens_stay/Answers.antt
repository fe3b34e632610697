use Rattle.std.proofs.Common.{◌≡◌, ◌≤◌, ℕ, true, false, length, sym, ap, ◌∙◌, subst}
use Rattle.signal_graph.specs.declared.call.Call.{Call}
use Rattle.signal_graph.specs.Machine.{looks_of}
use Rattle.flow_model.specs.Machine.State.{Core, live, call}
use Rattle.flow_model.specs.Machine.Steps.{has_call, IsEvaluationDue}
use Rattle.flow_model.specs.Machine.Histories.{state, after_moves}
use Rattle.flow_model.specs.Follows.Others.{none_by}
use Rattle.caller_fronts.specs.Jobs.{job_at, jobs_at}
use Rattle.caller_fronts.proofs.TokensStay.{state_is, rest_may, due-stays, job-stays, maps-same}
use Rattle.caller_fronts.proofs.laws.tokens_stay.Goals as goal

pub returns-clause-idle : goal.returns-clause-idle
returns-clause-idle c graph callers limit caller front later l h =
    let s = state graph callers limit front in record {
      some = h.some;
      one_of = h.one_of;
      history = l.history;
      idle = subst (λ (q : Core). has_call caller q.calls ≡ false) (sym (state_is graph callers limit caller front later l))
          (c.callers_find_their_calls.ensures.idle graph l.rest s caller (rest_may graph callers limit caller front later l) h.idle l.others);
    }

pub returns-clause-going : goal.returns-clause-going
returns-clause-going c graph is_graph callers limit caller version nodes front later l h =
    let s = state graph callers limit front in
    let is = state_is graph callers limit caller front later l in
    let may = rest_may graph callers limit caller front later l in
    let lawful = c.histories_are_lawful.ensures graph is_graph callers limit front h.history in
    let others = subst (λ (k : ℕ). none_by graph k s l.rest ≡ true) (sym h.whose) l.others in
    let f = c.callers_find_their_calls.ensures.call graph l.rest s version h.lives others in record {
      some = h.some;
      one_of = h.one_of;
      history = l.history;
      lives = subst (λ (q : Core). live q version ≡ true) (sym is) f.0;
      whose = ap (λ (q : Core). (call q version).caller) is ∙ f.1.caller ∙ h.whose;
      due = λ n i. subst (λ (q : Core). IsEvaluationDue graph q version n) (sym is) (due-stays graph s (after_moves graph s l.rest) version n
          (λ a. c.callers_find_their_calls.ensures.node graph is_graph s lawful l.rest may version n others a)
          (λ a. c.callers_find_their_calls.ensures.body graph is_graph s lawful l.rest may version n others a) (h.due n i));
    }

pub returns-clause-jobs : goal.returns-clause-jobs
returns-clause-jobs c graph is_graph callers limit caller version nodes front later l h =
    let s = state graph callers limit front in
    let is = state_is graph callers limit caller front later l in
    let may = rest_may graph callers limit caller front later l in
    let lawful = c.histories_are_lawful.ensures graph is_graph callers limit front h.history in
    let others = subst (λ (k : ℕ). none_by graph k s l.rest ≡ true) (sym h.whose) l.others in
    ap (λ (q : Core). jobs_at graph q version nodes) is ∙ maps-same (job_at graph (after_moves graph s l.rest) version) (job_at graph s version) nodes (λ n i. job-stays graph s (after_moves graph s l.rest) version n
    (λ a. c.callers_find_their_calls.ensures.node graph is_graph s lawful l.rest may version n others a)
    (λ a. c.callers_find_their_calls.ensures.body graph is_graph s lawful l.rest may version n others a) (h.due n i))

pub returns-clause-looks : goal.returns-clause-looks
returns-clause-looks c graph callers limit caller version room nodes front later l h fits =
    let s = state graph callers limit front in
    let is = state_is graph callers limit caller front later l in
    let others = subst (λ (k : ℕ). none_by graph k s l.rest ≡ true) (sym h.whose) l.others in
    let f = c.callers_find_their_calls.ensures.call graph l.rest s version h.lives others in
    subst (λ (x : Call). length (looks_of x) ≤ room) (sym (ap (λ (q : Core). (call q version).call) is ∙ f.1.call)) fits
