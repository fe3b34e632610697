use Rattle.std.proofs.Common.{◌≡◌, ◌≤◌, true, length, sym, ap, ◌∙◌, subst}
use Rattle.signal_graph.specs.declared.call.Call.{Call}
use Rattle.signal_graph.specs.Machine.{looks_of}
use Rattle.flow_model.specs.declared.step.Step.{Step}
use Rattle.flow_model.specs.declared.step.Step.TheVariants as steps
use Rattle.flow_model.specs.Machine.State.{Core, LiveCall, live, call}
use Rattle.flow_model.specs.Machine.Steps.{apply, IsEvaluationDue}
use Rattle.flow_model.specs.Machine.Histories.{Make, state}
use Rattle.caller_fronts.specs.Jobs.{job_at, jobs_at}
use Rattle.flow_model.proofs.OneStep.SameCallers.{step-stable, caller-stable, call-stable}
use Rattle.caller_fronts.proofs.KeysTell.{history-more}
use Rattle.caller_fronts.proofs.OwnSteps.{step-whose, step-lives, fewer-due, more-due}
use Rattle.caller_fronts.proofs.TokensStay.{due-stays, job-stays, maps-same}
use Rattle.caller_fronts.proofs.laws.steps_keep_calls.Goals as goal

made_step : (x y : Step) → Make x ≡ Make y → x ≡ y
made_step x y same = cc

pub returns-clause-whose : goal.returns-clause-whose
returns-clause-whose c s caller version step whose own = step-whose s caller version step whose own

pub returns-clause-going : goal.returns-clause-going
returns-clause-going c graph is_graph callers limit caller version nodes moves step h a no_end none =
    let s = state graph callers limit moves in
    let more = history-more graph callers limit moves (Make step) h.history a in
    let lawful = c.histories_are_lawful.ensures graph is_graph callers limit moves h.history in
    let lives = step-lives graph s step version h.lives no_end in record {
      some = h.some;
      one_of = h.one_of;
      history = more.0;
      lives = subst (λ (q : Core). live q version ≡ true) (sym more.1) lives;
      whose = ap (λ (q : Core). (call q version).caller) more.1 ∙ step-stable (λ (x : LiveCall). x.caller) caller-stable graph s step version lives ∙ h.whose;
      due = λ n i. subst (λ (q : Core). IsEvaluationDue graph q version n) (sym more.1) (due-stays graph s (apply graph s step) version n
          (λ e. c.evaluations_stay.ensures.node graph s (Make step) lawful a version n (λ same. (none n i).0 (made_step step (steps.Evaluate version n) same)) e)
          (λ e. c.evaluations_stay.ensures.body graph s (Make step) lawful a version n (λ same. (none n i).1 (made_step step (steps.Body version n) same)) e) (h.due n i));
    }

pub returns-clause-jobs : goal.returns-clause-jobs
returns-clause-jobs c graph is_graph callers limit caller version nodes moves step h a none =
    let s = state graph callers limit moves in
    let more = history-more graph callers limit moves (Make step) h.history a in
    let lawful = c.histories_are_lawful.ensures graph is_graph callers limit moves h.history in
    ap (λ (q : Core). jobs_at graph q version nodes) more.1
    ∙ maps-same (job_at graph (apply graph s step) version) (job_at graph s version) nodes (λ n i. job-stays graph s (apply graph s step) version n
    (λ e. c.evaluations_stay.ensures.node graph s (Make step) lawful a version n (λ same. (none n i).0 (made_step step (steps.Evaluate version n) same)) e)
    (λ e. c.evaluations_stay.ensures.body graph s (Make step) lawful a version n (λ same. (none n i).1 (made_step step (steps.Body version n) same)) e) (h.due n i))

pub returns-clause-looks : goal.returns-clause-looks
returns-clause-looks c graph callers limit caller version room nodes moves step h a no_end fits =
    let s = state graph callers limit moves in
    let more = history-more graph callers limit moves (Make step) h.history a in
    let lives = step-lives graph s step version h.lives no_end in
    subst (λ (x : Call). length (looks_of x) ≤ room)
    (sym (ap (λ (q : Core). (call q version).call) more.1 ∙ step-stable (λ (x : LiveCall). x.call) call-stable graph s step version lives)) fits

pub returns-clause-fewer : goal.returns-clause-fewer
returns-clause-fewer c graph callers limit caller version n nodes moves h = record {
  some = h.some;
  one_of = h.one_of;
  history = h.history;
  lives = h.lives;
  whose = h.whose;
  due = fewer-due graph (state graph callers limit moves) version n nodes h.due;
}

pub returns-clause-more : goal.returns-clause-more
returns-clause-more c graph callers limit caller version n nodes moves h new = record {
  some = h.some;
  one_of = h.one_of;
  history = h.history;
  lives = h.lives;
  whose = h.whose;
  due = more-due graph (state graph callers limit moves) version n nodes h.due new;
}
