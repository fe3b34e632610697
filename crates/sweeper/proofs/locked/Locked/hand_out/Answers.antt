use Rattle.std.proofs.Common.{◌≡◌, ◌<◌, ℕ, List, Some, true, false, ⊎_elim, refl, sym, ap, ◌∙◌, subst, Vec, vec_capacity}
use Rattle.std.proofs.lemmas.Bool.{or_left, eq-eqb}
use Rattle.signal_graph.specs.Graph.{Graph, is_in}
use Rattle.flow_model.specs.declared.step.Step.TheVariants as steps
use Rattle.flow_model.specs.Machine.State.{Core}
use Rattle.flow_model.specs.Machine.Steps.{allowed}
use Rattle.flow_model.specs.Machine.Sets.{put}
use Rattle.flow_model.proofs.General.Sets.{in-put}
use Rattle.flow_state.specs.declared.outcome.Answer.{Answer}
use Rattle.flow_state.specs.Answers.{step_of, IsRight}
use Rattle.caller_fronts.specs.Jobs.{job_at, jobs_at, job_of, with_job}
use Rattle.caller_fronts.specs.Tokens.{Going, HasLooks}
use Rattle.std.specs.declared.alloc.Global.{Global}
use Rattle.script_tree.specs.declared.value.Value.{Value}
use Rattle.sweeper.specs.declared.luggage.Luggage.{Luggage}
use Rattle.flow_model.specs.Machine.Histories.{state}
use Rattle.flow_model.proofs.OneStep.WhoMayStep.{evaluate-at_front, body-at_front}
use Rattle.flow_model.proofs.Lengths.WorthFalls.{head-there}
use Rattle.sweeper.proofs.Meets.{is_met, going-same}
use Rattle.sweeper.proofs.locked.Locked.hand_out.Goals as goal

pub is_out-requires : goal.is_out-requires
is_out-requires g c =
    let j = g.J.Naming in
    let moves = c.args.self.now.moves in
    let s = state j.graph j.callers j.limit moves in
    let m = c.args.met in
    let lawful = c.histories_are_lawful.ensures j.graph c.self.invariant.1.is_graph j.callers j.limit moves c.requires.met.going.history in
    subst (λ (k : ℕ). c.args.node < k) (sym (ap (λ (l : Luggage). l.out.size) c.deref.ensures ∙ c.requires.met.size)) (⊎_elim
    (λ e. head-there j.graph s lawful m.version c.args.node (evaluate-at_front j.graph s m.version c.args.node e))
    (λ e. head-there j.graph s lawful m.version c.args.node (body-at_front j.graph s m.version c.args.node e))
    c.requires.due)

pub live-requires-2-clause-met : goal.live-requires-2-clause-met
live-requires-2-clause-met g c =
    let j = g.J.Naming in
    let moves = c.args.self.now.moves in
    let m = c.args.met in
    let was = c.deref_mut.ensures.value in
    let looks = ap (λ (l : Luggage). l.looks) c.hand_out.ensures ∙ ap (λ (l : Luggage). l.looks) was in
    is_met j.graph j.callers j.limit _ m.version m.luggage.value.out.size (put c.args.node m.luggage.value.out.nodes) moves moves
    refl (ap (λ (l : Luggage). l.out.nodes) c.hand_out.ensures ∙ ap (λ (l : Luggage). put c.args.node l.out.nodes) was)
    (ap (λ (l : Luggage). l.out.size) c.hand_out.ensures ∙ ap (λ (l : Luggage). l.out.size) was) refl c.requires.met.size
    (c.steps_keep_calls.ensures.more j.graph j.callers j.limit m.caller m.version c.args.node m.luggage.value.out.nodes moves c.requires.met.going c.requires.due)
    (ap (λ (v : Vec Value Global). v.items) looks ∙ c.requires.met.empty)
    (subst (λ (v : Vec Value Global). HasLooks j.graph j.callers j.limit m.version moves (vec_capacity v)) (sym looks) c.requires.met.looks)

pub returns : goal.returns
returns g c =
    let j = g.J.Naming in
    let moves = c.args.self.now.moves in
    let s = state j.graph j.callers j.limit moves in
    let m = c.args.met in
    let n = c.args.node in
    let job = c.job-job.result in
    let jobs = c.jobs_have_nodes.ensures in
    let i = c.self.invariant.1 in
    let same : c.self.inside.core.state ≡ s = i.state_is ∙ ap (state j.graph j.callers j.limit) (ap (λ h. h.moves) c.self.view_is) in
    let scripts = subst (λ (q : Core). allowed j.graph q (steps.Evaluate m.version n) ≡ true → step_of job ≡ steps.Evaluate m.version n) same
    (subst (λ (x : Graph). allowed x c.self.inside.core.state (steps.Evaluate m.version n) ≡ true → step_of job ≡ steps.Evaluate m.version n) i.graph_is c.job-job.ensures.scripts) in
    let body = subst (λ (q : Core). allowed j.graph q (steps.Body m.version n) ≡ true → step_of job ≡ steps.Body m.version n) same
    (subst (λ (x : Graph). allowed x c.self.inside.core.state (steps.Body m.version n) ≡ true → step_of job ≡ steps.Body m.version n) i.graph_is c.job-job.ensures.body) in
    let right = subst (λ (q : Core). IsRight j.graph q job) same (subst (λ (x : Graph). IsRight x c.self.inside.core.state job) i.graph_is c.job-job.ensures.right) in
    let is : job ≡ job_at j.graph s m.version n = ⊎_elim
    (λ e. jobs.is_evaluate j.graph s m.version n job e (scripts e) right)
    (λ e. jobs.is_body j.graph s m.version n job e (body e) right) c.requires.due in
    let not_in : is_in n m.luggage.value.out.nodes ≡ false = ap (λ (l : Luggage). is_in n l.out.nodes) (sym c.deref.ensures) ∙ sym c.is_out.ensures ∙ c.if-is_out.false in
    let nodes = ap (λ (l : Luggage). l.out.nodes) c.hand_out.ensures ∙ ap (λ (l : Luggage). put n l.out.nodes) c.deref_mut.ensures.value in (
      scripts,
      body,
      ap (λ (a : Answer). a.version) is,
      ap (λ (a : Answer). a.node) is,
      jobs.none j.graph s m.version n m.luggage.value.out.nodes not_in,
      ap (λ (l : Going). job_of n l.out) c.live-2.ensures.live
          ∙ ap (λ (ns : List ℕ). job_of n (jobs_at j.graph s m.version ns)) nodes
          ∙ jobs.some j.graph s m.version n (put n m.luggage.value.out.nodes) (in-put n n m.luggage.value.out.nodes ∙ or_left _ _ (eq-eqb n n refl)) ∙ ap (λ (a : Answer). Some a) (sym is),
      c.live-2.ensures.live
          ∙ going-same j.graph j.callers j.limit m.caller m.version c.hand_out.new.self.out.nodes (put n m.luggage.value.out.nodes) moves moves (with_job job (jobs_at j.graph s m.version m.luggage.value.out.nodes))
          nodes refl (jobs.more j.graph s m.version n m.luggage.value.out.nodes not_in ∙ ap (λ (a : Answer). with_job a (jobs_at j.graph s m.version m.luggage.value.out.nodes)) (sym is)),
    )
