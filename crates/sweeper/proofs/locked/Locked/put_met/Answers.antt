use Rattle.std.proofs.Common.{◌≡◌, true, [], ◌∷◌, ◌++◌, ⊎_elim, refl, sym, ap, ◌∙◌, subst, Vec, vec_capacity}
use Rattle.flow_model.specs.declared.step.Step.{Step}
use Rattle.flow_model.specs.Machine.Sets.{take_out}
use Rattle.flow_model.specs.Machine.Steps.{allowed}
use Rattle.flow_model.specs.Machine.Histories.{state, Make}
use Rattle.flow_state.specs.declared.outcome.Answer.{Answer}
use Rattle.flow_state.specs.Answers.{step_of, IsRight}
use Rattle.caller_fronts.proofs.Rests.{some-live}
use Rattle.caller_fronts.specs.Tokens.{HasLooks}
use Rattle.signal_graph.specs.Graph.{is_in}
use Rattle.std.specs.declared.alloc.Global.{Global}
use Rattle.script_tree.specs.declared.value.Value.{Value}
use Rattle.sweeper.specs.declared.luggage.Luggage.{Luggage}
use Rattle.sweeper.proofs.Meets.{is_met, going-same, answer-no_job, answer-no_end}
use Rattle.sweeper.proofs.locked.Locked.put_met.Goals as goal

pub make_answer-requires-clause-lives : goal.make_answer-requires-clause-lives
make_answer-requires-clause-lives g c =
    let j = g.J.Naming in
    some-live (state j.graph j.callers j.limit c.args.self.now.moves) c.args.met.version c.requires.met.going.lives

pub take_back-requires : goal.take_back-requires
take_back-requires g c =
    let j = g.J.Naming in
    let s = state j.graph j.callers j.limit c.args.self.now.moves in
    let m = c.args.met in
    let o = c.jobs_have_nodes.ensures.out j.graph s m.version c.args.answer.node m.luggage.value.out.nodes c.args.answer c.requires.out in
    ap (λ (l : Luggage). is_in c.args.answer.node l.out.nodes) c.deref_mut.ensures.value ∙ o.0

pub make_answer-requires-clause-allowed : goal.make_answer-requires-clause-allowed
make_answer-requires-clause-allowed g c =
    let j = g.J.Naming in
    let s = state j.graph j.callers j.limit c.args.self.now.moves in
    let m = c.args.met in
    let n = c.args.answer.node in
    let o = c.jobs_have_nodes.ensures.out j.graph s m.version n m.luggage.value.out.nodes c.args.answer c.requires.out in
    subst (λ (a : Answer). allowed j.graph s (step_of a) ≡ true) (sym o.1) (⊎_elim
    (λ e. subst (λ (x : Step). allowed j.graph s x ≡ true) (sym (c.jobs_have_nodes.ensures.evaluate j.graph s m.version n e).0) e)
    (λ e. subst (λ (x : Step). allowed j.graph s x ≡ true) (sym (c.jobs_have_nodes.ensures.body j.graph s m.version n e).0) e)
    (c.requires.met.going.due n o.0))

pub make_answer-requires-clause-right : goal.make_answer-requires-clause-right
make_answer-requires-clause-right g c =
    let j = g.J.Naming in
    let s = state j.graph j.callers j.limit c.args.self.now.moves in
    let m = c.args.met in
    let n = c.args.answer.node in
    let o = c.jobs_have_nodes.ensures.out j.graph s m.version n m.luggage.value.out.nodes c.args.answer c.requires.out in
    subst (λ (a : Answer). IsRight j.graph s a) (sym o.1) (⊎_elim
    (λ e. (c.jobs_have_nodes.ensures.evaluate j.graph s m.version n e).1)
    (λ e. (c.jobs_have_nodes.ensures.body j.graph s m.version n e).1)
    (c.requires.met.going.due n o.0))

pub live-requires-clause-met : goal.live-requires-clause-met
live-requires-clause-met g c =
    let j = g.J.Naming in
    let s = state j.graph j.callers j.limit c.args.self.now.moves in
    let m = c.args.met in
    let moves = c.args.self.now.moves in
    let a = c.args.answer in
    let o = c.jobs_have_nodes.ensures.out j.graph s m.version a.node m.luggage.value.out.nodes a c.requires.out in
    let may : allowed j.graph s (step_of a) ≡ true = subst (λ (x : Answer). allowed j.graph s (step_of x) ≡ true) (sym o.1) (⊎_elim
    (λ e. subst (λ (x : Step). allowed j.graph s x ≡ true) (sym (c.jobs_have_nodes.ensures.evaluate j.graph s m.version a.node e).0) e)
    (λ e. subst (λ (x : Step). allowed j.graph s x ≡ true) (sym (c.jobs_have_nodes.ensures.body j.graph s m.version a.node e).0) e)
    (c.requires.met.going.due a.node o.0)) in
    let less = c.steps_keep_calls.ensures.fewer j.graph j.callers j.limit m.caller m.version a.node m.luggage.value.out.nodes moves c.requires.met.going in
    let after = c.steps_keep_calls.ensures.going j.graph c.self.invariant.1.is_graph j.callers j.limit m.caller m.version (take_out a.node m.luggage.value.out.nodes) moves (step_of a)
    less may (answer-no_end a m.version) (answer-no_job a m.version m.luggage.value.out.nodes) in
    let was = c.deref_mut.ensures.value in
    let looks = ap (λ (l : Luggage). l.looks) c.take_back.ensures ∙ ap (λ (l : Luggage). l.looks) was in
    is_met j.graph j.callers j.limit _ m.version m.luggage.value.out.size (take_out a.node m.luggage.value.out.nodes) (moves ++ Make (step_of a) ∷ []) c.make_answer.new.self.moves
    refl (ap (λ (l : Luggage). l.out.nodes) c.take_back.ensures ∙ ap (λ (l : Luggage). take_out a.node l.out.nodes) was)
    (ap (λ (l : Luggage). l.out.size) c.take_back.ensures ∙ ap (λ (l : Luggage). l.out.size) was) (ap (λ h. h.moves) c.make_answer.ensures) c.requires.met.size after
    (ap (λ (v : Vec Value Global). v.items) looks ∙ c.requires.met.empty)
    (subst (λ (v : Vec Value Global). HasLooks j.graph j.callers j.limit m.version (moves ++ Make (step_of a) ∷ []) (vec_capacity v)) (sym looks)
    (c.steps_keep_calls.ensures.looks j.graph j.callers j.limit m.caller m.version (vec_capacity m.luggage.value.looks) m.luggage.value.out.nodes moves (step_of a) c.requires.met.going may (answer-no_end a m.version) c.requires.met.looks))

pub returns : goal.returns
returns g c =
    let j = g.J.Naming in
    let s = state j.graph j.callers j.limit c.args.self.now.moves in
    let m = c.args.met in
    let moves = c.args.self.now.moves in
    let a = c.args.answer in
    let o = c.jobs_have_nodes.ensures.out j.graph s m.version a.node m.luggage.value.out.nodes a c.requires.out in
    let may : allowed j.graph s (step_of a) ≡ true = subst (λ (x : Answer). allowed j.graph s (step_of x) ≡ true) (sym o.1) (⊎_elim
    (λ e. subst (λ (x : Step). allowed j.graph s x ≡ true) (sym (c.jobs_have_nodes.ensures.evaluate j.graph s m.version a.node e).0) e)
    (λ e. subst (λ (x : Step). allowed j.graph s x ≡ true) (sym (c.jobs_have_nodes.ensures.body j.graph s m.version a.node e).0) e)
    (c.requires.met.going.due a.node o.0)) in
    let less = c.steps_keep_calls.ensures.fewer j.graph j.callers j.limit m.caller m.version a.node m.luggage.value.out.nodes moves c.requires.met.going in
    let jobs = c.steps_keep_calls.ensures.jobs j.graph c.self.invariant.1.is_graph j.callers j.limit m.caller m.version (take_out a.node m.luggage.value.out.nodes) moves (step_of a)
    less may (answer-no_job a m.version m.luggage.value.out.nodes) in
    c.live.ensures.live
    ∙ going-same j.graph j.callers j.limit m.caller m.version c.take_back.new.self.out.nodes (take_out a.node m.luggage.value.out.nodes) c.make_answer.new.self.moves (moves ++ Make (step_of a) ∷ []) _
    (ap (λ (l : Luggage). l.out.nodes) c.take_back.ensures ∙ ap (λ (l : Luggage). take_out a.node l.out.nodes) c.deref_mut.ensures.value) (ap (λ h. h.moves) c.make_answer.ensures)
    (jobs ∙ c.jobs_have_nodes.ensures.less j.graph s m.version a.node m.luggage.value.out.nodes)
