use Rattle.std.proofs.Common.{ℕ, ◌≤◌, List, length, sym, ap, ◌∙◌, subst, Vec, vec_capacity}
use Rattle.flow_model.specs.declared.step.Step.TheVariants as steps
use Rattle.flow_model.specs.Machine.State.{Core, call}
use Rattle.flow_model.specs.Machine.Steps.{logged}
use Rattle.flow_model.specs.Machine.Histories.{Move, Make, state}
use Rattle.caller_fronts.specs.Tokens.{Idle, IsIdle}
use Rattle.caller_fronts.proofs.KeysTell.{history-more}
use Rattle.caller_fronts.proofs.Rests.{some-live}
use Rattle.signal_graph.specs.Machine.{looks_of_reply}
use Rattle.std.specs.declared.alloc.Global.{Global}
use Rattle.script_tree.specs.declared.value.Value.{Value}
use Rattle.sweeper.specs.declared.luggage.Luggage.{Luggage}
use Rattle.sweeper.specs.Tokens.{last_of}
use Rattle.sweeper.proofs.LastReply.{last-more, last-reply, no-members}
use Rattle.sweeper.proofs.locked.Locked.end_met.Goals as goal

pub make-requires-clause-lives : goal.make-requires-clause-lives
make-requires-clause-lives g c =
    let j = g.J.Naming in
    some-live (state j.graph j.callers j.limit c.args.self.now.moves) c.args.met.version c.requires.met.going.lives

pub last_reply-reply-requires-clause-room : goal.last_reply-reply-requires-clause-room
last_reply-reply-requires-clause-room g c =
    let j = g.J.Naming in
    let m = c.args.met in
    let moves = c.args.self.now.moves in
    let s = state j.graph j.callers j.limit moves in
    let going = c.requires.met.going in
    let more = history-more j.graph j.callers j.limit moves (Make (steps.End m.version)) going.history c.requires.allowed in
    let lawful = c.histories_are_lawful.ensures j.graph c.self.invariant.1.is_graph j.callers j.limit moves going.history in
    let e = ap (λ h. h.moves) c.make.ensures in
    let x = call s m.version in
    let fits = c.states_are_bounded.ensures.looks j.graph s lawful m.version c.requires.allowed in
    let room = c.requires.met.looks in
    let looks = c.take_looks.ensures.looks ∙ ap (λ (l : Luggage). l.looks) c.deref_mut.ensures.value in record {
      entry = logged x;
      last = ap (λ (ms : List Move). last_of (state j.graph j.callers j.limit ms).log) e ∙ ap (λ (q : Core). last_of q.log) more.1 ∙ last-more s.log (logged x);
      fits = subst (λ (v : Vec Value Global). length (looks_of_reply (logged x).reply) ≤ vec_capacity v) (sym looks) (subst (λ (n : ℕ). n ≤ vec_capacity m.luggage.value.looks) (sym fits) room);
    }

pub last_reply-reply-requires-clause-empty : goal.last_reply-reply-requires-clause-empty
last_reply-reply-requires-clause-empty g c =
    ap (λ (v : Vec Value Global). v.items) (c.take_looks.ensures.looks ∙ ap (λ (l : Luggage). l.looks) c.deref_mut.ensures.value) ∙ c.requires.met.empty

pub pass-requires-clause-idle : goal.pass-requires-clause-idle
pass-requires-clause-idle g c =
    let j = g.J.Naming in
    let m = c.args.met in
    subst (λ (ms : List Move). IsIdle j.graph j.callers j.limit m.caller ms) (sym (ap (λ h. h.moves) c.make.ensures))
    (c.ends_leave_callers_idle.ensures.idle j.graph j.callers j.limit m.caller m.version m.luggage.value.out.nodes c.args.self.now.moves c.requires.met.going c.requires.allowed)

pub pass-requires-clause-nodes : goal.pass-requires-clause-nodes
pass-requires-clause-nodes g c =
    let j = g.J.Naming in
    let m = c.args.met in
    c.take_looks.ensures.out ∙ ap (λ (l : Luggage). l.out) c.deref_mut.ensures.value
    ∙ no-members m.luggage.value.out (length j.graph.nodes)
    (c.ends_leave_callers_idle.ensures.jobs j.graph c.self.invariant.1.is_graph j.callers j.limit m.caller m.version m.luggage.value.out.nodes c.args.self.now.moves c.requires.met.going c.requires.allowed)
    c.requires.met.size

pub returns : goal.returns
returns g c =
    let j = g.J.Naming in
    let m = c.args.met in
    let moves = c.args.self.now.moves in
    let s = state j.graph j.callers j.limit moves in
    let going = c.requires.met.going in
    let more = history-more j.graph j.callers j.limit moves (Make (steps.End m.version)) going.history c.requires.allowed in
    let e = ap (λ h. h.moves) c.make.ensures in
    let x = call s m.version in
    let last = ap (λ (ms : List Move). last_of (state j.graph j.callers j.limit ms).log) e ∙ ap (λ (q : Core). last_of q.log) more.1 ∙ last-more s.log (logged x) in (
      c.requires.none,
      c.requires.allowed,
      c.pass.ensures.pass ∙ ap (pass m.caller) e,
      last-reply _ (logged x) c.last_reply-reply.result last c.last_reply-reply.ensures,
    )
  where
    pass : ℕ → List Move → Idle
    pass k ms = record { caller = k; front = ms }
