use Rattle.std.proofs.Common.{ℕ, List, ap, ◌∙◌, subst, vec_capacity}
use Rattle.chronicle.specs.Entries.{events}
use Rattle.flow_model.specs.Machine.Histories.{Move}
use Rattle.flow_state.specs.declared.outcome.Answer.{Answer}
use Rattle.caller_fronts.specs.Fronts.{IsLater}
use Rattle.caller_fronts.specs.Tokens.{Going}
use Rattle.sweeper.specs.Answers.{seen}
use Rattle.sweeper.proofs.locked.Locked.meet.Goals as goal

abbrev going : ℕ → ℕ → List Move → List Answer → Going
going caller version front out = record { caller = caller; front = front; version = version; out = out }

pub returns-clause-met : goal.returns-clause-met
returns-clause-met g c =
    let j = g.J.Naming in
    let m = c.live.inside in
    let i = c.live.invariant in
    let front = events m.note.list in
    let l = subst (λ (k : ℕ). IsLater j.graph j.callers j.limit k front c.args.self.now.moves) i.1 c.learn.ensures.later in record {
      going = c.tokens_stay.ensures.going j.graph c.self.invariant.1.is_graph j.callers j.limit m.caller m.version m.luggage.value.out.nodes front c.args.self.now.moves l i.3;
      size = i.2;
      empty = i.4;
      looks = c.tokens_stay.ensures.looks j.graph j.callers j.limit m.caller m.version (vec_capacity m.luggage.value.looks) m.luggage.value.out.nodes front c.args.self.now.moves l i.3 i.5;
    }

pub returns-clause-same : goal.returns-clause-same
returns-clause-same g c =
    let j = g.J.Naming in
    let m = c.live.inside in
    let i = c.live.invariant in
    let front = events m.note.list in
    let l = subst (λ (k : ℕ). IsLater j.graph j.callers j.limit k front c.args.self.now.moves) i.1 c.learn.ensures.later in
    ap (λ (out : List Answer). going m.caller m.version c.args.self.now.moves out) (c.tokens_stay.ensures.jobs j.graph c.self.invariant.1.is_graph j.callers j.limit m.caller m.version m.luggage.value.out.nodes front c.args.self.now.moves l i.3)
    ∙ ap (λ (v : Going). seen v c.args.self.now.moves) c.live.view_is
