use Rattle.std.proofs.Common.{◌≡◌, ℕ, true, List, sym, ap, ◌∙◌, subst}
use Rattle.chronicle.specs.Entries.{events}
use Rattle.signal_graph.specs.declared.call.Call.{Call}
use Rattle.flow_model.specs.Machine.Steps.{can_begin}
use Rattle.flow_model.specs.Machine.Histories.{Move, state}
use Rattle.caller_fronts.specs.Fronts.{IsLater}
use Rattle.caller_fronts.specs.Tokens.{IsIdle}
use Rattle.sweeper.proofs.Begins.{copy-has}
use Rattle.sweeper.proofs.locked.Locked.begin.Goals as goal

pub start-requires-clause-idle : goal.start-requires-clause-idle
start-requires-clause-idle g c =
    let j = g.J.Naming in
    let m = c.pass.inside in
    let i = c.pass.invariant in
    let front = events m.note.list in
    let moves = c.args.self.now.moves in
    let later = subst (λ (k : ℕ). IsLater j.graph j.callers j.limit k front moves) i.1 c.learn.ensures.later in
    let idle = c.tokens_stay.ensures.idle j.graph j.callers j.limit m.caller front moves later i.3 in
    let learned = ap (λ h. h.moves) c.learn.ensures.after in
    subst (λ (ms : List Move). IsIdle j.graph j.callers j.limit m.caller ms) (sym (ap (λ h. h.moves) c.in-Ok.ensures.ok ∙ learned)) idle

pub pass-requires-clause-idle : goal.pass-requires-clause-idle
pass-requires-clause-idle g c =
    let j = g.J.Naming in
    let m = c.pass.inside in
    let i = c.pass.invariant in
    let front = events m.note.list in
    let moves = c.args.self.now.moves in
    let later = subst (λ (k : ℕ). IsLater j.graph j.callers j.limit k front moves) i.1 c.learn.ensures.later in
    let idle = c.tokens_stay.ensures.idle j.graph j.callers j.limit m.caller front moves later i.3 in
    let learned = ap (λ h. h.moves) c.learn.ensures.after in
    subst (λ (ms : List Move). IsIdle j.graph j.callers j.limit m.caller ms) (sym (ap (λ h. h.moves) c.in-Err.ensures.err ∙ learned)) idle

pub start-requires-clause-can : goal.start-requires-clause-can
start-requires-clause-can g c =
    let j = g.J.Naming in
    let m = c.pass.inside in
    let i = c.pass.invariant in
    let front = events m.note.list in
    let moves = c.args.self.now.moves in
    let later = subst (λ (k : ℕ). IsLater j.graph j.callers j.limit k front moves) i.1 c.learn.ensures.later in
    let idle = c.tokens_stay.ensures.idle j.graph j.callers j.limit m.caller front moves later i.3 in
    let learned = ap (λ h. h.moves) c.learn.ensures.after in
    let here = subst (λ (ms : List Move). IsIdle j.graph j.callers j.limit m.caller ms) (sym learned) idle in
    let can = c.in-Ok.ensures.begins m.caller here in
    copy-has (λ (x : Call). can_begin j.graph (state j.graph j.callers j.limit c.admit.new.self.moves) m.caller x ≡ true) c.args.call.now c.args.prepared c.requires.copy
    (subst (λ (ms : List Move). can_begin j.graph (state j.graph j.callers j.limit ms) m.caller c.args.call.now ≡ true) (sym (ap (λ h. h.moves) c.in-Ok.ensures.ok)) can)
