use Rattle.std.proofs.Common.{sym, ap₂, max, ◌+◌, ◌∙◌}
use Rattle.node_versions.proofs.DoneLen.{done_finished, done_kept}
use Rattle.node_versions.proofs.KeptLemmas.{seen}
use Rattle.node_versions.proofs.Places.{has_at_place}
use Rattle.node_versions.proofs.list.NodeList.done_end_after.Goals as goal

pub returns-then-is_done : goal.returns-then-is_done
returns-then-is_done c = λ t at other.
    let k = seen c.args.self.now c.self.invariant c.self.view_is in
    let has = has_at_place c.args.self.now.entries t c.args.place at c.requires in
    c.max.ensures ∙ ap₂ (λ d n. max d (n + 1)) k.done at ∙ sym (done_finished c.args.self.now.entries t c.args.state.now has (sym c.is_done.ensures ∙ c.if-is_done.true))

pub returns-else-is_done : goal.returns-else-is_done
returns-else-is_done c = λ t at other.
    let k = seen c.args.self.now c.self.invariant c.self.view_is in
    k.done ∙ sym (done_kept c.args.self.now.entries t c.args.state.now other (sym c.is_done.ensures ∙ c.if-is_done.false))
