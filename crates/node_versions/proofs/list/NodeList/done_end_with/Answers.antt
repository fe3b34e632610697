use Rattle.std.proofs.Common.{sym, ◌∙◌, arith}
use Rattle.node_versions.proofs.DoneLen.{done_before, done_inserted, done_shifted}
use Rattle.node_versions.proofs.KeptLemmas.{seen}
use Rattle.node_versions.proofs.list.NodeList.done_end_with.Goals as goal

pub overflow_add-result : goal.overflow_add-result
overflow_add-result c =
    let k = seen c.args.self.now c.self.invariant c.self.view_is in
    omega (arith, k.done_fits, k.small, c.requires.room)

pub returns-then-index-self : goal.returns-then-index-self
returns-then-index-self c =
    let k = seen c.args.self.now c.self.invariant c.self.view_is in
    let more = done_shifted c.args.self.now.entries c.args.index c.args.entry.now (omega (arith, k.done, c.if-index-self.true)) in
    omega (arith, k.done, more)

pub returns-then-is_done : goal.returns-then-is_done
returns-then-is_done c =
    let k = seen c.args.self.now c.self.invariant c.self.view_is in
    sym (done_inserted c.args.self.now.entries c.args.index c.args.entry.now (omega (arith, k.done, c.if-index-self.false)) c.requires.in_list (sym c.is_done.ensures ∙ c.if-is_done.true))

pub returns-else-is_done : goal.returns-else-is_done
returns-else-is_done c =
    let k = seen c.args.self.now c.self.invariant c.self.view_is in
    k.done ∙ sym (done_before c.args.self.now.entries c.args.index c.args.entry.now (omega (arith, k.done, c.if-index-self.false)) (sym c.is_done.ensures ∙ c.if-is_done.false))
