use Rattle.std.proofs.Common.{◌∙◌, List, ap, sym, arith, true≢false}
use Rattle.std.proofs.lemmas.List.{drop_all, nil_from_length}
use Rattle.node_versions.specs.Entries.{OutEdge, is_active, active_nodes, since_at}
use Rattle.flow_state.specs.Booked.{node_count}
use Rattle.framing.proofs.Wanting.{wanting_begins, wanting_more, wanting_same, wanting_ends, edge_in, active_taken, active_skip}
use Rattle.framing.proofs.framed.want_active.Goals as goal
use Rattle.framing.proofs.framed.want_active.Goals.{then-active_at, else-active_at}

pub returns-then-outs_len-eq0 : goal.returns-then-outs_len-eq0
returns-then-outs_len-eq0 c = wanting_ends c.args.book.now c.args.book.now c.args.version _ _
    (wanting_begins c.args.book.now c.args.version (active_nodes c.args.list.now.entries c.args.list.now.outs c.args.version) c.requires.live)
    (ap (λ (xs : List OutEdge). active_nodes c.args.list.now.entries xs c.args.version) (nil_from_length c.args.list.now.outs (sym c.outs_len.ensures ∙ c.if-outs_len-eq0.true)))

pub returns-in_default : goal.returns-in_default
returns-in_default c = absurd (true≢false (sym c.requires.entry ∙ sym c.in_default.ensures.exact))

pub loop-index-init : goal.loop-index-init
loop-index-init c = wanting_begins c.args.book.now c.args.version _ c.requires.live

pub want-requires-clause-node : goal.want-requires-clause-node
want-requires-clause-node c =
    let n = edge_in (node_count c.args.book.now) c.args.list.now.outs c.loop-index.index c.out-chooser.result c.out-chooser.ensures c.requires.below in
    let same = c.loop-index.invariant.nodes in
    omega (arith, n, same)

pub loop-index-preserved : goal.loop-index-preserved
loop-index-preserved c =
    let len = c.outs_len-index-end.ensures in
    let own = ap (is_active c.args.list.now.entries (since_at c.args.list.now.outs c.loop-index.index)) (sym c.in-Some.ensures.at) in
    elim c.if-active_at.branch [
      | then-active_at w ↦ wanting_more c.args.book.now c.loop-index.book c.if-active_at.book c.args.version w.out-chooser.result.0 _ _ _ c.loop-index.invariant
          (active_taken c.args.list.now.entries c.args.list.now.outs c.args.version c.loop-index.index w.out-chooser.result w.out-chooser.ensures (own ∙ sym c.active_at.ensures ∙ w.if-active_at.true))
          (w.book-is ∙ w.want.ensures)
      | else-active_at w ↦ wanting_same c.args.book.now c.loop-index.book c.if-active_at.book c.args.version _ _ _ c.loop-index.invariant
          (active_skip c.args.list.now.entries c.args.list.now.outs c.args.version c.loop-index.index (0, 0) (omega (arith, len)) (own ∙ sym c.active_at.ensures ∙ w.if-active_at.false)) w.book-is
    ]

pub returns : goal.returns
returns c = wanting_ends c.args.book.now c.loop-index.book c.args.version _ _ c.loop-index.invariant
    (ap (λ (xs : List OutEdge). active_nodes c.args.list.now.entries xs c.args.version) (drop_all c.loop-index.index c.args.list.now.outs (let len = c.outs_len-index-end.ensures in omega (arith, len))))
