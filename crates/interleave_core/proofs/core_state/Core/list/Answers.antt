use Rattle.std.proofs.Common.{ap, ◌∙◌, length, arith}
use Rattle.flow_state.specs.Fitting.{list_of}
use Rattle.interleave_core.specs.Whole.{Whole}
use Rattle.interleave_core.proofs.Fits.{list_fits, all_nodes}
use Rattle.interleave_core.proofs.core_state.Core.list.Goals as goal

pub index-requires : goal.index-requires
index-requires c =
    let m = c.self.inside in
    let many = all_nodes m.graph.now m.book m.lists.items c.self.invariant in
    let seen = ap (λ (w : Whole). length w.graph.nodes) c.self.view_is in
    let node = c.requires in
    omega (arith, many, seen, node)

pub returns : goal.returns
returns c =
    let m = c.self.inside in
    let many = all_nodes m.graph.now m.book m.lists.items c.self.invariant in
    let seen = ap (λ (w : Whole). length w.graph.nodes) c.self.view_is in
    let node = c.requires in
    list_fits m.graph.now m.book m.lists.items c.args.node c.index.result.now c.self.invariant (omega (arith, many, seen, node)) c.index.ensures
    ∙ ap (λ (w : Whole). list_of w.graph w.state c.args.node) c.self.view_is
