use Rattle.std.proofs.Common.{ap, ◌∙◌, ◌+◌, arith}
use Rattle.node_versions.proofs.FirstFrame.{frame_from}
use Rattle.node_versions.proofs.KeptLemmas.{seen, frames_in_part}
use Rattle.node_versions.proofs.list.NodeList.frame_from.Goals as goal

pub returns-then-from-self-clause-place : goal.returns-then-from-self-clause-place
returns-then-from-self-clause-place c =
    let k = seen c.args.self.now c.self.invariant c.self.view_is in
    k.frame ∙ frame_from c.args.self.now.entries c.args.from (omega (arith, k.frame, c.if-from-self.true))

pub returns-then-from-self-clause-bound : goal.returns-then-from-self-clause-bound
returns-then-from-self-clause-bound c = (seen c.args.self.now c.self.invariant c.self.view_is).frame_fits

pub overflow_cast-result : goal.overflow_cast-result
overflow_cast-result c =
    let k = seen c.args.self.now c.self.invariant c.self.view_is in
    let part = frames_in_part _ c.args.self.now c.self.view_is c.args.from c.frames_from.result c.as_slice.result.now c.as_slice.ensures c.requires c.frames_from.ensures in
    omega (arith, k.small, k.fits, part.1)

pub overflow_add-result : goal.overflow_add-result
overflow_add-result c =
    let k = seen c.args.self.now c.self.invariant c.self.view_is in
    let part = frames_in_part _ c.args.self.now c.self.view_is c.args.from c.frames_from.result c.as_slice.result.now c.as_slice.ensures c.requires c.frames_from.ensures in
    omega (arith, k.small, k.fits, part.1)

pub returns-clause-place : goal.returns-clause-place
returns-clause-place c =
    let part = frames_in_part _ c.args.self.now c.self.view_is c.args.from c.frames_from.result c.as_slice.result.now c.as_slice.ensures c.requires c.frames_from.ensures in
    ap (λ n. c.args.from + n) part.0

pub returns-clause-bound : goal.returns-clause-bound
returns-clause-bound c =
    let part = frames_in_part _ c.args.self.now c.self.view_is c.args.from c.frames_from.result c.as_slice.result.now c.as_slice.ensures c.requires c.frames_from.ensures in
    part.1
