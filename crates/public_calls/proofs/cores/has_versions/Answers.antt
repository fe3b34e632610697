use Rattle.std.proofs.Common.{length, map, ap, arith}
use Rattle.std.proofs.lemmas.List.{length-map}
use Rattle.flow_model.specs.Parts.Books.{Book, work_in}
use Rattle.public_calls.proofs.cores.has_versions.Goals as goal

pub list-requires : goal.list-requires
list-requires c =
    let fits = c.book.ensures.fits in
    let works = ap (λ (b : Book). length b.works) fits.parts in
    let mapped = length-map c.args.core.now.state.cells work_in in
    let cells = fits.lawful.lists in
    let nodes = c.nodes.ensures in
    let below = c.if-node-nodes.false in
    omega (arith, works, mapped, cells, nodes, below)
