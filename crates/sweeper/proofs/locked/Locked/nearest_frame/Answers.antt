use Rattle.std.proofs.Common.{length, ap, arith}
use Rattle.std.proofs.lemmas.List.{length-map}
use Rattle.flow_model.specs.Parts.Books.{Book, work_in}
use Rattle.sweeper.proofs.locked.Locked.nearest_frame.Goals as goal

pub list-list-requires : goal.list-list-requires
list-list-requires g c =
    let fits = c.book.ensures.fits in
    let works = ap (λ (b : Book). length b.works) fits.parts in
    let mapped = length-map c.self.inside.core.state.cells work_in in
    let cells = fits.lawful.lists in
    let nodes = c.nodes.ensures in
    let below = c.if-node-nodes.false in
    omega (arith, works, mapped, cells, nodes, below)
