use Rattle.std.proofs.Common.{◌+◌, ◌≤◌, length, sym, ap, subst, arith}
use Rattle.std.specs.List.{between}
use Rattle.flow_state.specs.Booked.{AreApart}
use Rattle.flow_state.proofs.ShelfLemmas.{part_inside, part_apart, shelf_below}
use Rattle.flow_state.proofs.shelf.Shelves.part.Goals as goal

pub slice_bounds-result-end : goal.slice_bounds-result-end
slice_bounds-result-end c =
    let b = c.self.inside in
    let s = c.index-shelf.result.now in
    let last = part_inside b.block.items b.shelves.items c.args.node s c.args.self.now c.self.invariant c.self.view_is c.requires c.index-shelf.ensures in
    let same = ap length c.deref.ensures.value in
    let end : s.start + s.count ≤ length c.deref.result.now = omega (arith, last, same) in
    end

pub returns-clause-apart : goal.returns-clause-apart
returns-clause-apart c =
    let b = c.self.inside in
    let s = c.index-shelf.result.now in
    let below = shelf_below b.block.items b.shelves.items c.args.node c.args.self.now c.self.view_is c.requires in
    subst (λ xs. AreApart (between s.start (s.start + s.count) xs)) (sym c.deref.ensures.value) (part_apart b.block.items b.shelves.items c.args.node s c.self.invariant below c.index-shelf.ensures)
