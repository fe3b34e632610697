use Rattle.std.proofs.Common.{◌<◌, sym, refl, subst}
use Rattle.flow_state.specs.Booked.{Booked}
use Rattle.flow_state.proofs.Beginning.{kept_begin}
use Rattle.flow_state.proofs.book.Book.begin.Goals as goal

pub invariant_of-self : goal.invariant_of-self
invariant_of-self c =
    let b = c.self.inside in
    kept_begin b.limit b.begun b.rooms b.spare b.calls c.begin.new.self b.shelves b.log _ c.self.invariant c.begin.ensures refl
    (subst (λ (x : Booked). x.book.begun < x.book.limit) (sym c.self.view_is) c.requires.left) (subst (λ (x : Booked). 0 < x.rooms) (sym c.self.view_is) c.requires.rooms)
