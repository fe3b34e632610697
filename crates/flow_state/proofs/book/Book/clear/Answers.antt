use Rattle.flow_model.specs.Parts.Books.{forgotten}
use Rattle.flow_state.proofs.BookLemmas.{kept_shelf}
use Rattle.flow_state.proofs.book.Book.clear.Goals as goal

pub invariant_of-self : goal.invariant_of-self
invariant_of-self c = let b = c.self.inside in kept_shelf b.limit b.begun b.rooms b.spare b.calls b.shelves c.clear.new.self b.log c.args.node forgotten c.self.invariant c.clear.ensures
