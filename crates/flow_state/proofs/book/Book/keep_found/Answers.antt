use Rattle.flow_model.specs.Parts.Books.{with_found}
use Rattle.flow_state.specs.Found.{found_of}
use Rattle.flow_state.proofs.BookLemmas.{kept_shelf}
use Rattle.flow_state.proofs.book.Book.keep_found.Goals as goal

pub invariant_of-self : goal.invariant_of-self
invariant_of-self c = let b = c.self.inside in kept_shelf b.limit b.begun b.rooms b.spare b.calls b.shelves c.keep_found.new.self b.log c.args.node (with_found (found_of c.args.found)) c.self.invariant c.keep_found.ensures
