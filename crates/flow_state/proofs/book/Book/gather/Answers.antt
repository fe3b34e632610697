use Rattle.flow_model.specs.Parts.Books.{with_gathered}
use Rattle.flow_state.proofs.BookLemmas.{kept_shelf}
use Rattle.flow_state.proofs.book.Book.gather.Goals as goal

pub invariant_of-self : goal.invariant_of-self
invariant_of-self c = let b = c.self.inside in kept_shelf b.limit b.begun b.rooms b.spare b.calls b.shelves c.gather.new.self b.log c.args.node (with_gathered c.args.input c.args.value) c.self.invariant c.gather.ensures
