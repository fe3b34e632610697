use Rattle.flow_state.proofs.BookLemmas.{kept_pairs}
use Rattle.flow_state.proofs.book.Book.link.Goals as goal

pub invariant_of-self : goal.invariant_of-self
invariant_of-self c = let b = c.self.inside in kept_pairs b.limit b.begun b.rooms b.spare b.calls c.link.new.self b.shelves b.log _ c.self.invariant c.link.ensures
