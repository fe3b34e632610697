use Rattle.std.proofs.Common.{refl}
use Rattle.flow_state.specs.Booked.{opened_one}
use Rattle.flow_state.proofs.BookLemmas.{kept_call}
use Rattle.flow_state.proofs.book.Book.open.Goals as goal

pub invariant_of-self : goal.invariant_of-self
invariant_of-self c = let b = c.self.inside in kept_call b.limit b.begun b.rooms b.spare b.calls c.open.new.self b.shelves b.log c.args.version (opened_one c.args.node) c.self.invariant (λ _. refl) c.open.ensures
