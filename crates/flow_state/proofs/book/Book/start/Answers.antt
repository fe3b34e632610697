use Rattle.std.proofs.Common.{refl}
use Rattle.flow_model.specs.Machine.Steps.{started}
use Rattle.flow_state.proofs.BookLemmas.{kept_call}
use Rattle.flow_state.proofs.book.Book.start.Goals as goal

pub invariant_of-self : goal.invariant_of-self
invariant_of-self c = let b = c.self.inside in kept_call b.limit b.begun b.rooms b.spare b.calls c.start.new.self b.shelves b.log c.args.version started c.self.invariant (λ _. refl) c.start.ensures
