use Rattle.std.proofs.Common.{refl}
use Rattle.flow_model.specs.Machine.Steps.{with_look}
use Rattle.flow_state.proofs.BookLemmas.{kept_call}
use Rattle.flow_state.proofs.book.Book.look.Goals as goal

pub invariant_of-self : goal.invariant_of-self
invariant_of-self c = let b = c.self.inside in kept_call b.limit b.begun b.rooms b.spare b.calls c.look.new.self b.shelves b.log c.args.version (with_look c.args.value) c.self.invariant (λ _. refl) c.look.ensures
