use Rattle.std.proofs.Common.{◌≡◌, ℕ, false, sym, subst}
use Rattle.order_graph.specs.Order.{is_recorded}
use Rattle.flow_state.specs.Booked.{Booked}
use Rattle.flow_state.proofs.BookLemmas.{kept_end}
use Rattle.flow_state.proofs.book.Book.end.Goals as goal

pub end-logged-requires-clause-first : goal.end-logged-requires-clause-first
end-logged-requires-clause-first c = subst (λ (b : Booked). (u : ℕ) → is_recorded b.book.pairs u c.args.version ≡ false) (sym c.self.view_is) c.requires.first

pub invariant_of-self : goal.invariant_of-self
invariant_of-self c = let b = c.self.inside in kept_end b.limit b.begun b.rooms b.spare b.calls c.end-logged.new.self b.shelves b.log c.append.new.self c.args.version c.end-logged.result c.self.invariant c.end-logged.ensures.left c.end-logged.ensures.fewer c.append.ensures.entries c.append.ensures.spare
