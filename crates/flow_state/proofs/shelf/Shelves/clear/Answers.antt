use Rattle.std.proofs.Common.{None, refl, arith}
use Rattle.flow_model.specs.Parts.Books.{forgotten}
use Rattle.flow_state.proofs.ShelfLemmas.{changed_alone, nothing-left}
use Rattle.flow_state.proofs.shelf.Shelves.clear.Goals as goal

pub invariant_of-self : goal.invariant_of-self
invariant_of-self c = let b = c.self.inside in let s = c.index_mut-shelf.result.now in (changed_alone b.block.items b.shelves.items c.args.node s (record { start = s.start; count = 0; room = s.room; found = None; body = None }) forgotten c.args.self.now c.self.invariant c.self.view_is c.requires c.index_mut-shelf.ensures.value refl refl (omega arith) (nothing-left b.block.items s) (λ apart. tt)).0

pub returns : goal.returns
returns c = let b = c.self.inside in let s = c.index_mut-shelf.result.now in (changed_alone b.block.items b.shelves.items c.args.node s (record { start = s.start; count = 0; room = s.room; found = None; body = None }) forgotten c.args.self.now c.self.invariant c.self.view_is c.requires c.index_mut-shelf.ensures.value refl refl (omega arith) (nothing-left b.block.items s) (λ apart. tt)).1
