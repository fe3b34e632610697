use Rattle.std.proofs.Common.{refl, arith}
use Rattle.flow_model.specs.Parts.Books.{with_found}
use Rattle.flow_state.specs.Found.{found_of}
use Rattle.flow_state.proofs.ShelfLemmas.{changed_alone}
use Rattle.flow_state.proofs.shelf.Shelves.keep_found.Goals as goal

pub invariant_of-self : goal.invariant_of-self
invariant_of-self c = let b = c.self.inside in (changed_alone b.block.items b.shelves.items c.args.node c.index_mut.result.now _ (with_found (found_of c.args.found)) c.args.self.now c.self.invariant c.self.view_is c.requires c.index_mut.ensures.value refl refl (omega arith) refl (λ apart. apart)).0

pub returns : goal.returns
returns c = let b = c.self.inside in (changed_alone b.block.items b.shelves.items c.args.node c.index_mut.result.now _ (with_found (found_of c.args.found)) c.args.self.now c.self.invariant c.self.view_is c.requires c.index_mut.ensures.value refl refl (omega arith) refl (λ apart. apart)).1
