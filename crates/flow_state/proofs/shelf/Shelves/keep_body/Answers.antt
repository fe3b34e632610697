use Rattle.std.proofs.Common.{refl, arith}
use Rattle.flow_model.specs.Parts.Books.{with_body}
use Rattle.flow_state.proofs.ShelfLemmas.{changed_alone}
use Rattle.flow_state.proofs.shelf.Shelves.keep_body.Goals as goal

pub invariant_of-self : goal.invariant_of-self
invariant_of-self c = let b = c.self.inside in (changed_alone b.block.items b.shelves.items c.args.node c.index_mut.result.now _ (with_body c.args.value) c.args.self.now c.self.invariant c.self.view_is c.requires c.index_mut.ensures.value refl refl (omega arith) refl (λ apart. apart)).0

pub returns : goal.returns
returns c = let b = c.self.inside in (changed_alone b.block.items b.shelves.items c.args.node c.index_mut.result.now _ (with_body c.args.value) c.args.self.now c.self.invariant c.self.view_is c.requires c.index_mut.ensures.value refl refl (omega arith) refl (λ apart. apart)).1
