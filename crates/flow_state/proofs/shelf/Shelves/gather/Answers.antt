use Rattle.std.proofs.Common.{refl, arith}
use Rattle.flow_state.proofs.ShelfLemmas.{has_room, one_gathered}
use Rattle.flow_state.proofs.shelf.Shelves.gather.Goals as goal

pub overflow_add-shelf : goal.overflow_add-shelf
overflow_add-shelf c = let b = c.self.inside in let r = has_room b.block.items b.shelves.items c.args.node c.index_mut-shelf.result.now c.args.self.now c.self.invariant c.self.view_is c.requires.inside c.index_mut-shelf.ensures.value c.requires.room in let last = r.1 in let few = c.self.invariant.few in record { fits = omega (arith, last, few) }

pub index_mut-requires : goal.index_mut-requires
index_mut-requires c = let b = c.self.inside in let r = has_room b.block.items b.shelves.items c.args.node c.index_mut-shelf.result.now c.args.self.now c.self.invariant c.self.view_is c.requires.inside c.index_mut-shelf.ensures.value c.requires.room in let last = r.1 in let len = b.block.ok.0 in omega (arith, last, len)

pub invariant_of-self : goal.invariant_of-self
invariant_of-self c = let b = c.self.inside in (one_gathered b.block.items b.shelves.items c.args.node c.index_mut-shelf.result.now _ c.args.input c.args.value c.args.self.now c.self.invariant c.self.view_is c.requires.inside c.index_mut-shelf.ensures.value c.requires.new c.requires.room refl).0

pub returns : goal.returns
returns c = let b = c.self.inside in (one_gathered b.block.items b.shelves.items c.args.node c.index_mut-shelf.result.now _ c.args.input c.args.value c.args.self.now c.self.invariant c.self.view_is c.requires.inside c.index_mut-shelf.ensures.value c.requires.new c.requires.room refl).1
