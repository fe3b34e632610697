use Rattle.std.proofs.Common.{◌≡◌, [], refl}
use Rattle.script_tree.specs.PickPlaces.{items_of, AreFreeBehind, IsFree}
use Rattle.script_tree.proofs.picks.Picks.new.Goals as goal

pub invariant_of-result : goal.invariant_of-result
unfolding AreFreeBehind IsFree
invariant_of-result c = (refl, (refl, (refl, tt)))

pub returns : goal.returns
unfolding items_of
returns c = refl
