use Rattle.separate_decks.proofs.Following.{rests_on_owner}
use Rattle.separate_decks.proofs.laws.rests_on_owner.Goals as goal

pub returns : goal.returns
returns c = rests_on_owner c.literal.ensures.pass c.literal.ensures.size c.values_are.ensures.each c.values_are.ensures.all
