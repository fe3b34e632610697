use Rattle.separate_decks.proofs.Following.{merges_end_alike}
use Rattle.separate_decks.proofs.laws.merges_end_alike.Goals as goal

pub returns : goal.returns
returns c = merges_end_alike c.literal.ensures.pass c.literal.ensures.size c.values_are.ensures.each c.values_are.ensures.all
