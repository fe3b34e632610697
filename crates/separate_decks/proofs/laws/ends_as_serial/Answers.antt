use Rattle.separate_decks.proofs.Serial.{ends_as_serial}
use Rattle.separate_decks.proofs.laws.ends_as_serial.Goals as goal

pub returns : goal.returns
returns c = ends_as_serial c.literal.ensures.pass c.literal.ensures.size c.values_are.ensures.each c.values_are.ensures.all
