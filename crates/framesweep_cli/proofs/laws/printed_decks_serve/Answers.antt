use Rattle.framesweep_cli.proofs.Printing.{made_again}
use Rattle.framesweep_cli.proofs.laws.printed_decks_serve.Goals as goal

pub returns : goal.returns
returns c = made_again c.one_answer.ensures.deck c.canonical_deck.ensures.back
