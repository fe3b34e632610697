use Rattle.deck_text.proofs.OneDeck.{one_deck, deck_or_fault, one_deck_fault}
use Rattle.deck_text.proofs.laws.one_answer.Goals as goal

pub returns-clause-deck : goal.returns-clause-deck
returns-clause-deck c = one_deck c.one_line.ensures

pub returns-clause-apart : goal.returns-clause-apart
returns-clause-apart c = deck_or_fault c.one_form.ensures c.one_answer.ensures.apart c.one_line.ensures

pub returns-clause-fault : goal.returns-clause-fault
returns-clause-fault c = one_deck_fault c.one_form.ensures c.one_answer.ensures.apart c.one_line.ensures
