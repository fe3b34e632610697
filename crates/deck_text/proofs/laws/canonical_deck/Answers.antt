use Rattle.deck_text.proofs.Canonical.{Again, OneAnswer, canonical_lines, canonical_each, canonical_back, canonical_again, canonical_short}
use Rattle.deck_text.proofs.laws.canonical_deck.Goals as goal

again : (c : goal.After-one_answer) → Again
again c = record { says = c.canonical_line.ensures.says; back = c.canonical_line.ensures.back; whole = c.canonical_line.ensures.whole; short = c.canonical_line.ensures.short }

one : (c : goal.After-one_answer) → OneAnswer
one c = record { deck = c.one_answer.ensures.deck; apart = c.one_answer.ensures.apart }

pub returns : goal.returns
returns c = record {
  lines = canonical_lines (again c);
  each = canonical_each (again c);
  back = canonical_back (again c);
  again = canonical_again (again c) (one c);
  short = canonical_short (again c);
}
