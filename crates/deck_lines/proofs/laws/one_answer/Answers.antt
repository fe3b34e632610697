use Rattle.deck_lines.proofs.OneAnswer.{line_or_fault, one_fault}
use Rattle.deck_lines.proofs.laws.one_answer.Goals as goal

pub returns : goal.returns
returns c = record {
  apart = line_or_fault c.one_answer.ensures.shallow;
  fault = one_fault c.one_answer.ensures.shallow c.one_answer.ensures.apart;
}
