use Rattle.deck_lines.proofs.OneLine.{one_each, one_line}
use Rattle.deck_lines.proofs.laws.one_line.Goals as goal

pub returns : goal.returns
returns c = one_line (one_each c.one_answer.ensures.script c.one_answer.ensures.body)
