use Rattle.deck_lines.proofs.ValueText.{value_written}
use Rattle.deck_lines.proofs.laws.written_value.Goals as goal

pub returns : goal.returns
returns c = value_written
