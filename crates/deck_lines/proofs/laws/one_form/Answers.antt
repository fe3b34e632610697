use Rattle.deck_lines.proofs.Fitting.{one_form}
use Rattle.deck_lines.proofs.laws.one_form.Goals as goal

pub returns : goal.returns
returns c = one_form
