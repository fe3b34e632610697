use Rattle.flow_model.proofs.Opening.OpeningIsLawful.{opening-lawful}
use Rattle.flow_model.proofs.laws.opening_is_lawful.Goals as goal

pub returns : goal.returns
returns c = opening-lawful
