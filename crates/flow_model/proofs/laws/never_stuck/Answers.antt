use Rattle.flow_model.proofs.Together.NeverStuck.{first-HasNext, some-first}
use Rattle.flow_model.proofs.laws.never_stuck.Goals as goal

pub returns-clause-goes_on : goal.returns-clause-goes_on
returns-clause-goes_on c = first-HasNext

pub returns-clause-first : goal.returns-clause-first
returns-clause-first c = some-first
