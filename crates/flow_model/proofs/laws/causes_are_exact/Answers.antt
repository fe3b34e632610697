use Rattle.flow_model.proofs.Together.WhyNotEnded.{end-live, end-executing}
use Rattle.flow_model.proofs.laws.causes_are_exact.Goals as goal

pub returns-clause-lawful : goal.returns-clause-lawful
returns-clause-lawful c = end-live

pub returns-clause-executing : goal.returns-clause-executing
returns-clause-executing c = end-executing
