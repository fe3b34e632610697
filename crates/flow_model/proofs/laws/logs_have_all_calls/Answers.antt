use Rattle.flow_model.proofs.Callers.FinishedRunsMerge.{ended-made, ended-AreVersions}
use Rattle.flow_model.proofs.laws.logs_have_all_calls.Goals as goal

pub returns-clause-made : goal.returns-clause-made
returns-clause-made c = ended-made

pub returns-clause-versions : goal.returns-clause-versions
returns-clause-versions c = ended-AreVersions
