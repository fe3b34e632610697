use Rattle.flow_model.proofs.Others.CallsAreLeft.{others-move, others-live, others-keep, others-give}
use Rattle.flow_model.proofs.laws.others_leave_calls.Goals as goal

pub returns-clause-whole : goal.returns-clause-whole
returns-clause-whole c = others-move

pub returns-clause-lives : goal.returns-clause-lives
returns-clause-lives c = others-live

pub returns-clause-kept : goal.returns-clause-kept
returns-clause-kept c = others-keep

pub returns-clause-given : goal.returns-clause-given
returns-clause-given c = others-give
