use Rattle.flow_model.proofs.Callers.StepsComeInTime.{step-begun_before, ended-no_step, step_of-live}
use Rattle.flow_model.proofs.laws.steps_come_in_time.Goals as goal

pub returns-clause-begun : goal.returns-clause-begun
returns-clause-begun c = step-begun_before

pub returns-clause-not_ended : goal.returns-clause-not_ended
returns-clause-not_ended c = ended-no_step

pub returns-clause-live : goal.returns-clause-live
returns-clause-live c = step_of-live
