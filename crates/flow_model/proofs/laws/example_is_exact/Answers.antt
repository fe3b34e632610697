use Rattle.flow_model.proofs.Schedules.ExamplesPlayOut.{retrofit-one_look}
use Rattle.flow_model.proofs.laws.example_is_exact.Goals as goal

pub returns : goal.returns
returns c = retrofit-one_look
