use Rattle.std.proofs.Common.{◌∙◌}
use Rattle.flow_state.specs.Jobs.{read_from}
use Rattle.flow_state.proofs.JobLemmas.{first_is}
use Rattle.flow_state.proofs.job.first_pick.Goals as goal

pub returns : goal.returns
returns c = c.pick.ensures ∙ first_is (read_from c.args.gathered.now) c.args.found.now c.get.result.now c.get.ensures
