use Rattle.caller_fronts.proofs.OwnCalls.{later-on}
use Rattle.caller_fronts.proofs.laws.later_goes_on.Goals as goal

pub returns-clause-on : goal.returns-clause-on
returns-clause-on c graph callers limit caller front later last l m = later-on graph callers limit caller front later last l m
