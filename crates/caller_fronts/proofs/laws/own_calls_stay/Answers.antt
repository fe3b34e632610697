use Rattle.caller_fronts.proofs.OwnCalls.{calls-stay}
use Rattle.caller_fronts.proofs.laws.own_calls_stay.Goals as goal

pub returns : goal.returns
returns c graph callers limit caller front later l = calls-stay graph callers limit caller front later l
