use Rattle.flow_model.specs.Machine.State.{opening}
use Rattle.caller_fronts.proofs.KeysTell.{front-later, history-more, keyed-more}
use Rattle.caller_fronts.proofs.laws.keys_tell_fronts.Goals as goal

pub returns-clause-front : goal.returns-clause-front
returns-clause-front c graph callers limit caller shorter entries some history keyed p = front-later graph callers limit caller shorter entries some history keyed p

pub returns-clause-history : goal.returns-clause-history
returns-clause-history c graph callers limit moves move h m = history-more graph callers limit moves move h m

pub returns-clause-keyed : goal.returns-clause-keyed
returns-clause-keyed c graph callers limit entries entry k first second = keyed-more graph (opening graph callers limit) entries entry k first second
