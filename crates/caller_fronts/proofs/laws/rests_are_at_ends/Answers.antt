use Rattle.std.proofs.Common.{inl, refl}
use Rattle.caller_fronts.proofs.Rests.{begin-rests, step-rests}
use Rattle.caller_fronts.proofs.laws.rests_are_at_ends.Goals as goal

pub returns-clause-first : goal.returns-clause-first
returns-clause-first c graph callers limit = record { last = λ none. inl refl }

pub returns-clause-begun : goal.returns-clause-begun
returns-clause-begun c graph callers limit caller moves call = begin-rests graph callers limit caller moves call

pub returns-clause-made : goal.returns-clause-made
returns-clause-made c graph callers limit moves step some = step-rests graph callers limit moves step some
