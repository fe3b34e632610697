use Rattle.flow_model.proofs.Slots.LeastIsFirst.{least-first, least-recorded, least-framing, least-presses}
use Rattle.flow_model.proofs.stored_laws.least_versions_are_first.Goals as goal

pub returns-clause-first : goal.returns-clause-first
returns-clause-first c = least-first

pub returns-clause-recorded : goal.returns-clause-recorded
returns-clause-recorded c = least-recorded

pub returns-clause-framing : goal.returns-clause-framing
returns-clause-framing c = least-framing

pub returns-clause-presses : goal.returns-clause-presses
returns-clause-presses c = least-presses
