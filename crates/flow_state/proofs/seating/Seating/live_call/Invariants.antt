use Rattle.std.proofs.Common.{◌≡◌, ◌==◌, drop}
use Rattle.flow_model.specs.Machine.Next.{least_version}
use Rattle.flow_state.specs.Seats.{calls_of}
use Rattle.flow_state.proofs.seating.Seating.live_call.Given as goal

abbrev pub invariant-loop-index : goal.invariant-loop-index
invariant-loop-index l = least_version (λ c. c.caller == l.caller) (calls_of l.self-inside.seats.items (drop l.index l.self-inside.live.items)) ≡ least_version (λ c. c.caller == l.caller) l.self.calls
