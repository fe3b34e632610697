-- What a call has left to do before it can end.
use Rattle.std.specs.Prelude.{ℕ, Option}
use Rattle.std.specs.Option.{option_or}
use Rattle.flow_model.specs.Machine.Sets.{least}
use Rattle.flow_state.specs.Booked.{Booked, call_in, next_look_in}

-- the first node at which it has not finished: the least wanted one, else the least open one, else that of the next look
abbrev pub first_unfinished : Booked → ℕ → Option ℕ
first_unfinished book t = option_or (least (call_in book t).wanted) (option_or (least (call_in book t).open_nodes) (next_look_in book t))
