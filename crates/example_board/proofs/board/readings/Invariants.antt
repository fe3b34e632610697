use Rattle.std.specs.Prelude.{◌≡◌, length, All}
use Rattle.flow_model.specs.Follows.Callers.{IsWithin}
use Rattle.example_board.proofs.board.readings.Given as goal

abbrev pub invariant-loop-value : goal.invariant-loop-value
invariant-loop-value l = All IsWithin l.calls × (length l.calls ≡ l.value-index)
