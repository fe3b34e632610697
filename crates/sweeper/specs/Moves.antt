-- Which move an entry of the history stands for.
use Rattle.flow_model.specs.Machine.Histories as moves
use Rattle.sweeper.specs.declared.moves.MoveKind.{MoveKind}
use Rattle.sweeper.specs.declared.moves.MoveKind.TheVariants.{Begin, Make}

-- the move that a value is
abbrev pub move_of : MoveKind → moves.Move
move_of (Begin caller call) = moves.Begin caller call
move_of (Make step) = moves.Make step
