use Rattle.std.proofs.Common.{length}
use Rattle.sweeper.proofs.locked.Locked.+settle.Given as goal

abbrev pub decreases-settle : goal.decreases-settle
decreases-settle g l = length l.passes
