use Rattle.std.proofs.Common.{sym, subst}
use Rattle.signal_graph.specs.Declarations.{AreKept}
use Rattle.signal_graph.proofs.builder.scripts_are_kept.Goals as goal

pub returns-in-Fold : goal.returns-in-Fold
returns-in-Fold c = subst AreKept (sym c.in-Fold.is) c.well_formed-in-Fold.ensures
