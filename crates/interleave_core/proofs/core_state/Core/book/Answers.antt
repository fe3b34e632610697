use Rattle.std.proofs.Common.{subst}
use Rattle.flow_state.specs.Fitting.{IsBookOf}
use Rattle.interleave_core.specs.Whole.{Whole}
use Rattle.interleave_core.proofs.Fits.{fits}
use Rattle.interleave_core.proofs.core_state.Core.book.Goals as goal

pub returns-clause-fits : goal.returns-clause-fits
returns-clause-fits c =
    let m = c.self.inside in
    subst (λ (w : Whole). IsBookOf w.graph w.state m.book) c.self.view_is (fits m.graph.now m.book m.lists.items c.self.invariant)
