use Rattle.std.proofs.Common.{◌≡◌, false, sym, subst}
use Rattle.order_graph.specs.Order.{reaches}
use Rattle.signal_graph.specs.Legal.{Legal}
use Rattle.flow_model.specs.Machine.State.{Core}
use Rattle.flow_model.specs.Kept.Lawful.{IsLawful}
use Rattle.interleave_core.specs.Runs.{moves_of}
use Rattle.interleave_core.proofs.laws.runs_are_right.Goals as goal

pub returns-clause-legal : goal.returns-clause-legal
returns-clause-legal c graph kept callers limit acts h =
    let is = (c.runs_are_histories.ensures.core graph callers limit acts h).1 in
    let history = c.runs_are_histories.ensures.history graph callers limit acts h in
    subst (λ (s : Core). Legal graph s.log) (sym is) (c.logs_are_legal.ensures graph kept callers limit (moves_of acts) history)

pub returns-clause-order : goal.returns-clause-order
returns-clause-order c graph kept callers limit acts h u =
    let is = (c.runs_are_histories.ensures.core graph callers limit acts h).1 in
    let history = c.runs_are_histories.ensures.history graph callers limit acts h in
    subst (λ (s : Core). reaches s.pairs u u ≡ false) (sym is) ((c.histories_are_lawful.ensures graph kept callers limit (moves_of acts) history).order_is_kept.no_cycle u)

pub returns-clause-values : goal.returns-clause-values
returns-clause-values c graph kept callers limit acts h none =
    let is = (c.runs_are_histories.ensures.core graph callers limit acts h).1 in
    let history = c.runs_are_histories.ensures.history graph callers limit acts h in
    let lawful = subst (IsLawful graph) (sym is) (c.histories_are_lawful.ensures graph kept callers limit (moves_of acts) history) in
    c.last_values_are_final.ensures.lawful graph _ lawful none
