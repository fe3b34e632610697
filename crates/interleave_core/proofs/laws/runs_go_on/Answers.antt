use Rattle.std.proofs.Common.{sym, subst}
use Rattle.flow_model.specs.Kept.Lawful.{IsLawful}
use Rattle.interleave_core.specs.Runs.{moves_of}
use Rattle.interleave_core.proofs.laws.runs_go_on.Goals as goal

pub returns-clause-next : goal.returns-clause-next
returns-clause-next c graph kept callers limit acts h t lives first =
    let is = (c.runs_are_histories.ensures.core graph callers limit acts h).1 in
    let history = c.runs_are_histories.ensures.history graph callers limit acts h in
    let lawful = subst (IsLawful graph) (sym is) (c.histories_are_lawful.ensures graph kept callers limit (moves_of acts) history) in
    c.never_stuck.ensures.goes_on graph kept _ lawful t lives first

pub returns-clause-room : goal.returns-clause-room
returns-clause-room c graph kept callers limit acts h n full =
    let is = (c.runs_are_histories.ensures.core graph callers limit acts h).1 in
    let history = c.runs_are_histories.ensures.history graph callers limit acts h in
    let lawful = subst (IsLawful graph) (sym is) (c.histories_are_lawful.ensures graph kept callers limit (moves_of acts) history) in
    (c.full_lists_are_collected.ensures.allowed graph _ lawful n full, c.full_lists_are_collected.ensures.left graph _ lawful n)

pub returns-clause-bounded : goal.returns-clause-bounded
returns-clause-bounded c graph kept callers limit acts h = c.histories_are_bounded.ensures graph kept callers limit (moves_of acts) (c.runs_are_histories.ensures.history graph callers limit acts h)
