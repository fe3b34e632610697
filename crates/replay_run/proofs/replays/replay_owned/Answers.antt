use Rattle.std.proofs.Common.{List, sym, ap, ◌∙◌, subst}
use Rattle.signal_graph.specs.declared.log.Logged.{Logged}
use Rattle.signal_graph.specs.declared.log.Refused.{Refused}
use Rattle.signal_graph.specs.Legal.{Legal, finals}
use Rattle.call_log.specs.Merge.{Merge}
use Rattle.flow_model.specs.Machine.Schedules.{replayed}
use Rattle.replay_run.proofs.Seats.{are-within}
use Rattle.replay_run.proofs.replays.replay_owned.Goals as goal

pub returns-clause-legal : goal.returns-clause-legal
returns-clause-legal c =
    let graph = c.args.graph.now in
    let run = c.in_ok-finished in
    subst (λ (log : List Logged). Legal graph log) (sym run.ensures.log)
    (c.replays_are_merges.ensures.legal graph c.len-2.ensures.kept c.args.scripts (are-within c.args.scripts c.requires.within) c.args.versions c.as_slice-2.result.now)

pub returns-clause-merge : goal.returns-clause-merge
returns-clause-merge c =
    let graph = c.args.graph.now in
    let scripts = c.args.scripts in
    let run = c.in_ok-finished in
    subst (λ (log : List Logged). Merge graph scripts c.args.versions log run.finished.refused) (sym run.ensures.log)
    (subst (λ (refused : List Refused). Merge graph scripts c.args.versions (replayed graph scripts c.args.versions c.as_slice-2.result.now).core.log refused) (sym run.ensures.refused)
    (c.replays_are_merges.ensures.merge graph c.len-2.ensures.kept scripts (are-within scripts c.requires.within) c.args.versions c.as_slice-2.result.now))

pub returns-clause-finals : goal.returns-clause-finals
returns-clause-finals c =
    let graph = c.args.graph.now in
    let scripts = c.args.scripts in
    let run = c.in_ok-finished in
    run.ensures.values
    ∙ c.replays_are_merges.ensures.values graph c.len-2.ensures.kept scripts (are-within scripts c.requires.within) c.args.versions c.as_slice-2.result.now
    ∙ ap (finals graph) (sym run.ensures.log)
