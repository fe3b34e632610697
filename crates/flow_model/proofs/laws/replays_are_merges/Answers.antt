use Rattle.flow_model.proofs.Histories.Moves.{keeps_of}
use Rattle.flow_model.proofs.Lengths.FewInputs.{few_inputs}
use Rattle.flow_model.proofs.Schedules.SchedulesMakeHistories.{replay-right}
use Rattle.flow_model.proofs.Schedules.ReplaysMerge.{replay-Legal, replay-finished, replay-Merge, replay-values}
use Rattle.flow_model.proofs.Schedules.ReplaysEnd.{replay-over}
use Rattle.flow_model.proofs.laws.replays_are_merges.Goals as goal

pub returns-clause-history : goal.returns-clause-history
returns-clause-history c graph g scripts within limit schedule = (replay-right graph g (keeps_of graph (c.lawful_stays.ensures.step graph g) (c.lawful_stays.ensures.begin graph g)) scripts within limit schedule).history

pub returns-clause-core : goal.returns-clause-core
returns-clause-core c graph g scripts within limit schedule = (replay-right graph g (keeps_of graph (c.lawful_stays.ensures.step graph g) (c.lawful_stays.ensures.begin graph g)) scripts within limit schedule).core

pub returns-clause-over : goal.returns-clause-over
returns-clause-over c graph g = replay-over graph g (few_inputs graph (c.inputs_are_few.ensures graph g)) (keeps_of graph (c.lawful_stays.ensures.step graph g) (c.lawful_stays.ensures.begin graph g))

pub returns-clause-finished : goal.returns-clause-finished
returns-clause-finished c graph g scripts within limit schedule =
    let keeps = keeps_of graph (c.lawful_stays.ensures.step graph g) (c.lawful_stays.ensures.begin graph g) in
    replay-finished graph g keeps scripts within limit schedule (replay-over graph g (few_inputs graph (c.inputs_are_few.ensures graph g)) keeps scripts within limit schedule)

pub returns-clause-legal : goal.returns-clause-legal
returns-clause-legal c graph g = replay-Legal graph g (keeps_of graph (c.lawful_stays.ensures.step graph g) (c.lawful_stays.ensures.begin graph g)) (c.logs_are_legal.ensures graph g)

pub returns-clause-merge : goal.returns-clause-merge
returns-clause-merge c graph g scripts within limit schedule =
    let keeps = keeps_of graph (c.lawful_stays.ensures.step graph g) (c.lawful_stays.ensures.begin graph g) in
    replay-Merge graph g keeps scripts within limit schedule (replay-over graph g (few_inputs graph (c.inputs_are_few.ensures graph g)) keeps scripts within limit schedule)

pub returns-clause-values : goal.returns-clause-values
returns-clause-values c graph g scripts within limit schedule =
    let keeps = keeps_of graph (c.lawful_stays.ensures.step graph g) (c.lawful_stays.ensures.begin graph g) in
    replay-values graph g keeps scripts within limit schedule (replay-over graph g (few_inputs graph (c.inputs_are_few.ensures graph g)) keeps scripts within limit schedule)
