use Rattle.std.proofs.Common.{◌≡◌, ℕ, length, slice_index_or, ap, ◌∙◌}
use Rattle.std.proofs.lemmas.Result.{IfOk-weaker}
use Rattle.std.proofs.lemmas.List.{length-map}
use Rattle.call_log.specs.declared.finished.Finished.{Finished}
use Rattle.flow_model.specs.Machine.Histories.{last_values}
use Rattle.flow_model.specs.Machine.Schedules.{replayed, most_rounds, all_refused}
use Rattle.replay_run.specs.Replaying.{Stage}
use Rattle.replay_run.specs.Schedule.{names_thread}
use Rattle.replay_run.proofs.Seats.{are-within}
use Rattle.replay_run.proofs.Stages.{most-small, rounds-end, replay-ends}
use Rattle.replay_run.proofs.Unnamed.{all-named}
use Rattle.replay_run.proofs.replays.run.Goals as goal

pub take_turns-requires : goal.take_turns-requires
take_turns-requires c = λ k d l.
    ap (λ (n : ℕ). names_thread n (slice_index_or c.args.schedule.now k d)) (ap (λ (z : Stage). length z.threads) c.in_ok-replaying.ensures ∙ length-map c.args.scripts _)
    ∙ all-named (length c.args.scripts) c.args.schedule.now c.requires.named k d l

pub finish_rounds-requires : goal.finish_rounds-requires
finish_rounds-requires c =
    let graph = c.args.graph.now in
    let over = c.replays_are_merges.ensures.over graph c.len.ensures.kept c.args.scripts (are-within c.args.scripts c.requires.within) c.args.versions c.args.schedule.now in (
      most_rounds graph c.args.scripts,
      most-small graph c.args.scripts c.requires.few c.len.ensures.kept.few c.requires.few_calls,
      rounds-end graph c.args.scripts c.args.versions c.args.schedule.now c.in_ok-replaying.replaying c.take_turns.new.self c.in_ok-replaying.ensures c.in_ok-take_turns.ensures.turns over,
    )

pub returns-clause-log : goal.returns-clause-log
returns-clause-log c =
    let graph = c.args.graph.now in
    let scripts = c.args.scripts in
    let play = replayed graph scripts c.args.versions c.args.schedule.now in
    let over = c.replays_are_merges.ensures.over graph c.len.ensures.kept scripts (are-within scripts c.requires.within) c.args.versions c.args.schedule.now in
    let ends = rounds-end graph scripts c.args.versions c.args.schedule.now c.in_ok-replaying.replaying c.take_turns.new.self c.in_ok-replaying.ensures c.in_ok-take_turns.ensures.turns over in
    let last = replay-ends graph scripts c.args.versions c.args.schedule.now c.in_ok-replaying.replaying c.take_turns.new.self c.finish_rounds.new.self c.in_ok-replaying.ensures c.in_ok-take_turns.ensures.turns
    (c.in_ok-finish_rounds.ensures.rounds (most_rounds graph scripts) ends) in
    IfOk-weaker c.finish.result (λ (run : Finished). run.log.entries ≡ c.finish_rounds.new.self.core.log) (λ (run : Finished). run.log.entries ≡ play.core.log)
    (λ run e. e ∙ ap (λ (z : Stage). z.core.log) last) c.finish.ensures.log

pub returns-clause-refused : goal.returns-clause-refused
returns-clause-refused c =
    let graph = c.args.graph.now in
    let scripts = c.args.scripts in
    let play = replayed graph scripts c.args.versions c.args.schedule.now in
    let over = c.replays_are_merges.ensures.over graph c.len.ensures.kept scripts (are-within scripts c.requires.within) c.args.versions c.args.schedule.now in
    let ends = rounds-end graph scripts c.args.versions c.args.schedule.now c.in_ok-replaying.replaying c.take_turns.new.self c.in_ok-replaying.ensures c.in_ok-take_turns.ensures.turns over in
    let last = replay-ends graph scripts c.args.versions c.args.schedule.now c.in_ok-replaying.replaying c.take_turns.new.self c.finish_rounds.new.self c.in_ok-replaying.ensures c.in_ok-take_turns.ensures.turns
    (c.in_ok-finish_rounds.ensures.rounds (most_rounds graph scripts) ends) in
    IfOk-weaker c.finish.result (λ (run : Finished). run.refused ≡ all_refused c.finish_rounds.new.self.threads) (λ (run : Finished). run.refused ≡ all_refused play.threads)
    (λ run e. e ∙ ap (λ (z : Stage). all_refused z.threads) last) c.finish.ensures.refused

pub returns-clause-values : goal.returns-clause-values
returns-clause-values c =
    let graph = c.args.graph.now in
    let scripts = c.args.scripts in
    let play = replayed graph scripts c.args.versions c.args.schedule.now in
    let over = c.replays_are_merges.ensures.over graph c.len.ensures.kept scripts (are-within scripts c.requires.within) c.args.versions c.args.schedule.now in
    let ends = rounds-end graph scripts c.args.versions c.args.schedule.now c.in_ok-replaying.replaying c.take_turns.new.self c.in_ok-replaying.ensures c.in_ok-take_turns.ensures.turns over in
    let last = replay-ends graph scripts c.args.versions c.args.schedule.now c.in_ok-replaying.replaying c.take_turns.new.self c.finish_rounds.new.self c.in_ok-replaying.ensures c.in_ok-take_turns.ensures.turns
    (c.in_ok-finish_rounds.ensures.rounds (most_rounds graph scripts) ends) in
    IfOk-weaker c.finish.result (λ (run : Finished). run.finals ≡ last_values c.finish_rounds.new.self.core) (λ (run : Finished). run.finals ≡ last_values play.core)
    (λ run e. e ∙ ap (λ (z : Stage). last_values z.core) last) c.finish.ensures.values
