use Rattle.std.proofs.Common.{◌<◌, ◌+◌, ℕ, length, drop, take, sym, ap, ◌∙◌, arith}
use Rattle.std.proofs.lemmas.List.{take_rest}
use Rattle.std.specs.List.{position_or_len}
use Rattle.replay_run.specs.Schedule.{is_cut, with_word, schedule_of}
use Rattle.replay_run.proofs.Words.{first_cut, no_cut}
use Rattle.replay_run.proofs.schedule.first_word.Goals as goal

pub returns-then-at-text-clause-first : goal.returns-then-at-text-clause-first
returns-then-at-text-clause-first c =
    let at = c.cut_place-at.ensures.value in
    no_cut c.args.text.now (omega (arith, at, c.if-at-text.true))

pub returns-clause-first : goal.returns-clause-first
returns-clause-first c =
    let text = c.args.text.now in
    let at = c.cut_place-at.ensures.value in
    let within : position_or_len is_cut text < length text = omega (arith, at, c.cut_place-at.ensures.within, c.if-at-text.false) in
    first_cut text within
    ∙ ap (λ (n : ℕ). with_word (take n text) (schedule_of (drop (n + 1) text))) (sym at)
    ∙ ap (λ t. with_word (take c.cut_place-at.result text) (schedule_of t)) (sym (take_rest text (c.cut_place-at.result + 1)))
