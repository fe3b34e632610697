use Rattle.std.proofs.Common.{sym, ◌∙◌}
use Rattle.std.proofs.lemmas.List.{take_rest}
use Rattle.replay_run.proofs.Dividing.{next_gone_over, divider_found}
use Rattle.replay_run.proofs.input.split_input.Goals as goal

pub returns-then-is_divider-clause-deck : goal.returns-then-is_divider-clause-deck
returns-then-is_divider-clause-deck c =
    let found = divider_found c.args.bytes.now _ c.loop-start.start c.line_len-len.result (take_rest c.args.bytes.now c.loop-start.start) c.loop-start.invariant
    c.line_len-len.ensures.cut (sym c.is_divider.ensures ∙ c.if-is_divider.true) in
    sym found.0

pub returns-then-is_divider-clause-schedule : goal.returns-then-is_divider-clause-schedule
returns-then-is_divider-clause-schedule c =
    let found = divider_found c.args.bytes.now _ c.loop-start.start c.line_len-len.result (take_rest c.args.bytes.now c.loop-start.start) c.loop-start.invariant
    c.line_len-len.ensures.cut (sym c.is_divider.ensures ∙ c.if-is_divider.true) in
    take_rest _ c.line_len-len.result ∙ sym found.1

pub loop-start-preserved : goal.loop-start-preserved
loop-start-preserved c =
    next_gone_over c.args.bytes.now _ c.loop-start.start c.line_len-len.result (take_rest c.args.bytes.now c.loop-start.start) c.loop-start.invariant c.line_len-len.ensures.within
    c.line_len-len.ensures.cut (sym c.is_divider.ensures ∙ c.if-is_divider.false)
