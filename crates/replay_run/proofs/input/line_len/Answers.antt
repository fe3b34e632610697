use Rattle.replay_run.proofs.Dividing.{cut_line, cut_none}
use Rattle.replay_run.proofs.input.line_len.Goals as goal

pub returns-in-Some-clause-cut : goal.returns-in-Some-clause-cut
returns-in-Some-clause-cut c = cut_line c.args.text.now c.in-Some.line.now c.in-Some.field-0-1.now c.in-Some.ensures.before c.in-Some.ensures.after c.in-Some.ensures.shorter

pub returns-in-None-clause-cut : goal.returns-in-None-clause-cut
returns-in-None-clause-cut c = cut_none c.args.text.now c.requires c.in-None.ensures.none c.in-None.ensures.nothing_after
