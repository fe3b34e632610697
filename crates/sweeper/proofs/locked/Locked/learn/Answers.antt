use Rattle.std.proofs.Common.{ap, ◌∙◌}
use Rattle.chronicle.specs.Keys.{is_out}
use Rattle.chronicle.proofs.KeyLaws.{not_out-without_itself}
use Rattle.sweeper.proofs.locked.Locked.learn.Goals as goal

pub returns-clause-free : goal.returns-clause-free
returns-clause-free g c = ap (λ w. is_out c.args.note.key w.out) c.retire.ensures.after ∙ not_out-without_itself c.self.inside.writer.out c.args.note.key
