use Rattle.std.proofs.Common.{ap, ◌∙◌}
use Rattle.chronicle.specs.Keys.{is_out, out_without}
use Rattle.chronicle.proofs.KeyLaws.{not_out-without_itself}
use Rattle.chronicle.proofs.writer.Writer.meet_as.Goals as goal

pub split-requires : goal.split-requires
split-requires g c =
    ap (λ w. is_out g.B.Keyed.key w.out) c.retire.ensures.after ∙ ap (λ k. is_out k (out_without c.args.note.key c.args.self.now.out)) c.requires.picked ∙ not_out-without_itself c.args.self.now.out c.args.note.key
