use Rattle.std.proofs.Common.{ap, ◌∙◌, arith}
use Rattle.chronicle.specs.Keys.{is_out}
use Rattle.chronicle.proofs.Moves.{splits_as}
use Rattle.chronicle.proofs.writer.Writer.split.Goals as goal

pub split_seat-seat-requires : goal.split_seat-seat-requires
split_seat-seat-requires g c =
    let i = c.self.invariant in
    let free = ap (λ w. is_out g.B.Keyed.key w.out) c.self.view_is ∙ c.requires in
    (i.0, omega (arith, i.1), splits_as _ _ _ _ _ g.B.Keyed.key (ap (λ m. m.0) i.2) free)
