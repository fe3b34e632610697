use Rattle.std.proofs.Common.{ℕ, ◌+◌, ap, ◌∙◌, arith}
use mathlib.Core.Option.{none}
use Rattle.atomic_table.specs.Table.{step}
use Rattle.chronicle.specs.Keys.{is_out}
use Rattle.chronicle.proofs.Moves.{appends_as}
use Rattle.chronicle.proofs.writer.Writer.append_as.Goals as goal

pub store-requires : goal.store-requires
store-requires g c =
    let i = c.self.invariant in
    let one = ap (λ w. is_out (g.N.Names.entry_of c.args.entry).first_key w.out) c.self.view_is ∙ c.requires.first_key in
    let two = ap (λ w. is_out (g.N.Names.entry_of c.args.entry).second_key w.out) c.self.view_is ∙ c.requires.second_key in
    (i.0, omega (arith, i.1), appends_as _ _ _ _ _ _ _ _ (step 0 0 0 0 none) i.2 c.requires.picked one two (ap (λ (n : ℕ). n + 1) i.3) _)
