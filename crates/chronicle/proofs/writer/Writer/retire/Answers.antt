use Rattle.std.proofs.Common.{ap, sym, ◌∙◌, arith}
use mathlib.Core.Option.{none}
use Rattle.atomic_table.specs.Table.{step}
use Rattle.chronicle.proofs.Moves.{joins_as, loads_as, back_is}
use Rattle.chronicle.proofs.writer.Writer.retire.Goals as goal

pub join_seat-requires : goal.join_seat-requires
join_seat-requires g c =
    let i = c.self.invariant in
    let n = c.note.invariant in
    let table = ap (λ t. t.table) c.note.view_is ∙ c.requires ∙ sym (ap (λ t. t.table) c.self.view_is) in
    (i.0, table, ap (λ m. m.1) n.0, omega (arith, i.1), joins_as _ _ _ _ _ _ _ _ _ (ap (λ m. m.0) i.2) (ap (λ m. m.0) n.0))

pub load-requires : goal.load-requires
load-requires g c =
    let i = c.self.invariant in
    let n = c.note.invariant in
    let j = c.join_seat.ensures in
    (j.0 ∙ i.0, omega (arith, i.1), loads_as _ _ _ _ _ (step 0 0 0 0 none) _ (j.2 ∙ back_is _ _ _ _ _ _ _ i.2 (ap (λ m. m.0) n.0)))
