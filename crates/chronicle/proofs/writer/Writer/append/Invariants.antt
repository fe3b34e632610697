use Rattle.std.specs.Prelude.{[], ◌∷◌}
use Rattle.chronicle.proofs.writer.Writer.append.Given as goal

abbrev pub ghosts-append_as : goal.ghosts-append_as
ghosts-append_as g a = record { entries = g.N.Names.entry_of a.entry ∷ [] }
