-- Kinds of options without one of them.
use Rattle.std.specs.Prelude.{false}
use Rattle.command_words.specs.declared.kinds.Kind.{Kind}
use Rattle.command_words.specs.declared.kinds.Kind.TheVariants.{Json, Versions}
use Rattle.command_words.specs.declared.kinds.Kinds.{Kinds}

abbrev pub without : Kinds → Kind → Kinds
without kinds Json = record kinds { json = false }
without kinds Versions = record kinds { versions = false }
