use Rattle.chronicle.proofs.Moves.{makes}
use Rattle.chronicle.proofs.writer.Writer.new.Goals as goal

pub of_words-requires : goal.of_words-requires
of_words-requires g c = makes
