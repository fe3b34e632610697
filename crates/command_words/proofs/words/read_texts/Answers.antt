use Rattle.std.proofs.Common.{subst}
use Rattle.command_words.specs.Table.{ReadsByTable}
use Rattle.command_words.proofs.Found.{texts_split}
use Rattle.command_words.proofs.Lines.{read_by_table}
use Rattle.command_words.proofs.words.read_texts.Goals as goal

pub returns-in-len1-up : goal.returns-in-len1-up
returns-in-len1-up c = read_by_table _ c.command_of.result (subst (λ words. ReadsByTable words c.command_of.result)
    (texts_split c.args.texts.now _ c.in-len1-up.len_at_least) c.command_of.ensures)
