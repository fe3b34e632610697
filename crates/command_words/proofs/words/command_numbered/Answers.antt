use Rattle.std.proofs.Common.{subst, ◌∷◌}
use Rattle.command_words.specs.Table.{ReadsByTable, word_of}
use Rattle.command_words.proofs.Asked.{numbered_read}
use Rattle.command_words.proofs.Found.{texts_split}
use Rattle.command_words.proofs.words.command_numbered.Goals as goal

pub returns-in-Some : goal.returns-in-Some
returns-in-Some c = subst (λ behind. ReadsByTable (word_of c.args.verb ∷ behind) c.command_with.result)
    (texts_split c.args.behind.now _ c.in-len1-up.len_at_least)
    (numbered_read c.args.verb _ _ c.in-Some.number c.command_with.result c.requires c.in-Some.ensures.some.0 c.in-Some.ensures.some.1
    c.command_with.ensures)
