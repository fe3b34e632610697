use Rattle.deck_maker.proofs.Telling.{workload_is_deck}
use Rattle.deck_maker.proofs.laws.workload_is_deck.Goals as goal

pub returns : goal.returns
returns c = λ number. workload_is_deck
    (record { spells = c.canonical_script.ensures.spells; words_are = c.canonical_script.ensures.words })
    c.canonical_line.ensures.back
    number
    (c.workload_is_separate.ensures.declared number)
    (c.workload_has_sizes.ensures.threads number)
    (c.workload_has_sizes.ensures.calls number)
