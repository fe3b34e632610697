use Rattle.separate_decks.proofs.Keeping.{choice_kept}
use Rattle.deck_maker.proofs.Steps.{formed_as}
use Rattle.deck_maker.proofs.scripts.choice_script.Goals as goal

pub new-requires : goal.new-requires
new-requires c = formed_as _ _ _ _ c.in_ok-names.ensures c.in_ok-tree.ensures (choice_kept c.args.node c.requires)
