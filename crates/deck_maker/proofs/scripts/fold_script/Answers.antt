use Rattle.separate_decks.proofs.Keeping.{fold_kept}
use Rattle.deck_maker.proofs.Steps.{formed_as}
use Rattle.deck_maker.proofs.scripts.fold_script.Goals as goal

pub new-requires : goal.new-requires
new-requires c = formed_as _ _ _ _ c.in_ok-names.ensures c.in_ok-tree.ensures (fold_kept c.args.first c.args.other c.requires.first c.requires.other)
