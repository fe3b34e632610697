use Rattle.std.proofs.Common.{ap, ◌∙◌}
use Rattle.separate_decks.specs.Draws.{skip, draw}
use Rattle.deck_maker.proofs.Drawing.{stepped, taken}
use Rattle.deck_maker.proofs.draws.Draws.draw.Goals as goal

pub returns-clause-value : goal.returns-clause-value
returns-clause-value c = taken c.self.inside.state c.args.below ∙ ap (λ x. draw x 1 c.args.below) c.self.view_is

pub returns-clause-state : goal.returns-clause-state
returns-clause-state c = stepped c.self.inside.state ∙ ap (skip 1) c.self.view_is
