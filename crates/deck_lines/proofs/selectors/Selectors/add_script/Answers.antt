use Rattle.std.proofs.Common.{ap, ◌∙◌, ◌++◌, ◌∷◌, []}
use Rattle.deck_lines.proofs.Gathering.{gathers_script}
use Rattle.deck_lines.proofs.selectors.Selectors.add_script.Goals as goal

pub returns : goal.returns
returns c = λ form forms spelled same g.
    gathers_script forms form c.args.candidates c.args.script c.args.self.now (record { count = c.count_one.new.self.count; deep = c.count_one.new.self.deep; many = c.count_one.new.self.many; crowded = c.count_one.new.self.crowded; within = c.push.new.self })
    g (record { count = c.count_one.ensures.count; crowded = c.count_one.ensures.crowded }) c.count_one.ensures.deep c.count_one.ensures.many
    (c.in_ok-push.ensures.items ∙ ap (λ v. v.items ++ (c.args.script, c.args.candidates) ∷ []) c.count_one.ensures.within) spelled same c.requires.some c.requires.acc c.requires.picks
