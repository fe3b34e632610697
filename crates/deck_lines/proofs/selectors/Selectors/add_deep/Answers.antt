use Rattle.std.proofs.Common.{refl, ap}
use Rattle.deck_lines.proofs.Gathering.{gathers_deep}
use Rattle.deck_lines.proofs.selectors.Selectors.add_deep.Goals as goal

pub returns : goal.returns
returns c = λ form forms deep same g.
    gathers_deep forms form c.args.candidates.now c.args.self.now (record { count = c.count_one.new.self.count; deep = _; many = c.count_one.new.self.many; crowded = c.count_one.new.self.crowded; within = c.count_one.new.self.within })
    g (record { count = c.count_one.ensures.count; crowded = c.count_one.ensures.crowded }) refl c.count_one.ensures.many (ap (λ v. v.items) c.count_one.ensures.within) deep same
