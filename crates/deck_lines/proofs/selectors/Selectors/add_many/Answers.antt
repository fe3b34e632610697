use Rattle.std.proofs.Common.{refl, ap}
use Rattle.deck_lines.proofs.Gathering.{gathers_many}
use Rattle.deck_lines.proofs.selectors.Selectors.add_many.Goals as goal

pub returns : goal.returns
returns c = λ form forms many same g.
    gathers_many forms form c.args.candidates.now c.args.self.now (record { count = c.count_one.new.self.count; deep = c.count_one.new.self.deep; many = _; crowded = c.count_one.new.self.crowded; within = c.count_one.new.self.within })
    g (record { count = c.count_one.ensures.count; crowded = c.count_one.ensures.crowded }) c.count_one.ensures.deep refl (ap (λ v. v.items) c.count_one.ensures.within) many same
