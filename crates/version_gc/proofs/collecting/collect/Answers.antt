use Rattle.std.proofs.Common.{rules, not}
use Rattle.flow_state.specs.Booked.{live_in}
use Rattle.version_gc.proofs.Collects.{ready, makes}
use Rattle.version_gc.proofs.collecting.collect.Goals as goal

pub collect-requires-clause-ended : goal.collect-requires-clause-ended
collect-requires-clause-ended c = (λ e. not (live_in c.args.book.now e.version), λ k d h b r. search rules, ready c.requires.0 c.args.book.now c.requires.1 c.args.list.now c.requires.2)

pub returns-clause-step : goal.returns-clause-step
returns-clause-step c = λ graph n. makes graph c.args.book.now n c.args.list.now c.collect.new.self (c.collect.ensures.list (λ e. not (live_in c.args.book.now e.version)) (λ k d h b r. search rules))
