use Rattle.std.proofs.Common.{rules, subst, sym}
use Rattle.list_bench.specs.Opened.{IsOpened}
use Rattle.list_bench.proofs.Opens.{all, can_collect, opened_collected}
use Rattle.list_bench.proofs.lists.empty.Goals as goal

pub collect-requires-clause-ended : goal.collect-requires-clause-ended
collect-requires-clause-ended c = (all, λ k d h b r. search rules, can_collect c.args.room c.args.list.now c.requires)

pub returns : goal.returns
returns c = subst (λ v. IsOpened c.args.room v) (sym (c.collect.ensures.list all (λ k d h b r. search rules) (can_collect c.args.room c.args.list.now c.requires))) (opened_collected c.args.room c.args.list.now c.requires)
