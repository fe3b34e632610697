use Rattle.std.proofs.Common.{sym, arith}
use Rattle.retrofit.proofs.Extends.{inside-still, one-more, makes-told, makes-none}
use Rattle.retrofit.proofs.extending.extend_wanted.Goals as goal

pub returns-in_default : goal.returns-in_default
returns-in_default c = makes-none c.args.version c.args.node c.args.book.now c.args.candidate_list.now (sym c.in_default.ensures.exact)

pub overflow_step-index : goal.overflow_step-index
overflow_step-index c =
    let small = c.len-len.type_inv in
    let len = c.len-len.ensures in
    let below = c.in-Some.ensures.bound in
    omega (arith, small, len, below)

pub tell-requires : goal.tell-requires
tell-requires c = inside-still c.requires.0 c.args.version c.args.node c.requires.1 c.args.book.now c.loop-index.book c.args.candidate_list.now c.requires.2 c.loop-index.invariant.1

pub loop-index-preserved : goal.loop-index-preserved
loop-index-preserved c = one-more c.args.node c.args.version c.loop-index.index c.get.result.now c.args.candidate_list.now.entries c.args.book.now c.loop-index.book c.tell.new.book _ c.get.ensures c.tell.ensures c.loop-index.invariant

pub returns : goal.returns
returns c =
    let over = c.loop-index-test.false in
    makes-told c.args.version c.args.node c.in-Some.own c.loop-index.index c.args.book.now c.loop-index.book c.args.candidate_list.now c.is_kept.ensures.unique c.in-Some.ensures.bound c.in-Some.ensures.entry (omega (arith, over)) c.loop-index.invariant
