use Rattle.dynamic_edges.proofs.Discovers.{drop-mark, drop-makes}
use Rattle.dynamic_edges.proofs.dropping.drop_choice.Goals as goal

pub ensure_mark-requires : goal.ensure_mark-requires
ensure_mark-requires c = drop-mark c.requires.0 c.args.book.now c.args.version c.args.node c.args.candidate c.args.old_list.now c.requires.1 c.is_kept.ensures.some

pub returns : goal.returns
returns c = λ graph. drop-makes graph c.args.book.now c.ensure_mark.new.book c.args.version c.args.node c.args.candidate c.args.old_list.now c.ensure_mark.new.list c.remove_edge.new.list c.is_kept.ensures.some c.ensure_mark.ensures c.remove_edge.ensures
