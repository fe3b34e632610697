use Rattle.dynamic_edges.proofs.Discovers.{discover-mark, discover-room, discover-new, discover-makes}
use Rattle.dynamic_edges.proofs.discovering.discover.Goals as goal

pub ensure_mark-requires : goal.ensure_mark-requires
ensure_mark-requires c = discover-mark c.requires.0 c.args.book.now c.args.version c.args.node c.args.candidate c.args.candidate_list.now c.requires.1 c.is_kept.ensures.some

pub add_out-requires-clause-room : goal.add_out-requires-clause-room
add_out-requires-clause-room c = discover-room c.requires.0 c.args.book.now c.ensure_mark.new.book c.args.version c.args.node c.args.candidate c.args.candidate_list.now c.ensure_mark.new.list c.requires.1 c.is_kept.ensures.some c.ensure_mark.ensures

pub add_out-requires-clause-new_edge : goal.add_out-requires-clause-new_edge
add_out-requires-clause-new_edge c = discover-new c.requires.0 c.args.book.now c.ensure_mark.new.book c.args.version c.args.node c.args.candidate c.args.candidate_list.now c.ensure_mark.new.list c.requires.1 c.is_kept.ensures.some c.ensure_mark.ensures

pub returns : goal.returns
returns c = λ graph. discover-makes graph c.args.book.now c.ensure_mark.new.book c.args.version c.args.node c.args.candidate c.args.candidate_list.now c.ensure_mark.new.list c.add_out.new.self c.is_kept.ensures.some c.ensure_mark.ensures c.add_out.ensures
