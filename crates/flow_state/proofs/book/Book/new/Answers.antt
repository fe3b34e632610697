use Rattle.std.proofs.Common.{ap, ◌∙◌}
use Rattle.flow_state.specs.Seats.{no_calls}
use Rattle.flow_state.proofs.Openings.{opening_seen, opening_kept}
use Rattle.flow_state.proofs.book.Book.new.Goals as goal

pub invariant_of-result : goal.invariant_of-result
invariant_of-result c = opening_kept c.args.graph.now c.args.callers c.args.versions c.in_ok-calls.calls c.in_ok-shelves.shelves c.new-log.result c.requires.versions (c.in_ok-calls.ensures ∙ ap (no_calls c.args.callers) c.len.ensures.value) c.in_ok-shelves.ensures c.new-log.ensures.entries

pub returns : goal.returns
returns c = opening_seen c.args.graph.now c.args.callers c.args.versions c.in_ok-calls.calls c.in_ok-shelves.shelves c.new-log.result (c.in_ok-calls.ensures ∙ ap (no_calls c.args.callers) c.len.ensures.value) c.in_ok-shelves.ensures c.new-log.ensures.entries
