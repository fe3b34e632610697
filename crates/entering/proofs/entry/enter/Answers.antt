use Rattle.std.proofs.Common.{None, refl, sym, ◌∙◌, arith}
use Rattle.flow_state.specs.Booked.{call_in}
use Rattle.entering.proofs.Entrances.{enters}
use Rattle.entering.proofs.Places.{first_past}
use Rattle.entering.proofs.Stopping.{end-is_place, links-none}
use Rattle.entering.proofs.entry.enter.Goals as goal

pub returns-else-lives : goal.returns-else-lives
returns-else-lives c =
    let k = c.requires in
    let book = c.args.book.now in
    let list = c.args.list.now in
    let ended = sym c.lives.ensures ∙ c.if-lives.false in
    enters book book book c.args.node list c.put_at.new.list c.args.version c.len-end.result (call_in book c.args.version).slot c.args.state c.version_before.result None
    (end-is_place k.graph k.state book c.args.node list c.args.version c.len-end.result c.version_before.result k.can c.len-end.ensures c.version_before.ensures ended)
    c.version_before.ensures (first_past list.entries c.len-end.result (omega (arith, c.len-end.ensures))) refl
    (links-none book c.version_before.result c.args.version c.args.node ended) refl c.put_at.ensures
