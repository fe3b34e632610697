use Rattle.signal_graph.proofs.GraphNames.{place_of_found}
use Rattle.signal_graph.proofs.names.NameTable.place.Goals as goal

pub returns : goal.returns
returns c = rw (c.unwrap_or.ensures, c.find.ensures.value, c.len.ensures.value) (place_of_found c.args.self.now c.args.name.now)
