use Rattle.std.proofs.Common.{◌∙◌, arith}
use Rattle.std.proofs.lemmas.Fn.{says_at}
use Rattle.node_versions.proofs.Asked.{place_found, fails_more, place_at_end}
use Rattle.node_versions.proofs.list.NodeList.place_of.Goals as goal

pub returns-then-stops-clause-place : goal.returns-then-stops-clause-place
returns-then-stops-clause-place g c = λ test tells. place_found g.F.Fn c.args.stops c.args.self.now.entries test tells c.loop-index.index c.get.result.now c.get.ensures (says_at g.F.Fn c.stops.ensures c.if-stops.true) (c.loop-index.invariant test tells)

pub loop-index-preserved : goal.loop-index-preserved
loop-index-preserved g c = λ test tells. fails_more g.F.Fn c.args.stops c.args.self.now.entries test tells c.loop-index.index c.get.result.now c.get.ensures (says_at g.F.Fn c.stops.ensures c.if-stops.false) (c.loop-index.invariant test tells)

pub returns-clause-place : goal.returns-clause-place
returns-clause-place g c = λ test tells. c.len.ensures ∙ place_at_end c.args.self.now.entries test c.loop-index.index (omega arith) (c.loop-index.invariant test tells)
