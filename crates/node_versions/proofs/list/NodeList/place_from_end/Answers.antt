use Rattle.std.proofs.Common.{drop, sym, subst, arith, false, true}
use Rattle.std.proofs.lemmas.Fn.{says_at}
use Rattle.node_versions.specs.Entries.{AllStop}
use Rattle.node_versions.proofs.Asked.{answered_at}
use Rattle.node_versions.proofs.FromEnd.{all_behind, stops_more, stops_from, stops_from_start, stops_from_place}
use Rattle.node_versions.proofs.list.NodeList.place_from_end.Goals as goal

pub loop-place-init : goal.loop-place-init
loop-place-init g c = (omega (arith, c.len-place.ensures), λ test tells. subst (λ n. AllStop test (drop n c.args.self.now.entries)) (sym c.len-place.ensures) (all_behind test c.args.self.now.entries))

pub returns-then-not-stops-clause-from : goal.returns-then-not-stops-clause-from
returns-then-not-stops-clause-from g c = λ test tells.
    let fails = answered_at g.F.Fn c.args.stops c.args.self.now.entries test tells _ c.get.result.now false c.get.ensures (says_at g.F.Fn c.stops.ensures c.if-not-stops.true) in
    stops_from test c.args.self.now.entries c.loop-place.place c.get.result.now c.get.ensures fails (c.loop-place.invariant.1 test tells)

pub returns-then-not-stops-clause-place : goal.returns-then-not-stops-clause-place
returns-then-not-stops-clause-place g c = λ test tells h. stops_from_place test c.args.self.now.entries c.loop-place.place h (returns-then-not-stops-clause-from g c test tells) c.loop-place.invariant.0

pub loop-place-preserved : goal.loop-place-preserved
loop-place-preserved g c = (
  omega (arith, c.loop-place.invariant.0),
  λ test tells.
      let stops = answered_at g.F.Fn c.args.stops c.args.self.now.entries test tells _ c.get.result.now true c.get.ensures (says_at g.F.Fn c.stops.ensures c.if-not-stops.false) in
      stops_more test c.args.self.now.entries c.loop-place.place c.get.result.now c.loop-place-test.true c.get.ensures stops (c.loop-place.invariant.1 test tells),
)

pub returns-clause-from : goal.returns-clause-from
returns-clause-from g c = λ test tells. stops_from_start test c.args.self.now.entries c.loop-place.place (omega (arith, c.loop-place-test.false)) (c.loop-place.invariant.1 test tells)

pub returns-clause-place : goal.returns-clause-place
returns-clause-place g c = λ test tells h. stops_from_place test c.args.self.now.entries c.loop-place.place h (returns-clause-from g c test tells) c.loop-place.invariant.0
