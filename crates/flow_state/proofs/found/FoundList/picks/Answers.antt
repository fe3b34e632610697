use Rattle.std.proofs.Common.{◌∙◌, arith}
use Rattle.flow_state.proofs.FoundPicks.{picks-few, picks-more}
use Rattle.flow_state.proofs.found.FoundList.picks.Goals as goal

pub push-requires : goal.push-requires
push-requires c =
    let len = c.len-index-end.ensures.value in
    let few = c.len-index-end.ensures.few in
    let below = c.loop-index-test.true in
    picks-few c.args.self.now c.loop-index.picks c.loop-index.index c.loop-index.invariant (omega (arith, len, below)) (omega (arith, len, few))

pub loop-index-preserved : goal.loop-index-preserved
loop-index-preserved c = c.push.ensures
    ∙ picks-more c.args.self.now c.loop-index.picks c.loop-index.index c.get.result.now c.candidate.result c.loop-index.invariant c.get.ensures
    c.candidate.ensures
