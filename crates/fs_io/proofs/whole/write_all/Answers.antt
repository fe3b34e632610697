use Rattle.std.proofs.Common.{◌++◌, take, arith}
use Rattle.std.proofs.lemmas.Grind.{common_steps}
use Rattle.fs_io.proofs.BytesLaws.{Adds-twice, Adds-stays, AddsFirst-front}
use Rattle.fs_io.proofs.whole.write_all.Goals as goal

pub loop-rest-preserved : goal.loop-rest-preserved
loop-rest-preserved g c = record {
  taken = (c.loop-rest.invariant.taken.0 ++ take c.in-Ok.n c.loop-rest.rest.now, grind (arith, common_steps), Adds-twice _ _ _ _ _ c.loop-rest.invariant.taken.2 c.in-Ok.ensures.bytes);
  count = omega (arith, c.in-Ok.ensures.never_falls);
}

pub returns-in-Err-clause-front : goal.returns-in-Err-clause-front
returns-in-Err-clause-front g c =
    AddsFirst-front _ _ _ _ _ (Adds-stays _ _ _ _ c.loop-rest.invariant.taken.2 c.in-Err.ensures.kept) c.loop-rest.invariant.taken.1
