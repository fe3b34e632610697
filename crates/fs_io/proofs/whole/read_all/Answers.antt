use Rattle.std.proofs.Common.{ℕ, arith, length-take}
use Rattle.std.proofs.lemmas.Grind.{common_steps}
use Rattle.std.proofs.lemmas.Result.{err_from_is_err_and}
use Rattle.fs_io.proofs.BytesLaws.{Consumes-start, Consumes-moves, length-moves, Ends-moves, GivesFirst-loss, GivesFirst-end, LosesFront-after, Rose-later}
use Rattle.fs_io.proofs.whole.read_all.Goals as goal

pub loop-text-init : goal.loop-text-init
loop-text-init g c = record {
  came = Consumes-start _ _ c.new-text.ensures;
  few = grind (arith, common_steps);
  count = omega arith;
  reads = omega arith;
  room = c.in_ok-piece.ensures;
}

pub returns-in_err-read_piece-clause-failed : goal.returns-in_err-read_piece-clause-failed
returns-in_err-read_piece-clause-failed g c =
    λ h. let p = err_from_is_err_and c.from_residual-in_err-read_piece.result c.from_residual-in_err-read_piece.ensures.1 in
    Rose-later _ _ _ c.loop-text.invariant.count (c.in_err-read_piece.ensures.failed cc)

pub returns-in_err-read_piece-clause-memory : goal.returns-in_err-read_piece-clause-memory
returns-in_err-read_piece-clause-memory g c =
    λ h. let p = err_from_is_err_and c.from_residual-in_err-read_piece.result c.from_residual-in_err-read_piece.ensures.1 in
    LosesFront-after _ _ _ _ c.loop-text.invariant.came (c.in_err-read_piece.ensures.memory cc)

pub returns-then-branch-eq0-clause-ok : goal.returns-then-branch-eq0-clause-ok
returns-then-branch-eq0-clause-ok g c =
    let came = c.in_ok-read_piece.ensures.moved in
    let none_left = c.in_ok-read_piece.ensures.end c.if-branch-eq0.true (omega (arith, length-take {A = ℕ})) in
    let len = length-moves _ _ _ _ _ came in
    GivesFirst-end _ _ _ _ (Consumes-moves _ _ _ _ _ _ c.loop-text.invariant.came came) (Ends-moves _ _ _ _ _ _ c.loop-text.invariant.came none_left came) (omega arith)

pub returns-then-branch-eq0-clause-end : goal.returns-then-branch-eq0-clause-end
returns-then-branch-eq0-clause-end g c =
    λ h. Ends-moves _ _ _ _ _ _ c.loop-text.invariant.came (c.in_ok-read_piece.ensures.end c.if-branch-eq0.true (omega (arith, length-take {A = ℕ}))) c.in_ok-read_piece.ensures.moved

pub loop-text-preserved : goal.loop-text-preserved
loop-text-preserved g c =
    let came = c.in_ok-read_piece.ensures.moved in
    let len = length-moves _ _ _ _ _ came in
    record {
      came = Consumes-moves _ _ _ _ _ _ c.loop-text.invariant.came came;
      few = omega (arith, c.in_ok-read_piece.ensures.within, length-take {A = ℕ});
      count = omega (arith, c.in_ok-read_piece.ensures.never_falls);
      reads = omega (arith, c.in_ok-read_piece.ensures.once);
      room = c.loop-text.invariant.room;
    }

pub returns-clause-ok : goal.returns-clause-ok
returns-clause-ok g c = GivesFirst-loss _ _ _ _ c.loop-text.invariant.came (omega arith)
