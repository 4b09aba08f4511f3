use Rattle.std.proofs.Common.{◌≡◌, ◌+◌, length, subst, arith}
use Rattle.std.proofs.lemmas.Result.{err_from_is_err_and}
use Rattle.fort_sexpr.specs.Ahead.{IsTally}
use Rattle.fort_sexpr.proofs.ahead.look_over.Goals as goal

pub returns-in_err-tally-clause-fault : goal.returns-in_err-tally-clause-fault
returns-in_err-tally-clause-fault c = λ text piece tally.
    let p = err_from_is_err_and c.from_residual.result c.from_residual.ensures.1 in
    rw (p.1, p.2)
    (c.in_err-tally.ensures.fault text (piece c.loop-i.i c.loop-i-test.true) (c.loop-i.invariant.tally text piece tally))

pub loop-i-preserved : goal.loop-i-preserved
loop-i-preserved c = record {
  few = omega (arith, c.in_ok-tally.ensures.few);
  tally = λ text piece tally.
      let at : c.args.from + c.loop-i.i + 1 ≡ c.args.from + (c.loop-i.i + 1) = omega arith in
      subst (λ k. IsTally text k c.in_ok-tally.tally) at
      (c.in_ok-tally.ensures.tally text (piece c.loop-i.i c.loop-i-test.true) (c.loop-i.invariant.tally text piece tally));
}

pub returns-clause-tally : goal.returns-clause-tally
returns-clause-tally c = λ text piece tally.
    let end : c.loop-i.i ≡ length c.args.piece.now = omega arith in
    subst (λ k. IsTally text (c.args.from + k) c.loop-i.tally) end (c.loop-i.invariant.tally text piece tally)
