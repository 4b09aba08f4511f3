use Rattle.std.proofs.Common.{◌≤◌, length, ap, Ok, arith}
use Rattle.fort_intake.proofs.Passing.{passing_more, passing_end, passing_past}
use Rattle.fort_intake.proofs.intake.pass_rest.Goals as goal

pub returns-then-n-eq0-clause-ok : goal.returns-then-n-eq0-clause-ok
returns-then-n-eq0-clause-ok g c =
    let fits : c.in_ok-n.n ≤ length c.read.new.buf = omega (arith, c.in_ok-n.ensures.bound, c.read.auto.buf) in
    passing_end _ _ _ _ c.loop-n.invariant.passing c.read.new.buf c.in_ok-n.n fits c.in_ok-n.ensures.moved c.args.left
    c.loop-n.invariant.within c.if-n-eq0.true (c.in_ok-n.ensures.end (ap Ok c.if-n-eq0.true))

pub returns-then-n-left-clause-past : goal.returns-then-n-left-clause-past
returns-then-n-left-clause-past g c = λ _.
    let fits : c.in_ok-n.n ≤ length c.read.new.buf = omega (arith, c.in_ok-n.ensures.bound, c.read.auto.buf) in
    passing_past _ _ _ _ c.loop-n.invariant.passing c.read.new.buf c.in_ok-n.n fits c.in_ok-n.ensures.moved c.args.left (length c.args.piece.now)
    c.loop-n.invariant.within (omega (arith, c.if-n-left.true, c.loop-n.invariant.within)) (omega (arith, c.read.auto.buf, c.loop-n.invariant.sized))

pub returns-then-n-left-clause-given : goal.returns-then-n-left-clause-given
returns-then-n-left-clause-given g c =
    let fits : c.in_ok-n.n ≤ length c.read.new.buf = omega (arith, c.in_ok-n.ensures.bound, c.read.auto.buf) in
    let more = passing_more _ _ _ _ c.loop-n.invariant.passing c.read.new.buf c.in_ok-n.n fits c.in_ok-n.ensures.moved in
    (more.bytes, more.given)

pub loop-n-preserved : goal.loop-n-preserved
loop-n-preserved g c =
    let fits : c.in_ok-n.n ≤ length c.read.new.buf = omega (arith, c.in_ok-n.ensures.bound, c.read.auto.buf) in
    record {
      some = omega (arith, c.loop-n.invariant.some, c.read.auto.buf);
      sized = omega (arith, c.loop-n.invariant.sized, c.read.auto.buf);
      within = omega (arith, c.if-n-left.false, c.loop-n.invariant.within);
      passing = passing_more _ _ _ _ c.loop-n.invariant.passing c.read.new.buf c.in_ok-n.n fits c.in_ok-n.ensures.moved;
      quiet = omega (arith, c.in_ok-n.ensures.quiet, c.loop-n.invariant.quiet);
    }
