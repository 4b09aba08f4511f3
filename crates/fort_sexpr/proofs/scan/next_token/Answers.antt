use Rattle.std.proofs.Common.{arith}
use Rattle.fort_sexpr.proofs.Steps.{skipped_comment, line_outside}
use Rattle.fort_sexpr.proofs.scan.next_token.Goals as goal

pub loop-at-preserved : goal.loop-at-preserved
loop-at-preserved c =
    let line = c.end_of_line-at.ensures in (
      omega (arith, line.after, c.loop-at.invariant.0),
      line.within,
      skipped_comment c.args.bytes.now c.args.from c.loop-at.at c.end_of_line-at.result line c.if-bytes-at-eq59.true c.loop-at.invariant.2,
      line_outside c.args.bytes.now c.loop-at.at c.end_of_line-at.result line,
    )
