use Rattle.std.proofs.Common.{◌+◌, ◌*◌, arith}
use Rattle.fort_classed_tables.proofs.RunLaws.{run_within, run_steps}
use Rattle.fort_classed_tables.proofs.columns.Columns.column.Goals as goal

pub overflow_mul-from : goal.overflow_mul-from
overflow_mul-from c =
    let s = c.args.self.now in
    let run = c.loop-run.run in
    omega (arith, run_within s c.args.rank run c.requires.within c.requires.rank c.loop-run-test.true, run_steps s (run * s.count + c.args.rank) c.requires.within, c.requires.within.few)

pub overflow_add-from : goal.overflow_add-from
overflow_add-from c =
    let s = c.args.self.now in
    let run = c.loop-run.run in
    omega (arith, run_within s c.args.rank run c.requires.within c.requires.rank c.loop-run-test.true, run_steps s (run * s.count + c.args.rank) c.requires.within, c.requires.within.few)
