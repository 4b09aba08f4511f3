use Rattle.std.proofs.Common.{arith, sym, length}
use Rattle.fort_tables.specs.Tables.{listed_table}
use Rattle.fort_tables.proofs.SearchLaws.{below_found}
use Rattle.fort_engine.proofs.projected.accepts_some.Goals as goal

pub returns-then-is_final : goal.returns-then-is_final
returns-then-is_final c =
    sym (below_found (length c.args.table.now.presences) (listed_table c.args.table.now).accepting c.loop-q.q
    (omega (arith, c.loop-q-test.true, c.states-q-end.ensures.count)) (sym c.if-is_final.ensures))
