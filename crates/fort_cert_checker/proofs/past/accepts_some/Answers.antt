use Rattle.std.proofs.Common.{arith, sym, length}
use Rattle.fort_tables.proofs.SearchLaws.{below_found}
use Rattle.fort_cert_checker.proofs.past.accepts_some.Goals as goal

pub returns-then-is_final : goal.returns-then-is_final
returns-then-is_final g c =
    let t = g.T.Table.table c.args.table.now in
    sym (below_found (length t.presences) t.accepting c.loop-q.q (omega (arith, c.loop-q-test.true, c.states-q-end.ensures.count)) (sym c.if-is_final.ensures))
