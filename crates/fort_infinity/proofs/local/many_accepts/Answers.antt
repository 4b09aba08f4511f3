use Rattle.std.proofs.Common.{◌≡◌, ◌+◌, ◌&&◌, true, length, ap, sym, ◌∙◌, arith}
use Rattle.fort_tables.specs.BitRows.{has_bit}
use Rattle.fort_tables.proofs.SearchLaws.{below_found, both}
use Rattle.fort_tables.specs.ManyLabels.{has_many}
use Rattle.fort_infinity.proofs.local.many_accepts.Goals as goal

pub returns-then-is_final : goal.returns-then-is_final
returns-then-is_final g c =
    let body = g.T.Table.table c.args.body.now in
    let label = c.args.label.now in
    let m = length body.presences in
    let set : has_many m label c.loop-q.q ≡ true = ap (λ n. has_bit label (128 + (n + c.loop-q.q))) (sym c.states-states.ensures.count) ∙ (sym c.has_bit.ensures ∙ c.if-has_bit.true) in
    sym (below_found m (λ q. has_many m label q && body.accepting q) c.loop-q.q (omega (arith, c.loop-q-test.true, c.states-states.ensures.count))
    (both (has_many m label c.loop-q.q) (body.accepting c.loop-q.q) set (sym c.is_final.ensures ∙ c.if-is_final.true)))
