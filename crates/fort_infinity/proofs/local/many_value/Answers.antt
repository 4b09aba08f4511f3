use Rattle.std.proofs.Common.{◌≡◌, map, get_or, true, false, sym, ◌∙◌, arith}
use Rattle.std.proofs.lemmas.Bool.{true≢false}
use Rattle.std.proofs.lemmas.List.{length-map}
use borrow.Author.Count.{below_more}
use Rattle.fort_tables.specs.Counts.{Finite, is_infinite, count_at}
use Rattle.fort_tables.proofs.CountPlaces.{many_value-some, many_value-none}
use Rattle.fort_tables.proofs.ManyTruth.{many_value_by_marks}
use Rattle.fort_findings.specs.FindingView.{as_count}
use Rattle.fort_infinity.proofs.ManyMarks.{infinite_listed}
use Rattle.fort_infinity.proofs.local.many_value.Goals as goal
use Rattle.fort_infinity.proofs.local.many_value.Goals.{else-is_infinite-via-then-is_infinite+else-is_final, else-is_infinite-via-else-is_infinite}

pub returns-then-is_final-clause-value : goal.returns-then-is_final-clause-value
returns-then-is_final-clause-value g c =
    let n = c.args.counts.now in
    let i = c.loop-i.i in
    let infinite = infinite_listed n i _ c.is_infinite.result (omega (arith, c.loop-i-test.true, c.requires.counts)) c.is_infinite.ensures in
    sym (many_value-some (g.T.Table.table c.args.body.now) c.args.column c.args.alone.now (map as_count n) i c.requires.alone c.loop-i-test.true (length-map n as_count ∙ c.requires.counts) (sym infinite ∙ c.if-is_infinite.true) (sym c.is_final.ensures ∙ c.if-is_final.true))

pub returns-then-is_final-clause-truth : goal.returns-then-is_final-clause-truth
returns-then-is_final-clause-truth g c = many_value_by_marks (g.T.Table.table c.args.body.now) c.args.column (count_at c.args.alone.now (map as_count c.args.counts.now)) true c.states-states.ensures.lawful c.states-states.ensures.reached c.requires.column (returns-then-is_final-clause-value g c)

pub loop-i-preserved : goal.loop-i-preserved
loop-i-preserved g c =
    let n = c.args.counts.now in
    let i = c.loop-i.i in
    let body = g.T.Table.table c.args.body.now in
    let infinite = infinite_listed n i _ c.is_infinite.result (omega (arith, c.loop-i-test.true, c.requires.counts)) c.is_infinite.ensures in
    below_more (λ k. is_infinite (get_or (map as_count n) k (Finite 0)) ≡ true → body.accepting (get_or c.args.alone.now k 0) ≡ true → ⊥) i c.loop-i.invariant
    (elim c.else-is_infinite.branch [
      | else-is_infinite-via-then-is_infinite+else-is_final w ↦ λ h f. true≢false (sym f ∙ (sym w.is_final.ensures ∙ w.if-is_final.false))
      | else-is_infinite-via-else-is_infinite w ↦ λ h f. true≢false (sym h ∙ (sym infinite ∙ w.if-is_infinite.false))
    ])

pub returns-clause-value : goal.returns-clause-value
returns-clause-value g c =
    let n = c.args.counts.now in
    sym (many_value-none (g.T.Table.table c.args.body.now) c.args.column c.args.alone.now (map as_count n) c.requires.alone (length-map n as_count ∙ c.requires.counts) (λ k l. c.loop-i.invariant k (omega (arith, l, c.loop-i-test.false, c.loop-i.auto.i-end))))

pub returns-clause-truth : goal.returns-clause-truth
returns-clause-truth g c = many_value_by_marks (g.T.Table.table c.args.body.now) c.args.column (count_at c.args.alone.now (map as_count c.args.counts.now)) false c.states-states.ensures.lawful c.states-states.ensures.reached c.requires.column (returns-clause-value g c)
