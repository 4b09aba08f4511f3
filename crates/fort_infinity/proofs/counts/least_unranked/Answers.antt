use Rattle.std.proofs.Common.{ℕ, min, get_or, if◌then◌else◌, eq-eqb, ap, sym, ◌∙◌}
use Rattle.fort_tables.proofs.EqualTests.{test_from_apart}
use Rattle.fort_infinity.specs.LeastUnranked.{least_from, greatest_number}
use Rattle.fort_infinity.proofs.LeastLaws.{least_turn}
use Rattle.fort_infinity.proofs.counts.least_unranked.Goals as goal
use Rattle.fort_infinity.proofs.counts.least_unranked.Goals.{then-ranks-k-eq0, else-ranks-k-eq0}

pub loop-k-preserved : goal.loop-k-preserved
loop-k-preserved c =
    let rank : ℕ → ℕ = λ k. get_or c.args.ranks.now k 0 in
    let k = get_or c.args.children.now c.loop-k.k-index 0 in
    least_turn rank c.args.children.now c.loop-k.k-index c.loop-k.least c.if-ranks-k-eq0.least (least_from rank greatest_number c.args.children.now) c.loop-k-test.true c.loop-k.invariant
    (elim c.if-ranks-k-eq0.branch [
      | then-ranks-k-eq0 w ↦ w.least-is ∙ (w.min-least.ensures ∙ ap (λ b. if b then min c.loop-k.least k else c.loop-k.least) (sym (eq-eqb (rank k) 0 w.if-ranks-k-eq0.true)))
      | else-ranks-k-eq0 w ↦ w.least-is ∙ ap (λ b. if b then min c.loop-k.least k else c.loop-k.least) (sym (test_from_apart (rank k) 0 w.if-ranks-k-eq0.false))
    ])
