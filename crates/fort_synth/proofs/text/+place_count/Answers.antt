use Rattle.std.proofs.Common.{ap, arith}
use Rattle.fort_terms.specs.PatternView.{as_pattern, node_count, node_counts}
use Rattle.fort_answers.specs.FamilySystems.{any_count, any_counts}
use Rattle.fort_synth.proofs.TextPatterns.{size_at, any_counts-more, any_counts-within}
use Rattle.fort_synth.proofs.text.+place_count.Goals as goal

pub place_count-count-requires : goal.place_count-count-requires
place_count-count-requires t c = (
  omega (arith, size_at _ _ _ c.loop-arg-test.true c.arg-item.is, ap node_counts c.as_slice-arg-items.ensures, ap (λ p. node_count (as_pattern p)) c.in-App.is),
  omega (arith, any_counts-within _ _ _ c.loop-arg-test.true c.arg-item.is, ap any_counts c.as_slice-arg-items.ensures, ap (λ p. any_count (as_pattern p)) c.in-App.is),
)

pub overflow_add-count : goal.overflow_add-count
overflow_add-count t c =
    omega (arith, any_counts-within _ _ _ c.loop-arg-test.true c.arg-item.is, ap any_counts c.as_slice-arg-items.ensures, ap (λ p. any_count (as_pattern p)) c.in-App.is)

pub loop-arg-preserved : goal.loop-arg-preserved
loop-arg-preserved t c = omega (arith, any_counts-more _ _ _ c.loop-arg-test.true c.arg-item.is, c.loop-arg.invariant, c.place_count-count.ensures)
