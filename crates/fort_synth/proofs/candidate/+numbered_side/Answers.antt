use Rattle.std.proofs.Common.{◌≡◌, ◌∙◌, suc, ap, arith}
use Rattle.fort_answers.specs.FamilySystems.{any_count, any_counts, side_from}
use Rattle.fort_terms.specs.PatternView.{as_pattern, node_count, node_counts}
use Rattle.fort_synth.proofs.CandidateSides.{sides_from-more}
use Rattle.fort_synth.proofs.TextPatterns.{size_at, any_counts-more, any_counts-within}
use Rattle.fort_synth.proofs.candidate.+numbered_side.Goals as goal

pub numbered_side-requires : goal.numbered_side-requires
numbered_side-requires t c =
    let inside = size_at c.as_slice-arg-items.result.now c.loop-arg.arg-index c.arg-item.result c.loop-arg-test.true c.arg-item.is in
    let args = ap node_counts c.as_slice-arg-items.ensures in
    let whole : node_count (as_pattern c.args.pattern.now) ≡ suc (node_counts c.in-App.args) = ap (λ p. node_count (as_pattern p)) c.in-App.is in
    let within = any_counts-within c.as_slice-arg-items.result.now c.loop-arg.arg-index c.arg-item.result c.loop-arg-test.true c.arg-item.is in
    let counts = ap any_counts c.as_slice-arg-items.ensures in
    let all : any_count (as_pattern c.args.pattern.now) ≡ any_counts c.in-App.args = ap (λ p. any_count (as_pattern p)) c.in-App.is in
    (omega (arith, c.decreases, inside, args, whole), omega (arith, within, counts, all, c.requires, c.loop-arg.invariant.count))

pub loop-arg-preserved : goal.loop-arg-preserved
loop-arg-preserved t c =
    let made = c.in_ok-numbered_side-in-App.ensures in
    let items = c.as_slice-arg-items.result.now in
    let more = any_counts-more items c.loop-arg.arg-index c.arg-item.result c.loop-arg-test.true c.arg-item.is in record {
      made =
          sides_from-more c.args.next.now c.loop-arg.arg-index c.loop-arg.sides.items c.push.new.self.items items c.in_ok-numbered_side-in-App.field-0 c.arg-item.result
          c.loop-arg-test.true c.arg-item.is c.loop-arg.invariant.made
          (made.side ∙ ap (λ k. side_from k (as_pattern c.arg-item.result)) c.loop-arg.invariant.count) c.in_ok-push-in-App.ensures.items;
      count = omega (arith, more, made.next, c.loop-arg.invariant.count);
    }
