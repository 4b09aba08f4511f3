use Rattle.std.proofs.Common.{map}
use Rattle.fort_theory.specs.Patterns.{MorePatterns}
use Rattle.fort_terms.specs.PatternView.{as_pattern}
use Rattle.fort_synth.proofs.FamilyListLaws.{joined_more}
use Rattle.fort_synth.proofs.family_patterns.longer_lists.Goals as goal

pub loop-first-preserved : goal.loop-first-preserved
loop-first-preserved c =
    joined_more (λ p. map (λ ps. MorePatterns p ps) c.args.rests.now) as_pattern c.args.items.now c.loop-first.first-index c.first-item.result
    c.loop-first.longer.items c.push_lists.new.longer.items c.loop-first-test.true c.first-item.is c.loop-first.invariant c.in_ok-push_lists.ensures
