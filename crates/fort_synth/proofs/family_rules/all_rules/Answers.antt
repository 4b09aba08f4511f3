use Rattle.std.proofs.Common.{map}
use Rattle.fort_answers.specs.FamilyRules.{FamilyRule}
use Rattle.fort_terms.specs.PatternView.{as_pattern}
use Rattle.fort_synth.specs.FamilyView.{as_family_rule}
use Rattle.fort_synth.proofs.FamilyListLaws.{joined_more}
use Rattle.fort_synth.proofs.family_rules.all_rules.Goals as goal

pub loop-pattern-preserved : goal.loop-pattern-preserved
loop-pattern-preserved c =
    joined_more (λ p. map (λ t. let r : FamilyRule = (p, t) in r) c.args.terms.now) as_pattern c.args.patterns.now c.loop-pattern.pattern-index
    c.pattern-item.result (map as_family_rule c.loop-pattern.rules.items) (map as_family_rule c.push_rules.new.rules.items) c.loop-pattern-test.true
    c.pattern-item.is c.loop-pattern.invariant c.in_ok-push_rules.ensures
