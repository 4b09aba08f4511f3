use Rattle.std.proofs.Common.{◌++◌, ◌∙◌, ap, sym, subst}
use Rattle.fort_theory.specs.Patterns.{FitsPair}
use Rattle.fort_terms.specs.PatternView.{as_pair}
use Rattle.fort_synth.specs.TextLines.{pair_line}
use Rattle.fort_synth.proofs.TextRules.{few_at, fits_in, line_more, lines_all}
use Rattle.fort_synth.proofs.text.write_rules.Goals as goal

pub push_rule-requires-clause-fits : goal.push_rule-requires-clause-fits
push_rule-requires-clause-fits c =
    subst (λ s. FitsPair s (as_pair c.rule-item.result)) (sym c.signature-signature.ensures.same)
    (fits_in c.args.system.now c.rules-rule-items.result.now c.loop-rule.rule-index c.rule-item.result c.signature-signature.ensures.lawful c.rules-rule-items.ensures.pairs c.loop-rule-test.true c.rule-item.is)

pub push_rule-requires-clause-few : goal.push_rule-requires-clause-few
push_rule-requires-clause-few c =
    few_at c.args.system.now c.requires.0 c.rules-rule-items.result.now c.loop-rule.rule-index c.rule-item.result c.requires.1 c.requires.2 c.rules-rule-items.ensures.pairs c.loop-rule-test.true c.rule-item.is

pub loop-rule-preserved : goal.loop-rule-preserved
loop-rule-preserved c =
    line_more c.args.system.now.signature c.rules-rule-items.result.now c.loop-rule.rule-index c.rule-item.result c.args.text.now.items c.loop-rule.text.items _ c.loop-rule-test.true c.rule-item.is
    c.loop-rule.invariant
    (c.in_ok-push_rule.ensures ∙ ap (λ s. c.loop-rule.text.items ++ pair_line s (as_pair c.rule-item.result)) c.signature-signature.ensures.same)

pub returns : goal.returns
returns c =
    lines_all c.args.system.now c.rules-rule-items.result.now c.loop-rule.rule-index c.args.text.now.items c.loop-rule.text.items c.loop-rule-test.false c.rules-rule-items.ensures.pairs c.loop-rule.invariant
