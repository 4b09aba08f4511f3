use Rattle.std.proofs.Common.{◌<◌, ◌∙◌, map, get_or, length, subst, sym}
use Rattle.std.proofs.lemmas.List.{take_all}
use Rattle.std.proofs.lemmas.List.Elements.{All-get_or}
use Rattle.fort_theory.specs.Patterns.{FitsPattern}
use Rattle.fort_theory.specs.Signatures.{IsGround}
use Rattle.fort_terms.specs.PatternView.{as_pattern}
use Rattle.fort_synth.specs.CandidateRules.{rules_at}
use Rattle.fort_synth.specs.FamilyView.{as_family_rule}
use Rattle.fort_synth.proofs.CandidateSystems.{fits_at, made_by_parts, pushed_rule, rule_at}
use Rattle.fort_synth.proofs.candidate.candidate.Goals as goal

pub push_rule-requires-clause-left_fits : goal.push_rule-requires-clause-left_fits
push_rule-requires-clause-left_fits c =
    let place = get_or c.args.places.now c.loop-place.place-index 0 in
    let low = All-get_or (λ k. k < length c.args.family.now) c.args.places.now c.loop-place.place-index 0 c.loop-place-test.true c.requires.within in
    let fits = fits_at c.args.signature.now c.args.family.now place c.index-family-place.result low c.index-family-place.is c.requires.fits in
    subst (λ s. FitsPattern s (as_pattern c.index-family-place.result.0)) (sym c.loop-place.invariant.signature) fits.left

pub push_rule-requires-clause-right_fits : goal.push_rule-requires-clause-right_fits
push_rule-requires-clause-right_fits c =
    let place = get_or c.args.places.now c.loop-place.place-index 0 in
    let low = All-get_or (λ k. k < length c.args.family.now) c.args.places.now c.loop-place.place-index 0 c.loop-place-test.true c.requires.within in
    let fits = fits_at c.args.signature.now c.args.family.now place c.index-family-place.result low c.index-family-place.is c.requires.fits in
    subst (λ s. IsGround s c.index-family-place.result.1) (sym c.loop-place.invariant.signature) fits.right

pub loop-place-preserved : goal.loop-place-preserved
loop-place-preserved c =
    let place = get_or c.args.places.now c.loop-place.place-index 0 in
    let low = All-get_or (λ k. k < length c.args.family.now) c.args.places.now c.loop-place.place-index 0 c.loop-place-test.true c.requires.within in
    let rule = rule_at c.args.family.now place c.index-family-place.result low c.index-family-place.is in record {
      signature = c.push_rule.ensures.same ∙ c.loop-place.invariant.signature;
      rules =
          pushed_rule (map as_family_rule c.args.family.now) c.args.places.now c.loop-place.place-index (as_family_rule c.index-family-place.result)
          c.loop-place.system.rules c.push_rule.new.system.rules c.loop-place-test.true rule c.loop-place.invariant.rules c.in_ok-push_rule.ensures.rules;
    }

pub returns : goal.returns
returns c =
    let whole = take_all c.loop-place.place-index c.args.places.now c.loop-place-test.false in
    made_by_parts c.args.signature.now (rules_at (map as_family_rule c.args.family.now) c.args.places.now) c.loop-place.system c.loop-place.invariant.signature
    (rw whole at c.loop-place.invariant.rules)

pub push_rule-requires-clause-places : goal.push_rule-requires-clause-places
push_rule-requires-clause-places c =
    let place = get_or c.args.places.now c.loop-place.place-index 0 in
    let low = All-get_or (λ k. k < length c.args.family.now) c.args.places.now c.loop-place.place-index 0 c.loop-place-test.true c.requires.within in
    (fits_at c.args.signature.now c.args.family.now place c.index-family-place.result low c.index-family-place.is c.requires.fits).places
