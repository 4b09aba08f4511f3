use Rattle.std.proofs.Common.{◌≡◌, ◌∙◌, ◌+◌, ◌<◌, ◌++◌, ◌∷◌, Err, ap, arith, map, sym, suc, length, length-append}
use Rattle.std.proofs.lemmas.List.{length-map}
use Rattle.std.proofs.lemmas.Result.{err_from_is_err_and}
use Rattle.fort_theory.specs.Patterns.{Any, At}
use Rattle.fort_answers.specs.FamilyRules.{most_family_rules}
use Rattle.fort_terms.specs.PatternView.{as_pattern}
use Rattle.fort_synth.specs.FamilyLists.{argument_lists, applications_before}
use Rattle.fort_synth.specs.declared.family_rules.FamilyFault.TheVariants.{TooLarge}
use Rattle.fort_synth.proofs.FamilySizes.{too_many_higher}
use Rattle.fort_synth.proofs.FamilySteps.{applications_more}
use Rattle.fort_synth.proofs.family_patterns.higher_patterns.Goals as goal

pub returns-in_err-lists-clause-too_large : goal.returns-in_err-lists-clause-too_large
returns-in_err-lists-clause-too_large c =
    let p = err_from_is_err_and c.from_residual-in_err-lists.result c.from_residual-in_err-lists.ensures.1 in
    rw (p.1, p.2) (λ large.
    let same : c.in_err-lists.field-0.0 ≡ TooLarge = cc in
    too_many_higher c.args.signature.now (map as_pattern c.args.items.now) c.loop-number.number c.arity.result 0 most_family_rules
    (omega arith) c.arity.ensures (omega arith) (omega (arith, c.in_err-lists.ensures.too_large (ap Err same))))

pub returns-then-len-gt-MOST_RULES-clause-too_large : goal.returns-then-len-gt-MOST_RULES-clause-too_large
returns-then-len-gt-MOST_RULES-clause-too_large c = λ _.
    let xs = map as_pattern c.args.items.now in
    let counted : length c.loop-number.patterns.items ≡ suc (length (applications_before c.args.signature.now xs c.loop-number.number)) =
    sym (length-map c.loop-number.patterns.items as_pattern) ∙ ap length c.loop-number.invariant.are in
    let many : most_family_rules < length c.loop-number.patterns.items + length (argument_lists c.arity.result xs) =
    omega (
      arith,
      c.if-len-gt-MOST_RULES.true,
      c.len.ensures,
      c.len-in-loop-number.ensures,
      c.loop-number.patterns.ok.0,
      c.in_ok-lists.lists.ok.0,
      ap length c.in_ok-lists.ensures.lists,
    ) in
    too_many_higher c.args.signature.now xs c.loop-number.number c.arity.result (length c.loop-number.patterns.items) most_family_rules
    (omega arith) c.arity.ensures (omega (arith, counted)) many

pub loop-number-preserved : goal.loop-number-preserved
loop-number-preserved c =
    let old = c.loop-number.patterns.items in
    let new = c.push_applications.new.patterns.items in
    let n = c.loop-number.number in
    let xs = map as_pattern c.args.items.now in
    let pushed : map as_pattern new ≡ map as_pattern old ++ map (λ ps. At n ps) c.in_ok-lists.lists.items = c.in_ok-push_applications.ensures in
    record {
      are =
          pushed ∙ ((λ i. c.loop-number.invariant.are i ++ map (λ ps. At n ps) (c.in_ok-lists.ensures.lists i))
          ∙ ap (λ ps. Any ∷ ps) (applications_more c.args.signature.now xs n c.arity.result c.arity.ensures));
      few =
          omega (
            arith,
            ap length pushed,
            length-map new as_pattern,
            length-map old as_pattern,
            length-map c.in_ok-lists.lists.items (λ ps. At n ps),
            length-append (map as_pattern old) (map (λ ps. At n ps) c.in_ok-lists.lists.items),
            c.if-len-gt-MOST_RULES.false,
            c.len.ensures,
            c.len-in-loop-number.ensures,
            c.loop-number.patterns.ok.0,
            c.in_ok-lists.lists.ok.0,
          );
    }
