use Rattle.std.proofs.Common.{◌≡◌, ◌∙◌, ◌≤◌, Err, ap, arith, map, subst, sym, length, true≢false}
use Rattle.std.proofs.lemmas.List.{length-map}
use Rattle.std.proofs.lemmas.Result.{err_from_is_err_and}
use Rattle.fort_answers.specs.FamilyRules.{IsFamily, most_family_rules}
use Rattle.fort_terms.specs.PatternView.{as_pattern}
use Rattle.fort_synth.specs.FamilyLists.{low_patterns, ground_terms, all_rules}
use Rattle.fort_synth.specs.FamilyView.{as_family_rule}
use Rattle.fort_synth.specs.declared.family_rules.FamilyFault.TheVariants.{TooLarge}
use Rattle.fort_synth.proofs.FamilySizes.{few_terms, small_product}
use Rattle.fort_synth.proofs.FamilyLaws.{no_family, too_many_patterns, too_many_rules_counted, few_rules_counted, family_rules, family_rules-are}
use Rattle.fort_synth.proofs.family_rules.family.Goals as goal

pub returns-then-not-has_constant-clause-rules : goal.returns-then-not-has_constant-clause-rules
returns-then-not-has_constant-clause-rules c =
    subst (λ rs. IsFamily c.args.signature.now c.args.height (map as_family_rule rs)) (sym c.new.ensures.items)
    (no_family c.args.signature.now c.args.height (λ has. true≢false (sym (c.has_constant.ensures.1 has) ∙ c.if-not-has_constant.true)))

pub returns-in_err-patterns-clause-too_large : goal.returns-in_err-patterns-clause-too_large
returns-in_err-patterns-clause-too_large c =
    let p = err_from_is_err_and c.from_residual.result c.from_residual.ensures.1 in
    rw (p.1, p.2) (λ large.
    let same : c.in_err-patterns.field-0.0 ≡ TooLarge = cc in
    too_many_patterns c.args.signature.now c.args.height (c.has_constant.ensures.0 c.if-not-has_constant.false)
    (c.in_err-patterns.ensures.too_large (ap Err same)))

pub overflow_mul-len : goal.overflow_mul-len
overflow_mul-len c =
    let patterns = c.in_ok-patterns.patterns.items in
    let few : c.len.result ≤ most_family_rules = omega (arith, c.len.ensures, c.in_ok-patterns.patterns.ok.0, c.in_ok-patterns.ensures.few) in
    let fewer : c.len-2.result ≤ most_family_rules =
    omega (
      arith,
      c.len-2.ensures,
      c.in_ok-terms.terms.ok.0,
      ap length c.in_ok-terms.ensures,
      few_terms (map as_pattern c.deref.result.now),
      length-map c.deref.result.now as_pattern,
      ap length c.deref.ensures.value,
      c.in_ok-patterns.ensures.few,
    ) in
    omega (arith, small_product c.len.result c.len-2.result most_family_rules few fewer)

pub returns-then-len-gt-MOST_RULES-clause-too_large : goal.returns-then-len-gt-MOST_RULES-clause-too_large
returns-then-len-gt-MOST_RULES-clause-too_large c = λ _.
    let low = low_patterns c.args.signature.now c.args.height in
    let patterns : map as_pattern c.deref.result.now ≡ low = ap (map as_pattern) c.deref.ensures.value ∙ c.in_ok-patterns.ensures.patterns in
    let terms : c.in_ok-terms.terms.items ≡ ground_terms low = c.in_ok-terms.ensures ∙ ap ground_terms patterns in
    let counted : c.len.result ≡ length low =
    omega (arith, c.len.ensures, c.in_ok-patterns.patterns.ok.0, ap length c.in_ok-patterns.ensures.patterns, length-map c.in_ok-patterns.patterns.items as_pattern) in
    let counted_terms : c.len-2.result ≡ length (ground_terms low) = omega (arith, c.len-2.ensures, c.in_ok-terms.terms.ok.0, ap length terms) in
    too_many_rules_counted c.args.signature.now c.args.height c.len.result c.len-2.result counted counted_terms c.if-len-gt-MOST_RULES.true

pub returns-clause-rules : goal.returns-clause-rules
returns-clause-rules c =
    let low = low_patterns c.args.signature.now c.args.height in
    let patterns : map as_pattern c.deref.result.now ≡ low = ap (map as_pattern) c.deref.ensures.value ∙ c.in_ok-patterns.ensures.patterns in
    let terms : c.in_ok-terms.terms.items ≡ ground_terms low = c.in_ok-terms.ensures ∙ ap ground_terms patterns in
    let again : map as_pattern c.deref-2.result.now ≡ low = ap (map as_pattern) c.deref-2.ensures.value ∙ c.in_ok-patterns.ensures.patterns in
    let rules = c.in_ok-rules.ensures ∙ (λ i. all_rules (again i) ((c.deref-3.ensures.value ∙ terms) i)) in
    subst (IsFamily c.args.signature.now c.args.height) (sym rules) (family_rules-are c.args.signature.now c.args.height)

pub returns-clause-few : goal.returns-clause-few
returns-clause-few c =
    let low = low_patterns c.args.signature.now c.args.height in
    let patterns : map as_pattern c.deref.result.now ≡ low = ap (map as_pattern) c.deref.ensures.value ∙ c.in_ok-patterns.ensures.patterns in
    let terms : c.in_ok-terms.terms.items ≡ ground_terms low = c.in_ok-terms.ensures ∙ ap ground_terms patterns in
    let again : map as_pattern c.deref-2.result.now ≡ low = ap (map as_pattern) c.deref-2.ensures.value ∙ c.in_ok-patterns.ensures.patterns in
    let rules : map as_family_rule c.in_ok-rules.rules.items ≡ family_rules c.args.signature.now c.args.height =
    c.in_ok-rules.ensures ∙ (λ i. all_rules (again i) ((c.deref-3.ensures.value ∙ terms) i)) in
    let counted : c.len.result ≡ length low =
    omega (arith, c.len.ensures, c.in_ok-patterns.patterns.ok.0, ap length c.in_ok-patterns.ensures.patterns, length-map c.in_ok-patterns.patterns.items as_pattern) in
    let counted_terms : c.len-2.result ≡ length (ground_terms low) = omega (arith, c.len-2.ensures, c.in_ok-terms.terms.ok.0, ap length terms) in
    let few = few_rules_counted c.args.signature.now c.args.height c.len.result c.len-2.result counted counted_terms c.if-len-gt-MOST_RULES.false in
    omega (arith, few, ap length rules, length-map c.in_ok-rules.rules.items as_family_rule)
