use Rattle.std.proofs.Common.{◌≡◌, ◌∙◌, ap, arith, map, sym, suc, ◌+◌, length}
use Rattle.std.proofs.lemmas.List.{length-map}
use Rattle.fort_answers.specs.FamilyRules.{most_family_rules}
use Rattle.fort_terms.specs.PatternView.{as_pattern}
use Rattle.fort_synth.specs.FamilyLists.{argument_lists, longer_lists}
use Rattle.fort_synth.proofs.FamilySizes.{too_many_lists_counted, few_lists_counted}
use Rattle.fort_synth.proofs.family_patterns.argument_lists.Goals as goal

pub returns-then-items-len-gt-MOST_RULES-clause-too_large : goal.returns-then-items-len-gt-MOST_RULES-clause-too_large
returns-then-items-len-gt-MOST_RULES-clause-too_large c = λ _.
    let xs = map as_pattern c.args.items.now in
    let counted : c.len.result ≡ length (argument_lists c.loop.counter xs) = omega (arith, c.len.ensures, c.loop.lists.ok.0, ap length c.loop.invariant.are) in
    too_many_lists_counted xs c.loop.counter c.args.count (length c.args.items.now) c.len.result most_family_rules
    (omega arith) (sym (length-map c.args.items.now as_pattern)) counted c.if-items-len-gt-MOST_RULES.true

pub loop-preserved : goal.loop-preserved
loop-preserved c =
    let xs = map as_pattern c.args.items.now in
    let counted : c.len.result ≡ length (argument_lists c.loop.counter xs) = omega (arith, c.len.ensures, c.loop.lists.ok.0, ap length c.loop.invariant.are) in
    let is : c.in_ok-lists.lists.items ≡ longer_lists xs (argument_lists c.loop.counter xs) =
    c.in_ok-lists.ensures ∙ ap (longer_lists xs) (c.deref.ensures.value ∙ c.loop.invariant.are) in
    let next : suc c.loop.counter ≡ c.loop.counter + 1 = omega arith in
    record {
      are = is ∙ ap (λ k. argument_lists k xs) next;
      few =
          few_lists_counted xs (argument_lists c.loop.counter xs) c.in_ok-lists.lists.items (length c.args.items.now) c.len.result most_family_rules is
          (sym (length-map c.args.items.now as_pattern)) counted c.if-items-len-gt-MOST_RULES.false;
    }
