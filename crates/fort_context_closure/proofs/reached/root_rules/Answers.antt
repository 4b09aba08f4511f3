use Rattle.std.proofs.Common.{◌≡◌, None, get_or, ap, ◌∙◌}
use Rattle.std.proofs.lemmas.List.{get_or_default}
use Rattle.std.proofs.lemmas.List.Elements.{Contains-get_or}
use Rattle.fort_label_bits.specs.RootPlaces.{root_of}
use Rattle.fort_label_bits.specs.RulePlaces.{no_rule}
use Rattle.fort_label_bits.specs.declared.rule_places.RulePlaces.{RulePlaces}
use Rattle.fort_label_bits.proofs.RootPlaceLaws.{rooted_next}
use Rattle.fort_context_closure.proofs.reached.root_rules.Goals as goal

pub pattern_at-requires : goal.pattern_at-requires
pattern_at-requires c = (c.requires _ (Contains-get_or c.args.rules.now c.loop-k.k no_rule c.loop-k-test.true)).0

pub pattern_at-requires-in-loop-k : goal.pattern_at-requires-in-loop-k
pattern_at-requires-in-loop-k c = (c.requires _ (Contains-get_or c.args.rules.now c.loop-k.k no_rule c.loop-k-test.true)).1

pub loop-k-preserved : goal.loop-k-preserved
loop-k-preserved c =
    let rules = c.args.rules.now in
    let k = c.loop-k.k in
    let rule : RulePlaces = get_or rules k no_rule in
    let here : rule ≡ get_or rules k rule = get_or_default rules k no_rule rule c.loop-k-test.true in
    record {
      left_sides = rooted_next (λ (r : RulePlaces). root_of (get_or c.args.lefts.now r.left None)) rules k rule _ _ _ c.loop-k-test.true here
          (c.root.ensures ∙ ap root_of c.pattern_at.ensures) c.loop-k.invariant.left_sides c.in_ok-push.ensures;
      right_sides = rooted_next (λ (r : RulePlaces). root_of (get_or c.args.rights.now r.right None)) rules k rule _ _ _ c.loop-k-test.true here
          (c.root-in-loop-k.ensures ∙ ap root_of c.pattern_at-in-loop-k.ensures) c.loop-k.invariant.right_sides c.in_ok-push-2.ensures;
    }
