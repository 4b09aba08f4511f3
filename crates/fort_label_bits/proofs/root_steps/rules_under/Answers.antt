use Rattle.std.proofs.Common.{◌≡◌, ◌<◌, ℕ, List, [], ◌∷◌, ◌++◌, map, length, get_or, ap, arith}
use Rattle.std.specs.Prelude.{vec_items}
use Rattle.std.proofs.lemmas.List.{get_or_default, length-map, length-set}
use Rattle.std.proofs.lemmas.List.Elements.{Contains-get_or}
use Rattle.fort_label_bits.specs.RootPlaces.{list_at}
use Rattle.fort_label_bits.specs.RulePlaces.{no_rule}
use Rattle.fort_label_bits.specs.declared.rule_places.RulePlaces.{RulePlaces}
use Rattle.fort_label_bits.proofs.RuleLeftLaws.{AreUnderLefts-next}
use Rattle.fort_label_bits.proofs.root_steps.rules_under.Goals as goal

pub push_in-requires : goal.push_in-requires
push_in-requires c =
    let l = c.requires (get_or c.args.rules.now c.loop-k.k no_rule) (Contains-get_or c.args.rules.now c.loop-k.k no_rule c.loop-k-test.true) in
    omega (arith, l, c.loop-k.invariant.room)

pub loop-k-preserved : goal.loop-k-preserved
loop-k-preserved c =
    let rules = c.args.rules.now in
    let k = c.loop-k.k in
    let rule : RulePlaces = get_or rules k no_rule in
    let here : rule ≡ get_or rules k rule = get_or_default rules k no_rule rule c.loop-k-test.true in
    let l = c.requires rule (Contains-get_or rules k no_rule c.loop-k-test.true) in
    let old : List (List ℕ) = map vec_items c.loop-k.under.items in
    let new : List (List ℕ) = map vec_items c.push_in.new.lists.items in
    let size : length old ≡ length c.loop-k.under.items = length-map c.loop-k.under.items vec_items in
    let wide : length new ≡ length c.push_in.new.lists.items = length-map c.push_in.new.lists.items vec_items in
    let inside : rule.left < length old = omega (arith, l, c.loop-k.invariant.room, size) in
    record {
      listed = AreUnderLefts-next rules k rule old new c.loop-k-test.true here inside c.loop-k.invariant.listed c.in_ok-push_in.ensures;
      room = omega (arith, c.loop-k.invariant.room, size, wide, ap length c.in_ok-push_in.ensures, length-set old rule.left (list_at old rule.left ++ k ∷ []));
    }
