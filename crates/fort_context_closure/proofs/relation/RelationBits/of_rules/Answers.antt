use Rattle.std.proofs.Common.{◌≡◌, List, [], map, length, refl, subst, arith}
use Rattle.std.proofs.lemmas.List.{length-map}
use Rattle.fort_theory.specs.Patterns.{Pattern}
use Rattle.fort_terms.specs.PatternView.{as_pair, as_pattern}
use Rattle.fort_relations.specs.RelView.{as_rel}
use Rattle.fort_alike.specs.Atoms.{kind_for}
use Rattle.fort_tree_automata.proofs.SubpatternsClosed.{IsClosedInOrder-subpatterns}
use Rattle.fort_alike.proofs.MarkSets.{NoneTwice-ordered}
use Rattle.fort_context_closure.specs.declared.relation.RelationBits.TheInside.{Inside}
use Rattle.fort_context_closure.specs.ClosedAtoms.{numbers_of}
use Rattle.fort_label_bits.specs.NumberedView.{AreNumbersOf}
use Rattle.fort_context_closure.specs.ReachRows.{IsReach}
use Rattle.fort_context_closure.specs.RelationView.{listed_seen}
use Rattle.fort_label_bits.specs.RulePlaces.{ArePlacesOf}
use Rattle.fort_label_bits.proofs.SidesListed.{Contains-left_side, Contains-right_side}
use Rattle.fort_context_closure.proofs.ReachLaws.{NoPatternTwice-ordered}
use Rattle.fort_context_closure.proofs.relation.RelationBits.of_rules.Goals as goal

pub number_patterns-requires : goal.number_patterns-requires
number_patterns-requires c = rw c.deref.ensures.value (IsClosedInOrder-subpatterns _ (map as_pattern c.args.list.lefts.items) c.requires.left_order)

pub number_patterns-requires-2 : goal.number_patterns-requires-2
number_patterns-requires-2 c = rw c.deref-2.ensures.value (IsClosedInOrder-subpatterns _ (map as_pattern c.args.list.rights.items) c.requires.right_order)

pub places_of_rules-requires-clause-left_closed : goal.places_of_rules-requires-clause-left_closed
places_of_rules-requires-clause-left_closed c = rw c.deref-4.ensures.value (IsClosedInOrder-subpatterns _ (map as_pattern c.args.list.lefts.items) c.requires.left_order)

pub places_of_rules-requires-clause-right_closed : goal.places_of_rules-requires-clause-right_closed
places_of_rules-requires-clause-right_closed c = rw c.deref-5.ensures.value (IsClosedInOrder-subpatterns _ (map as_pattern c.args.list.rights.items) c.requires.right_order)

pub places_of_rules-requires-clause-among : goal.places_of_rules-requires-clause-among
places_of_rules-requires-clause-among c = rw (c.deref-3.ensures.value, c.deref-4.ensures.value, c.deref-5.ensures.value) (λ pair k. (
  Contains-left_side (map as_pair c.args.list.rules.items) (map as_pattern c.args.list.lefts.items) c.requires.left_order pair k,
  Contains-right_side (map as_pair c.args.list.rules.items) (map as_pattern c.args.list.rights.items) c.requires.right_order pair k,
))

pub root_rules-requires : goal.root_rules-requires
root_rules-requires c =
    let ls : List Pattern = map as_pattern c.args.list.lefts.items in
    let rs : List Pattern = map as_pattern c.args.list.rights.items in
    let places : ArePlacesOf ls rs (map as_pair c.args.list.rules.items) c.in_ok-rules.rules.items =
    rw (c.deref-3.ensures.value, c.deref-4.ensures.value, c.deref-5.ensures.value) at c.in_ok-rules.ensures in
    let left_numbers : AreNumbersOf ls c.in_ok-lefts.lefts.items = rw c.deref.ensures.value at c.in_ok-lefts.ensures.numbers in
    let right_numbers : AreNumbersOf rs c.in_ok-rights.rights.items = rw c.deref-2.ensures.value at c.in_ok-rights.ensures.numbers in
    rw (c.deref-8.ensures.value, c.deref-9.ensures.value, c.deref-10.ensures.value) (λ r k. (
      let l = (places.within r k).0 in omega (arith, l, left_numbers.count),
      let m = (places.within r k).1 in omega (arith, m, right_numbers.count),
    ))

pub reach_for-requires-clause-left : goal.reach_for-requires-clause-left
reach_for-requires-clause-left c =
    let numbers : AreNumbersOf (map as_pattern c.args.list.lefts.items) c.in_ok-lefts.lefts.items = rw c.deref.ensures.value at c.in_ok-lefts.ensures.numbers in
    omega (arith, rw c.deref.ensures.value at c.in_ok-lefts.ensures.few, numbers.count, c.len.ensures, length-map c.args.list.lefts.items as_pattern)

pub reach_for-requires-clause-right : goal.reach_for-requires-clause-right
reach_for-requires-clause-right c =
    let numbers : AreNumbersOf (map as_pattern c.args.list.rights.items) c.in_ok-rights.rights.items = rw c.deref-2.ensures.value at c.in_ok-rights.ensures.numbers in
    omega (arith, rw c.deref-2.ensures.value at c.in_ok-rights.ensures.few, numbers.count, c.len-2.ensures, length-map c.args.list.rights.items as_pattern)

pub rules_under-requires : goal.rules_under-requires
rules_under-requires c =
    let ls : List Pattern = map as_pattern c.args.list.lefts.items in
    let rs : List Pattern = map as_pattern c.args.list.rights.items in
    let places : ArePlacesOf ls rs (map as_pair c.args.list.rules.items) c.in_ok-rules.rules.items =
    rw (c.deref-3.ensures.value, c.deref-4.ensures.value, c.deref-5.ensures.value) at c.in_ok-rules.ensures in
    let left_numbers : AreNumbersOf ls c.in_ok-lefts.lefts.items = rw c.deref.ensures.value at c.in_ok-lefts.ensures.numbers in
    rw c.deref-12.ensures.value (λ r k. let l = (places.within r k).0 in omega (arith, l, left_numbers.count, c.len-3.ensures))

pub invariant_of-result : goal.invariant_of-result
invariant_of-result c =
    let ls : List Pattern = map as_pattern c.args.list.lefts.items in
    let rs : List Pattern = map as_pattern c.args.list.rights.items in
    let places : ArePlacesOf ls rs (map as_pair c.args.list.rules.items) c.in_ok-rules.rules.items =
    rw (c.deref-3.ensures.value, c.deref-4.ensures.value, c.deref-5.ensures.value) at c.in_ok-rules.ensures in
    let left_numbers : AreNumbersOf ls c.in_ok-lefts.lefts.items = rw c.deref.ensures.value at c.in_ok-lefts.ensures.numbers in
    let right_numbers : AreNumbersOf rs c.in_ok-rights.rights.items = rw c.deref-2.ensures.value at c.in_ok-rights.ensures.numbers in
    let b : Inside = record {
      rel = c.args.rel;
      arguments = c.arguments_of.result;
      left_patterns = c.args.list.lefts;
      right_patterns = c.args.list.rights;
      lefts = c.in_ok-lefts.lefts;
      rights = c.in_ok-rights.rights;
      left_roots = c.in_ok-left_roots.left_roots;
      right_roots = c.in_ok-right_roots.right_roots;
      rules = c.in_ok-rules.rules;
      rule_roots = c.in_ok-rule_roots.rule_roots;
      under = c.in_ok-under.under;
      reach = c.in_ok-reach.reach;
      entries = c.args.entries;
    } in
    let left_size : c.len.result ≡ length ls = omega (arith, c.len.ensures, left_numbers.count) in
    let right_size : c.len-2.result ≡ length rs = omega (arith, c.len-2.ensures, right_numbers.count) in
    record {
      left_numbers = left_numbers;
      right_numbers = right_numbers;
      left_few = rw c.deref.ensures.value at c.in_ok-lefts.ensures.few;
      right_few = rw c.deref-2.ensures.value at c.in_ok-rights.ensures.few;
      within = places.within;
      once = NoneTwice-ordered (listed_seen b) c.requires.left_order.ordered c.requires.right_order.ordered;
      left_once = NoPatternTwice-ordered ls c.requires.left_order.ordered;
      right_once = NoPatternTwice-ordered rs c.requires.right_order.ordered;
      reaching = λ e.
          subst (λ n. IsReach n (length rs) (numbers_of c.args.entries.items) c.in_ok-reach.reach) left_size
          (subst (λ n. IsReach c.len.result n (numbers_of c.args.entries.items) c.in_ok-reach.reach) right_size
          ((rw c.deref-11.ensures.value at c.in_ok-reach.ensures) e));
      arguments = c.arguments_of.ensures.arguments;
      left_roots = rw c.deref-6.ensures.value at c.in_ok-left_roots.ensures;
      right_roots = rw c.deref-7.ensures.value at c.in_ok-right_roots.ensures;
      rule_roots = rw (c.deref-8.ensures.value, c.deref-9.ensures.value, c.deref-10.ensures.value) at c.in_ok-rule_roots.ensures;
      under = rw c.deref-12.ensures.value at c.in_ok-under.ensures;
    }

pub returns : goal.returns
returns c =
    let places : ArePlacesOf (map as_pattern c.args.list.lefts.items) (map as_pattern c.args.list.rights.items) (map as_pair c.args.list.rules.items) c.in_ok-rules.rules.items =
    rw (c.deref-3.ensures.value, c.deref-4.ensures.value, c.deref-5.ensures.value) at c.in_ok-rules.ensures in (
      record {
        same = λ index columns are.
            let n = c.arguments_of.ensures.columns (as_rel c.args.rel) index columns are in
            let f = c.arguments_of.ensures.first (as_rel c.args.rel) index columns are in
            let s = c.arguments_of.ensures.second (as_rel c.args.rel) index columns are in
            λ i. record { signature = []; columns = n i; first = f i; second = s i; kind = kind_for (as_rel c.args.rel); pairs = places.pairs_are i };
        lefts_are = refl;
        rights_are = refl;
      },
      refl,
    )
