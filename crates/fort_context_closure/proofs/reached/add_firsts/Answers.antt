use Rattle.std.proofs.Common.{◌≡◌, ℕ, List, Option, None, Some, Bool, ◌||◌, get_or, sym, subst, ap, ◌∙◌, arith}
use Rattle.std.specs.List.{list_any}
use Rattle.std.proofs.Math.Bool.{or_assoc}
use Rattle.std.proofs.lemmas.List.{length-map}
use Rattle.fort_tuple_symbols.specs.Columns.{as_column}
use Rattle.fort_label_bits.specs.RowBits.{bit_of, labels_at}
use Rattle.fort_label_bits.specs.RootPlaces.{places_at, root_of}
use Rattle.fort_context_closure.specs.RuleRootPlaces.{start_adds, starts_at}
use Rattle.fort_label_bits.specs.declared.rule_places.RulePlaces.{RulePlaces}
use Rattle.fort_context_closure.proofs.RuleRootLaws.{starts_rooted, starts_nowhere, or-nothing}
use Rattle.fort_context_closure.proofs.reached.add_firsts.Goals as goal

pub add_starts-requires-clause-listed : goal.add_starts-requires-clause-listed
add_starts-requires-clause-listed c = rw c.at-here.ensures (λ k d. let l = c.requires.roots.left_sides.within c.in-Some.f.0 k d in omega (arith, l, length-map c.args.rules.now (λ (r : RulePlaces). root_of (get_or c.args.lefts.now r.left None))))

pub add_starts-requires-in-Some-clause-listed : goal.add_starts-requires-in-Some-clause-listed
add_starts-requires-in-Some-clause-listed c = rw c.as_slice-any.ensures.value (λ k d. let l = c.requires.roots.left_sides.within_any k d in omega (arith, l, length-map c.args.rules.now (λ (r : RulePlaces). root_of (get_or c.args.lefts.now r.left None))))

pub returns-in-None : goal.returns-in-None
returns-in-None c q =
    let ws : List (List ℕ) = labels_at c.args.rows.now.labels c.args.row.now.kids in
    rw c.in-None.is (sym (ap (λ b. bit_of q c.args.out.now || b) (starts_nowhere c.args.lefts.now c.args.reach.now ws q c.args.rules.now) ∙ or-nothing (bit_of q c.args.out.now)))

pub returns-in-Some : goal.returns-in-Some
returns-in-Some c q =
    let ws : List (List ℕ) = labels_at c.args.rows.now.labels c.args.row.now.kids in
    let old = bit_of q c.args.out.now in
    let rules : List RulePlaces = c.args.rules.now in
    let r = c.args.roots.now.lefts in
    let f : ℕ = c.in-Some.f.0 in
    let is : as_column c.args.node.first ≡ Some f = ap as_column c.in-Some.is in
    let test : Option ℕ → ℕ → Bool = λ x. starts_at c.args.lefts.now c.args.reach.now x ws q rules in
    let one = rw c.at-here.ensures at c.add_starts.ensures q in
    let two = rw c.as_slice-any.ensures.value at c.add_starts-in-Some.ensures q in
    let all = subst (λ (x : Option ℕ). (list_any (test x) (places_at r f) || list_any (test x) r.any.items) ≡ list_any (start_adds c.args.lefts.now c.args.reach.now x ws q) rules) (sym is)
    (starts_rooted c.args.lefts.now c.args.reach.now f ws q rules r c.requires.roots.left_sides) in
    two ∙ (ap (λ b. b || list_any (test (as_column c.args.node.first)) r.any.items) one
    ∙ (or_assoc old (list_any (test (as_column c.args.node.first)) (places_at r f)) (list_any (test (as_column c.args.node.first)) r.any.items)
    ∙ ap (λ b. old || b) all))
