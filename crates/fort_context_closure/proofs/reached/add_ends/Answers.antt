use Rattle.std.proofs.Common.{◌≡◌, ◌<◌, ℕ, List, None, Bool, ◌&&◌, ◌||◌, length, take, get_or, sym, subst, ap, ◌∙◌, arith}
use Rattle.std.specs.List.{list_any}
use Rattle.std.specs.Prelude.{vec_items}
use Rattle.std.proofs.Math.Bool.{or_assoc}
use Rattle.std.proofs.lemmas.List.{get_or_default, length-map}
use Rattle.std.proofs.lemmas.List.Elements.{Contains-get_or}
use Rattle.fort_tuple_symbols.specs.Columns.{as_column}
use Rattle.fort_alike.specs.PatternNumbers.{PatternNumber, number_inside}
use Rattle.fort_label_bits.specs.RowBits.{bit_of, labels_at}
use Rattle.fort_context_closure.specs.ReachRows.{seconds_of}
use Rattle.fort_label_bits.specs.BitRowLists.{row_in}
use Rattle.fort_label_bits.specs.RulePlaces.{no_rule}
use Rattle.fort_context_closure.specs.RuleRootPlaces.{ends_at}
use Rattle.fort_label_bits.specs.declared.rule_places.RulePlaces.{RulePlaces}
use Rattle.fort_label_bits.proofs.BitRowListLaws.{list_any-more}
use Rattle.fort_context_closure.proofs.reached.add_ends.Goals as goal

pub rule_at-rule-requires : goal.rule_at-rule-requires
rule_at-rule-requires c = c.requires.listed _ (Contains-get_or c.args.listed.now c.loop-k.k-index 0 c.loop-k-test.true)

pub pattern_at-requires : goal.pattern_at-requires
pattern_at-requires c =
    let l : get_or c.args.listed.now c.loop-k.k-index 0 < length c.args.rules.now = c.requires.listed _ (Contains-get_or c.args.listed.now c.loop-k.k-index 0 c.loop-k-test.true) in
    subst (λ (r : RulePlaces). r.right < length c.args.rights.now) (sym c.rule_at-rule.ensures)
    (c.requires.rules _ (Contains-get_or c.args.rules.now (get_or c.args.listed.now c.loop-k.k-index 0) no_rule l)).1

pub loop-k-preserved : goal.loop-k-preserved
loop-k-preserved c q =
    let ws : List (List ℕ) = labels_at c.args.rows.now.labels c.args.row.now.kids in
    let item : ℕ = get_or c.args.listed.now c.loop-k.k-index 0 in
    let rule : RulePlaces = get_or c.args.rules.now item no_rule in
    let old = bit_of q c.args.out.now in
    let test : ℕ → Bool = ends_at c.args.lefts.now c.args.rights.now c.args.reach.now (as_column c.args.node.second) ws q c.args.rules.now in
    let inside : PatternNumber → Bool = λ p. number_inside (length c.args.lefts.now) p (as_column c.args.node.second) ws in
    let here : c.is_inside-ends.result ≡ inside (get_or c.args.rights.now rule.right None) =
    c.is_inside-ends.ensures ∙ ap inside (c.pattern_at.ensures ∙ ap (λ (r : RulePlaces). get_or c.args.rights.now r.right None) c.rule_at-rule.ensures) in
    let row : bit_of q c.row_at.result.now ≡ bit_of q (row_in (seconds_of c.args.reach.now) rule.left) =
    ap (bit_of q) ((rw c.deref.ensures.value at c.row_at.ensures) ∙ ap (λ (r : RulePlaces). row_in (seconds_of c.args.reach.now) r.left) c.rule_at-rule.ensures) in
    c.add_row.ensures q
    ∙ ((λ i. c.loop-k.invariant q i || (here i && row i))
    ∙ (or_assoc old (list_any test (take c.loop-k.k-index c.args.listed.now)) (test item)
    ∙ ap (λ b. old || b)
    (sym (list_any-more test c.args.listed.now c.loop-k.k-index item c.loop-k-test.true (get_or_default c.args.listed.now c.loop-k.k-index _ _ c.loop-k-test.true)))))

pub row_at-requires : goal.row_at-requires
row_at-requires c =
    let l : get_or c.args.listed.now c.loop-k.k-index 0 < length c.args.rules.now = c.requires.listed _ (Contains-get_or c.args.listed.now c.loop-k.k-index 0 c.loop-k-test.true) in
    let m : c.rule_at-rule.result.left < length c.args.lefts.now = subst (λ (r : RulePlaces). r.left < length c.args.lefts.now) (sym c.rule_at-rule.ensures)
    (c.requires.rules _ (Contains-get_or c.args.rules.now (get_or c.args.listed.now c.loop-k.k-index 0) no_rule l)).0 in
    omega (arith, m, c.requires.reach.second_count, length-map c.args.reach.now.seconds.items vec_items, ap length c.deref.ensures.value)
