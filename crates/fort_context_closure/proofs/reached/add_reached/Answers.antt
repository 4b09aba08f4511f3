use Rattle.std.proofs.Common.{ℕ, List, Bool, ◌||◌, sym, ap, ◌∙◌}
use Rattle.std.specs.List.{list_any}
use Rattle.std.proofs.Math.Bool.{or_assoc}
use Rattle.fort_tuple_symbols.specs.Columns.{as_column}
use Rattle.fort_label_bits.specs.RowBits.{bit_of, labels_at}
use Rattle.fort_context_closure.specs.RuleRootPlaces.{start_adds, end_adds}
use Rattle.fort_label_bits.specs.declared.rule_places.RulePlaces.{RulePlaces}
use Rattle.fort_label_bits.proofs.RootPlaceLaws.{any_or}
use Rattle.fort_context_closure.proofs.reached.add_reached.Goals as goal

pub returns : goal.returns
returns c q =
    let ws : List (List ℕ) = labels_at c.args.rows.now.labels c.args.row.now.kids in
    let old = bit_of q c.args.out.now in
    let rules = c.args.rules.now in
    let starts : RulePlaces → Bool = start_adds c.args.lefts.now c.args.reach.now (as_column c.args.node.first) ws q in
    let ends : RulePlaces → Bool = end_adds c.args.lefts.now c.args.rights.now c.args.reach.now (as_column c.args.node.second) ws q in
    c.add_seconds.ensures q
    ∙ (ap (λ b. b || list_any ends rules) (c.add_firsts.ensures q)
    ∙ (or_assoc old (list_any starts rules) (list_any ends rules) ∙ ap (λ b. old || b) (sym (any_or starts ends rules))))
