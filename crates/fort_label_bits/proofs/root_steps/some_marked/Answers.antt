use Rattle.std.proofs.Common.{◌≡◌, true, false, ℕ, List, map, sym, arith}
use Rattle.std.specs.List.{list_any}
use Rattle.std.specs.Prelude.{vec_items}
use Rattle.fort_label_bits.specs.RootPlaces.{list_at}
use Rattle.fort_label_bits.specs.RuleLefts.{both_at}
use Rattle.fort_label_bits.proofs.RuleLeftLaws.{found_under, none_further, none_left}
use Rattle.fort_label_bits.proofs.root_steps.some_marked.Goals as goal

pub some_at-requires-clause-places : goal.some_at-requires-clause-places
some_at-requires-clause-places c = rw c.places_under.ensures (λ k d. c.requires.under.within c.skip_off-left.result k d)

pub returns-then-some_at : goal.returns-then-some_at
returns-then-some_at c =
    let w = c.args.label.now in
    let rules = c.args.rules.now in
    let under : List (List ℕ) = map vec_items c.args.under.now in
    let left = c.skip_off-left.result in
    let here : true ≡ list_any (both_at c.args.base w rules) (list_at under left) = rw c.places_under.ensures at c.if-some_at.ensures in
    sym (found_under c.args.base w rules under left c.requires.under (sym here))

pub lefts-preserved : goal.lefts-preserved
lefts-preserved c =
    let w = c.args.label.now in
    let rules = c.args.rules.now in
    let under : List (List ℕ) = map vec_items c.args.under.now in
    let left = c.skip_off-left.result in
    let here : false ≡ list_any (both_at c.args.base w rules) (list_at under left) = rw c.places_under.ensures at c.if-some_at.ensures in
    none_further c.args.base w rules under c.lefts.from left c.requires.under c.lefts.invariant c.skip_off-left.ensures.off (sym here)

pub returns : goal.returns
returns c =
    sym (none_left c.args.base c.args.label.now c.args.rules.now c.lefts.from c.requires.inside (omega (arith, c.lefts-test.false)) c.lefts.invariant)
