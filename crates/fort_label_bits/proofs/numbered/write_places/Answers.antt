use Rattle.std.proofs.Common.{◌+◌, ◌<◌, ℕ, Bool, ◌&&◌, ◌||◌, ◌==◌, take, get_or, length, sym, ap, ◌∙◌, arith}
use Rattle.std.specs.List.{list_any}
use Rattle.std.proofs.Math.Bool.{or_assoc}
use Rattle.std.proofs.lemmas.List.{get_or_default}
use Rattle.std.proofs.lemmas.List.Elements.{Contains-get_or}
use Rattle.fort_tuple_symbols.specs.Columns.{as_column}
use Rattle.fort_alike.specs.PatternNumbers.{PatternNumber, number_inside}
use Rattle.fort_label_bits.specs.RowBits.{bit_of, labels_at}
use Rattle.fort_label_bits.specs.RootPlaces.{writes_at}
use Rattle.fort_label_bits.proofs.BitRowListLaws.{list_any-more}
use Rattle.fort_label_bits.proofs.numbered.write_places.Goals as goal

pub pattern_at-requires : goal.pattern_at-requires
pattern_at-requires c = c.requires.places _ (Contains-get_or c.args.places.now c.loop-place.place-index 0 c.loop-place-test.true)

pub overflow_add-base : goal.overflow_add-base
overflow_add-base c =
    let l : get_or c.args.places.now c.loop-place.place-index 0 < length c.args.patterns.now = c.requires.places _ (Contains-get_or c.args.places.now c.loop-place.place-index 0 c.loop-place-test.true) in
    omega (arith, l, c.requires.small, c.requires.few)

pub add_mark-requires-clause-small : goal.add_mark-requires-clause-small
add_mark-requires-clause-small c =
    let l : get_or c.args.places.now c.loop-place.place-index 0 < length c.args.patterns.now = c.requires.places _ (Contains-get_or c.args.places.now c.loop-place.place-index 0 c.loop-place-test.true) in
    omega (arith, l, c.requires.small, c.requires.few)

pub add_mark-requires-clause-room : goal.add_mark-requires-clause-room
add_mark-requires-clause-room c =
    let l : get_or c.args.places.now c.loop-place.place-index 0 < length c.args.patterns.now = c.requires.places _ (Contains-get_or c.args.places.now c.loop-place.place-index 0 c.loop-place-test.true) in
    omega (arith, l, c.requires.room, c.loop-place.auto.out)

pub loop-place-preserved : goal.loop-place-preserved
loop-place-preserved c q =
    let item : ℕ = get_or c.args.places.now c.loop-place.place-index 0 in
    let old = bit_of q c.args.out.now in
    let test : ℕ → Bool = writes_at c.args.base c.args.patterns.now (as_column c.args.root) (labels_at c.args.rows.now.labels c.args.row.now.kids) q in
    let here : PatternNumber → Bool = λ p. number_inside c.args.base p (as_column c.args.root) (labels_at c.args.rows.now.labels c.args.row.now.kids) in
    c.add_mark.ensures q
    ∙ ((λ i. c.loop-place.invariant q i || ((c.is_inside-on.ensures ∙ ap here c.pattern_at.ensures) i && (c.args.base + item == q)))
    ∙ (or_assoc old (list_any test (take c.loop-place.place-index c.args.places.now)) (test item)
    ∙ ap (λ b. old || b)
    (sym (list_any-more test c.args.places.now c.loop-place.place-index item c.loop-place-test.true (get_or_default c.args.places.now c.loop-place.place-index _ _ c.loop-place-test.true)))))
