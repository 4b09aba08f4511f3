use Rattle.std.proofs.Common.{◌≡◌, ℕ, Bool, ◌||◌, List, take, get_or, None, sym, ap, ◌∙◌}
use Rattle.std.specs.List.{list_any}
use Rattle.std.proofs.Math.Bool.{or_assoc}
use Rattle.std.proofs.lemmas.List.{get_or_default}
use Rattle.fort_tuple_symbols.specs.Columns.{as_column}
use Rattle.fort_alike.specs.PatternNumbers.{PatternNumber}
use Rattle.fort_label_bits.specs.RowBits.{bit_of}
use Rattle.fort_label_bits.proofs.BitRowListLaws.{list_any-more}
use Rattle.fort_mark_keys.specs.AskedPlaces.{adds_bit, is_bit_at, argument}
use Rattle.fort_mark_keys.proofs.arguments.add_arguments.Goals as goal

pub add_place-requires-clause-within : goal.add_place-requires-clause-within
add_place-requires-clause-within c k e =
    let patterns : List PatternNumber = c.args.patterns.now in
    let i : ℕ = c.loop-pattern.pattern-index in
    let item : c.pattern-item.result ≡ get_or c.args.patterns.now c.loop-pattern.pattern-index None =
    c.pattern-item.is ∙ get_or_default c.args.patterns.now c.loop-pattern.pattern-index _ None c.loop-pattern-test.true in
    c.requires.within i (as_column c.args.root) c.args.place k c.loop-pattern-test.true
    (ap (argument (as_column c.args.root) c.args.place) (sym item) ∙ (sym c.argument.ensures ∙ e))

pub loop-pattern-preserved : goal.loop-pattern-preserved
loop-pattern-preserved c q =
    let patterns : List PatternNumber = c.args.patterns.now in
    let old : Bool = bit_of q c.args.out.now in
    let test : PatternNumber → Bool = adds_bit c.args.base c.args.patterns.now (as_column c.args.root) c.args.place q in
    let before : Bool = list_any test (take c.loop-pattern.pattern-index c.args.patterns.now) in
    c.add_place.ensures q
    ∙ ((λ i. c.loop-pattern.invariant q i || is_bit_at c.args.base c.args.patterns.now q (c.argument.ensures i))
    ∙ (or_assoc old before (test c.pattern-item.result)
    ∙ ap (λ b. old || b) (sym (list_any-more test c.args.patterns.now c.loop-pattern.pattern-index c.pattern-item.result c.loop-pattern-test.true c.pattern-item.is))))
