use Rattle.std.proofs.Common.{List, ◌++◌, ℕ, Bool, map, take, subst, arith}
use Rattle.std.proofs.lemmas.List.{take_all}
use Rattle.fort_tuple_symbols.specs.Columns.{as_column}
use Rattle.fort_alike.specs.PatternNumbers.{PatternNumber, number_inside}
use Rattle.fort_label_bits.specs.RowBits.{HasBits, labels_at}
use Rattle.fort_label_bits.proofs.RowBitLaws.{HasBits-more, length-part}
use Rattle.fort_label_bits.proofs.numbered.write_inside.Goals as goal

pub loop-k-preserved : goal.loop-k-preserved
loop-k-preserved c bits l h =
    let ws : List (List ℕ) = labels_at c.args.rows.now.labels c.args.row.now.kids in
    let f : PatternNumber → Bool = λ p. number_inside c.args.base p (as_column c.args.root) ws in
    HasBits-more f c.args.patterns.now c.loop-k.k c.index-patterns-k.result bits c.is_inside.result c.put_mark.new.out c.loop-k-test.true c.index-patterns-k.is
    c.is_inside.ensures
    (c.put_mark.ensures (bits ++ map f (take c.loop-k.k c.args.patterns.now)) (length-part f c.args.patterns.now c.loop-k.k bits c.args.base c.loop-k-test.true l)
    (c.loop-k.invariant bits l h))

pub returns : goal.returns
returns c bits l h =
    let ws : List (List ℕ) = labels_at c.args.rows.now.labels c.args.row.now.kids in
    let f : PatternNumber → Bool = λ p. number_inside c.args.base p (as_column c.args.root) ws in
    subst (λ (ps : List PatternNumber). HasBits (bits ++ map f ps) c.loop-k.out)
    (take_all c.loop-k.k c.args.patterns.now (omega (arith, c.loop-k-test.false))) (c.loop-k.invariant bits l h)
