use Rattle.std.proofs.Common.{length, get_or, None, ◌∙◌, arith}
use Rattle.std.proofs.lemmas.List.{length-map, length-set}
use Rattle.fort_tables.specs.Selections.{selected}
use Rattle.fort_target_lists.proofs.ColumnLaws.{columns_read, selected_more}
use Rattle.fort_target_lists.proofs.columns.selected.Goals as goal

pub loop-k-preserved : goal.loop-k-preserved
loop-k-preserved c =
    let i = c.loop-k.invariant in
    record {
      size = length-set c.loop-k.columns c.loop-k.k c.symbol.result ∙ i.size;
      columns = selected_more c.args.sym.now c.args.places.now c.loop-k.columns c.loop-k.k c.symbol.result c.loop-k-test.true (omega (arith, c.loop-k-test.true, c.requires.few, i.size)) c.symbol.ensures i.columns;
    }

pub returns : goal.returns
returns c =
    let i = c.loop-k.invariant in
    c.new.ensures
    ∙ columns_read (selected c.args.places.now c.args.sym.now) (length c.args.places.now) c.loop-k.columns (length-map c.args.places.now (λ p. get_or c.args.sym.now p None)) (omega (arith, i.size, c.requires.few))
    (λ k m. i.columns k (omega (arith, c.loop-k-test.false)))
