use Rattle.std.proofs.Common.{◌≡◌, ◌+◌, suc, true, false, drop, sym, ◌∙◌, ap, arith}
use Rattle.fort_table_classes.specs.KnownSymbols.{are_symbols}
use Rattle.fort_table_classes.proofs.SymbolTests.{column_then}
use Rattle.fort_table_classes.proofs.symbols.are_symbols.Goals as goal

pub returns-then-not-is_column : goal.returns-then-not-is_column
returns-then-not-is_column c =
    sym (c.loop-k.invariant ∙ column_then c.args.sig.now c.args.symbol.now c.loop-k.k c.symbol.result false c.symbol.ensures (sym c.if-not-is_column.true ∙ c.is_column.ensures))

pub loop-k-preserved : goal.loop-k-preserved
loop-k-preserved c =
    let e : suc c.loop-k.k ≡ c.loop-k.k + 1 = omega arith in
    c.loop-k.invariant
    ∙ (column_then c.args.sig.now c.args.symbol.now c.loop-k.k c.symbol.result true c.symbol.ensures (sym c.if-not-is_column.false ∙ c.is_column.ensures)
    ∙ ap (λ n. are_symbols c.args.sig.now (drop n c.args.symbol.now)) e)
