use Rattle.std.proofs.Common.{refl, arith}
use Rattle.fort_open_checker.proofs.NodeTestLaws.{symbols_all, symbols_at}
use Rattle.fort_open_checker.proofs.entry.are_symbols.Goals as goal

pub returns-then-not-is_column : goal.returns-then-not-is_column
returns-then-not-is_column c = (λ no. absurd cc, λ all. c.if-not-is_column.ensures.1 (symbols_at c.args.sig.now c.args.columns.now c.loop-k.k all))

pub returns : goal.returns
returns c = (λ yes. symbols_all c.args.sig.now c.args.columns.now (λ i l. c.loop-k.invariant i (omega arith)), λ all. refl)
