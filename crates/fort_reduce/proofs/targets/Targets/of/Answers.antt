use Rattle.std.proofs.Common.{◌^◌, ap, arith}
use Rattle.fort_target_lists.proofs.SymbolNumbers.{number_below}
use Rattle.fort_reduce.proofs.targets.Targets.of.Goals as goal

pub number-requires-clause-small : goal.number-requires-clause-small
number-requires-clause-small c =
    let h = c.requires.list in
    let base = c.args.list.now.base in
    omega (arith, h.few, number_below c.args.table.now.signature base c.args.symbol.now h.base_is c.requires.symbols, ap (λ n. base ^ n) c.requires.width)

pub start-requires : goal.start-requires
start-requires c =
    let h = c.requires.list in
    let base = c.args.list.now.base in
    omega (arith, c.number.ensures, h.starts_all, number_below c.args.table.now.signature base c.args.symbol.now h.base_is c.requires.symbols, ap (λ n. base ^ n) c.requires.width)
