use Rattle.std.proofs.Common.{◌+◌, ◌*◌, ◌<◌, length, None, ap, arith}
use Rattle.std.proofs.lemmas.Option.{get_or_from_slice_get}
use Rattle.fort_tuple_symbols.specs.Columns.{as_column, digit_of}
use Rattle.fort_target_lists.proofs.SymbolNumbers.{number_of-take, number_of-front}
use Rattle.fort_target_lists.proofs.numbers.symbol_number.Goals as goal

pub number_behind-number-requires : goal.number_behind-number-requires
number_behind-number-requires c =
    let f = c.args.symbol.now in
    let base = c.args.base in
    let k = c.loop-k.k in
    let within : k < length f = omega (arith, c.loop-k-test.true, c.len-k-end.ensures.count) in
    let here = get_or_from_slice_get f k (as_column c.symbol.result) None c.symbol.ensures in
    omega (arith, number_of-take base f k within, number_of-front base f (k + 1) c.requires.some, c.requires.small, ap (λ n. n * base) c.loop-k.invariant, ap digit_of here)

pub loop-k-preserved : goal.loop-k-preserved
loop-k-preserved c =
    let f = c.args.symbol.now in
    let base = c.args.base in
    let k = c.loop-k.k in
    let within : k < length f = omega (arith, c.loop-k-test.true, c.len-k-end.ensures.count) in
    let here = get_or_from_slice_get f k (as_column c.symbol.result) None c.symbol.ensures in
    omega (arith, number_of-take base f k within, ap (λ n. n * base) c.loop-k.invariant, c.number_behind-number.ensures, ap digit_of here)
