use Rattle.std.proofs.Common.{◌≡◌, ◌+◌, ◌-◌, ◌^◌, ◌<◌, ◌≤◌, length, None, ap, arith}
use Rattle.std.proofs.Math.Nat.{pow-le-pow_right}
use Rattle.std.specs.List.{insert}
use Rattle.fort_theory.specs.Signatures.{Signature}
use Rattle.fort_tables.specs.Tuples.{TupleSymbol}
use Rattle.fort_target_lists.specs.Places.{number_of}
use Rattle.fort_target_lists.specs.Flats.{base_of}
use Rattle.fort_target_lists.proofs.LookUpLaws.{few_symbols, absent_symbol, table_symbol_below}
use Rattle.fort_target_lists.proofs.look_up.Finder.of.Goals as goal

pub number_with_absent-requires-clause-small : goal.number_with_absent-requires-clause-small
number_with_absent-requires-clause-small g c =
    let body = g.T.Table.table c.args.body.now in
    let some = c.requires.some in
    let f = c.args.row.now.symbol in
    let base : c.len-base.result + 1 ≡ base_of body = omega (arith, c.len-base.ensures.count, ap (λ (s : Signature). length s) c.signature.ensures) in
    let low = table_symbol_below body (insert f c.args.column None) (absent_symbol body f c.args.column c.requires.column c.requires.symbol) in
    omega (
      arith,
      low,
      few_symbols body c.args.list.now some.0 c.requires.list some.1,
      ap (λ b. number_of b (insert c.sym.result c.args.column None)) base,
      ap (λ (s : TupleSymbol). number_of (base_of body) (insert s c.args.column None)) c.sym.ensures,
    )

pub pow-requires : goal.pow-requires
pow-requires g c =
    let body = g.T.Table.table c.args.body.now in
    let some = c.requires.some in
    let base : c.len-base.result + 1 ≡ base_of body = omega (arith, c.len-base.ensures.count, ap (λ (s : Signature). length s) c.signature.ensures) in
    let positive : 0 < base_of body = omega arith in
    let later = c.columns.result - 1 - c.args.column in
    let less : later ≤ body.columns = omega (arith, c.columns.ensures.count) in
    omega (arith, pow-le-pow_right {n = base_of body} positive {i = later} {j = body.columns} less, few_symbols body c.args.list.now some.0 c.requires.list some.1, ap (λ b. b ^ later) base)
