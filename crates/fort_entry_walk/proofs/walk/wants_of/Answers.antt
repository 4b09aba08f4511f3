use Rattle.std.proofs.Common.{arith, ap, length, ◌≡◌, ◌∙◌, ◌-◌}
use Rattle.fort_tuple_symbols.specs.Columns.{symbol_of}
use Rattle.fort_entry_walk.proofs.WalkLaws.{length-wants_from}
use Rattle.fort_entry_walk.proofs.walk.wants_of.Goals as goal

pub with_first-row-requires : goal.with_first-row-requires
with_first-row-requires c =
    let f = symbol_of c.args.digits.now in
    let count = c.most_kids-count.result in
    let e : length c.loop-i.row ≡ c.loop-i.i = ap length c.loop-i.invariant ∙ length-wants_from c.args.sig.now f (count - c.loop-i.i) c.loop-i.i in
    omega (arith, c.most_kids-count.ensures.value, c.most_kids-count.ensures.small, c.loop-i-test.true)
