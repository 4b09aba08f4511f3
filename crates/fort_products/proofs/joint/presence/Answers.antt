use Rattle.std.proofs.Common.{◌≡◌, ◌-◌, suc, drop, ap, arith}
use Rattle.fort_tables.specs.Tuples.{presence}
use Rattle.fort_tuple_symbols.specs.Columns.{as_column}
use Rattle.fort_products.proofs.JointLaws.{presence_step, presence_small}
use Rattle.fort_products.proofs.joint.presence.Goals as goal

pub overflow_mul-presence : goal.overflow_mul-presence
overflow_mul-presence c = omega (arith, c.loop-k.invariant, presence_small c.args.symbol.now c.loop-k.k (omega (arith, c.len-k.ensures.count, c.len-k.ensures.narrow)))

pub overflow_add-presence : goal.overflow_add-presence
overflow_add-presence c =
    let f = c.args.symbol.now in
    let k = c.loop-k.k in
    let at : suc (k - 1) ≡ k = omega (arith, c.loop-k-test.true) in
    let small = presence_small f (k - 1) (omega (arith, c.len-k.ensures.count, c.len-k.ensures.narrow)) in
    omega (arith, c.loop-k.invariant, c.bit.ensures, presence_step f (k - 1) (as_column c.symbol.result) c.symbol.ensures, ap (λ n. presence (drop n f)) at, small)

pub loop-k-preserved : goal.loop-k-preserved
loop-k-preserved c =
    let f = c.args.symbol.now in
    let k = c.loop-k.k in
    let at : suc (k - 1) ≡ k = omega (arith, c.loop-k-test.true) in
    omega (arith, c.loop-k.invariant, c.bit.ensures, presence_step f (k - 1) (as_column c.symbol.result) c.symbol.ensures, ap (λ n. presence (drop n f)) at)
