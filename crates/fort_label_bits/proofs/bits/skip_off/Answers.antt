use Rattle.std.proofs.Common.{◌<◌, ◌+◌, ℕ, ◌/◌, ◌%◌, ◌^◌, ap, arith}
use Rattle.std.proofs.Math.Nat.{div-le_self}
use Rattle.fort_label_bits.proofs.SkippedBits.{none_skipped}
use Rattle.fort_label_bits.proofs.bits.skip_off.Goals as goal

pub returns-clause-off : goal.returns-clause-off
returns-clause-off c =
    let w = c.args.label.now in
    let bit = c.args.bit in
    let n : ℕ = c.word_at.result / 2 ^ (bit % 64) in
    let whole : c.word_at.result < 2 ^ 64 = omega (arith, c.word_at.ensures, c.type_inv.label (1 + bit / 64)) in
    let small : n < 2 ^ 64 = omega (arith, whole, div-le_self c.word_at.result (2 ^ (bit % 64))) in
    none_skipped w bit n c.min.result small (ap (λ x. x / 2 ^ (bit % 64)) c.word_at.ensures) (omega (arith, c.min.ensures)) (omega (arith, c.min.ensures))
