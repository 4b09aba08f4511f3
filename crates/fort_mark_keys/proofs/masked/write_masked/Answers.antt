use Rattle.std.proofs.Common.{◌++◌, [], ◌∷◌, get_or, bit_and, sym, ap, ◌∙◌, arith}
use Rattle.fort_mark_keys.proofs.MaskLaws.{masked-more}
use Rattle.fort_mark_keys.proofs.masked.write_masked.Goals as goal

pub loop-k-preserved : goal.loop-k-preserved
loop-k-preserved c =
    let mask = c.args.mask.now in
    let label = c.args.label.now in
    let k = c.loop-k.k in
    c.in_ok-push.ensures.items
    ∙ (ap (λ xs. xs ++ bit_and (get_or mask k 0) (get_or label k 0) ∷ []) c.loop-k.invariant
    ∙ sym (masked-more mask label k (omega (arith, c.loop-k-test.true, c.loop-k.auto.k-end)) (omega (arith, c.loop-k-test.true, c.loop-k.auto.k-end, c.requires.width))))
