use Rattle.std.proofs.Common.{arith, [], ◌∷◌, refl}
use Rattle.fort_class_blocks.proofs.CombinationLaws.{none_over, first_of}
use Rattle.fort_class_blocks.proofs.combinations.first_classes.Goals as goal

pub returns-then-count-eq0 : goal.returns-then-count-eq0
returns-then-count-eq0 c = none_over c.args.counts.now c.loop-count.count-index (omega arith) (omega (arith, c.if-count-eq0.true))

pub returns : goal.returns
returns c =
    let some = c.loop-count.invariant in
    let at = first_of c.args.counts.now (0 ∷ 0 ∷ 0 ∷ 0 ∷ 0 ∷ 0 ∷ 0 ∷ 0 ∷ []) (refl, (refl, (refl, (refl, (refl, (refl, (refl, (refl, tt)))))))) (omega (arith, c.requires)) (λ j l. some j (omega (arith, l, c.loop-count-test.false))) in
    (at.are, at.is)
