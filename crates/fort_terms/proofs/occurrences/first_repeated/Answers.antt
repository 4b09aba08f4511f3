use Rattle.std.proofs.lemmas.Bool.{both_ways}
use Rattle.fort_terms.proofs.RuleFaultsLaws.{IsDistinct-nil, IsFirstRepeated-at, IsDistinct-take_more, contains-decides}
use Rattle.fort_terms.proofs.occurrences.first_repeated.Goals as goal

pub loop-i-init : goal.loop-i-init
loop-i-init c = IsDistinct-nil

pub returns-then-contains-clause-repeated : goal.returns-then-contains-clause-repeated
returns-then-contains-clause-repeated c =
    IsFirstRepeated-at _ _ c.loop-i-test.true c.loop-i.invariant ((contains-decides _ _ _ c.contains.ensures.cases).0 c.if-contains.true)

pub loop-i-preserved : goal.loop-i-preserved
loop-i-preserved c =
    IsDistinct-take_more _ _ c.loop-i-test.true c.loop-i.invariant
    (λ there. both_ways _ c.if-contains.false ((contains-decides _ _ _ c.contains.ensures.cases).1 there))
