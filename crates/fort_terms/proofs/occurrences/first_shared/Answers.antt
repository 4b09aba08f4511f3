use Rattle.std.proofs.Common.{◌≡◌, take}
use Rattle.std.proofs.lemmas.Bool.{both_ways}
use Rattle.std.proofs.lemmas.List.{take_all}
use Rattle.fort_terms.proofs.RuleFaultsLaws.{IsFirstShared-at, apart-take_more, contains-decides}
use Rattle.fort_terms.proofs.occurrences.first_shared.Goals as goal

pub returns-then-contains-clause-shared : goal.returns-then-contains-clause-shared
returns-then-contains-clause-shared c =
    IsFirstShared-at _ _ _ c.loop-variable-test.true c.loop-variable.invariant ((contains-decides _ _ _ c.contains.ensures.cases).0 c.if-contains.true)

pub loop-variable-preserved : goal.loop-variable-preserved
loop-variable-preserved c =
    apart-take_more _ _ _ c.loop-variable-test.true c.loop-variable.invariant
    (λ there. both_ways _ c.if-contains.false ((contains-decides _ _ _ c.contains.ensures.cases).1 there))

pub returns-clause-apart : goal.returns-clause-apart
returns-clause-apart c =
    let whole : take c.loop-variable.variable-index c.args.left.now ≡ c.args.left.now = take_all _ _ c.loop-variable-test.false in
    rw whole at c.loop-variable.invariant
