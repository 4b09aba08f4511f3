use Rattle.std.proofs.lemmas.Option.{MatchOption-at_none, MatchOption-at_some}
use Rattle.fort_ari.specs.SideForms.{InLeft, InRight, Between}
use Rattle.fort_ari.proofs.Distinct.{IsDistinct-joined}
use Rattle.fort_ari.proofs.names.check_names.Goals as goal

pub returns-in-Some-clause-fault : goal.returns-in-Some-clause-fault
returns-in-Some-clause-fault c =
    rw c.in_ok-from_slice.ensures.items (InLeft _ (MatchOption-at_some _ _ _ c.in-Some.is c.in_ok-name.ensures.again))

pub returns-in-Some-2-clause-fault : goal.returns-in-Some-2-clause-fault
returns-in-Some-2-clause-fault c =
    rw c.in_ok-from_slice-2.ensures.items (InRight _ (MatchOption-at_none _ _ c.in_default.is c.in_ok-name.ensures.once)
    (MatchOption-at_some _ _ _ c.in-Some-2.is c.in_ok-name-2.ensures.again))

pub returns-in-Some-3-clause-fault : goal.returns-in-Some-3-clause-fault
returns-in-Some-3-clause-fault c =
    rw c.in_ok-from_slice-3.ensures.items (Between _ (MatchOption-at_none _ _ c.in_default.is c.in_ok-name.ensures.once)
    (MatchOption-at_none _ _ c.in_default-2.is c.in_ok-name-2.ensures.once) (MatchOption-at_some _ _ _ c.in-Some-3.is c.in_ok-name-3.ensures.also))

pub returns-clause-ok : goal.returns-clause-ok
returns-clause-ok c =
    IsDistinct-joined _ _ (MatchOption-at_none _ _ c.in_default.is c.in_ok-name.ensures.once)
    (MatchOption-at_none _ _ c.in_default-2.is c.in_ok-name-2.ensures.once) (MatchOption-at_none _ _ c.in_default-3.is c.in_ok-name-3.ensures.apart)
