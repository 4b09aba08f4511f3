use Rattle.std.specs.Prelude.{take}
use Rattle.fort_ari.specs.NameSets.{HaveSameNames, HasFoundNone}
use Rattle.fort_ari.proofs.names.first_also.Given as goal

abbrev pub invariant-others : goal.invariant-others
invariant-others l = HaveSameNames (λ x. x.now) l.there.keys (take l.other-index l.others)

abbrev pub invariant-names : goal.invariant-names
invariant-names l = HasFoundNone (λ x. x.now) l.others l.names l.i
