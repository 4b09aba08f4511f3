use Rattle.fort_ari.specs.NameSets.{HasMetOnce}
use Rattle.fort_ari.proofs.names.first_met_again.Given as goal

abbrev pub invariant-names : goal.invariant-names
invariant-names l = HasMetOnce (λ x. x.now) l.met.keys l.names l.i
