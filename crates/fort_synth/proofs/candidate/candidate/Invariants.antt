use Rattle.std.proofs.Common.{◌≡◌, [], ◌∷◌, map, take}
use Rattle.fort_synth.specs.CandidateRules.{pairs_of, rules_at}
use Rattle.fort_synth.specs.FamilyView.{as_family_rule}
use Rattle.fort_synth.proofs.candidate.candidate.Given as goal

abbrev pub invariant-loop-place : goal.invariant-loop-place
invariant-loop-place l = record {
  signature : l.system.signature ≡ l.signature;
  rules : l.system.rules ≡ pairs_of (rules_at (map as_family_rule l.family) (take l.place-index l.places)) ∷ [];
}
