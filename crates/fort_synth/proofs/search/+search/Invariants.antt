use Rattle.std.proofs.Common.{◌≡◌, map, drop}
use Rattle.fort_synth.specs.CandidateRules.{rules_at}
use Rattle.fort_synth.specs.FamilyView.{as_family_rule}
use Rattle.fort_synth.specs.SearchSteps.{IsPassed, MayAskEach}
use Rattle.fort_synth.proofs.search.+search.Given as goal

abbrev pub decreases-search : goal.decreases-search
decreases-search g l = l.left

abbrev pub invariant-loop-place : goal.invariant-loop-place
invariant-loop-place g l = record {
  same : l.chosen.items ≡ l.fn.chosen.items;
  callable : MayAskEach g.F.Fn l.decide l.signature (rules_at (map as_family_rule l.family) l.fn.chosen.items) l.left (drop l.place (map as_family_rule l.family));
  passed : IsPassed g.F.Fn l.decide l.signature (rules_at (map as_family_rule l.family) l.fn.chosen.items) l.left (map as_family_rule l.family) l.from l.place;
}
