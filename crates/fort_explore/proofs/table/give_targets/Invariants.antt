use Rattle.std.proofs.Common.{◌≡◌, ◌+◌, ◌-◌, ◌^◌, ◌≤◌, length, is_some, IfSome}
use Rattle.fort_theory.specs.Signatures as theory
use Rattle.fort_explore.specs.Exploring.{IsExploring}
use Rattle.fort_explore.proofs.table.give_targets.Given as goal

abbrev pub invariant-entries : goal.invariant-entries
invariant-entries g l = record {
  exploring : (sig : theory.Signature) → g.L.Labeller.serves l.labeller sig → IsExploring sig (g.L.Labeller.column_count l.labeller) (g.L.Labeller.label l.labeller) l.fn.maker l.fn.found.firsts l.fn.found.labels.labels → IsExploring sig (g.L.Labeller.column_count l.labeller) (g.L.Labeller.label l.labeller) l.maker l.found.firsts l.found.labels.labels;
  listed : IfSome l.targets (λ v. v.items ≡ l.maker.targets);
  there : is_some l.targets ≡ is_some l.fn.targets;
  same : l.found.numbers ≡ l.found.labels.labels;
  width : l.found.labels.width ≡ g.L.Labeller.word_count l.labeller;
  kept : g.L.Labeller.fits l.labeller l.memo;
  room : length l.out ≡ g.L.Labeller.word_count l.labeller;
  few : length l.found.labels.labels ≤ l.cap;
  grows : l.fn.steps ≤ l.steps;
  steps : l.steps + length l.fn.maker.targets ≡ l.fn.steps + length l.maker.targets;
}

abbrev pub decreases-entries : goal.decreases-entries
decreases-entries g l = 2 ^ 64 - length l.maker.targets
