use Rattle.std.proofs.Common.{◌≡◌, drop}
use Rattle.std.specs.List.{list_any}
use Rattle.fort_label_bits.specs.RuleLefts.{both_at}
use Rattle.fort_label_bits.proofs.root_steps.some_at.Given as goal

-- the places that are left decide
abbrev pub invariant-loop-place : goal.invariant-loop-place
invariant-loop-place l = list_any (both_at l.base l.label l.rules) l.places ≡ list_any (both_at l.base l.label l.rules) (drop l.place-index l.places)
