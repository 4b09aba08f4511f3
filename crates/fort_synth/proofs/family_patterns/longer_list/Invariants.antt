use Rattle.std.proofs.Common.{◌≡◌, ◌∷◌, take}
use Rattle.fort_synth.proofs.family_patterns.longer_list.Given as goal

abbrev pub invariant-loop-item : goal.invariant-loop-item
invariant-loop-item l = l.items.items ≡ l.first ∷ take l.item-index l.item-items
