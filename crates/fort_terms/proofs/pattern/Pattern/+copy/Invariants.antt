use Rattle.std.proofs.Common.{◌≡◌, take}
use Rattle.fort_terms.proofs.pattern.Pattern.+copy.Given as goal

abbrev pub invariant-loop-arg : goal.invariant-loop-arg
invariant-loop-arg l = l.copies.items ≡ take l.arg-index l.arg-items
