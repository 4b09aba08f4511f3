-- Law: the number of nodes of a core formula falls from a formula to its operands.
use Rattle.std.specs.Prelude.{◌≤◌}
use Rattle.std.proofs.Common.{arith}
use Rattle.fort_formulas.specs.declared.core_formula.Core.{Core}
use Rattle.fort_formulas.specs.declared.core_formula.Core.TheVariants.{True, Atom, Rel, Nf, Is, Not, And, Or, Iff, Exists, Infinite}
use Rattle.fort_formulas.specs.declared.core_formula.Arm.TheDeep.{deep-Core}
use Rattle.fort_formulas.specs.CoreView.{as_core, node_count}

pub deep_below : (c : Core) → deep-Core c ≤ node_count (as_core c)
deep_below True = omega arith
deep_below (Atom rel index x y) = omega arith
deep_below (Rel e holes place x y) = omega arith
deep_below (Nf index x) = omega arith
deep_below (Is x t) = omega arith
deep_below (Not f) = omega arith
deep_below (And f g) = omega arith
deep_below (Or f g) = omega arith
deep_below (Iff f g) = omega arith
deep_below (Exists n f) = omega arith
deep_below (Infinite n f) = omega arith
