-- Law: the number of nodes of a formula falls from a formula to its operands.
use Rattle.std.specs.Prelude.{◌≤◌}
use Rattle.std.proofs.Common.{arith}
use Rattle.fort_formulas.specs.declared.surface.Formula.{Formula}
use Rattle.fort_formulas.specs.declared.surface.Formula.TheVariants.{True, False, Rel, Rex, Nf, Join, Sn, Macro, Com, Not, And, Or, Imp, Iff, Exists, Forall, Infinite}
use Rattle.fort_formulas.specs.declared.surface.Operand.TheDeep.{deep-Formula}
use Rattle.fort_formulas.specs.FormulaView.{as_formula, node_count}

pub deep_below : (f : Formula) → deep-Formula f ≤ node_count (as_formula f)
deep_below True = omega arith
deep_below False = omega arith
deep_below (Rel rel a b index) = omega arith
deep_below (Rex e holes place a b) = omega arith
deep_below (Nf a index) = omega arith
deep_below (Join a b index) = omega arith
deep_below (Sn a index) = omega arith
deep_below (Macro m index) = omega arith
deep_below Com = omega arith
deep_below (Not f) = omega arith
deep_below (And f g) = omega arith
deep_below (Or f g) = omega arith
deep_below (Imp f g) = omega arith
deep_below (Iff f g) = omega arith
deep_below (Exists x f) = omega arith
deep_below (Forall x f) = omega arith
deep_below (Infinite x f) = omega arith
