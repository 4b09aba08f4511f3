-- Law: equal core formulas feed a hasher alike.
use Rattle.std.specs.Prelude.{◌≡◌, true}
use Rattle.std.specs.Ordering.{on}
use Rattle.std.proofs.Common.{ap}
use Rattle.fort_theory.specs.Cores as theory
use Rattle.fort_formulas.specs.declared.core_formula.Core.{Core}
use Rattle.fort_formulas.specs.CoreCode.{spelled}
use Rattle.fort_formulas.specs.CoreView.{as_core}
use Rattle.fort_formulas.specs.CoreKeys.{core_spelled, same_marks}
use Rattle.fort_formulas.specs.CoreKeyLaws.{arm_eq-Decides}
use Rattle.fort_formulas.specs.CoreHash.{core_hash}

pub arm_hash-respects_eq : (f g : theory.Core) → on spelled same_marks f g ≡ true → core_hash f ≡ core_hash g
arm_hash-respects_eq f g e = ap core_hash ((arm_eq-Decides f g).0 e)

pub Core_hash-respects_eq : (c d : Core) → on core_spelled same_marks c d ≡ true → core_hash (as_core c) ≡ core_hash (as_core d)
Core_hash-respects_eq c d e = arm_hash-respects_eq (as_core c) (as_core d) e
