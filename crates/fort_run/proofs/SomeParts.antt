-- Each core formula has a list of its parts.
use Rattle.std.specs.Prelude.{List}
use Rattle.std.specs.Ordering.{on}
use Rattle.fort_theory.specs.Cores.{Core}
use Rattle.fort_theory.specs.PartLists.{AreParts}
use Rattle.fort_theory.specs.Parts.{postorder}
use Rattle.fort_theory.proofs.SomeEachOnce.{some_each_once}
use Rattle.fort_formulas.specs.CoreCode.{spelled}
use Rattle.fort_formulas.specs.CoreKeys.{same_marks}
use Rattle.fort_formulas.specs.CoreKeyLaws.{arm_eq-Decides}

-- Result
pub some_parts : (f : Core) → (parts : List Core) × AreParts f parts
some_parts f = some_each_once (on spelled same_marks) arm_eq-Decides (postorder f)
