-- To believe: the parts of a core formula are its different subformulas, numbered by their first places.
use Rattle.std.specs.Prelude.{List}
use Rattle.fort_theory.specs.Cores.{Core}
use Rattle.fort_theory.specs.EachOnce.{AreEachOnce}
use Rattle.fort_theory.specs.Parts.{postorder}

abbrev pub AreParts : Core → List Core → Type 0
AreParts f parts = AreEachOnce (postorder f) parts
