-- Inside: what the states of a part's table tell, once it is reduced, or as it is.
use Rattle.std.specs.Prelude.{Bool, true, false}
use Rattle.fort_theory.specs.Patterns.{PatternSystem}
use Rattle.fort_theory.specs.Cores.{Core}
use Rattle.fort_tables.specs.Agreement.{Agreement}
use Rattle.fort_parts.specs.AlikeParts.{AlikeAt}
use Rattle.fort_parts.specs.ReducedParts.{InterchangeableAt}

abbrev pub ToldWith : (reduces : Bool) → PatternSystem → Core → Agreement
ToldWith true system = InterchangeableAt system
ToldWith false system = AlikeAt system
