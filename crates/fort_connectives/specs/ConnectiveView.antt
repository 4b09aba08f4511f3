-- To believe: which connective of the definitions a connective of the program is.
use Rattle.fort_theory.specs.Logic as logic
use Rattle.fort_connectives.specs.declared.connective.Op.{Op}
use Rattle.fort_connectives.specs.declared.connective.Op.TheVariants.{And, Or, Iff}

abbrev pub connective_of : Op → logic.Connective
connective_of And = logic.And
connective_of Or = logic.Or
connective_of Iff = logic.Iff
