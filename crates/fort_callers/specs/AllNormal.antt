-- To believe: the formula that every ground term is a normal form of the rules of index 1.
use Rattle.std.specs.Prelude.{codes}
use Rattle.fort_logic.specs.Formulas.{Var, Formula, Nf, Forall}

abbrev pub all_normal : Formula
all_normal = Forall (codes "x") (Nf (Var (codes "x")) 1)
