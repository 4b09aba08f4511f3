-- To believe: when two optional tuples over the columns of an atom of a formula are alike at it.
use Rattle.std.specs.Prelude.{ℕ, List}
use Rattle.fort_theory.specs.Patterns.{PatternSystem}
use Rattle.fort_theory.specs.Cores.{Atom, Related, InContext, Normal, IsTerm}
use Rattle.fort_tables.specs.Tuples.{Tuple}
use Rattle.fort_alike.specs.Atoms.{relation_atom, normal_atom}
use Rattle.fort_alike.specs.Alike.{Alike}
use Rattle.fort_alike.specs.ExpressionAlike.{expression_atom, AlikeAtExpression}
use Rattle.fort_alike.specs.AlikeAtTerm.{AlikeAtTerm}

abbrev pub AlikeAtAtom : PatternSystem → Atom → List ℕ → Tuple → Tuple → Type 0
AlikeAtAtom system (Related rel index x y) columns t u = Alike (relation_atom system rel index x y columns) t u
AlikeAtAtom system (InContext e number place x y) columns t u = AlikeAtExpression (expression_atom system e number place x y columns) t u
AlikeAtAtom system (Normal index x) columns t u = Alike (normal_atom system index) t u
AlikeAtAtom system (IsTerm x term) columns t u = AlikeAtTerm term t u
