-- Both formulas that a connective joins are operands of what it makes of them.
use Rattle.std.specs.Prelude.{refl}
use Rattle.std.proofs.Common.{inl, inr}
use Rattle.fort_theory.specs.Cores.{Core, Binary}
use Rattle.fort_theory.specs.Logic.{Connective}
use Rattle.fort_parts.specs.DecidedCores.{IsOperandOf}

pub operand_first : (op : Connective) (f g : Core) → IsOperandOf f (Binary op f g)
operand_first op f g = inl refl

pub operand_second : (op : Connective) (f g : Core) → IsOperandOf g (Binary op f g)
operand_second op f g = inr refl
