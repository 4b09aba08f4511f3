-- There is at most one proof that something is an operand, or that states are the pure ones.
use Rattle.std.proofs.Common.{ℕ, List}
use Rattle.std.proofs.Props.{props}
use Rattle.fort_theory.specs.Signatures.{Signature}
use Rattle.fort_tables.specs.Tables.{Table}
use Rattle.fort_tables.specs.Products.{Operand, OfTable, OfTruth, IsOperand, AreOperands}
use Rattle.fort_tables.specs.Projections.{ArePure}

pub IsOperand-prop : (sig : Signature) (columns : ℕ) (o : Operand) → IsProp (IsOperand sig columns o)
IsOperand-prop sig columns (OfTable table places) = hlevel props
IsOperand-prop sig columns (OfTruth b) = hlevel props

pub AreOperands-prop : (sig : Signature) (columns : ℕ) (first second : Operand) → IsProp (AreOperands sig columns first second)
AreOperands-prop sig columns first second = hlevel (props, IsOperand-prop)

pub ArePure-prop : (body : Table) (c : ℕ) (states : List ℕ) → IsProp (ArePure body c states)
ArePure-prop body c states = hlevel props
