-- To believe: what an operand's targets in one list are.
use Rattle.std.specs.Prelude.{Option, None, Some, IfSome}
use Rattle.std.proofs.Props.{props}
use Rattle.fort_tables.specs.Products.{Operand, OfTable, OfTruth}
use Rattle.fort_target_lists.specs.Flats.{IsFlatOf}
use Rattle.fort_target_lists.specs.declared.flat.FlatTargets.{FlatTargets}

-- those of its table; a truth has none
abbrev pub IsListOf : Operand → FlatTargets → Type 0
IsListOf (OfTable table places) list = IsFlatOf table list
IsListOf (OfTruth b) list = ⊥

IsListOf-prop : (o : Operand) (list : FlatTargets) → IsProp (IsListOf o list)
IsListOf-prop (OfTable table places) list = hlevel props
IsListOf-prop (OfTruth b) list = hlevel props

pub IfListOf-prop : {A : Type 0} (o : Operand) (list : Option A) (now : A → FlatTargets) → IsProp (IfSome list (λ l. IsListOf o (now l)))
IfListOf-prop o None now = hlevel props
IfListOf-prop o (Some l) now = IsListOf-prop o (now l)
