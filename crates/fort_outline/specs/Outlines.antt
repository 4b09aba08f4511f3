-- To believe: what an outline says of a core formula: its parts by their roots, the columns of each, and the last part that needs it.
use Rattle.std.specs.Prelude.{◌≡◌, ℕ, ◌<◌, ◌≤◌, ◌⊎◌, List, get_or, length, vec_items}
use Rattle.std.specs.declared.alloc.Global.{Global}
use Rattle.std.specs.declared.vec.Vec.{Vec}
use Rattle.fort_theory.specs.Cores as core
use Rattle.fort_theory.specs.Cores.{Core}
use Rattle.fort_theory.specs.PartLists.{AreParts}
use Rattle.fort_parts.specs.PartColumns.{columns_of}
use Rattle.fort_parts.specs.DecidedCores.{IsOperandOf}
use Rattle.fort_outline.specs.Roots.{cores_of, AreInOrder}
use Rattle.fort_outline.specs.declared.outline.Outline.{Outline}

-- no part after `last` has part j as an operand
abbrev pub IsLastUse : List Core → ℕ → ℕ → Type 0
IsLastUse parts j last = (i : ℕ) → i < length parts → IsOperandOf (get_or parts j core.True) (get_or parts i core.True) → i ≤ last

-- part `last` has part j as an operand, or it is 0
abbrev pub IsUseOf : List Core → ℕ → ℕ → Type 0
IsUseOf parts j last = (last ≡ 0) ⊎ IsOperandOf (get_or parts j core.True) (get_or parts last core.True)

-- one for each part, which is its last use, or 0 where it has none; that of the whole formula is behind all
pub record AreLastUses (parts : List Core) (whole : ℕ) (uses : List ℕ) : Type 0 where
  pub count : length uses ≡ length parts
  pub each : (j : ℕ) → j < length parts → IsLastUse parts j (get_or uses j 0)
  pub exact : (j : ℕ) → j < length parts → (j ≡ whole → ⊥) → IsUseOf parts j (get_or uses j 0)
  pub whole_is : length parts ≤ get_or uses whole 0

-- the columns of the first parts
abbrev pub AreColumnsOf : List Core → List (Vec ℕ Global) → Type 0
AreColumnsOf parts lists = (k : ℕ) (d : Vec ℕ Global) → k < length lists → vec_items (get_or lists k d) ≡ columns_of (get_or parts k core.True)

-- the parts of an outline
abbrev pub parts_in : Outline → List Core
parts_in o = cores_of o.roots.items

-- part k
abbrev pub core_at : Outline → ℕ → Core
core_at o k = get_or (parts_in o) k core.True

pub record IsOutlineOf (f : Core) (o : Outline) : Type 0 where
  pub parts : AreParts f (parts_in o)
  pub in_order : AreInOrder o.roots.items
  pub count : length o.columns.items ≡ length o.roots.items
  pub columns : AreColumnsOf (parts_in o) o.columns.items
  pub uses : AreLastUses (parts_in o) o.whole o.last_uses.items
  pub within : o.whole < length o.roots.items
  pub whole_is : get_or (parts_in o) o.whole core.True ≡ f
