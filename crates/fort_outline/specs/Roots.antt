-- To believe: which core formulas a list of roots is: each with the formulas of its operands, which stand before it.
use Rattle.std.specs.Prelude.{ℕ, ◌<◌, Bool, false, ◌||◌, ◌==◌, List, [], ◌∷◌, ◌++◌, get_or, length}
use Rattle.fort_theory.specs.Cores as core
use Rattle.fort_theory.specs.Cores.{Core}
use Rattle.fort_connectives.specs.ConnectiveView.{connective_of}
use Rattle.fort_outline.specs.declared.root.Root.{Root}
use Rattle.fort_outline.specs.declared.root.Root.TheVariants.{True, Leaf, Not, Binary, Exists, Infinite}
use Rattle.fort_outline.specs.LeafView.{as_atom}

-- the formula with this root, its operands being parts by their numbers
abbrev pub root_core : List Core → Root → Core
root_core parts True = core.True
root_core parts (Leaf a) = core.Leaf (as_atom a)
root_core parts (Not f) = core.Not (get_or parts f core.True)
root_core parts (Binary op f g) = core.Binary (connective_of op) (get_or parts f core.True) (get_or parts g core.True)
root_core parts (Exists n f) = core.Exists n (get_or parts f core.True)
root_core parts (Infinite n f) = core.Infinite n (get_or parts f core.True)

-- the formulas of these roots behind those that are there
abbrev pub cores_behind : List Core → List Root → List Core
cores_behind parts [] = parts
cores_behind parts (r ∷ rs) = cores_behind (parts ++ root_core parts r ∷ []) rs

-- the parts that a list of roots is
abbrev pub cores_of : List Root → List Core
cores_of rs = cores_behind [] rs

-- its operands are among the first k parts
abbrev pub HasOperandsBelow : ℕ → Root → Type 0
HasOperandsBelow k True = Unit {0}
HasOperandsBelow k (Leaf a) = Unit {0}
HasOperandsBelow k (Not f) = f < k
HasOperandsBelow k (Binary op f g) = (f < k) × (g < k)
HasOperandsBelow k (Exists n f) = f < k
HasOperandsBelow k (Infinite n f) = f < k

-- the operands of each stand before it
abbrev pub AreInOrder : List Root → Type 0
AreInOrder rs = (k : ℕ) → k < length rs → HasOperandsBelow k (get_or rs k True)

-- part j is one of its operands
abbrev pub is_operand : ℕ → Root → Bool
is_operand j True = false
is_operand j (Leaf a) = false
is_operand j (Not f) = f == j
is_operand j (Binary op f g) = (f == j) || (g == j)
is_operand j (Exists n f) = f == j
is_operand j (Infinite n f) = f == j
