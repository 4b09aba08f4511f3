-- Inside: how blocks of targets lie in one list, each behind the one before.
use Rattle.std.specs.Prelude.{◌≡◌, ℕ, ◌+◌, List, [], ◌∷◌, map, length, take, drop}
use Rattle.fort_class_blocks.specs.Blocks.{Block, product}
use Rattle.fort_class_blocks.specs.Shapes.{IsShape, counts_in}
use Rattle.fort_class_blocks.specs.declared.shape.Shape.{Shape}
use Rattle.fort_class_blocks.specs.declared.blocks.Blocks.TheInside.{Inside}

abbrev pub size_of : Shape → ℕ
size_of s = product (counts_in s)

abbrev pub block_in : List ℕ → Shape → Block
block_in targets s = record { counts = counts_in s; cells = take (size_of s) (drop s.start targets) }

abbrev pub blocks_in : Inside → List Block
blocks_in a = map (block_in a.targets.items) a.shapes.items

-- the blocks take the places between these two
abbrev pub AreBetween : ℕ → List Shape → ℕ → Type 0
AreBetween from [] to = from ≡ to
AreBetween from (s ∷ ss) to = IsShape s × (s.start ≡ from) × AreBetween (from + size_of s) ss to

pub record AreLaid (a : Inside) : Type 0 where
  pub between : AreBetween 0 a.shapes.items (length a.targets.items)
