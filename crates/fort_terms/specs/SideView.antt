-- To believe: which side of the definitions a side of the program is.
use Rattle.std.specs.Prelude.{ℕ, suc, ◌+◌, List, [], ◌∷◌}
use Rattle.fort_theory.specs.Sides as theory
use Rattle.fort_terms.specs.declared.side.Side.{Side}
use Rattle.fort_terms.specs.declared.side.Side.TheVariants.{Var, App}

abbrev pub as_side : Side → theory.Side
as_side (Var v) = theory.Var v
as_side (App f ss) = theory.App f.0 ss

abbrev pub as_sides : List Side → theory.Sides
as_sides [] = theory.NoSide
as_sides (s ∷ ss) = theory.MoreSides (as_side s) (as_sides ss)

-- the number of nodes
abbrev mutual
  pub node_count : theory.Side → ℕ
  node_count (theory.Var v) = 1
  node_count (theory.App f ss) = suc (node_counts ss)

  pub node_counts : theory.Sides → ℕ
  node_counts theory.NoSide = 0
  node_counts (theory.MoreSides s ss) = node_count s + node_counts ss
