-- To believe: finitely many ground terms have heights up to some number, infinitely many have terms of every height.
use Rattle.std.specs.Prelude.{ℕ, ◌≤◌}
use Rattle.fort_theory.specs.Trees.{Tree, height}

-- no term with P is higher than r
abbrev pub HasHeightsTo : (Tree → Type 0) → ℕ → Type 0
HasHeightsTo P r = (u : Tree) → P u → height u ≤ r

-- for each height some term with P is at least as high
abbrev pub HasEveryHeight : (Tree → Type 0) → Type 0
HasEveryHeight P = (h : ℕ) → (u : Tree) × P u × (h ≤ height u)
