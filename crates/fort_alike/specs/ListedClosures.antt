-- To believe: what the list of a closure is made of, which relation a closure is of, and which relations, atoms and formulas are told by it.
use Rattle.std.specs.Prelude.{ℕ, Bool, true, false, ◌&&◌, ◌==◌}
use Rattle.fort_theory.specs.Cores as core
use Rattle.fort_theory.specs.Cores.{Atom, Core}

-- of the rules as they are, or with each rule also reversed
pub data Which : Type 0 where
  Star : Which
  Conv : Which

-- why a pair of patterns is in a closure: one of them is that of all terms; by the pairs of their children; by the rule of this number
pub data Why : Type 0 where
  Any : Why
  Kids : Why
  Rule : ℕ → Why

-- the numbers of a right and a left pattern
pub record Pair : Type 0 where
  pub p : ℕ
  pub q : ℕ
  pub why : Why

abbrev pub relation_of : Which → core.Rel
relation_of Star = core.Star
relation_of Conv = core.Conv

-- whether a relation is told by the closure of an index
abbrev pub reads : Which → core.Rel → Bool
reads Star core.Star = true
reads Star core.Plus = true
reads Conv core.Conv = true
reads which other = false

-- whether an atom asks for the closure of this index
abbrev pub atom_asks : Which → ℕ → Atom → Bool
atom_asks which i (core.Related rel index x y) = reads which rel && (index == i)
atom_asks which i (core.InContext e number place x y) = false
atom_asks which i (core.Normal index x) = false
atom_asks which i (core.IsTerm x t) = false

-- whether a formula does
abbrev pub asks : Which → ℕ → Core → Bool
asks which i (core.Leaf a) = atom_asks which i a
asks which i other = false
