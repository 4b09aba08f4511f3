-- Inside: the roots that are numbered so far, and what numbering one more formula gives.
use Rattle.std.specs.Prelude.{◌≡◌, ℕ, ◌<◌, List, ◌++◌, get_or, length}
use Rattle.fort_theory.specs.Cores as core
use Rattle.fort_theory.specs.Cores.{Core}
use Rattle.fort_theory.specs.EachOnce.{AreEachOnce}
use Rattle.fort_outline.specs.declared.root.Root.{Root}
use Rattle.fort_outline.specs.Roots.{cores_of, AreInOrder}

-- no formula stands at two places
abbrev pub AreDistinct : List Core → Type 0
AreDistinct parts = (j k : ℕ) → j < length parts → k < length parts → get_or parts j core.True ≡ get_or parts k core.True → j ≡ k

-- the roots are those formulas, each once, operands before their formula
pub record AreNumbered (before : List Core) (roots : List Root) : Type 0 where
  pub once : AreEachOnce before (cores_of roots)
  pub in_order : AreInOrder roots

-- the formula is part n of the new roots, which begin with the old ones
pub record IsNumbered (before : List Core) (old new : List Root) (f : Core) (n : ℕ) : Type 0 where
  pub numbered : AreNumbered before new
  pub more : List Root
  pub longer : new ≡ old ++ more
  pub within : n < length new
  pub is : get_or (cores_of new) n core.True ≡ f
