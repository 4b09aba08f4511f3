-- Inside: the formula whose certificate is checked.
use Rattle.fort_theory.specs.Cores.{Core, Star, Leaf, Related, Exists, Infinite}

-- infinitely many x go to some y
abbrev pub many_reduced : Core
many_reduced = Infinite 0 (Exists 1 (Leaf (Related Star 1 0 1)))
