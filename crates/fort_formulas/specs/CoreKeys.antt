-- To believe: core formulas are compared as their spellings: mark by mark, and each mark number by number.
use Rattle.std.specs.Prelude.{ℕ, Bool, nat_eq, List}
use Rattle.std.specs.declared.cmp.Ordering.{Ordering}
use Rattle.std.specs.Ordering.{nat_cmp}
use Rattle.std.specs.Cmp.Lexicographic.{slice_cmp}
use lib.Pointwise.{pointwise}
use Rattle.fort_theory.specs.Cores as theory
use Rattle.fort_formulas.specs.declared.core_formula.Core.{Core}
use Rattle.fort_formulas.specs.CoreCode.{Mark, connective_place, spelled}
use Rattle.fort_formulas.specs.CoreView.{as_core}

abbrev pub core_spelled : Core → List Mark
core_spelled c = spelled (as_core c)

abbrev pub same_marks : List Mark → List Mark → Bool
same_marks = pointwise (pointwise nat_eq)

abbrev pub marks_order : List Mark → List Mark → Ordering
marks_order = slice_cmp (slice_cmp nat_cmp)

-- the place of the node, with which a spelling begins
abbrev pub core_place : theory.Core → ℕ
core_place theory.True = 0
core_place (theory.Leaf (theory.Related rel index x y)) = 1
core_place (theory.Leaf (theory.InContext e number place x y)) = 2
core_place (theory.Leaf (theory.Normal index x)) = 3
core_place (theory.Leaf (theory.IsTerm x t)) = 4
core_place (theory.Not f) = 5
core_place (theory.Binary op f g) = connective_place op
core_place (theory.Exists n f) = 9
core_place (theory.Infinite n f) = 10
