-- To believe: expressions are compared as their spellings, number by number.
use Rattle.std.specs.Prelude.{ℕ, Bool, nat_eq, List}
use Rattle.std.specs.declared.cmp.Ordering.{Ordering}
use Rattle.std.specs.Ordering.{nat_cmp}
use Rattle.std.specs.Cmp.Lexicographic.{slice_cmp}
use lib.Pointwise.{pointwise}
use Rattle.fort_theory.specs.Expressions.{Expression, RootSteps, Inverse, Union, Composition, Closure}
use Rattle.fort_relations.specs.declared.rex.Rex.{Rex}
use Rattle.fort_relations.specs.ExpressionCode.{spelled}
use Rattle.fort_relations.specs.RexView.{as_expression}

abbrev pub rex_spelled : Rex → List ℕ
rex_spelled r = spelled (as_expression r)

abbrev pub same_numbers : List ℕ → List ℕ → Bool
same_numbers = pointwise nat_eq

abbrev pub numbers_order : List ℕ → List ℕ → Ordering
numbers_order = slice_cmp nat_cmp

-- the place of the node, with which a spelling begins
abbrev pub node_place : Expression → ℕ
node_place (RootSteps index) = 0
node_place (Inverse e) = 1
node_place (Union a b) = 2
node_place (Composition a b) = 3
node_place (Closure e) = 4
