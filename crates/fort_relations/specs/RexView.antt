-- To believe: which expression of the definitions an expression of the program is.
use Rattle.std.specs.Prelude.{ℕ, suc, ◌+◌}
use Rattle.fort_theory.specs.Expressions as theory
use Rattle.fort_relations.specs.declared.rex.Rex.{Rex}
use Rattle.fort_relations.specs.declared.rex.Rex.TheVariants.{Root, Inv, Union, Comp, Clos}

abbrev pub as_expression : Rex → theory.Expression
as_expression (Root index) = theory.RootSteps index
as_expression (Inv e) = theory.Inverse e
as_expression (Union a b) = theory.Union a b
as_expression (Comp a b) = theory.Composition a b
as_expression (Clos e) = theory.Closure e

-- the number of nodes
abbrev pub node_count : theory.Expression → ℕ
node_count (theory.RootSteps index) = 1
node_count (theory.Inverse e) = suc (node_count e)
node_count (theory.Union a b) = suc (node_count a + node_count b)
node_count (theory.Composition a b) = suc (node_count a + node_count b)
node_count (theory.Closure e) = suc (node_count e)
