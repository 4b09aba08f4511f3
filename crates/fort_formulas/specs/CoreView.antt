-- To believe: which core formula of the definitions a core formula of the program is.
use Rattle.std.specs.Prelude.{ℕ, suc, ◌+◌}
use Rattle.fort_theory.specs.Cores as theory
use Rattle.fort_theory.specs.Logic as logic
use Rattle.fort_relations.specs.RelView.{as_rel}
use Rattle.fort_relations.specs.HolesView.{as_hole_number, as_hole_place}
use Rattle.fort_relations.specs.RexView.{as_expression}
use Rattle.fort_formulas.specs.declared.core_formula.Core.{Core}
use Rattle.fort_formulas.specs.declared.core_formula.Core.TheVariants.{True, Atom, Rel, Nf, Is, Not, And, Or, Iff, Exists, Infinite}

abbrev pub as_core : Core → theory.Core
as_core True = theory.True
as_core (Atom rel index x y) = theory.Leaf (theory.Related (as_rel rel) index x y)
as_core (Rel e holes place x y) = theory.Leaf (theory.InContext (as_expression e) (as_hole_number holes) (as_hole_place place) x y)
as_core (Nf index x) = theory.Leaf (theory.Normal index x)
as_core (Is x t) = theory.Leaf (theory.IsTerm x t)
as_core (Not f) = theory.Not f
as_core (And f g) = theory.Binary logic.And f g
as_core (Or f g) = theory.Binary logic.Or f g
as_core (Iff f g) = theory.Binary logic.Iff f g
as_core (Exists n f) = theory.Exists n f
as_core (Infinite n f) = theory.Infinite n f

-- the number of nodes
abbrev pub node_count : theory.Core → ℕ
node_count theory.True = 1
node_count (theory.Leaf a) = 1
node_count (theory.Not f) = suc (node_count f)
node_count (theory.Binary op f g) = suc (node_count f + node_count g)
node_count (theory.Exists n f) = suc (node_count f)
node_count (theory.Infinite n f) = suc (node_count f)
