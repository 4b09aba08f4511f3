-- To believe: the tuple of the trees that an assignment gives the numbers of a list.
use Rattle.std.specs.Prelude.{ℕ, List, map, Some}
use Rattle.fort_theory.specs.CoreTruth.{Places}
use Rattle.fort_tables.specs.Tuples.{Tuple}

abbrev pub tuple_of : Places → List ℕ → Tuple
tuple_of v ns = map (λ n. Some (v n)) ns
