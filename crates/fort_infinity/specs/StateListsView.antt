-- Inside: the lists of states that lists of the program are.
use Rattle.std.specs.Prelude.{ℕ, List, map, vec_items}
use Rattle.std.specs.declared.alloc.Global.{Global}
use Rattle.std.specs.declared.vec.Vec.{Vec}

abbrev pub lists_of : List (Vec ℕ Global) → List (List ℕ)
lists_of lists = map (λ list. vec_items list) lists
