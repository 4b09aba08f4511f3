-- Inside: two child states as a list.
use Rattle.std.specs.Prelude.{ℕ, List, [], ◌∷◌, Option, None, Some}
use Rattle.fort_entry_walk.specs.declared.kid_row.KidPair.{KidPair}

abbrev pub pair_list : KidPair → List ℕ
pair_list p = p.kid ∷ p.other ∷ []

abbrev pub two_kids : Option KidPair → Option (List ℕ)
two_kids None = None
two_kids (Some p) = Some (pair_list p)
