-- To believe: a rule by the places of its sides in two lists of patterns.
use Rattle.std.specs.Prelude.{◌≡◌, ◌<◌, List, map, length, get_or, Contains}
use Rattle.fort_theory.specs.Patterns.{Pattern, Any, Pair}
use Rattle.fort_label_bits.specs.declared.rule_places.RulePlaces.{RulePlaces}

abbrev pub pair_at : (lefts rights : List Pattern) → RulePlaces → Pair
pair_at lefts rights r = (get_or lefts r.left Any, get_or rights r.right Any)

abbrev pub AreWithin : (lefts rights : List Pattern) → List RulePlaces → Type 0
AreWithin lefts rights rules = (r : RulePlaces) → Contains rules r → (r.left < length lefts) × (r.right < length rights)

-- the places are those of these pairs
pub record ArePlacesOf (lefts rights : List Pattern) (pairs : List Pair) (rules : List RulePlaces) : Type 0 where
  pub pairs_are : map (pair_at lefts rights) rules ≡ pairs
  pub within : AreWithin lefts rights rules

abbrev pub no_rule : RulePlaces
no_rule = record { left = 0; right = 0 }
