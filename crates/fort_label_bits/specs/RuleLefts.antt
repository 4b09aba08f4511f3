-- Inside: rules by the places of their left sides, and the search for one that has both its bits in a label.
use Rattle.std.specs.Prelude.{◌≡◌, ℕ, ◌+◌, ◌<◌, List, length, get_or, Contains, Bool, false, ◌&&◌}
use Rattle.std.specs.List.{list_any}
use Rattle.fort_label_bits.specs.RowBits.{bit_of}
use Rattle.fort_label_bits.specs.RootPlaces.{list_at}
use Rattle.fort_label_bits.specs.RulePlaces.{no_rule}
use Rattle.fort_label_bits.specs.declared.rule_places.RulePlaces.{RulePlaces}

-- some rule has both its bits in the label, those of right sides from this one on
abbrev pub has_both : ℕ → List ℕ → RulePlaces → Bool
has_both base w r = bit_of r.left w && bit_of (base + r.right) w

abbrev pub some_rule : ℕ → List RulePlaces → List ℕ → Bool
some_rule base rules w = list_any (has_both base w) rules

-- each rule is listed under its left side, by its place among the rules
pub record AreUnderLefts (rules : List RulePlaces) (under : List (List ℕ)) : Type 0 where
  pub there : (k : ℕ) → k < length rules → Contains (list_at under (get_or rules k no_rule).left) k
  pub within : (left k : ℕ) → Contains (list_at under left) k → k < length rules

-- whether the rule at this place has both its bits
abbrev pub both_at : ℕ → List ℕ → List RulePlaces → ℕ → Bool
both_at base w rules k = has_both base w (get_or rules k no_rule)

-- no rule has whose left side comes before this place
abbrev pub NoneBefore : ℕ → List ℕ → List RulePlaces → ℕ → Type 0
NoneBefore base w rules from = (k : ℕ) → k < length rules → (get_or rules k no_rule).left < from → both_at base w rules k ≡ false
