-- Inside: whether a pair of patterns, given by numbers, follows from listed pairs.
use Rattle.std.specs.Prelude.{ℕ, ◌+◌, ◌*◌, List, [], ◌∷◌, length, get_or, None, Some, nat_lt, Bool, true, false, ◌==◌, ◌&&◌, ◌||◌}
use Rattle.std.specs.List.{list_any}
use Rattle.fort_tables.specs.BitRows.{has_bit}
use Rattle.fort_alike.specs.PatternNumbers.{PatternNumber}
use Rattle.fort_label_bits.specs.declared.rule_places.RulePlaces.{RulePlaces}
use Rattle.fort_label_bits.specs.RulePlaces.{no_rule}
use Rattle.fort_alike.specs.ListedClosures.{Why, Any, Kids, Rule}

-- whether the bit of the pair is set, among pairs with so many left patterns
abbrev pub has_pair : ℕ → List ℕ → ℕ → ℕ → Bool
has_pair lefts words p q = has_bit words (p * lefts + q)

-- whether the pairs are there one by one, as many of each
abbrev pub all_pairs : (ℕ → ℕ → Bool) → List ℕ → List ℕ → Bool
all_pairs has [] [] = true
all_pairs has [] (q ∷ qs) = false
all_pairs has (p ∷ ps) [] = false
all_pairs has (p ∷ ps) (q ∷ qs) = has p q && all_pairs has ps qs

abbrev pub by_any : PatternNumber → PatternNumber → Bool
by_any None left = true
by_any (Some x) None = true
by_any (Some x) (Some y) = false

abbrev pub by_kids : (ℕ → ℕ → Bool) → PatternNumber → PatternNumber → Bool
by_kids has None left = false
by_kids has (Some x) None = false
by_kids has (Some x) (Some y) = (x.0 == y.0) && all_pairs has x.1 y.1

abbrev pub by_rule : (ℕ → ℕ → Bool) → ℕ → ℕ → RulePlaces → Bool
by_rule has p q rule = has p rule.left && has rule.right q

abbrev pub by_reason : (ℕ → ℕ → Bool) → PatternNumber → PatternNumber → List RulePlaces → ℕ → ℕ → Why → Bool
by_reason has right left rules p q Any = by_any right left
by_reason has right left rules p q Kids = by_kids has right left
by_reason has right left rules p q (Rule k) = nat_lt k (length rules) && by_rule has p q (get_or rules k no_rule)

abbrev pub follows : (ℕ → ℕ → Bool) → PatternNumber → PatternNumber → List RulePlaces → ℕ → ℕ → Bool
follows has right left rules p q = (by_any right left || by_kids has right left) || list_any (by_rule has p q) rules
