-- Inside: rules by the symbols at the roots of their sides, and what those of one root add to a label.
use Rattle.std.specs.Prelude.{ℕ, List, map, length, get_or, Option, None, Bool, ◌&&◌}
use Rattle.fort_alike.specs.PatternNumbers.{PatternNumber, number_inside}
use Rattle.fort_label_bits.specs.RowBits.{bit_of}
use Rattle.fort_label_bits.specs.RootPlaces.{IsRooted, root_of}
use Rattle.fort_context_closure.specs.ReachRows.{firsts_of, seconds_of}
use Rattle.fort_label_bits.specs.BitRowLists.{row_in}
use Rattle.fort_context_closure.specs.declared.reach.Reach.{Reach}
use Rattle.fort_context_closure.specs.declared.reached.RuleRoots.{RuleRoots}
use Rattle.fort_label_bits.specs.RulePlaces.{no_rule}
use Rattle.fort_label_bits.specs.declared.rule_places.RulePlaces.{RulePlaces}

abbrev pub left_roots : List PatternNumber → List RulePlaces → List (Option ℕ)
left_roots lefts rules = map (λ (r : RulePlaces). root_of (get_or lefts r.left None)) rules

abbrev pub right_roots : List PatternNumber → List RulePlaces → List (Option ℕ)
right_roots rights rules = map (λ (r : RulePlaces). root_of (get_or rights r.right None)) rules

pub record AreRuleRoots (lefts rights : List PatternNumber) (rules : List RulePlaces) (roots : RuleRoots) : Type 0 where
  pub left_sides : IsRooted (left_roots lefts rules) roots.lefts
  pub right_sides : IsRooted (right_roots rights rules) roots.rights

-- whether a rule adds a bit since its left side is at the root
abbrev pub start_adds : (lefts : List PatternNumber) → Reach → Option ℕ → List (List ℕ) → ℕ → RulePlaces → Bool
start_adds lefts reach x ws q r = number_inside 0 (get_or lefts r.left None) x ws && bit_of q (row_in (firsts_of reach) r.right)

-- whether it does since its right side is
abbrev pub end_adds : (lefts rights : List PatternNumber) → Reach → Option ℕ → List (List ℕ) → ℕ → RulePlaces → Bool
end_adds lefts rights reach y ws q r = number_inside (length lefts) (get_or rights r.right None) y ws && bit_of q (row_in (seconds_of reach) r.left)

abbrev pub starts_at : (lefts : List PatternNumber) → Reach → Option ℕ → List (List ℕ) → ℕ → List RulePlaces → ℕ → Bool
starts_at lefts reach x ws q rules k = start_adds lefts reach x ws q (get_or rules k no_rule)

abbrev pub ends_at : (lefts rights : List PatternNumber) → Reach → Option ℕ → List (List ℕ) → ℕ → List RulePlaces → ℕ → Bool
ends_at lefts rights reach y ws q rules k = end_adds lefts rights reach y ws q (get_or rules k no_rule)
