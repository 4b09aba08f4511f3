-- Inside: the first reason why two sides with these variables are no rule, and that there is none.
use Rattle.std.specs.Prelude.{ℕ, List, Contains, nat_eq}
use Rattle.std.specs.List.{IsDistinct}
use Rattle.fort_terms.specs.declared.occurrences.Overlap.{Overlap}
use Rattle.fort_terms.specs.declared.occurrences.Overlap.TheVariants.{InLeft, InRight, Between}
use Rattle.fort_terms.specs.RuleFaults.{IsFirstRepeated, IsFirstShared}

abbrev pub IsOverlap : List ℕ → List ℕ → Overlap → Type 0
IsOverlap left right (InLeft v) = IsFirstRepeated left v
IsOverlap left right (InRight v) = IsDistinct nat_eq left × IsFirstRepeated right v
IsOverlap left right (Between v) = IsDistinct nat_eq left × IsDistinct nat_eq right × IsFirstShared left right v

pub record OverlapNowhere (left right : List ℕ) : Type 0 where
  pub left_distinct : IsDistinct nat_eq left
  pub right_distinct : IsDistinct nat_eq right
  pub apart : (v : ℕ) → Contains left v → Contains right v → ⊥
