-- Sides without a variable that stands twice are a linear variable-separated rule.
use Rattle.std.specs.Prelude.{◌≡◌, ℕ, List}
use Rattle.fort_theory.specs.Sides.{Side, IsLinearSeparated, variables}
use Rattle.fort_terms.specs.Overlaps.{OverlapNowhere}

pub IsLinearSeparated-nowhere : (left right : Side) (vs ws : List ℕ) → vs ≡ variables left → ws ≡ variables right → OverlapNowhere vs ws
    → IsLinearSeparated (record { left = left; right = right })
IsLinearSeparated-nowhere left right vs ws left_are right_are nowhere =
    let here : OverlapNowhere (variables left) (variables right) =
    rw (← left_are, ← right_are) nowhere in
    record { left = here.left_distinct; right = here.right_distinct; separated = here.apart }
