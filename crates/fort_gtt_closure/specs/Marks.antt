-- Inside: truths of a table of pairs of a right and a left state, row by row.
use Rattle.std.specs.Prelude.{◌≡◌, ℕ, ◌+◌, ◌*◌, ◌<◌, List, Bool, true, false, slice_index_or, length, nat_eq}
use Rattle.std.specs.List.{list_any}
use Rattle.fort_gtt_closure.specs.declared.groups.Groups.{Groups}
use Rattle.fort_gtt_closure.specs.declared.marks.Shape.{Shape}
use Rattle.fort_gtt_closure.specs.Groups.{lists, group}

abbrev pub IsSet : List Bool → ℕ → Type 0
IsSet cells i = slice_index_or cells i false ≡ true

abbrev pub KeepsSet : List Bool → List Bool → Type 0
KeepsSet old new = (i : ℕ) → IsSet old i → IsSet new i

abbrev pub IsMarked : Shape → List Bool → ℕ → ℕ → Type 0
IsMarked shape cells p q = p < shape.height → q < shape.width → IsSet cells (p * shape.width + q)

-- where the square table leads from p to b, p is a second number of the group under b
pub record AreSources (height : ℕ) (through : List Bool) (sources : Groups) : Type 0 where
  pub count_same : length (lists sources) ≡ height
  pub each : (p b : ℕ) → p < height → b < height → IsSet through (p * height + b) → list_any (λ pair. nat_eq pair.1 p) (group sources b) ≡ true
