-- Inside: places by the symbols at their roots.
use Rattle.std.specs.Prelude.{◌≡◌, ℕ, ◌<◌, List, [], ◌∷◌, ◌++◌, map, length, get_or, Contains, Option, None, Some, Bool, ◌+◌, ◌&&◌, ◌==◌, if◌then◌else◌, vec_items}
use Rattle.fort_alike.specs.PatternNumbers.{PatternNumber, number_inside}
use Rattle.fort_label_bits.specs.declared.rooted.Rooted.{Rooted}

abbrev pub list_at : List (List ℕ) → ℕ → List ℕ
list_at lists g = get_or lists g []

abbrev pub lists_of : Rooted → List (List ℕ)
lists_of r = map vec_items r.by_symbol.items

abbrev pub places_at : Rooted → ℕ → List ℕ
places_at r g = list_at (lists_of r) g

-- each place is listed under its root, or with those of any root
pub record IsRooted (roots : List (Option ℕ)) (r : Rooted) : Type 0 where
  pub there : (k g : ℕ) → k < length roots → get_or roots k None ≡ Some g → Contains (places_at r g) k
  pub any : (k : ℕ) → k < length roots → get_or roots k None ≡ None → Contains r.any.items k
  pub within : (g k : ℕ) → Contains (places_at r g) k → k < length roots
  pub within_any : (k : ℕ) → Contains r.any.items k → k < length roots

-- one more place
abbrev pub HasMoreRoots : Rooted → Option ℕ → ℕ → Rooted → Type 0
HasMoreRoots old None place new = ((g : ℕ) → places_at new g ≡ places_at old g) × (new.any.items ≡ old.any.items ++ place ∷ [])
HasMoreRoots old (Some f) place new = ((g : ℕ) → places_at new g ≡ (if f == g then places_at old g ++ place ∷ [] else places_at old g)) × (new.any.items ≡ old.any.items)

-- the root of a pattern; Any has none
abbrev pub root_of : PatternNumber → Option ℕ
root_of None = None
root_of (Some w) = Some w.0

-- whether the pattern at this place has this bit and is at a node with this root
abbrev pub writes_at : ℕ → List PatternNumber → Option ℕ → List (List ℕ) → ℕ → ℕ → Bool
writes_at base patterns x ws q k = number_inside base (get_or patterns k None) x ws && (base + k == q)
