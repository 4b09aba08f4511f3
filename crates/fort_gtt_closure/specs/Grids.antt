-- Inside: a table of truths, row by row, that tells which pairs are listed.
use Rattle.std.specs.Prelude.{◌≡◌, ℕ, ◌+◌, ◌*◌, ◌<◌, List, [], ◌∷◌, Bool, true, false, slice_index_or, nat_eq, ◌&&◌, ◌||◌}
use Rattle.fort_gtt_closure.specs.declared.entry.Entry.{Entry}

abbrev pub is_listed : List Entry → ℕ → ℕ → Bool
is_listed [] p q = false
is_listed (e ∷ es) p q = (nat_eq e.p p && nat_eq e.q q) || is_listed es p q

abbrev pub CellsAgree : ℕ → ℕ → List Bool → List Entry → Type 0
CellsAgree height width seen es = (p q : ℕ) → p < height → q < width → slice_index_or seen (p * width + q) false ≡ is_listed es p q

abbrev pub CellsWithin : ℕ → ℕ → List Entry → Type 0
CellsWithin height width es = (p q : ℕ) → is_listed es p q ≡ true → (p < height) × (q < width)
