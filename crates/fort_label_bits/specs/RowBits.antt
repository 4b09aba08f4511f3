-- To believe: the bits of a label, counted from its second word, and tests of the children of an entry by them.
use Rattle.std.specs.Prelude.{◌≡◌, ℕ, List, map, drop, get_or, Bool, false, []}
use Rattle.fort_tables.specs.BitRows.{has_bit, AreWords}

-- the labels of an entry's states
abbrev pub labels_at : List (List ℕ) → List ℕ → List (List ℕ)
labels_at labels kids = map (λ q. get_or labels q []) kids

abbrev pub bit_of : ℕ → List ℕ → Bool
bit_of q w = has_bit (drop 1 w) q

-- the label's bits are these, and no other bit is on
abbrev pub HasBits : List Bool → List ℕ → Type 0
HasBits bits w = (q : ℕ) → bit_of q w ≡ get_or bits q false

-- a label of this first word and these bits
pub record IsRow (first : ℕ) (bits : List Bool) (w : List ℕ) : Type 0 where
  pub first_is : get_or w 0 0 ≡ first
  pub words : AreWords w
  pub bits_are : HasBits bits w
