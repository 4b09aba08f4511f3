-- Inside: rows of bits, one of which gets one bit more.
use Rattle.std.specs.Prelude.{◌≡◌, ℕ, ◌<◌, List, [], length, get_or, false, ◌&&◌, ◌||◌, ◌==◌}
use Rattle.fort_label_bits.specs.RowBits.{bit_of}

abbrev pub row_in : List (List ℕ) → ℕ → List ℕ
row_in rows k = get_or rows k []

-- this bit of this row is on too
pub record SetsBit (old : List (List ℕ)) (row bit : ℕ) (new : List (List ℕ)) : Type 0 where
  pub count : length new ≡ length old
  pub widths : (k : ℕ) → length (row_in new k) ≡ length (row_in old k)
  pub bits : (k q : ℕ) → bit_of q (row_in new k) ≡ (((row == k) && (bit == q)) || bit_of q (row_in old k))

-- so many rows of this width, with no bit on
pub record AreClear (count width : ℕ) (rows : List (List ℕ)) : Type 0 where
  pub many : length rows ≡ count
  pub widths : (k : ℕ) → k < count → length (row_in rows k) ≡ width
  pub bits : (k q : ℕ) → bit_of q (row_in rows k) ≡ false
