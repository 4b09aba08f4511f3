-- To believe: what a command line can ask: to decide a formula, to find the least terms for one, the first ones up to a height, or the first system of a family that makes one true, each with options, to check a certificate of a formula or of such terms, to decide properties of a made problem; and which text writes which number of a range.
use Rattle.std.specs.Prelude.{◌&&◌, ℕ, Bool, List, Option, Some, None, if◌then◌else◌, nat_le}
use Rattle.std.specs.Fmt.{decimal}
use Rattle.std.specs.Str.{bytes_eq}
use Rattle.std.specs.Str.Parse.{digits_value}

abbrev pub Text : Type 0
Text = List ℕ

-- the cap on each part, and whether the table of each part is reduced
pub record Options : Type 0 where
  pub states : ℕ
  pub reduces : Bool

-- how high terms may be, and how many solutions are wanted
pub record Bounds : Type 0 where
  pub height : ℕ
  pub most : ℕ

-- how many rules the systems of a family have, and how high the sides of its rules may be
pub record Family : Type 0 where
  pub count : ℕ
  pub height : ℕ

-- options, whether the certificate is to be written, the bounds of solutions, the family, the formula's text; for a sample its size
pub data Request : Type 0 where
  Decide : (options : Options) → (certificate : Bool) → (formula : Text) → Request
  Witness : (options : Options) → (certificate : Bool) → (formula : Text) → Request
  Check : (formula : Text) → Request
  Sample : (n : ℕ) → Request
  Solutions : (options : Options) → (bounds : Bounds) → (formula : Text) → Request
  Confirm : (formula : Text) → Request
  Synth : (options : Options) → (family : Family) → (formula : Text) → Request

-- the number from low to high whose decimal digits, with no needless zero, are the text
unfoldable pub number_in : ℕ → ℕ → List ℕ → Option ℕ
number_in low high text = if nat_le low (digits_value 10 text) && (nat_le (digits_value 10 text) high && bytes_eq text (decimal (digits_value 10 text)))
    then Some (digits_value 10 text) else None
