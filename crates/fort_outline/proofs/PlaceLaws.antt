-- Where a number stands among columns, as a search from the front finds it.
use Rattle.std.specs.Prelude.{◌≡◌, ◌<◌, ◌≤◌, ◌==◌, ℕ, List, length, get_or, false, Contains}
use Rattle.std.proofs.Common.{sym, ◌∙◌, arith, true≢false, eq-eqb}
use Rattle.std.proofs.lemmas.List.{ext_get_or, length-map, get_or-map}
use Rattle.std.proofs.lemmas.List.Sums.{position_or_len_is}
use Rattle.std.proofs.lemmas.List.Elements.{Contains-get_or}
use Rattle.fort_parts.specs.PartColumns.{place_in, places_in}
use Rattle.fort_parts.proofs.PartColumnLaws.{place_of-member}

-- the first place of a number
pub found_number : (columns : List ℕ) (n place : ℕ) → place < length columns → ((k : ℕ) → k < place → (get_or columns k 0 == n) ≡ false)
    → get_or columns place 0 ≡ n → place ≡ place_in columns n
found_number columns n place l before e = sym (position_or_len_is (λ m. m == n) columns place 0 (omega arith) before (λ h. eq-eqb (get_or columns place 0) n e))

pub no_number : (columns : List ℕ) (n place : ℕ) → Contains columns n → length columns ≤ place → ((k : ℕ) → k < place → (get_or columns k 0 == n) ≡ false) → ⊥
no_number columns n place c l before =
    let at = place_of-member columns n c in
    true≢false (sym (eq-eqb (get_or columns (place_in columns n) 0) n at.is) ∙ before (place_in columns n) (omega (arith, at.within)))

-- the places of numbers, one after another
pub all_places : (columns numbers places : List ℕ) → length places ≡ length numbers
    → ((j : ℕ) → j < length numbers → get_or places j 0 ≡ place_in columns (get_or numbers j 0)) → places ≡ places_in columns numbers
all_places columns numbers places count each =
    ext_get_or 0 places (places_in columns numbers) (count ∙ sym (length-map numbers (place_in columns)))
    (λ i l.
    let m : i < length numbers = omega arith in
    each i m ∙ sym (get_or-map (place_in columns) numbers i 0 0 m))

-- numbers that are all among columns
pub each_among : (columns numbers : List ℕ) → ((n : ℕ) → Contains numbers n → Contains columns n) → (k : ℕ) → k < length numbers
    → Contains columns (get_or numbers k 0)
each_among columns numbers within k l = within (get_or numbers k 0) (Contains-get_or numbers k 0 l)
