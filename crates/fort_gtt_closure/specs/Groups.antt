-- Inside: pairs of numbers in groups, each group under a number.
use Rattle.std.specs.Prelude.{◌≡◌, ℕ, ◌<◌, List, [], length, map, filter, flat_map, nat_eq, vec_items, slice_index_or}
use Rattle.fort_gtt_closure.specs.declared.groups.Groups.{Groups}

abbrev pub lists : Groups → List (List (ℕ × ℕ))
lists g = map vec_items g.groups.items

abbrev pub group : Groups → ℕ → List (ℕ × ℕ)
group g number = slice_index_or (lists g) number []

-- as many groups, and the pairs in them by their first numbers
pub record AreByFirst (count : ℕ) (pairs : List (ℕ × ℕ)) (g : Groups) : Type 0 where
  pub count_same : length (lists g) ≡ count
  pub each : (number : ℕ) → number < count → group g number ≡ filter (λ pair. nat_eq pair.0 number) pairs

-- for each pair, from its first to the second of each in the group of its second
abbrev pub through : Groups → List (ℕ × ℕ) → List (ℕ × ℕ)
through g pairs = flat_map (λ pair. map (λ link. (pair.0, link.1)) (group g pair.1)) pairs
