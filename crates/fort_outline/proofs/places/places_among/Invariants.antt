use Rattle.std.proofs.Common.{◌≡◌, ◌<◌, ℕ, length, get_or}
use Rattle.fort_parts.specs.PartColumns.{place_in}
use Rattle.fort_outline.proofs.places.places_among.Given as goal

abbrev pub invariant-loop-k : goal.invariant-loop-k
invariant-loop-k l = record {
  count : length l.places.items ≡ l.k;
  each : (j : ℕ) → j < l.k → get_or l.places.items j 0 ≡ place_in l.columns (get_or l.numbers j 0);
}
