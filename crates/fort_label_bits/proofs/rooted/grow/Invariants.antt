use Rattle.std.proofs.Common.{◌≡◌, ℕ, ◌-◌, map, length, vec_items}
use Rattle.fort_label_bits.specs.RootPlaces.{list_at}
use Rattle.fort_label_bits.proofs.rooted.grow.Given as goal

abbrev pub invariant-lists : goal.invariant-lists
invariant-lists l = (g : ℕ) → list_at (map vec_items l.lists.items) g ≡ list_at (map vec_items l.initial.lists.items) g

abbrev pub decreases-lists : goal.decreases-lists
decreases-lists l = l.count - length l.lists.items
