-- Inside: what a block's counts of classes are in the code.
use Rattle.std.specs.Prelude.{◌≡◌, ℕ, ◌≤◌, List, length, take}
use Rattle.fort_class_blocks.specs.declared.shape.Shape.{Shape}

abbrev pub counts_in : Shape → List ℕ
counts_in s = take s.places s.counts

pub record IsShape (s : Shape) : Type 0 where
  pub few : s.places ≤ 8
  pub size : length s.counts ≡ 8
