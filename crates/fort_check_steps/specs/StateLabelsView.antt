-- To believe: the labels of a part's states are a list of labels of one width, with room for some; narrow ones, of at most eight words, have another room than wide ones.
use Rattle.std.specs.Prelude.{ℕ, ◌*◌, ◌<◌, ◌≤◌, List}

-- words of narrow labels; words of wide labels, how many of these, and of how many words each at most
pub record Spaces : Type 0 where
  pub narrow : ℕ
  pub wide : ℕ
  pub most : ℕ
  pub widest : ℕ

pub record KeptLabels : Type 0 where
  pub width : ℕ
  pub room : ℕ
  pub spaces : Spaces
  pub labels : List (List ℕ)

-- space for so many labels of this width
pub record HasSpace (width count : ℕ) (s : Spaces) : Type 0 where
  pub narrow : width ≤ 8 → count * width ≤ s.narrow
  pub wide : 8 < width → count * width ≤ s.wide
  pub most : 8 < width → count ≤ s.most
  pub widest : 8 < width → width ≤ s.widest

-- what there was space for, there still is
pub record IsAsSpacious (old new : Spaces) : Type 0 where
  pub narrow : old.narrow ≤ new.narrow
  pub wide : old.wide ≤ new.wide
  pub most : old.most ≤ new.most
  pub widest : old.widest ≤ new.widest
