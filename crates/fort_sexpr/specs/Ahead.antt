-- Inside: the tally of a text, which is kept without reading its forms.
use Rattle.std.specs.Prelude.{◌≡◌, ℕ, ◌+◌, ◌<◌, ◌≤◌, List, length, slice_index}
use Rattle.fort_grammar.specs.Text.{count_before, deepest, IsFaultlessBelow}
use Rattle.fort_sexpr.specs.declared.ahead.Tally.{Tally}
use Rattle.fort_sexpr.specs.Progress.{comment_before}

-- the part of the text before the offset is without fault, and this is the tally of it
pub record IsTally (text : List ℕ) (i : ℕ) (tally : Tally) : Type 0 where
  pub within : i ≤ length text
  pub faultless : IsFaultlessBelow text i
  pub comment : comment_before text i ≡ tally.in_comment
  pub balanced : count_before 40 text i ≡ count_before 41 text i + tally.height
  pub shallow : tally.height ≤ deepest
  pub lists : count_before 40 text i ≡ tally.lists

-- the byte stands in the text at the offset
pub record IsByteAt (text : List ℕ) (i byte : ℕ) : Type 0 where
  pub within : i < length text
  pub is : slice_index text i ≡ byte

-- the piece stands in the text from the offset on
abbrev pub IsPieceAt : (text : List ℕ) → ℕ → List ℕ → Type 0
IsPieceAt text from piece = (k : ℕ) → k < length piece → IsByteAt text (from + k) (slice_index piece k)
