-- To believe: what stays where one block is written, or one more is appended.
use Rattle.std.specs.Prelude.{◌≡◌, ℕ, ◌+◌, ◌<◌, List, length}
use Rattle.fort_class_blocks.specs.Blocks.{Block, AreClasses, counts_at, target_of}

-- all counts stay, and the targets of all blocks but one
pub record KeepsBlocks (block : ℕ) (old new : List Block) : Type 0 where
  pub count : length new ≡ length old
  pub counts : (b : ℕ) → counts_at new b ≡ counts_at old b
  pub targets : (b : ℕ) (cs : List ℕ) → b < length old → AreClasses (counts_at old b) cs → (b ≡ block → ⊥) → target_of new b cs ≡ target_of old b cs

-- the same blocks and one more
pub record HasBlock (old new : List Block) (counts : List ℕ) : Type 0 where
  pub count : length new ≡ length old + 1
  pub last : counts_at new (length old) ≡ counts
  pub counts_stay : (b : ℕ) → b < length old → counts_at new b ≡ counts_at old b
  pub targets_stay : (b : ℕ) (cs : List ℕ) → b < length old → AreClasses (counts_at old b) cs → target_of new b cs ≡ target_of old b cs
