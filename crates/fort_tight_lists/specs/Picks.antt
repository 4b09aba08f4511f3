-- To believe: combinations of classes by their new numbers, and by the first classes that have these.
use Rattle.std.specs.Prelude.{◌≡◌, ℕ, ◌<◌, ◌^◌, List, [], map, length, get_or}
use Rattle.fort_tables.specs.Tuples.{tabulate}
use Rattle.fort_class_blocks.specs.Blocks.{Block, AreClasses, counts_at, target_of}
use Rattle.fort_tight_lists.specs.Slices.{IsRenumbering}

-- the new number of each place's class
abbrev pub renumbered : List (List ℕ) → List ℕ → List ℕ
renumbered numbers cs = tabulate (length numbers) (λ j. get_or (get_or numbers j []) (get_or cs j 0) 0)

-- each place has its renumbering
pub record AreRenumberings (bs : List Block) (b : ℕ) (counts : List ℕ) (numbers firsts : List (List ℕ)) : Type 0 where
  pub numbers_all : length numbers ≡ length counts
  pub firsts_all : length firsts ≡ length counts
  pub each : (j : ℕ) → j < length counts → IsRenumbering bs b counts j (get_or numbers j []) (get_or firsts j [])

-- a block has, for each combination of new numbers, the target of the first classes that have them
pub record IsPicked (old : List Block) (b : ℕ) (firsts : List (List ℕ)) (new : List Block) (d : ℕ) : Type 0 where
  pub targets_are : (ds : List ℕ) → AreClasses (map (length {A = ℕ}) firsts) ds → target_of new d ds ≡ target_of old b (renumbered firsts ds)

-- the first classes of each place can be counted in a word, and are classes of the block
pub record AreFirsts (old : List Block) (b : ℕ) (firsts : List (List ℕ)) : Type 0 where
  pub small : (j : ℕ) → length (get_or firsts j []) < 2 ^ 32
  pub classes : (ds : List ℕ) → AreClasses (map (length {A = ℕ}) firsts) ds → AreClasses (counts_at old b) (renumbered firsts ds)
