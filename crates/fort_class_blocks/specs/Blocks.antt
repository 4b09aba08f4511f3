-- To believe: what blocks of targets by classes are, the number that a combination of classes has, and what is read and written by it.
use Rattle.std.specs.Prelude.{◌≡◌, ℕ, suc, ◌+◌, ◌*◌, ◌<◌, List, [], ◌∷◌, ◌++◌, length, take, drop, set, get_or, replicate}

-- how many classes each place has, and a target for each combination of classes
pub record Block : Type 0 where
  pub counts : List ℕ
  pub cells : List ℕ

-- how many combinations there are of so many classes at each place
abbrev pub product : List ℕ → ℕ
product [] = 1
product (n ∷ ns) = n * product ns

-- a class of each place
abbrev pub AreClasses : List ℕ → List ℕ → Type 0
AreClasses [] [] = Unit {0}
AreClasses [] (c ∷ cs) = ⊥
AreClasses (n ∷ ns) [] = ⊥
AreClasses (n ∷ ns) (c ∷ cs) = (c < n) × AreClasses ns cs

-- the number of a combination in mixed radices, the last place's class the least digit
abbrev pub cell_of : List ℕ → List ℕ → ℕ
cell_of [] cs = 0
cell_of (n ∷ ns) [] = 0
cell_of (n ∷ ns) (c ∷ cs) = c * product ns + cell_of ns cs

-- a class of each place but the last
pub record AreFirstClasses (counts classes : List ℕ) : Type 0 where
  pub places : length counts ≡ suc (length classes)
  pub within : AreClasses (take (length classes) counts) classes

-- how many classes the place behind these has
abbrev pub last_count : List ℕ → List ℕ → ℕ
last_count counts classes = get_or counts (length classes) 0

abbrev pub no_block : Block
no_block = record { counts = []; cells = [] }

abbrev pub block_at : List Block → ℕ → Block
block_at bs b = get_or bs b no_block

abbrev pub counts_at : List Block → ℕ → List ℕ
counts_at bs b = (block_at bs b).counts

-- each block has as many targets as there are combinations
abbrev pub AreFull : List Block → Type 0
AreFull bs = (b : ℕ) → b < length bs → length (block_at bs b).cells ≡ product (counts_at bs b)

abbrev pub new_block : List ℕ → Block
new_block counts = record { counts = counts; cells = replicate (product counts) 0 }

abbrev pub target_in : Block → List ℕ → ℕ
target_in block classes = get_or block.cells (cell_of block.counts classes) 0

abbrev pub target_of : List Block → ℕ → List ℕ → ℕ
target_of bs b classes = target_in (block_at bs b) classes

-- the targets by the last place's class
abbrev pub row_of : Block → List ℕ → List ℕ
row_of block classes = take (last_count block.counts classes) (drop (cell_of block.counts (classes ++ 0 ∷ [])) block.cells)

-- the same block with another target in one cell
abbrev pub with_cell : Block → ℕ → ℕ → Block
with_cell block cell target = record { counts = block.counts; cells = set block.cells cell target }

abbrev pub with_target : List Block → ℕ → List ℕ → ℕ → List Block
with_target bs b classes target = set bs b (with_cell (block_at bs b) (cell_of (counts_at bs b) classes) target)
