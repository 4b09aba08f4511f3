-- To believe: a class's targets by the classes of the other places; classes of one place with equal targets are one, by the first of them.
use Rattle.std.specs.Prelude.{◌≡◌, ℕ, ◌<◌, ◌≤◌, List, set, length, get_or}
use Rattle.fort_class_blocks.specs.Blocks.{Block, AreClasses, product, cell_of, target_of}

-- the counts of the other places' classes: at this one there is one class
abbrev pub others_of : List ℕ → ℕ → List ℕ
others_of counts place = set counts place 1

-- the targets of the combinations with this class at a place, by the numbers of the others' combinations
pub record IsSlice (bs : List Block) (b : ℕ) (counts : List ℕ) (place class : ℕ) (slice : List ℕ) : Type 0 where
  pub count : length slice ≡ product (others_of counts place)
  pub targets_are : (cs : List ℕ) → AreClasses (others_of counts place) cs → get_or slice (cell_of (others_of counts place) cs) 0 ≡ target_of bs b (set cs place class)

-- each class has a new number, and each new one the first class that has it: another class with the same number has the same targets
pub record IsRenumbering (bs : List Block) (b : ℕ) (counts : List ℕ) (place : ℕ) (numbers firsts : List ℕ) : Type 0 where
  pub count : length numbers ≡ get_or counts place 0
  pub within : (c : ℕ) → c < length numbers → get_or numbers c 0 < length firsts
  pub least : (c : ℕ) → c < length numbers → get_or firsts (get_or numbers c 0) 0 ≤ c
  pub firsts_low : (i : ℕ) → i < length firsts → get_or firsts i 0 < length numbers
  pub own : (i : ℕ) → i < length firsts → get_or numbers (get_or firsts i 0) 0 ≡ i
  pub rises : (i k : ℕ) → i < k → k < length firsts → get_or firsts i 0 < get_or firsts k 0
  pub same : (c : ℕ) (cs : List ℕ) → c < length numbers → AreClasses counts cs → get_or cs place 0 ≡ c → target_of bs b cs ≡ target_of bs b (set cs place (get_or firsts (get_or numbers c 0) 0))
