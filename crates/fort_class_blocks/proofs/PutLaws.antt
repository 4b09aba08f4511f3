-- What is read of blocks after a target is given, and what a row has.
use Rattle.std.proofs.Common.{◌≡◌, ℕ, ◌+◌, ◌<◌, List, [], ◌∷◌, ◌++◌, length, drop, get_or, sym, ap, ◌∙◌, subst, ⊎_elim, arith}
use Rattle.std.specs.Prelude.{◌≢◌}
use Rattle.std.proofs.lemmas.List.{get_or-set_same, get_or-set_other, get_or-take, get_or-drop, length-take-le, length-drop}
use Rattle.std.proofs.lemmas.Bool.{cases_eq}
use Rattle.fort_class_blocks.specs.Blocks.{Block, product, AreClasses, AreFirstClasses, last_count, cell_of, no_block, block_at, counts_at, target_in, target_of, row_of, with_cell, with_target}
use Rattle.fort_class_blocks.proofs.CellLaws.{cell_below, cell_same, behind, row_within}

-- the block that is written
block_there : (bs : List Block) (b : ℕ) (cs : List ℕ) (v : ℕ) → b < length bs → block_at (with_target bs b cs v) b ≡ with_cell (block_at bs b) (cell_of (counts_at bs b) cs) v
block_there bs b cs v l = get_or-set_same bs b (with_cell (block_at bs b) (cell_of (counts_at bs b) cs) v) no_block l

-- any other
block_elsewhere : (bs : List Block) (b : ℕ) (cs : List ℕ) (v i : ℕ) → i ≢ b → block_at (with_target bs b cs v) i ≡ block_at bs i
block_elsewhere bs b cs v i apart = get_or-set_other bs b i (with_cell (block_at bs b) (cell_of (counts_at bs b) cs) v) no_block apart

-- all counts stay
pub counts_stay : (bs : List Block) (b : ℕ) (cs : List ℕ) (v : ℕ) → b < length bs → (i : ℕ) → counts_at (with_target bs b cs v) i ≡ counts_at bs i
counts_stay bs b cs v l i =
    ⊎_elim
    (λ (same : i ≡ b). subst (λ (j : ℕ). counts_at (with_target bs b cs v) j ≡ counts_at bs j) (sym same) (ap (λ (x : Block). x.counts) (block_there bs b cs v l)))
    (λ (apart : i ≢ b). ap (λ (x : Block). x.counts) (block_elsewhere bs b cs v i apart))
    (cases_eq i b)

-- the combination has the target that it was given
pub target_given : (bs : List Block) (b : ℕ) (cs : List ℕ) (v : ℕ) → b < length bs → length (block_at bs b).cells ≡ product (counts_at bs b) → AreClasses (counts_at bs b) cs → target_of (with_target bs b cs v) b cs ≡ v
target_given bs b cs v l full are =
    ap (λ (x : Block). target_in x cs) (block_there bs b cs v l)
    ∙ get_or-set_same (block_at bs b).cells (cell_of (counts_at bs b) cs) v 0 (omega (arith, full, cell_below (counts_at bs b) cs are))

-- every other one has the target that it had
pub target_stays : (bs : List Block) (b : ℕ) (cs : List ℕ) (v : ℕ) → b < length bs → AreClasses (counts_at bs b) cs
    → (i : ℕ) (ds : List ℕ) → AreClasses (counts_at bs i) ds → (i ≡ b → ds ≡ cs → ⊥) → target_of (with_target bs b cs v) i ds ≡ target_of bs i ds
target_stays bs b cs v l are i ds others differ =
    ⊎_elim
    (λ (same : i ≡ b).
    let here : AreClasses (counts_at bs b) ds = subst (λ (j : ℕ). AreClasses (counts_at bs j) ds) same others in
    let apart : cell_of (counts_at bs b) ds ≢ cell_of (counts_at bs b) cs = λ e. differ same (cell_same (counts_at bs b) ds cs here are e) in
    subst (λ (j : ℕ). target_of (with_target bs b cs v) j ds ≡ target_of bs j ds) (sym same)
    (ap (λ (x : Block). target_in x ds) (block_there bs b cs v l)
    ∙ get_or-set_other (block_at bs b).cells (cell_of (counts_at bs b) cs) (cell_of (counts_at bs b) ds) v 0 apart))
    (λ (apart : i ≢ b). ap (λ (x : Block). target_in x ds) (block_elsewhere bs b cs v i apart))
    (cases_eq i b)

-- a row has a target for each class of the last place
pub row_count : (x : Block) (cs : List ℕ) → length x.cells ≡ product x.counts → AreFirstClasses x.counts cs → length (row_of x cs) ≡ last_count x.counts cs
row_count x cs full first =
    let k = cell_of x.counts (cs ++ 0 ∷ []) in
    length-take-le (last_count x.counts cs) (drop k x.cells) (omega (arith, full, length-drop k x.cells, row_within x.counts cs first))

-- a row at a class is the target of the combination with that class at the last place
pub row_at : (x : Block) (cs : List ℕ) (c : ℕ) → AreFirstClasses x.counts cs → c < last_count x.counts cs → get_or (row_of x cs) c 0 ≡ target_in x (cs ++ c ∷ [])
row_at x cs c first low =
    let k = cell_of x.counts (cs ++ 0 ∷ []) in
    let e : k + c ≡ cell_of x.counts (cs ++ c ∷ []) = let p = behind x.counts cs 0 first in let q = behind x.counts cs c first in omega (arith, p.cell, q.cell) in
    get_or-take (last_count x.counts cs) (drop k x.cells) c 0 low
    ∙ (get_or-drop k x.cells c 0 ∙ ap (λ (n : ℕ). get_or x.cells n 0) e)
