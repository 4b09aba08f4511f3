-- Blocks that lie in one list: what is read there, what is written there, and one more.
use Rattle.std.proofs.Common.{◌≡◌, ℕ, zero, suc, ◌+◌, ◌-◌, ◌*◌, ◌<◌, ◌≤◌, List, [], ◌∷◌, ◌++◌, length, map, take, drop, set, get_or, replicate, refl, sym, ap, ◌∙◌, subst, arith}
use Rattle.std.proofs.Math.Nat.{le-mul_of_pos_right}
use Rattle.std.proofs.lemmas.List.{drop-append-le, take-append-le, length-drop, length-map, length-take-le, length-replicate, length-append, drop-set-lt, drop-set-add, take-set-le, take-take, take_all, drop_at, drop-take, drop-drop, get_or-map, get_or-take, get_or-drop, map_push}
use Rattle.fort_class_blocks.specs.Blocks.{Block, product, AreClasses, AreFirstClasses, last_count, cell_of, no_block, block_at, counts_at, AreFull, new_block, target_in, target_of, row_of, with_cell, with_target}
use Rattle.fort_class_blocks.specs.Shapes.{IsShape, counts_in}
use Rattle.fort_class_blocks.specs.BlocksInside.{size_of, block_in, AreBetween}
use Rattle.fort_class_blocks.specs.declared.shape.Shape.{Shape}
use Rattle.fort_class_blocks.proofs.CellLaws.{cell_below, behind, row_within}

-- a block lies between these two places
pub record IsWithin (s : Shape) (from to : ℕ) : Type 0 where
  pub shape : IsShape s
  pub low : from ≤ s.start
  pub high : s.start + size_of s ≤ to

-- blocks end no earlier than they start
between_le : (ss : List Shape) (from to : ℕ) → AreBetween from ss to → from ≤ to
between_le [] from to h = omega (arith, h)
between_le (s ∷ ss) from to h = omega (arith, between_le ss (from + size_of s) to h.2)

-- each block lies within the list
pub block_within : (ss : List Shape) (from to b : ℕ) (d : Shape) → AreBetween from ss to → b < length ss → IsWithin (get_or ss b d) from to
block_within [] from to b d h l = absurd (omega (arith, l))
block_within (s ∷ ss) from to zero d h l = record { shape = h.0; low = omega (arith, h.1); high = omega (arith, h.1, between_le ss (from + size_of s) to h.2) }
block_within (s ∷ ss) from to (suc b) d h l =
    let r = block_within ss (from + size_of s) to b d h.2 (omega (arith, l)) in
    record { shape = r.shape; low = omega (arith, r.low); high = r.high }

-- one more block behind the others
pub between_push : (ss : List Shape) (from to : ℕ) (s : Shape) → AreBetween from ss to → IsShape s → s.start ≡ to → AreBetween from (ss ++ s ∷ []) (to + size_of s)
between_push [] from to s h is e = (is, e ∙ sym h, ap (λ n. n + size_of s) h)
between_push (x ∷ ss) from to s h is e = (h.0, h.1, between_push ss (from + size_of x) to s h.2 is e)

-- a block of a shape's counts, for equations of blocks cell list by cell list
abbrev with_cells : Shape → List ℕ → Block
with_cells s cells = record { counts = counts_in s; cells = cells }

-- what is appended changes no piece before it
piece_appended : (ts us : List ℕ) (a n : ℕ) → a + n ≤ length ts → take n (drop a (ts ++ us)) ≡ take n (drop a ts)
piece_appended ts us a n h =
    ap (λ xs. take n xs) (drop-append-le a ts us (omega arith))
    ∙ take-append-le n (drop a ts) us (omega (arith, length-drop a ts))

-- what is written behind a piece doesn't change it
piece_before : (ts : List ℕ) (v a n p : ℕ) → a + n ≤ p → take n (drop a (set ts p v)) ≡ take n (drop a ts)
piece_before ts v a n p h =
    let j = p - a in
    let e : a + j ≡ p = omega arith in
    subst (λ (q : ℕ). take n (drop a (set ts q v)) ≡ take n (drop a ts)) e
    (ap (λ xs. take n xs) (drop-set-add a ts j v) ∙ take-set-le n (drop a ts) j v (omega arith))

-- a write commutes with a cut
take_set : (n : ℕ) (xs : List ℕ) (j v : ℕ) → take n (set xs j v) ≡ set (take n xs) j v
take_set zero xs j v = refl
take_set (suc n) [] j v = refl
take_set (suc n) (x ∷ xs) zero v = refl
take_set (suc n) (x ∷ xs) (suc j) v = ap (λ ys. x ∷ ys) (take_set n xs j v)

-- what is written within a piece
piece_set : (ts : List ℕ) (v a n j : ℕ) → take n (drop a (set ts (a + j) v)) ≡ set (take n (drop a ts)) j v
piece_set ts v a n j = ap (λ xs. take n xs) (drop-set-add a ts j v) ∙ take_set n (drop a ts) j v

-- a piece of a piece
piece_within : (ts : List ℕ) (a n k w : ℕ) → k + w ≤ n → take w (drop (a + k) ts) ≡ take w (drop k (take n (drop a ts)))
piece_within ts a n k w h =
    let m = n - k in
    let e : k + m ≡ n = omega arith in
    let inner : drop k (take n (drop a ts)) ≡ take m (drop k (drop a ts)) = subst (λ (q : ℕ). drop k (take q (drop a ts)) ≡ take m (drop k (drop a ts))) e (drop-take k m (drop a ts)) in
    let whole : take w (drop k (take n (drop a ts))) ≡ take w (drop (a + k) ts) =
    ap (λ xs. take w xs) inner ∙ (take-take w m (drop k (drop a ts)) (omega arith) ∙ ap (λ xs. take w xs) (drop-drop k a ts)) in
    sym whole

-- the blocks that there are stay where more targets come
blocks_appended : (ts us : List ℕ) (ss : List Shape) (from to : ℕ) → AreBetween from ss to → to ≤ length ts → map (block_in (ts ++ us)) ss ≡ map (block_in ts) ss
blocks_appended ts us [] from to h l = refl
blocks_appended ts us (s ∷ ss) from to h l =
    let first = piece_appended ts us s.start (size_of s) (omega (arith, h.1, l, between_le ss (from + size_of s) to h.2)) in
    let others = blocks_appended ts us ss (from + size_of s) to h.2 l in
    λ i. with_cells s (first i) ∷ others i

-- those behind a target that is written stay
blocks_behind : (ts : List ℕ) (p v : ℕ) (ss : List Shape) (from to : ℕ) → AreBetween from ss to → p < from → map (block_in (set ts p v)) ss ≡ map (block_in ts) ss
blocks_behind ts p v [] from to h l = refl
blocks_behind ts p v (s ∷ ss) from to h l =
    let first = ap (λ xs. take (size_of s) xs) (drop-set-lt s.start ts p v (omega (arith, h.1, l))) in
    let others = blocks_behind ts p v ss (from + size_of s) to h.2 (omega (arith, l)) in
    λ i. with_cells s (first i) ∷ others i

-- a target that is written within a block changes its cell alone
cell_written : (ts : List ℕ) (j v : ℕ) (ss : List Shape) (from to b : ℕ) (d : Shape) → AreBetween from ss to → b < length ss → j < size_of (get_or ss b d)
    → map (block_in (set ts ((get_or ss b d).start + j) v)) ss ≡ set (map (block_in ts) ss) b (with_cell (block_in ts (get_or ss b d)) j v)
cell_written ts j v [] from to b d h l w = absurd (omega (arith, l))
cell_written ts j v (s ∷ ss) from to zero d h l w =
    let first = piece_set ts v s.start (size_of s) j in
    let others = blocks_behind ts (s.start + j) v ss (from + size_of s) to h.2 (omega (arith, h.1, w)) in
    λ i. with_cells s (first i) ∷ others i
cell_written ts j v (s ∷ ss) from to (suc b) d h l w =
    let there = block_within ss (from + size_of s) to b d h.2 (omega (arith, l)) in
    let first = piece_before ts v s.start (size_of s) ((get_or ss b d).start + j) (omega (arith, h.1, there.low)) in
    let others = cell_written ts j v ss (from + size_of s) to b d h.2 (omega (arith, l)) w in
    λ i. with_cells s (first i) ∷ others i

-- the shape of block b
pub record IsShapeAt (ss : List Shape) (b : ℕ) (s : Shape) : Type 0 where
  pub within : b < length ss
  pub is : s ≡ get_or ss b s

-- where a block lies, and what it is
pub record IsPlaced (ts : List ℕ) (ss : List Shape) (b : ℕ) (s : Shape) : Type 0 where
  pub shape : IsShape s
  pub high : s.start + size_of s ≤ length ts
  pub block : block_at (map (block_in ts) ss) b ≡ block_in ts s

-- each block of the list is placed
pub placed : (ts : List ℕ) (ss : List Shape) (b : ℕ) (s : Shape) → AreBetween 0 ss (length ts) → IsShapeAt ss b s → IsPlaced ts ss b s
placed ts ss b s h there = subst (λ (x : Shape). IsPlaced ts ss b x) (sym there.is) (by (get_or ss b s) refl)
  where
    by : (x : Shape) → x ≡ get_or ss b s → IsPlaced ts ss b x
    by x e =
        let w : IsWithin x 0 (length ts) = subst (λ (y : Shape). IsWithin y 0 (length ts)) (sym e) (block_within ss 0 (length ts) b s h there.within) in
        record { shape = w.shape; high = w.high; block = get_or-map (block_in ts) ss b s no_block there.within ∙ ap (block_in ts) (sym e) }

-- each block is full
pub blocks_full : (ts : List ℕ) (ss : List Shape) → AreBetween 0 ss (length ts) → AreFull (map (block_in ts) ss)
blocks_full ts ss h = λ b l.
    let low : b < length ss = omega (arith, l, length-map ss (block_in ts)) in
    let none : Shape = record { start = 0; places = 0; counts = [] } in
    let s = get_or ss b none in
    let w = block_within ss 0 (length ts) b none h low in
    let e : block_at (map (block_in ts) ss) b ≡ block_in ts s = get_or-map (block_in ts) ss b none no_block low in
    subst (λ (x : Block). length x.cells ≡ product x.counts) (sym e) (length-take-le (size_of s) (drop s.start ts) (omega (arith, w.high, length-drop s.start ts)))

-- a block has few places
pub few_places : (ts : List ℕ) (ss : List Shape) (from to b : ℕ) → AreBetween from ss to → length (counts_at (map (block_in ts) ss) b) ≤ 8
few_places ts [] from to b h = omega arith
few_places ts (s ∷ ss) from to zero h = omega (arith, length-take-le s.places s.counts (omega (arith, h.0.few, h.0.size)), h.0.few)
few_places ts (s ∷ ss) from to (suc b) h = few_places ts ss (from + size_of s) to b h.2

-- a combination's cell: it stands in the list, its target is read there, and one that is written there is the combination's
pub record IsCell (ts : List ℕ) (ss : List Shape) (bs : List Block) (b : ℕ) (s : Shape) (cs : List ℕ) : Type 0 where
  pub shape : IsShape s
  pub are : AreClasses (counts_in s) cs
  pub high : s.start + product (counts_in s) ≤ length ts
  pub within : s.start + cell_of (counts_in s) cs < length ts
  pub target : get_or ts (s.start + cell_of (counts_in s) cs) 0 ≡ target_of bs b cs
  pub written : (v : ℕ) → map (block_in (set ts (s.start + cell_of (counts_in s) cs) v)) ss ≡ with_target bs b cs v

-- a target is read where it stands
target_read : (ts : List ℕ) (ss : List Shape) (b : ℕ) (s : Shape) (cs : List ℕ) → AreBetween 0 ss (length ts) → IsShapeAt ss b s → AreClasses (counts_in s) cs
    → get_or ts (s.start + cell_of (counts_in s) cs) 0 ≡ target_of (map (block_in ts) ss) b cs
target_read ts ss b s cs h there are =
    let p = placed ts ss b s h there in
    let k = cell_of (counts_in s) cs in
    let low : k < size_of s = cell_below (counts_in s) cs are in
    let read : get_or (take (size_of s) (drop s.start ts)) k 0 ≡ get_or ts (s.start + k) 0 = get_or-take (size_of s) (drop s.start ts) k 0 low ∙ get_or-drop s.start ts k 0 in
    sym (ap (λ (x : Block). target_in x cs) p.block ∙ read)

-- a target that is written there is the combination's, and no other is changed
target_written : (ts : List ℕ) (ss : List Shape) (b : ℕ) (s : Shape) (cs : List ℕ) (v : ℕ) → AreBetween 0 ss (length ts) → IsShapeAt ss b s → AreClasses (counts_in s) cs
    → map (block_in (set ts (s.start + cell_of (counts_in s) cs) v)) ss ≡ with_target (map (block_in ts) ss) b cs v
target_written ts ss b s cs v h there are =
    let p = placed ts ss b s h there in
    let Written : Shape → Type 0 = λ x. map (block_in (set ts (x.start + cell_of (counts_in s) cs) v)) ss ≡ set (map (block_in ts) ss) b (with_cell (block_in ts x) (cell_of (counts_in s) cs) v) in
    let low : cell_of (counts_in s) cs < size_of (get_or ss b s) = subst (λ (x : Shape). cell_of (counts_in s) cs < size_of x) there.is (cell_below (counts_in s) cs are) in
    subst Written (sym there.is) (cell_written ts (cell_of (counts_in s) cs) v ss 0 (length ts) b s h there.within low)
    ∙ ap (λ (x : Block). set (map (block_in ts) ss) b (with_cell x (cell_of x.counts cs) v)) (sym p.block)

-- block b has a shape, and its cells are so
pub cell_found : (ts : List ℕ) (ss : List Shape) (bs : List Block) (b : ℕ) (s : Shape) (cs : List ℕ) → AreBetween 0 ss (length ts) → map (block_in ts) ss ≡ bs
    → b < length bs → s ≡ get_or ss b s → AreClasses (counts_at bs b) cs → IsCell ts ss bs b s cs
cell_found ts ss bs b s cs h view low is are =
    let there : IsShapeAt ss b s = record { within = omega (arith, low, ap length view, length-map ss (block_in ts)); is = is } in
    let p = placed ts ss b s h there in
    let own : AreClasses (counts_in s) cs = subst (λ (x : Block). AreClasses x.counts cs) p.block (subst (λ (xs : List Block). AreClasses (counts_at xs b) cs) (sym view) are) in
    subst (λ (xs : List Block). IsCell ts ss xs b s cs) view
    (record {
      shape = p.shape;
      are = own;
      high = p.high;
      within = omega (arith, p.high, cell_below (counts_in s) cs own);
      target = target_read ts ss b s cs h there own;
      written = λ v. target_written ts ss b s cs v h there own;
    })

-- the shape of block b
pub shape_found : (ts : List ℕ) (ss : List Shape) (bs : List Block) (b : ℕ) (s : Shape) → AreBetween 0 ss (length ts) → map (block_in ts) ss ≡ bs
    → b < length bs → s ≡ get_or ss b s → IsShape s
shape_found ts ss bs b s h view low is =
    (placed ts ss b s h (record { within = omega (arith, low, ap length view, length-map ss (block_in ts)); is = is })).shape

-- one more block, whose targets are 0
pub block_added : (ts : List ℕ) (ss : List Shape) (s : Shape) (counts : List ℕ) → AreBetween 0 ss (length ts) → s.start ≡ length ts → counts_in s ≡ counts
    → map (block_in (ts ++ replicate (product counts) 0)) (ss ++ s ∷ []) ≡ map (block_in ts) ss ++ new_block counts ∷ []
block_added ts ss s counts h e counts_are =
    let Added : List ℕ → Type 0 = λ ns. map (block_in (ts ++ replicate (product ns) 0)) (ss ++ s ∷ []) ≡ map (block_in ts) ss ++ new_block ns ∷ [] in
    let zeros : List ℕ = replicate (size_of s) 0 in
    let old = blocks_appended ts zeros ss 0 (length ts) h (omega arith) in
    let cells : take (size_of s) (drop s.start (ts ++ zeros)) ≡ zeros =
    ap (λ xs. take (size_of s) xs) (drop_at ts zeros s.start (sym e)) ∙ take_all (size_of s) zeros (omega (arith, length-replicate {A = ℕ} (size_of s) 0)) in
    subst Added counts_are (map_push (block_in (ts ++ zeros)) ss s ∙ (λ i. old i ++ with_cells s (cells i) ∷ []))

-- they lie in the longer list
pub added_between : (ts us : List ℕ) (ss : List Shape) (s : Shape) → AreBetween 0 ss (length ts) → IsShape s → s.start ≡ length ts → length us ≡ size_of s → AreBetween 0 (ss ++ s ∷ []) (length (ts ++ us))
added_between ts us ss s h is e size =
    let to : length ts + size_of s ≡ length (ts ++ us) = omega (arith, length-append ts us, size) in
    subst (λ (n : ℕ). AreBetween 0 (ss ++ s ∷ []) n) to (between_push ss 0 (length ts) s h is e)

-- where a row begins
abbrev pub row_start : Shape → List ℕ → List ℕ → ℕ
row_start s ns cs = s.start + cell_of (take (length cs) ns) cs * last_count ns cs

-- the targets of a row stand side by side
pub record IsRow (ts : List ℕ) (bs : List Block) (b : ℕ) (s : Shape) (ns cs : List ℕ) : Type 0 where
  pub few : 0 < last_count ns cs → product (take (length cs) ns) ≤ length ts
  pub within : row_start s ns cs + last_count ns cs ≤ length ts
  pub row : take (last_count ns cs) (drop (row_start s ns cs) ts) ≡ row_of (block_at bs b) cs

-- block b has such a row
pub row_found : (ts : List ℕ) (ss : List Shape) (bs : List Block) (b : ℕ) (s : Shape) (ns cs : List ℕ) → AreBetween 0 ss (length ts) → map (block_in ts) ss ≡ bs
    → b < length bs → s ≡ get_or ss b s → ns ≡ counts_in s → AreFirstClasses (counts_at bs b) cs → IsRow ts bs b s ns cs
row_found ts ss bs b s ns cs h view low is counts_are are =
    let there : IsShapeAt ss b s = record { within = omega (arith, low, ap length view, length-map ss (block_in ts)); is = is } in
    let p = placed ts ss b s h there in
    let own : AreFirstClasses (counts_in s) cs = subst (λ (x : Block). AreFirstClasses x.counts cs) p.block (subst (λ (xs : List Block). AreFirstClasses (counts_at xs b) cs) (sym view) are) in
    let w = last_count (counts_in s) cs in
    let k = cell_of (counts_in s) (cs ++ 0 ∷ []) in
    let fits : k + w ≤ size_of s = row_within (counts_in s) cs own in
    let r = behind (counts_in s) cs 0 own in
    let at : row_start s (counts_in s) cs ≡ s.start + k = omega (arith, r.cell) in
    subst (λ (xs : List Block). IsRow ts xs b s ns cs) view
    (subst (λ (xs : List ℕ). IsRow ts (map (block_in ts) ss) b s xs cs) (sym counts_are)
    (record {
      few = λ some. omega (arith, le-mul_of_pos_right (product (take (length cs) (counts_in s))) some, r.count, p.high);
      within = omega (arith, at, fits, p.high);
      row = ap (λ (n : ℕ). take w (drop n ts)) at ∙ (piece_within ts s.start (size_of s) k w fits ∙ ap (λ (x : Block). row_of x cs) (sym p.block));
    }))
