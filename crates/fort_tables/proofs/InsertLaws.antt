-- Results for the crates above: a column inserted into an optional tuple, or removed; root, child and child count follow.
use Rattle.std.proofs.Common.{◌≡◌, ℕ, zero, suc, ◌^◌, ◌<◌, ◌≤◌, max, List, [], ◌∷◌, length, get_or, Option, None, Some, refl, ap, ◌∙◌, arith}
use Rattle.std.specs.List.{insert, remove}
use Rattle.std.proofs.Math.Nat.{pow-suc}
use Rattle.std.proofs.lemmas.List.Edits.{length-insert}
use Rattle.fort_theory.specs.Trees.{Tree, Trees, Node, Nil, More, tree_count}
use Rattle.fort_theory.specs.Signatures.{Signature, IsGround}
use Rattle.fort_tables.specs.Tuples.{Tuple, all_absent, root, tree_at, kid, kid_count, presence, IsPresent, IsFull, AreGroundColumns, IsTuple}
use Rattle.fort_tables.specs.OneColumn.{column_root, column_kid, column_kid_count}

-- lists
pub remove-insert : {A : Type 0} (t : List A) (c : ℕ) (x : A) → c ≤ length t → remove (insert t c x) c ≡ t
remove-insert t zero x h = refl
remove-insert [] (suc c) x h = absurd (omega arith)
remove-insert (y ∷ t) (suc c) x h = ap (λ u. y ∷ u) (remove-insert t c x (omega arith))

pub insert-remove : {A : Type 0} (t : List A) (c : ℕ) (d : A) → c < length t → insert (remove t c) c (get_or t c d) ≡ t
insert-remove [] c d h = absurd (omega arith)
insert-remove (y ∷ t) zero d h = refl
insert-remove (y ∷ t) (suc c) d h = ap (λ u. y ∷ u) (insert-remove t c d (omega arith))

-- the first column apart
pub root_first : (x : Option Tree) (t : Tuple) → root (x ∷ t) ≡ column_root x ∷ root t
root_first None t = refl
root_first (Some (Node f ts)) t = refl

pub kid_first : (x : Option Tree) (t : Tuple) (j : ℕ) → kid (x ∷ t) j ≡ column_kid x j ∷ kid t j
kid_first None t j = refl
kid_first (Some (Node f ts)) t j = refl

pub kid_count_first : (x : Option Tree) (t : Tuple) → kid_count (x ∷ t) ≡ max (column_kid_count x) (kid_count t)
kid_count_first None t = omega arith
kid_count_first (Some (Node f ts)) t = refl

-- inserted
pub root-insert : (t : Tuple) (c : ℕ) (x : Option Tree) → root (insert t c x) ≡ insert (root t) c (column_root x)
root-insert t zero x = root_first x t
root-insert [] (suc c) x = root_first x []
root-insert (None ∷ t) (suc c) x = ap (λ f. None ∷ f) (root-insert t c x)
root-insert (Some (Node f ts) ∷ t) (suc c) x = ap (λ g. Some f ∷ g) (root-insert t c x)

pub kid-insert : (t : Tuple) (c : ℕ) (x : Option Tree) (j : ℕ) → kid (insert t c x) j ≡ insert (kid t j) c (column_kid x j)
kid-insert t zero x j = kid_first x t j
kid-insert [] (suc c) x j = kid_first x [] j
kid-insert (None ∷ t) (suc c) x j = ap (λ f. None ∷ f) (kid-insert t c x j)
kid-insert (Some (Node f ts) ∷ t) (suc c) x j = ap (λ g. tree_at ts j ∷ g) (kid-insert t c x j)

pub kid_count-insert : (t : Tuple) (c : ℕ) (x : Option Tree) → kid_count (insert t c x) ≡ max (column_kid_count x) (kid_count t)
kid_count-insert t zero x = kid_count_first x t
kid_count-insert [] (suc c) x = kid_count_first x []
kid_count-insert (None ∷ t) (suc c) x = kid_count-insert t c x
kid_count-insert (Some (Node f ts) ∷ t) (suc c) x = omega (arith, kid_count-insert t c x)

-- removed
pub root-remove : (t : Tuple) (c : ℕ) → root (remove t c) ≡ remove (root t) c
root-remove [] zero = refl
root-remove [] (suc c) = refl
root-remove (None ∷ t) zero = refl
root-remove (Some (Node f ts) ∷ t) zero = refl
root-remove (None ∷ t) (suc c) = ap (λ f. None ∷ f) (root-remove t c)
root-remove (Some (Node f ts) ∷ t) (suc c) = ap (λ g. Some f ∷ g) (root-remove t c)

pub kid-remove : (t : Tuple) (c j : ℕ) → kid (remove t c) j ≡ remove (kid t j) c
kid-remove [] zero j = refl
kid-remove [] (suc c) j = refl
kid-remove (None ∷ t) zero j = refl
kid-remove (Some (Node f ts) ∷ t) zero j = refl
kid-remove (None ∷ t) (suc c) j = ap (λ f. None ∷ f) (kid-remove t c j)
kid-remove (Some (Node f ts) ∷ t) (suc c) j = ap (λ g. tree_at ts j ∷ g) (kid-remove t c j)

pub kid_count-remove : (t : Tuple) (c : ℕ) → kid_count t ≡ max (column_kid_count (get_or t c None)) (kid_count (remove t c))
kid_count-remove [] zero = refl
kid_count-remove [] (suc c) = refl
kid_count-remove (x ∷ t) zero = kid_count_first x t
kid_count-remove (None ∷ t) (suc c) = kid_count-remove t c
kid_count-remove (Some (Node f ts) ∷ t) (suc c) = omega (arith, kid_count-remove t c)

-- optional tuples
columns_first : (sig : Signature) (x : Option Tree) (t : Tuple) → AreGroundColumns sig (x ∷ []) → AreGroundColumns sig t → AreGroundColumns sig (x ∷ t)
columns_first sig None t h k = k
columns_first sig (Some x) t h k = (h.0, k)

pub AreGroundColumns-insert : (sig : Signature) (t : Tuple) (c : ℕ) (x : Option Tree) → AreGroundColumns sig (x ∷ []) → AreGroundColumns sig t → AreGroundColumns sig (insert t c x)
AreGroundColumns-insert sig t zero x h k = columns_first sig x t h k
AreGroundColumns-insert sig [] (suc c) x h k = h
AreGroundColumns-insert sig (None ∷ t) (suc c) x h k = AreGroundColumns-insert sig t c x h k
AreGroundColumns-insert sig (Some y ∷ t) (suc c) x h k = (k.0, AreGroundColumns-insert sig t c x h k.1)

pub AreGroundColumns-remove : (sig : Signature) (t : Tuple) (c : ℕ) → AreGroundColumns sig t → AreGroundColumns sig (remove t c)
AreGroundColumns-remove sig [] zero h = tt
AreGroundColumns-remove sig [] (suc c) h = tt
AreGroundColumns-remove sig (None ∷ t) zero h = h
AreGroundColumns-remove sig (Some y ∷ t) zero h = h.1
AreGroundColumns-remove sig (None ∷ t) (suc c) h = AreGroundColumns-remove sig t c h
AreGroundColumns-remove sig (Some y ∷ t) (suc c) h = (h.0, AreGroundColumns-remove sig t c h.1)

pub column_ground : (sig : Signature) (t : Tuple) (c : ℕ) → AreGroundColumns sig t → AreGroundColumns sig (get_or t c None ∷ [])
column_ground sig [] zero h = tt
column_ground sig [] (suc c) h = tt
column_ground sig (None ∷ t) zero h = tt
column_ground sig (Some y ∷ t) zero h = (h.0, tt)
column_ground sig (None ∷ t) (suc c) h = column_ground sig t c h
column_ground sig (Some y ∷ t) (suc c) h = column_ground sig t c h.1

pub IsPresent-insert_some : {A : Type 0} (t : List (Option A)) (c : ℕ) (u : A) → IsPresent (insert t c (Some u))
IsPresent-insert_some t zero u = tt
IsPresent-insert_some [] (suc c) u = tt
IsPresent-insert_some (None ∷ t) (suc c) u = IsPresent-insert_some t c u
IsPresent-insert_some (Some y ∷ t) (suc c) u = tt

pub IsPresent-insert_none : {A : Type 0} (t : List (Option A)) (c : ℕ) → IsPresent t → IsPresent (insert t c None)
IsPresent-insert_none t zero h = h
IsPresent-insert_none [] (suc c) h = absurd h
IsPresent-insert_none (None ∷ t) (suc c) h = IsPresent-insert_none t c h
IsPresent-insert_none (Some y ∷ t) (suc c) h = tt

pub IsFull-insert : {A : Type 0} (t : List (Option A)) (c : ℕ) (u : A) → IsFull t → IsFull (insert t c (Some u))
IsFull-insert t zero u h = h
IsFull-insert [] (suc c) u h = tt
IsFull-insert (None ∷ t) (suc c) u h = absurd h
IsFull-insert (Some y ∷ t) (suc c) u h = IsFull-insert t c u h

pub IsTuple-insert_some : (sig : Signature) (n : ℕ) (t : Tuple) (c : ℕ) (u : Tree) → c ≤ n → IsGround sig u → length t ≡ n → AreGroundColumns sig t → IsTuple sig (suc n) (insert t c (Some u))
IsTuple-insert_some sig n t c u m g l h = record { width = omega (arith, length-insert t c (Some u) (omega arith)); present = IsPresent-insert_some t c u; grounded = AreGroundColumns-insert sig t c (Some u) (g, tt) h }

pub IsTuple-insert_none : (sig : Signature) (n : ℕ) (t : Tuple) (c : ℕ) → c ≤ n → IsTuple sig n t → IsTuple sig (suc n) (insert t c None)
IsTuple-insert_none sig n t c m h = record { width = omega (arith, length-insert t c None (omega (arith, h.width)), h.width); present = IsPresent-insert_none t c h.present; grounded = AreGroundColumns-insert sig t c None tt h.grounded }

-- past the last child all columns are absent
pub tree_at-past : (ts : Trees) (j : ℕ) → tree_count ts ≤ j → tree_at ts j ≡ None
tree_at-past Nil j h = refl
tree_at-past (More t ts) zero h = absurd (omega arith)
tree_at-past (More t ts) (suc j) h = tree_at-past ts j (omega arith)

pub kid-past : (t : Tuple) (j : ℕ) → kid_count t ≤ j → kid t j ≡ all_absent (length t)
kid-past [] j h = refl
kid-past (None ∷ t) j h = ap (λ u. None ∷ u) (kid-past t j h)
kid-past (Some (Node f ts) ∷ t) j h =
    let e : tree_at ts j ≡ None = tree_at-past ts j (omega arith) in
    let r : kid t j ≡ all_absent (length t) = kid-past t j (omega arith) in cc

-- all columns absent
pub length-all_absent : (A : Type 0) (n : ℕ) → length (all_absent {A = A} n) ≡ n
length-all_absent A zero = refl
length-all_absent A (suc n) = ap suc (length-all_absent A n)

pub AreGroundColumns-all_absent : (sig : Signature) (n : ℕ) → AreGroundColumns sig (all_absent n)
AreGroundColumns-all_absent sig zero = tt
AreGroundColumns-all_absent sig (suc n) = AreGroundColumns-all_absent sig n

pub root-all_absent : (n : ℕ) → root (all_absent n) ≡ all_absent n
root-all_absent zero = refl
root-all_absent (suc n) = ap (λ t. None ∷ t) (root-all_absent n)

pub kid-all_absent : (n j : ℕ) → kid (all_absent n) j ≡ all_absent n
kid-all_absent zero j = refl
kid-all_absent (suc n) j = ap (λ t. None ∷ t) (kid-all_absent n j)

pub kid_count-all_absent : (n : ℕ) → kid_count (all_absent n) ≡ 0
kid_count-all_absent zero = refl
kid_count-all_absent (suc n) = kid_count-all_absent n

pub presence-all_absent : (A : Type 0) (n : ℕ) → presence (all_absent {A = A} n) ≡ 0
presence-all_absent A zero = refl
presence-all_absent A (suc n) = omega (arith, presence-all_absent A n)

all_absent_from_presence : {A : Type 0} (t : List (Option A)) → presence t ≡ 0 → t ≡ all_absent (length t)
all_absent_from_presence [] h = refl
all_absent_from_presence (None ∷ t) h = ap (λ u. None ∷ u) (all_absent_from_presence t (omega arith))
all_absent_from_presence (Some x ∷ t) h = absurd (omega arith)

-- one column alone present
pub presence-alone : {A : Type 0} (c n : ℕ) (u : A) → c ≤ n → presence (insert (all_absent n) c (Some u)) ≡ 2 ^ c
presence-alone {A} zero n u h = omega (arith, presence-all_absent A n)
presence-alone (suc c) zero u h = absurd (omega arith)
presence-alone (suc c) (suc n) u h = omega (arith, presence-alone c n u (omega arith), pow-suc 2 c)

pub alone_from_presence : {A : Type 0} (c n : ℕ) (t : List (Option A)) → c ≤ n → length t ≡ suc n → presence t ≡ 2 ^ c → (u : A) × (t ≡ insert (all_absent n) c (Some u))
alone_from_presence c n [] h l e = absurd (omega arith)
alone_from_presence zero n (None ∷ t) h l e = absurd (omega arith)
alone_from_presence zero n (Some x ∷ t) h l e = (x, ap (λ u. Some x ∷ u) (all_absent_from_presence t (omega arith) ∙ ap all_absent (let r : length t ≡ n = omega arith in r)))
alone_from_presence (suc c) zero (x ∷ t) h l e = absurd (omega arith)
alone_from_presence (suc c) (suc n) (None ∷ t) h l e =
    let r = alone_from_presence c n t (omega arith) (omega arith) (omega (arith, pow-suc 2 c)) in
    (r.0, ap (λ u. None ∷ u) r.1)
alone_from_presence (suc c) (suc n) (Some x ∷ t) h l e = absurd (omega (arith, pow-suc 2 c))

pub ground_alone : (sig : Signature) (c n : ℕ) (u : Tree) → AreGroundColumns sig (insert (all_absent n) c (Some u)) → IsGround sig u
ground_alone sig zero n u h = h.0
ground_alone sig (suc c) zero u h = h.0
ground_alone sig (suc c) (suc n) u h = ground_alone sig c n u h
