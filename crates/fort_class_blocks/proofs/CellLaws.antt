-- The numbers of combinations of classes.
use Rattle.std.proofs.Common.{◌≡◌, ℕ, suc, ◌+◌, ◌*◌, ◌<◌, ◌≤◌, List, [], ◌∷◌, ◌++◌, length, take, drop, get_or, refl, sym, ap, ◌∙◌, subst, arith}
use Rattle.std.proofs.Math.Nat.{mul_assoc, add-mul, le-mul_of_pos_right}
use Rattle.std.proofs.lemmas.List.{drop_more, length-drop}
use Rattle.std.proofs.lemmas.Nat.{mul-add-lt, row_fits, same_from_place}
use Rattle.fort_class_blocks.specs.Blocks.{product, AreClasses, AreFirstClasses, last_count, cell_of}

-- one more place
pub product-push : (ns : List ℕ) (n : ℕ) → product (ns ++ n ∷ []) ≡ product ns * n
product-push [] n = omega arith
product-push (m ∷ ns) n = ap (λ k. m * k) (product-push ns n) ∙ sym (mul_assoc m (product ns) n)

-- there is a class of each place and of no other
pub classes_count : (ns cs : List ℕ) → AreClasses ns cs → length ns ≡ length cs
classes_count [] [] h = refl
classes_count [] (c ∷ cs) h = absurd h
classes_count (n ∷ ns) [] h = absurd h
classes_count (n ∷ ns) (c ∷ cs) h = ap suc (classes_count ns cs h.1)

-- each combination has its cell within the block
pub cell_below : (ns cs : List ℕ) → AreClasses ns cs → cell_of ns cs < product ns
cell_below [] [] h = omega arith
cell_below [] (c ∷ cs) h = absurd h
cell_below (n ∷ ns) [] h = absurd h
cell_below (n ∷ ns) (c ∷ cs) h =
    let low = mul-add-lt c (product ns) (cell_of ns cs) n h.0 (cell_below ns cs h.1) in
    omega (arith, low)

-- two combinations in one cell are one
pub cell_same : (ns cs ds : List ℕ) → AreClasses ns cs → AreClasses ns ds → cell_of ns cs ≡ cell_of ns ds → cs ≡ ds
cell_same [] [] [] h g e = refl
cell_same [] [] (d ∷ ds) h g e = absurd g
cell_same [] (c ∷ cs) ds h g e = absurd h
cell_same (n ∷ ns) [] ds h g e = absurd h
cell_same (n ∷ ns) (c ∷ cs) [] h g e = absurd g
cell_same (n ∷ ns) (c ∷ cs) (d ∷ ds) h g e =
    let both = same_from_place c (cell_of ns cs) d (cell_of ns ds) (product ns) (cell_below ns cs h.1) (cell_below ns ds g.1) e in
    λ i. both.0 i ∷ cell_same ns cs ds h.1 g.1 both.1 i

-- the first i classes are read into the number n
pub record HasRead (ns cs : List ℕ) (i n : ℕ) : Type 0 where
  pub rest : AreClasses (drop i ns) (drop i cs)
  pub whole : n * product (drop i ns) + cell_of (drop i ns) (drop i cs) ≡ cell_of ns cs

-- there is a count for the next class, and the number with it is no greater than the whole
pub record IsNext (ns cs : List ℕ) (i n : ℕ) : Type 0 where
  pub place : i < length ns
  pub few : n * get_or ns i 0 + get_or cs i 0 ≤ cell_of ns cs
  pub read : HasRead ns cs (i + 1) (n * get_or ns i 0 + get_or cs i 0)

-- where the number starts
pub none_read : (ns cs : List ℕ) → AreClasses ns cs → HasRead ns cs 0 0
none_read ns cs h = record { rest = h; whole = omega arith }

-- one more class, of lists that are split there
next_of : (m c : ℕ) (ns cs : List ℕ) (n all : ℕ) → AreClasses (m ∷ ns) (c ∷ cs) → n * product (m ∷ ns) + cell_of (m ∷ ns) (c ∷ cs) ≡ all
    → (n * m + c ≤ all) × ((n * m + c) * product ns + cell_of ns cs ≡ all)
next_of m c ns cs n all h e =
    let whole : (n * m + c) * product ns + cell_of ns cs ≡ all = omega (arith, e, add-mul (n * m) c (product ns), mul_assoc n m (product ns)) in
    let some : 0 < product ns = omega (arith, cell_below ns cs h.1) in
    (omega (arith, le-mul_of_pos_right (n * m + c) some, whole), whole)

-- one more class is read
pub one_read : (ns cs : List ℕ) (i n : ℕ) → i < length cs → HasRead ns cs i n → IsNext ns cs i n
one_read ns cs i n l h =
    let place : i < length ns = omega (arith, classes_count (drop i ns) (drop i cs) h.rest, length-drop i ns, length-drop i cs) in
    let a = get_or ns i 0 ∷ drop (i + 1) ns in
    let b = get_or cs i 0 ∷ drop (i + 1) cs in
    let p : drop i ns ≡ a = drop_more ns i 0 place in
    let q : drop i cs ≡ b = drop_more cs i 0 l in
    let rest : AreClasses a b = subst (λ (ys : List ℕ). AreClasses a ys) q (subst (λ (xs : List ℕ). AreClasses xs (drop i cs)) p h.rest) in
    let whole : n * product a + cell_of a b ≡ cell_of ns cs = subst (λ (ys : List ℕ). n * product a + cell_of a ys ≡ cell_of ns cs) q (subst (λ (xs : List ℕ). n * product xs + cell_of xs (drop i cs) ≡ cell_of ns cs) p h.whole) in
    let next = next_of (get_or ns i 0) (get_or cs i 0) (drop (i + 1) ns) (drop (i + 1) cs) n (cell_of ns cs) rest whole in
    record { place = place; few = next.0; read = record { rest = rest.1; whole = next.1 } }

-- when all are read, the number is the whole
pub all_read : (ns cs : List ℕ) (i n : ℕ) → length cs ≤ i → HasRead ns cs i n → n ≡ cell_of ns cs
all_read ns cs i n l h = by (drop i ns) (drop i cs) h.rest h.whole (omega (arith, length-drop i cs))
  where
    by : (xs ys : List ℕ) → AreClasses xs ys → n * product xs + cell_of xs ys ≡ cell_of ns cs → length ys ≡ 0 → n ≡ cell_of ns cs
    by [] [] r e z = omega (arith, e)
    by [] (y ∷ ys) r e z = absurd r
    by (x ∷ xs) [] r e z = absurd r
    by (x ∷ xs) (y ∷ ys) r e z = absurd (omega (arith, z))

-- a class of the last place is the least digit behind the other places' number, and there are so many combinations
pub record IsBehind (ns cs : List ℕ) (c : ℕ) : Type 0 where
  pub count : product ns ≡ product (take (length cs) ns) * last_count ns cs
  pub cell : cell_of ns (cs ++ c ∷ []) ≡ cell_of (take (length cs) ns) cs * last_count ns cs + c

-- it is so of all such classes
pub behind : (ns cs : List ℕ) (c : ℕ) → AreFirstClasses ns cs → IsBehind ns cs c
behind ns cs c h = by ns cs h.places
  where
    by : (ns cs : List ℕ) → length ns ≡ suc (length cs) → IsBehind ns cs c
    by [] cs e = absurd (omega (arith, e))
    by (n ∷ []) [] e = record { count = omega arith; cell = omega arith }
    by (n ∷ m ∷ ns) [] e = absurd (omega (arith, e))
    by (n ∷ ns) (a ∷ cs) e =
        let r = by ns cs (omega (arith, e)) in
        let front = take (length cs) ns in
        let last = last_count ns cs in
        record {
          count = ap (λ k. n * k) r.count ∙ sym (mul_assoc n (product front) last);
          cell = let up : a * product ns ≡ a * product front * last = ap (λ k. a * k) r.count ∙ sym (mul_assoc a (product front) last) in
              omega (arith, r.cell, up, add-mul (a * product front) (cell_of front cs) last);
        }

-- with a class of the last place they are classes of all places
pub classes_with : (ns cs : List ℕ) (c : ℕ) → AreFirstClasses ns cs → c < last_count ns cs → AreClasses ns (cs ++ c ∷ [])
classes_with ns cs c h l = by ns cs h.places h.within l
  where
    by : (ns cs : List ℕ) → length ns ≡ suc (length cs) → AreClasses (take (length cs) ns) cs → c < last_count ns cs → AreClasses ns (cs ++ c ∷ [])
    by [] cs e w l = absurd (omega (arith, e))
    by (n ∷ []) [] e w l = (l, tt)
    by (n ∷ m ∷ ns) [] e w l = absurd (omega (arith, e))
    by (n ∷ ns) (a ∷ cs) e w l = (w.0, by ns cs (omega (arith, e)) w.1 l)

-- the last place's classes have room behind the others' number
pub row_within : (ns cs : List ℕ) → AreFirstClasses ns cs → cell_of ns (cs ++ 0 ∷ []) + last_count ns cs ≤ product ns
row_within ns cs h =
    let r = behind ns cs 0 h in
    let front = take (length cs) ns in
    let low : cell_of front cs < product front = cell_below front cs h.within in
    omega (arith, r.count, r.cell, row_fits (cell_of front cs) (last_count ns cs) (product front) (last_count ns cs) low (omega arith))
