-- The laws of positions of optional tuples: what stands at a position, and a tuple with another one there.
use Rattle.std.proofs.Common.{◌≡◌, ℕ, zero, suc, ◌+◌, ◌*◌, List, [], ◌∷◌, ◌++◌, length, Option, None, Some, refl, ap, sym, ◌∙◌, arith}
use Rattle.fort_theory.specs.Trees.{Tree, Trees, Node, Nil, More, subtree_at, subtree_among, replaced_at, replaced_among, tree_count}
use Rattle.fort_theory.specs.Signatures.{Signature, IsGround, AreGround}
use Rattle.fort_theory.proofs.Lists.{none-some}
use Rattle.fort_tables.specs.Tuples.{Tuple, tree_at, root, kid, kid_count, presence, IsPresent, IsFull, IsTuple, AreGroundColumns}
use Rattle.fort_tables.specs.OneColumn.{column_root, column_kid, column_kid_count}
use Rattle.fort_tables.proofs.InsertLaws.{root_first, kid_first, kid_count_first}
use Rattle.fort_tables.specs.Interchange.{column_at, tuple_at, column_with, tuple_with}

-- trees
mutual
  at_replaced : (x : Tree) (p q : List ℕ) (v y : Tree) → subtree_at x p ≡ Some v → subtree_at (replaced_at x p y) (p ++ q) ≡ subtree_at y q
  at_replaced x [] q v y h = refl
  at_replaced (Node f ts) (i ∷ p) q v y h = among_replaced ts i p q v y h

  among_replaced : (ts : Trees) (i : ℕ) (p q : List ℕ) (v y : Tree) → subtree_among ts i p ≡ Some v → subtree_among (replaced_among ts i p y) i (p ++ q) ≡ subtree_at y q
  among_replaced Nil i p q v y h = absurd (none-some h)
  among_replaced (More t ts) zero p q v y h = at_replaced t p q v y h
  among_replaced (More t ts) (suc i) p q v y h = among_replaced ts i p q v y h

mutual
  replaced_twice : (x : Tree) (p q : List ℕ) (y z : Tree) → replaced_at (replaced_at x p y) (p ++ q) z ≡ replaced_at x p (replaced_at y q z)
  replaced_twice x [] q y z = refl
  replaced_twice (Node f ts) (i ∷ p) q y z = ap (Node f) (among_twice ts i p q y z)

  among_twice : (ts : Trees) (i : ℕ) (p q : List ℕ) (y z : Tree) → replaced_among (replaced_among ts i p y) i (p ++ q) z ≡ replaced_among ts i p (replaced_at y q z)
  among_twice Nil i p q y z = refl
  among_twice (More t ts) zero p q y z = ap (λ s. More s ts) (replaced_twice t p q y z)
  among_twice (More t ts) (suc i) p q y z = ap (More t) (among_twice ts i p q y z)

mutual
  none_further : (x : Tree) (p q : List ℕ) → subtree_at x p ≡ None → subtree_at x (p ++ q) ≡ None
  none_further x [] q h = absurd (none-some (sym h))
  none_further (Node f ts) (i ∷ p) q h = none_further_among ts i p q h

  none_further_among : (ts : Trees) (i : ℕ) (p q : List ℕ) → subtree_among ts i p ≡ None → subtree_among ts i (p ++ q) ≡ None
  none_further_among Nil i p q h = refl
  none_further_among (More t ts) zero p q h = none_further t p q h
  none_further_among (More t ts) (suc i) p q h = none_further_among ts i p q h

tree_count-replaced : (ts : Trees) (i : ℕ) (p : List ℕ) (y : Tree) → tree_count (replaced_among ts i p y) ≡ tree_count ts
tree_count-replaced Nil i p y = refl
tree_count-replaced (More t ts) zero p y = refl
tree_count-replaced (More t ts) (suc i) p y = ap suc (tree_count-replaced ts i p y)

mutual
  ground_replaced : (sig : Signature) (x : Tree) (p : List ℕ) (y : Tree) → IsGround sig x → IsGround sig y → IsGround sig (replaced_at x p y)
  ground_replaced sig x [] y h k = k
  ground_replaced sig (Node f ts) (i ∷ p) y h k = (h.0 ∙ ap Some (sym (tree_count-replaced ts i p y)), ground_replaced_among sig ts i p y h.1 k)

  ground_replaced_among : (sig : Signature) (ts : Trees) (i : ℕ) (p : List ℕ) (y : Tree) → AreGround sig ts → IsGround sig y → AreGround sig (replaced_among ts i p y)
  ground_replaced_among sig Nil i p y h k = tt
  ground_replaced_among sig (More t ts) zero p y h k = (ground_replaced sig t p y h.0 k, h.1)
  ground_replaced_among sig (More t ts) (suc i) p y h k = (h.0, ground_replaced_among sig ts i p y h.1 k)

-- columns: both absent or both present
abbrev AreBoth : {A B : Type 0} → Option A → Option B → Type 0
AreBoth None None = Unit {0}
AreBoth None (Some y) = ⊥
AreBoth (Some x) None = ⊥
AreBoth (Some x) (Some y) = Unit {0}

first_both : {A B : Type 0} (x : Option A) (t : List (Option A)) (y : Option B) (u : List (Option B)) → presence (x ∷ t) ≡ presence (y ∷ u) → AreBoth x y × (presence t ≡ presence u)
first_both None t None u h = (tt, omega arith)
first_both None t (Some y) u h = absurd (omega arith)
first_both (Some x) t None u h = absurd (omega arith)
first_both (Some x) t (Some y) u h = (tt, omega arith)

pub column_with-none : (x : Option Tree) (p : List ℕ) → column_with x p None ≡ x
column_with-none None p = refl
column_with-none (Some x) p = refl

kid_among : (ts : Trees) (j : ℕ) (p : List ℕ) (y : Tree) → tree_at (replaced_among ts j p y) j ≡ column_with (tree_at ts j) p (Some y)
kid_among Nil j p y = refl
kid_among (More t ts) zero p y = refl
kid_among (More t ts) (suc j) p y = kid_among ts j p y

other_among : (ts : Trees) (j i : ℕ) (p : List ℕ) (y : Tree) → (i ≡ j → ⊥) → tree_at (replaced_among ts j p y) i ≡ tree_at ts i
other_among Nil j i p y n = refl
other_among (More t ts) zero zero p y n = absurd (n refl)
other_among (More t ts) zero (suc i) p y n = refl
other_among (More t ts) (suc j) zero p y n = refl
other_among (More t ts) (suc j) (suc i) p y n = other_among ts j i p y (λ e. n (ap suc e))

at_kid : (ts : Trees) (j : ℕ) (p : List ℕ) → subtree_among ts j p ≡ column_at (tree_at ts j) p
at_kid Nil j p = refl
at_kid (More t ts) zero p = refl
at_kid (More t ts) (suc j) p = at_kid ts j p

column_at-kid : (x : Option Tree) (j : ℕ) (p : List ℕ) → column_at x (j ∷ p) ≡ column_at (column_kid x j) p
column_at-kid None j p = refl
column_at-kid (Some (Node f ts)) j p = at_kid ts j p

column_kid-with : (x : Option Tree) (j : ℕ) (p : List ℕ) (y : Option Tree) → column_kid (column_with x (j ∷ p) y) j ≡ column_with (column_kid x j) p y
column_kid-with None j p y = refl
column_kid-with (Some (Node f ts)) j p None = sym (column_with-none (tree_at ts j) p)
column_kid-with (Some (Node f ts)) j p (Some y) = kid_among ts j p y

column_kid-other : (x : Option Tree) (j i : ℕ) (p : List ℕ) (y : Option Tree) → (i ≡ j → ⊥) → column_kid (column_with x (j ∷ p) y) i ≡ column_kid x i
column_kid-other None j i p y n = refl
column_kid-other (Some (Node f ts)) j i p None n = refl
column_kid-other (Some (Node f ts)) j i p (Some y) n = other_among ts j i p y n

column_root-with : (x : Option Tree) (j : ℕ) (p : List ℕ) (y : Option Tree) → column_root (column_with x (j ∷ p) y) ≡ column_root x
column_root-with None j p y = refl
column_root-with (Some (Node f ts)) j p None = refl
column_root-with (Some (Node f ts)) j p (Some y) = refl

column_count-with : (x : Option Tree) (j : ℕ) (p : List ℕ) (y : Option Tree) → column_kid_count (column_with x (j ∷ p) y) ≡ column_kid_count x
column_count-with None j p y = refl
column_count-with (Some (Node f ts)) j p None = refl
column_count-with (Some (Node f ts)) j p (Some y) = tree_count-replaced ts j p y

column_at-root : (x : Option Tree) → column_at x [] ≡ x
column_at-root None = refl
column_at-root (Some x) = refl

column_with-root : (x y : Option Tree) → AreBoth x y → column_with x [] y ≡ y
column_with-root None None h = refl
column_with-root None (Some y) h = absurd h
column_with-root (Some x) None h = absurd h
column_with-root (Some x) (Some y) h = refl

column_deep : (x : Tree) (p q : List ℕ) (c : Option Tree) (z : Option Tree) → subtree_at x p ≡ z → AreBoth z c → column_at (column_with (Some x) p c) (p ++ q) ≡ column_at c q
column_deep x p q None None e h = none_further x p q e
column_deep x p q None (Some v) e h = absurd h
column_deep x p q (Some y) None e h = absurd h
column_deep x p q (Some y) (Some v) e h = at_replaced x p q v y e

column_at-deep : (x : Option Tree) (p q : List ℕ) (c : Option Tree) → AreBoth (column_at x p) c → column_at (column_with x p c) (p ++ q) ≡ column_at c q
column_at-deep None p q None h = refl
column_at-deep None p q (Some y) h = absurd h
column_at-deep (Some x) p q c h = column_deep x p q c (subtree_at x p) refl h

column_with-deep : (x : Option Tree) (p q : List ℕ) (c y : Option Tree) → AreBoth (column_at c q) y → column_with (column_with x p c) (p ++ q) y ≡ column_with x p (column_with c q y)
column_with-deep None p q c y h = refl
column_with-deep (Some x) p q None None h = refl
column_with-deep (Some x) p q None (Some y) h = absurd h
column_with-deep (Some x) p q (Some c) None h = refl
column_with-deep (Some x) p q (Some c) (Some y) h = ap Some (replaced_twice x p q c y)

-- tuples
pub length-tuple_with : (w : Tuple) (p : List ℕ) (t : Tuple) → length (tuple_with w p t) ≡ length w
length-tuple_with [] p t = refl
length-tuple_with (x ∷ w) p [] = refl
length-tuple_with (x ∷ w) p (y ∷ t) = ap suc (length-tuple_with w p t)

presence_column : (x : Option Tree) (p : List ℕ) (y : Option Tree) (w v : Tuple) → presence w ≡ presence v → presence (column_with x p y ∷ w) ≡ presence (x ∷ v)
presence_column None p y w v h = ap (λ n. 2 * n) h
presence_column (Some x) p None w v h = ap (λ n. 1 + 2 * n) h
presence_column (Some x) p (Some y) w v h = ap (λ n. 1 + 2 * n) h

pub presence-tuple_with : (w : Tuple) (p : List ℕ) (t : Tuple) → presence (tuple_with w p t) ≡ presence w
presence-tuple_with [] p t = refl
presence-tuple_with (x ∷ w) p [] = refl
presence-tuple_with (x ∷ w) p (y ∷ t) = presence_column x p y (tuple_with w p t) w (presence-tuple_with w p t)

present_column : (x : Option Tree) (p : List ℕ) (y : Option Tree) (w v : Tuple) → (IsPresent v → IsPresent w) → IsPresent (x ∷ v) → IsPresent (column_with x p y ∷ w)
present_column None p y w v k h = k h
present_column (Some x) p None w v k h = tt
present_column (Some x) p (Some y) w v k h = tt

pub present-tuple_with : (w : Tuple) (p : List ℕ) (t : Tuple) → IsPresent w → IsPresent (tuple_with w p t)
present-tuple_with [] p t h = h
present-tuple_with (x ∷ w) p [] h = h
present-tuple_with (x ∷ w) p (y ∷ t) h = present_column x p y (tuple_with w p t) w (present-tuple_with w p t) h

full_column : (x : Option Tree) (p : List ℕ) (y : Option Tree) (w v : Tuple) → (IsFull v → IsFull w) → IsFull (x ∷ v) → IsFull (column_with x p y ∷ w)
full_column None p y w v k h = absurd h
full_column (Some x) p None w v k h = k h
full_column (Some x) p (Some y) w v k h = k h

pub full-tuple_with : (w : Tuple) (p : List ℕ) (t : Tuple) → IsFull w → IsFull (tuple_with w p t)
full-tuple_with [] p t h = h
full-tuple_with (x ∷ w) p [] h = h
full-tuple_with (x ∷ w) p (y ∷ t) h = full_column x p y (tuple_with w p t) w (full-tuple_with w p t) h

pub ground-tuple_with : (sig : Signature) (w : Tuple) (p : List ℕ) (t : Tuple) → AreGroundColumns sig w → AreGroundColumns sig t → AreGroundColumns sig (tuple_with w p t)
ground-tuple_with sig [] p t h k = tt
ground-tuple_with sig (x ∷ w) p [] h k = h
ground-tuple_with sig (None ∷ w) p (None ∷ t) h k = ground-tuple_with sig w p t h k
ground-tuple_with sig (None ∷ w) p (Some y ∷ t) h k = ground-tuple_with sig w p t h k.1
ground-tuple_with sig (Some x ∷ w) p (None ∷ t) h k = (h.0, ground-tuple_with sig w p t h.1 k)
ground-tuple_with sig (Some x ∷ w) p (Some y ∷ t) h k = (ground_replaced sig x p y h.0 k.0, ground-tuple_with sig w p t h.1 k.1)

pub IsTuple-tuple_with : (sig : Signature) (n : ℕ) (w : Tuple) (p : List ℕ) (t : Tuple) → IsTuple sig n w → IsTuple sig n t → IsTuple sig n (tuple_with w p t)
IsTuple-tuple_with sig n w p t h k = record {
  width = length-tuple_with w p t ∙ h.width;
  present = present-tuple_with w p t h.present;
  grounded = ground-tuple_with sig w p t h.grounded k.grounded;
}

pub tuple_at-root : (w : Tuple) → tuple_at w [] ≡ w
tuple_at-root [] = refl
tuple_at-root (x ∷ w) = let e = column_at-root x in let r = tuple_at-root w in λ i. e i ∷ r i

pub tuple_with-root : (w t : Tuple) → length w ≡ length t → presence w ≡ presence t → tuple_with w [] t ≡ t
tuple_with-root [] [] l h = refl
tuple_with-root [] (y ∷ t) l h = absurd (omega arith)
tuple_with-root (x ∷ w) [] l h = absurd (omega arith)
tuple_with-root (x ∷ w) (y ∷ t) l h =
    let b = first_both x w y t h in
    let e = column_with-root x y b.0 in
    let r = tuple_with-root w t (omega arith) b.1 in
    λ i. e i ∷ r i

pub tuple_at-kid : (w : Tuple) (j : ℕ) (p : List ℕ) → tuple_at w (j ∷ p) ≡ tuple_at (kid w j) p
tuple_at-kid [] j p = refl
tuple_at-kid (x ∷ w) j p =
    let e = column_at-kid x j p in
    let r = tuple_at-kid w j p in
    (λ i. e i ∷ r i) ∙ ap (λ v. tuple_at v p) (sym (kid_first x w j))

pub root-tuple_with : (w : Tuple) (j : ℕ) (p : List ℕ) (t : Tuple) → root (tuple_with w (j ∷ p) t) ≡ root w
root-tuple_with [] j p t = refl
root-tuple_with (x ∷ w) j p [] = refl
root-tuple_with (x ∷ w) j p (y ∷ t) =
    let e = column_root-with x j p y in
    let r = root-tuple_with w j p t in
    root_first (column_with x (j ∷ p) y) (tuple_with w (j ∷ p) t) ∙ ((λ i. e i ∷ r i) ∙ sym (root_first x w))

pub kid_count-tuple_with : (w : Tuple) (j : ℕ) (p : List ℕ) (t : Tuple) → kid_count (tuple_with w (j ∷ p) t) ≡ kid_count w
kid_count-tuple_with [] j p t = refl
kid_count-tuple_with (x ∷ w) j p [] = refl
kid_count-tuple_with (x ∷ w) j p (y ∷ t) =
    omega (arith, kid_count_first (column_with x (j ∷ p) y) (tuple_with w (j ∷ p) t), column_count-with x j p y, kid_count-tuple_with w j p t, kid_count_first x w)

with_first : (x y : Option Tree) (p : List ℕ) (w t : Tuple) (v : Tuple) → v ≡ x ∷ w → column_with x p y ∷ tuple_with w p t ≡ tuple_with v p (y ∷ t)
with_first x y p w t v e = sym (ap (λ z. tuple_with z p (y ∷ t)) e)

with_nothing : (w : Tuple) (p : List ℕ) → tuple_with w p [] ≡ w
with_nothing [] p = refl
with_nothing (x ∷ w) p = refl

pub kid-tuple_with : (w : Tuple) (j : ℕ) (p : List ℕ) (t : Tuple) → kid (tuple_with w (j ∷ p) t) j ≡ tuple_with (kid w j) p t
kid-tuple_with [] j p t = refl
kid-tuple_with (x ∷ w) j p [] = sym (with_nothing (kid (x ∷ w) j) p)
kid-tuple_with (x ∷ w) j p (y ∷ t) =
    let e = column_kid-with x j p y in
    let r = kid-tuple_with w j p t in
    kid_first (column_with x (j ∷ p) y) (tuple_with w (j ∷ p) t) j ∙ ((λ i. e i ∷ r i) ∙ with_first (column_kid x j) y p (kid w j) t (kid (x ∷ w) j) (kid_first x w j))

pub kid-tuple_with_other : (w : Tuple) (j i : ℕ) (p : List ℕ) (t : Tuple) → (i ≡ j → ⊥) → kid (tuple_with w (j ∷ p) t) i ≡ kid w i
kid-tuple_with_other [] j i p t n = refl
kid-tuple_with_other (x ∷ w) j i p [] n = refl
kid-tuple_with_other (x ∷ w) j i p (y ∷ t) n =
    let e = column_kid-other x j i p y n in
    let r = kid-tuple_with_other w j i p t n in
    kid_first (column_with x (j ∷ p) y) (tuple_with w (j ∷ p) t) i ∙ ((λ k. e k ∷ r k) ∙ sym (kid_first x w i))

-- Result: what stands further below, where the tuple there was put in; and two puts are one
pub tuple_at-deep : (w : Tuple) (p q : List ℕ) (c : Tuple) → length c ≡ length w → presence (tuple_at w p) ≡ presence c → tuple_at (tuple_with w p c) (p ++ q) ≡ tuple_at c q
tuple_at-deep [] p q [] l h = refl
tuple_at-deep [] p q (z ∷ c) l h = absurd (omega arith)
tuple_at-deep (x ∷ w) p q [] l h = absurd (omega arith)
tuple_at-deep (x ∷ w) p q (z ∷ c) l h =
    let b = first_both (column_at x p) (tuple_at w p) z c h in
    let e = column_at-deep x p q z b.0 in
    let r = tuple_at-deep w p q c (omega arith) b.1 in
    λ i. e i ∷ r i

pub tuple_with-deep : (w : Tuple) (p q : List ℕ) (c t : Tuple) → length c ≡ length w → length t ≡ length w → presence (tuple_at c q) ≡ presence t
    → tuple_with (tuple_with w p c) (p ++ q) t ≡ tuple_with w p (tuple_with c q t)
tuple_with-deep [] p q c t l m h = refl
tuple_with-deep (x ∷ w) p q [] t l m h = absurd (omega arith)
tuple_with-deep (x ∷ w) p q (z ∷ c) [] l m h = absurd (omega arith)
tuple_with-deep (x ∷ w) p q (z ∷ c) (y ∷ t) l m h =
    let b = first_both (column_at z q) (tuple_at c q) y t h in
    let e = column_with-deep x p q z y b.0 in
    let r = tuple_with-deep w p q c t (omega arith) (omega arith) b.1 in
    λ i. e i ∷ r i
