-- Combinations of classes: the class at each place, another class at one place, and the number that the combination has then.
use Rattle.std.proofs.Common.{◌≡◌, ℕ, Option, None, Some, MatchOption, zero, suc, ◌+◌, ◌*◌, ◌<◌, ◌≤◌, List, [], ◌∷◌, set, take, drop, length, get_or, refl, ap, sym, ◌∙◌, arith, subst}
use Rattle.std.proofs.lemmas.List.{length-take-le, get_or-take}
use Rattle.fort_class_blocks.specs.Blocks.{AreClasses, cell_of, product}
use Rattle.fort_class_blocks.proofs.CellLaws.{cell_below}

-- each class is below its count
pub class_low : (ns cs : List ℕ) (j : ℕ) → AreClasses ns cs → j < length ns → get_or cs j 0 < get_or ns j 0
class_low [] cs j h l = absurd (omega (arith, l))
class_low (n ∷ ns) [] j h l = absurd h
class_low (n ∷ ns) (c ∷ cs) zero h l = h.0
class_low (n ∷ ns) (c ∷ cs) (suc j) h l = class_low ns cs j h.1 (omega (arith, l))

-- such numbers are a combination
pub classes_from : (ns cs : List ℕ) → length cs ≡ length ns → ((j : ℕ) → j < length ns → get_or cs j 0 < get_or ns j 0) → AreClasses ns cs
classes_from [] [] e h = tt
classes_from [] (c ∷ cs) e h = absurd (omega (arith, e))
classes_from (n ∷ ns) [] e h = absurd (omega (arith, e))
classes_from (n ∷ ns) (c ∷ cs) e h = (h 0 (omega arith), classes_from ns cs (omega (arith, e)) (λ j l. h (suc j) (omega (arith, l))))

-- another class at one place
pub classes_set : (ns cs : List ℕ) (j x : ℕ) → AreClasses ns cs → x < get_or ns j 0 → AreClasses ns (set cs j x)
classes_set [] [] j x h l = tt
classes_set [] (c ∷ cs) j x h l = absurd h
classes_set (n ∷ ns) [] j x h l = absurd h
classes_set (n ∷ ns) (c ∷ cs) zero x h l = (l, h.1)
classes_set (n ∷ ns) (c ∷ cs) (suc j) x h l = (h.0, classes_set ns cs j x h.1 l)

cell_set : (ns cs : List ℕ) (j x : ℕ) → AreClasses ns cs → j < length ns → cell_of ns (set cs j x) + get_or cs j 0 * product (drop (suc j) ns) ≡ cell_of ns cs + x * product (drop (suc j) ns)
cell_set [] cs j x h l = absurd (omega (arith, l))
cell_set (n ∷ ns) [] j x h l = absurd h
cell_set (n ∷ ns) (c ∷ cs) zero x h l = omega arith
cell_set (n ∷ ns) (c ∷ cs) (suc j) x h l = omega (arith, cell_set ns cs j x h.1 (omega (arith, l)))

product_drop : (ns : List ℕ) (j : ℕ) → j < length ns → product (drop j ns) ≡ get_or ns j 0 * product (drop (suc j) ns)
product_drop [] j l = absurd (omega (arith, l))
product_drop (n ∷ ns) zero l = refl
product_drop (n ∷ ns) (suc j) l = product_drop ns j (omega (arith, l))

-- a class that is written in the room
pub take_set : (n : ℕ) (xs : List ℕ) (j v : ℕ) → take n (set xs j v) ≡ set (take n xs) j v
take_set zero xs j v = refl
take_set (suc n) [] j v = refl
take_set (suc n) (x ∷ xs) zero v = refl
take_set (suc n) (x ∷ xs) (suc j) v = ap (λ ys. x ∷ ys) (take_set n xs j v)

-- the combination in front of some room, after all places from this one on began again: one more in front of them is the next one
pub record IsWrapped (ns room : List ℕ) (place cell : ℕ) : Type 0 where
  pub are : AreClasses ns (take (length ns) room)
  pub next : cell_of ns (take (length ns) room) + product (drop place ns) ≡ cell + 1

-- the combination in front of the room has this number
pub record HasCell (ns room : List ℕ) (cell : ℕ) : Type 0 where
  pub are : AreClasses ns (take (length ns) room)
  pub is : cell_of ns (take (length ns) room) ≡ cell

pub none_wrapped : (ns room : List ℕ) (place : ℕ) → place ≡ length ns → AreClasses ns (take (length ns) room) → IsWrapped ns room place (cell_of ns (take (length ns) room))
none_wrapped ns room place e h = record {
  are = h;
  next = let one : product (drop place ns) ≡ 1 = ap (λ k. product (drop k ns)) e ∙ ap product (drop_whole ns) in omega (arith, one);
}
  where
    drop_whole : (xs : List ℕ) → drop (length xs) xs ≡ []
    drop_whole [] = refl
    drop_whole (x ∷ xs) = drop_whole xs

module _ (ns room : List ℕ) (p cell : ℕ) (low : p < length ns) (h : IsWrapped ns room (p + 1) cell) where
  here : get_or (take (length ns) room) p 0 ≡ get_or room p 0
  here = get_or-take (length ns) room p 0 low

  step : p + 1 ≡ suc p
  step = omega arith

  -- the class there
  pub class_here : get_or room p 0 < get_or ns p 0
  class_here = omega (arith, class_low ns (take (length ns) room) p h.are low, here)

  -- it is raised
  pub raised : get_or room p 0 + 1 < get_or ns p 0 → HasCell ns (set room p (get_or room p 0 + 1)) (cell + 1)
  raised l =
      let c = get_or room p 0 in
      let cs = take (length ns) room in
      let front = take_set (length ns) room p (c + 1) in
      let P = product (drop (suc p) ns) in
      let moved : cell_of ns (set cs p (c + 1)) + c * P ≡ cell_of ns cs + (c + 1) * P = ap (λ z. cell_of ns (set cs p (c + 1)) + z * P) (sym here) ∙ cell_set ns cs p (c + 1) h.are low in
      let next : cell_of ns cs + P ≡ cell + 1 = subst (λ (k : ℕ). cell_of ns cs + product (drop k ns) ≡ cell + 1) step h.next in
      let whole : cell_of ns (set cs p (c + 1)) ≡ cell + 1 = omega (arith, moved, next) in
      record { are = subst (AreClasses ns) (sym front) (classes_set ns cs p (c + 1) h.are l); is = ap (cell_of ns) front ∙ whole }

  -- or begins again
  pub wrapped : get_or ns p 0 ≤ get_or room p 0 + 1 → IsWrapped ns (set room p 0) p cell
  wrapped l =
      let c = get_or room p 0 in
      let cs = take (length ns) room in
      let front = take_set (length ns) room p 0 in
      let P = product (drop (suc p) ns) in
      let moved : cell_of ns (set cs p 0) + c * P ≡ cell_of ns cs + 0 * P = ap (λ z. cell_of ns (set cs p 0) + z * P) (sym here) ∙ cell_set ns cs p 0 h.are low in
      let next : cell_of ns cs + P ≡ cell + 1 = subst (λ (k : ℕ). cell_of ns cs + product (drop k ns) ≡ cell + 1) step h.next in
      let count : get_or ns p 0 ≡ c + 1 = omega (arith, l, class_here) in
      let more : product (drop p ns) ≡ (c + 1) * P = product_drop ns p low ∙ ap (λ z. z * P) count in
      let whole : cell_of ns (set cs p 0) + product (drop p ns) ≡ cell + 1 = omega (arith, moved, next, more) in
      record { are = subst (AreClasses ns) (sym front) (classes_set ns cs p 0 h.are (omega (arith, class_here))); next = ap (λ xs. cell_of ns xs + product (drop p ns)) front ∙ whole }

-- where all places began again, it was the last one
pub last_wrapped : (ns room old : List ℕ) → AreClasses ns old → IsWrapped ns room 0 (cell_of ns old) → cell_of ns old + 1 ≡ product ns
last_wrapped ns room old h w = omega (arith, w.next, cell_below ns old h)

-- zeros alone
abbrev pub AreZeros : List ℕ → Type 0
AreZeros [] = Unit {0}
AreZeros (x ∷ xs) = (x ≡ 0) × AreZeros xs

zero_at : (xs : List ℕ) (j : ℕ) → AreZeros xs → get_or xs j 0 ≡ 0
zero_at [] j h = refl
zero_at (x ∷ xs) zero h = h.0
zero_at (x ∷ xs) (suc j) h = zero_at xs j h.1

-- the first one
pub first_of : (ns room : List ℕ) → AreZeros room → length ns ≤ length room → ((j : ℕ) → j < length ns → 0 < get_or ns j 0) → HasCell ns room 0
first_of ns room zeros long some =
    let cs = take (length ns) room in
    let low : (j : ℕ) → j < length ns → get_or cs j 0 ≡ 0 = λ j l. get_or-take (length ns) room j 0 l ∙ zero_at room j zeros in
    let are = classes_from ns cs (length-take-le (length ns) room long) (λ j l. omega (arith, low j l, some j l)) in
    record { are = are; is = zero_cell ns cs are low }
  where
    zero_cell : (ms cs : List ℕ) → AreClasses ms cs → ((j : ℕ) → j < length ms → get_or cs j 0 ≡ 0) → cell_of ms cs ≡ 0
    zero_cell [] cs h z = refl
    zero_cell (m ∷ ms) [] h z = refl
    zero_cell (m ∷ ms) (c ∷ cs) h z =
        let first : c ≡ 0 = z 0 (omega arith) in
        omega (arith, ap (λ x. x * product ms) first, zero_cell ms cs h.1 (λ j l. z (suc j) (omega (arith, l))))

-- a place without a class
pub none_over : (ns : List ℕ) (j : ℕ) → j < length ns → get_or ns j 0 ≡ 0 → (cs : List ℕ) → AreClasses ns cs → ⊥
none_over ns j l e cs h = omega (arith, class_low ns cs j h l, e)

-- the number of the next combination, or how many there are
abbrev pub reached : List ℕ → Option (List ℕ) → ℕ
reached ns None = product ns
reached ns (Some room) = cell_of ns (take (length ns) room)

abbrev pub IsCombination : List ℕ → Option (List ℕ) → Type 0
IsCombination ns None = Unit {0}
IsCombination ns (Some room) = AreClasses ns (take (length ns) room)

pub first_is : (ns : List ℕ) (r : Option (List ℕ)) → MatchOption r ((cs : List ℕ) → AreClasses ns cs → ⊥) (λ first. AreClasses ns (take (length ns) first) × (cell_of ns (take (length ns) first) ≡ 0)) → IsCombination ns r
first_is ns None h = tt
first_is ns (Some room) h = h.0

pub next_is : (ns : List ℕ) (r : Option (List ℕ)) (cell : ℕ) → MatchOption r (cell + 1 ≡ product ns) (λ next. AreClasses ns (take (length ns) next) × (cell_of ns (take (length ns) next) ≡ cell + 1)) → IsCombination ns r
next_is ns None cell h = tt
next_is ns (Some room) cell h = h.0

pub next_reached : (ns : List ℕ) (r : Option (List ℕ)) (cell : ℕ) → MatchOption r (cell + 1 ≡ product ns) (λ next. AreClasses ns (take (length ns) next) × (cell_of ns (take (length ns) next) ≡ cell + 1)) → reached ns r ≡ cell + 1
next_reached ns None cell h = sym h
next_reached ns (Some room) cell h = h.1
