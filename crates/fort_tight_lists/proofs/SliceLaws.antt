-- The targets of a class, one after another.
use Rattle.std.proofs.Common.{◌≡◌, ℕ, zero, suc, ◌+◌, ◌*◌, ◌<◌, List, [], ◌∷◌, ◌++◌, set, take, length, get_or, Option, None, Some, MatchOption, refl, ap, sym, ◌∙◌, arith, subst, ⊎_elim}
use Rattle.std.proofs.lemmas.Bool.{cases_lt}
use Rattle.std.proofs.lemmas.List.{length_push, get_or_push, get_or_append_left}
use Rattle.fort_class_blocks.specs.Blocks.{AreClasses, cell_of, product}
use Rattle.fort_class_blocks.proofs.CellLaws.{cell_same}
use Rattle.fort_class_blocks.proofs.CombinationLaws.{reached, IsCombination, first_is, next_is, next_reached}

-- the first values are those of the combinations with lesser numbers
pub record IsListedTo (ns : List ℕ) (value : List ℕ → ℕ) (values : List ℕ) (n : ℕ) : Type 0 where
  pub count : length values ≡ n
  pub are : (cs : List ℕ) → AreClasses ns cs → cell_of ns cs < n → get_or values (cell_of ns cs) 0 ≡ value cs

pub listed_none : (ns : List ℕ) (value : List ℕ → ℕ) → IsListedTo ns value [] 0
listed_none ns value = record { count = refl; are = λ cs are l. absurd (omega (arith, l)) }

-- one more
pub listed_more : (ns cs : List ℕ) (value : List ℕ → ℕ) (old new : List ℕ) (x : ℕ) → AreClasses ns cs → IsListedTo ns value old (cell_of ns cs) → new ≡ old ++ x ∷ [] → x ≡ value cs → IsListedTo ns value new (cell_of ns cs + 1)
listed_more ns cs value old new x are h e is = record {
  count = ap length e ∙ (length_push old x ∙ ap (λ n. n + 1) h.count);
  are = λ ds be l. ap (λ xs. get_or xs (cell_of ns ds) 0) e ∙ ⊎_elim
      (λ less. get_or_append_left old (x ∷ []) 0 (cell_of ns ds) (omega (arith, less, h.count)) ∙ h.are ds be less)
      (λ more.
      let at : cell_of ns ds ≡ cell_of ns cs = omega (arith, l, more) in
      let same : ds ≡ cs = cell_same ns ds cs be are at in
      get_or_push old x 0 (cell_of ns ds) (h.count ∙ sym at) ∙ (is ∙ ap value (sym same)))
      (cases_lt (cell_of ns ds) (cell_of ns cs));
}

-- a class of the place in a combination of the others
pub class_put : (ns cs : List ℕ) (j c : ℕ) → AreClasses (set ns j 1) cs → c < get_or ns j 0 → AreClasses ns (set cs j c)
class_put [] [] j c h l = tt
class_put [] (x ∷ cs) j c h l = absurd h
class_put (n ∷ ns) [] zero c h l = absurd h
class_put (n ∷ ns) [] (suc j) c h l = absurd h
class_put (n ∷ ns) (x ∷ cs) zero c h l = (l, h.1)
class_put (n ∷ ns) (x ∷ cs) (suc j) c h l = (h.0, class_put ns cs j c h.1 l)

-- a combination without the class of the place
pub class_left : (ns cs : List ℕ) (j : ℕ) → AreClasses ns cs → AreClasses (set ns j 1) (set cs j 0)
class_left [] [] j h = tt
class_left [] (x ∷ cs) j h = absurd h
class_left (n ∷ ns) [] j h = absurd h
class_left (n ∷ ns) (x ∷ cs) zero h = (omega arith, h.1)
class_left (n ∷ ns) (x ∷ cs) (suc j) h = (h.0, class_left ns cs j h.1)

-- the combination in the room, and its number
pub combination_in : (all : List ℕ) (n : ℕ) (room : List ℕ) (next : Option (List ℕ)) → length all ≡ n → IsCombination all next → next ≡ Some room → AreClasses all (take n room)
combination_in all n room next long h e = subst (λ k. AreClasses all (take k room)) long (subst (IsCombination all) e h)

pub number_in : (all : List ℕ) (n : ℕ) (room : List ℕ) (next : Option (List ℕ)) → length all ≡ n → next ≡ Some room → reached all next ≡ cell_of all (take n room)
number_in all n room next long e = ap (reached all) e ∙ ap (λ k. cell_of all (take k room)) long

-- what the first and the next one are, over counts that stand in front of some room
pub IsFirst : List ℕ → Option (List ℕ) → Type 0
IsFirst all r = MatchOption r ((cs : List ℕ) → AreClasses all cs → ⊥) (λ first. AreClasses all (take (length all) first) × (cell_of all (take (length all) first) ≡ 0))

pub IsNext : List ℕ → List ℕ → Option (List ℕ) → Type 0
IsNext all room r = MatchOption r (cell_of all (take (length all) room) + 1 ≡ product all) (λ next. AreClasses all (take (length all) next) × (cell_of all (take (length all) next) ≡ cell_of all (take (length all) room) + 1))

pub first_at : (front all : List ℕ) (r : Option (List ℕ)) → front ≡ all
    → MatchOption r ((cs : List ℕ) → AreClasses front cs → ⊥) (λ first. AreClasses front (take (length front) first) × (cell_of front (take (length front) first) ≡ 0)) → IsFirst all r
unfolding IsFirst
first_at front all r e h = subst (λ xs. IsFirst xs r) e h

pub next_at : (front all room : List ℕ) (r : Option (List ℕ)) → front ≡ all
    → MatchOption r (cell_of front (take (length front) room) + 1 ≡ product front) (λ next. AreClasses front (take (length front) next) × (cell_of front (take (length front) next) ≡ cell_of front (take (length front) room) + 1)) → IsNext all room r
unfolding IsNext
next_at front all room r e h = subst (λ xs. IsNext xs room r) e h

pub first_combination : (all : List ℕ) (r : Option (List ℕ)) → IsFirst all r → IsCombination all r
unfolding IsFirst
first_combination all r h = first_is all r h

pub next_combination : (all room : List ℕ) (r : Option (List ℕ)) → IsNext all room r → IsCombination all r
unfolding IsNext
next_combination all room r h = next_is all r (cell_of all (take (length all) room)) h

pub next_number : (all : List ℕ) (n : ℕ) (room : List ℕ) (r : Option (List ℕ)) → length all ≡ n → IsNext all room r → reached all r ≡ cell_of all (take n room) + 1
unfolding IsNext
next_number all n room r long h = next_reached all r (cell_of all (take (length all) room)) h ∙ ap (λ k. cell_of all (take k room) + 1) long

-- none is reached at first
none_first : (all : List ℕ) (r : Option (List ℕ)) → IsFirst all r → reached all r ≡ 0
unfolding IsFirst
none_first all None h = no_product all h
  where
    zeros : (ns : List ℕ) → 0 < product ns → (cs : List ℕ) × AreClasses ns cs
    zeros [] l = ([], tt)
    zeros (n ∷ ns) l =
        let rest : 0 < product ns = ⊎_elim (λ a. a) (λ b. let z : product ns ≡ 0 = omega (arith, b) in absurd (omega (arith, l, ap (λ k. n * k) z))) (cases_lt 0 (product ns)) in
        let some : 0 < n = ⊎_elim (λ a. a) (λ b. let z : n ≡ 0 = omega (arith, b) in absurd (omega (arith, l, ap (λ k. k * product ns) z))) (cases_lt 0 n) in
        let r = zeros ns rest in
        (0 ∷ r.0, (some, r.1))

    no_product : (ns : List ℕ) → ((cs : List ℕ) → AreClasses ns cs → ⊥) → product ns ≡ 0
    no_product ns none = ⊎_elim (λ a. let z = zeros ns a in absurd (none z.0 z.1)) (λ b. omega (arith, b)) (cases_lt 0 (product ns))
none_first all (Some room) h = h.1

pub listed_first : (all : List ℕ) (value : List ℕ → ℕ) (values : List ℕ) (r : Option (List ℕ)) → values ≡ [] → IsFirst all r → IsListedTo all value values (reached all r)
listed_first all value values r e h = subst (IsListedTo all value values) (sym (none_first all r h)) (subst (λ xs. IsListedTo all value xs 0) (sym e) (listed_none all value))
