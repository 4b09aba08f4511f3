-- The free names of a formula are the names that occur free in it, each once, in the order of their first places.
use Rattle.std.specs.Prelude.{◌≡◌, ◌⊎◌, Bool, true, false, not, cond, List, [], ◌∷◌, ◌++◌, bytes_eq, Contains, refl}
use Rattle.std.proofs.Common.{inl, inr, sym, ap, subst, ◌∙◌, arith}
use Rattle.fort_theory.specs.EachOnce.{StandsBefore, StandsBeforeAll, AreEachOnce}
use Rattle.fort_theory.proofs.EachOnceUnique.{StandsBefore-behind, StandsBefore-cases, StandsBefore-Contains}
use Rattle.fort_logic.specs.Formulas.{Name, Formula}
use Rattle.fort_logic.specs.FreeNames.{without, occurrences, once, free_names}
use Rattle.fort_theory.proofs.Members.{Contains-behind, Contains-cons_cases, Contains-from_filter}
use Rattle.fort_logic.proofs.ScopeNumbers.{name_itself, Contains-once}

kept : (x : Name) (zs : List Name) (z : Name) (b : Bool) → not (bytes_eq z x) ≡ b → without x (z ∷ zs) ≡ cond b (z ∷ without x zs) (without x zs)
kept x zs z b is = ap (λ c. cond c (z ∷ without x zs) (without x zs)) is

not_true : (b : Bool) → not b ≡ true → b ≡ false
not_true true is = cc
not_true false is = refl

-- what is left is another name, and was there
Contains-from_without : (x : Name) (zs : List Name) (y : Name) → Contains (without x zs) y → (bytes_eq y x ≡ false) × Contains zs y
Contains-from_without x zs y h =
    let found = Contains-from_filter (λ z. not (bytes_eq z x)) zs y h in (not_true (bytes_eq y x) found.1, found.0)

StandsBefore-from_without : (n : Name) (xs : List Name) (x y : Name) → StandsBefore (without n xs) x y → StandsBefore xs x y
StandsBefore-from_without n [] x y h = absurd (no_split h.front h.split)
  where
    no_split : (front : List Name) → [] ≡ front ++ (x ∷ h.back) → ⊥
    no_split [] e = cc
    no_split (c ∷ front) e = cc
StandsBefore-from_without n (z ∷ zs) x y h = by (not (bytes_eq z n)) refl (λ k. StandsBefore-from_without n zs x y k)
  where
    at : (StandsBefore (without n zs) x y → StandsBefore zs x y) → ((x ≡ z) × Contains (without n zs) y) ⊎ StandsBefore (without n zs) x y → StandsBefore (z ∷ zs) x y
    at later (inl k) = record { front = []; back = zs; split = ap (λ w. w ∷ zs) (sym k.0); behind = (Contains-from_without n zs y k.1).1 }
    at later (inr k) = StandsBefore-behind z zs x y (later k)

    by : (b : Bool) → not (bytes_eq z n) ≡ b → (StandsBefore (without n zs) x y → StandsBefore zs x y) → StandsBefore (z ∷ zs) x y
    by true is later = at later (StandsBefore-cases z (without n zs) x y (subst (λ w. StandsBefore w x y) (kept n zs z true is) h))
    by false is later = StandsBefore-behind z zs x y (later (subst (λ w. StandsBefore w x y) (kept n zs z false is) h))

Contains-from_once : (xs : List Name) (y : Name) → Contains (once xs) y → Contains xs y
Contains-from_once [] y h = h
Contains-from_once (x ∷ xs) y h = by (Contains-cons_cases x (without x (once xs)) y h) (λ k. Contains-from_once xs y k)
  where
    by : (x ≡ y) ⊎ Contains (without x (once xs)) y → (Contains (once xs) y → Contains xs y) → Contains (x ∷ xs) y
    by (inl e) later = (0, omega arith, e)
    by (inr k) later = Contains-behind x xs y (later (Contains-from_without x (once xs) y k).1)

other_name : (x y : Name) → bytes_eq y x ≡ false → y ≡ x → ⊥
other_name x y is e = let said : true ≡ false = sym (name_itself x) ∙ (ap (λ w. bytes_eq w x) (sym e) ∙ is) in cc

once-distinct : (xs : List Name) (y : Name) → StandsBefore (once xs) y y → ⊥
once-distinct [] y h = absurd (no_split h.front h.split)
  where
    no_split : (front : List Name) → [] ≡ front ++ (y ∷ h.back) → ⊥
    no_split [] e = cc
    no_split (c ∷ front) e = cc
once-distinct (x ∷ xs) y h = by (StandsBefore-cases x (without x (once xs)) y y h) (λ k. once-distinct xs y k)
  where
    by : ((y ≡ x) × Contains (without x (once xs)) y) ⊎ StandsBefore (without x (once xs)) y y → (StandsBefore (once xs) y y → ⊥) → ⊥
    by (inl k) later = other_name x y (Contains-from_without x (once xs) y k.1).0 k.0
    by (inr k) later = later (StandsBefore-from_without x (once xs) y y k)

once-ordered : (xs : List Name) (x y : Name) → StandsBefore (once xs) x y → StandsBeforeAll xs x y
once-ordered [] x y h = absurd (no_split h.front h.split)
  where
    no_split : (front : List Name) → [] ≡ front ++ (x ∷ h.back) → ⊥
    no_split [] e = cc
    no_split (c ∷ front) e = cc
once-ordered (z ∷ xs) x y h = by (StandsBefore-cases z (without z (once xs)) x y h) (λ k. once-ordered xs x y k)
  where
    by : ((x ≡ z) × Contains (without z (once xs)) y) ⊎ StandsBefore (without z (once xs)) x y → (StandsBefore (once xs) x y → StandsBeforeAll xs x y) → StandsBeforeAll (z ∷ xs) x y
    by (inl k) later = record { front = []; back = xs; split = ap (λ w. w ∷ xs) (sym k.0); none = λ c. omega (arith, c.1) }
    by (inr k) later =
        let inner = later (StandsBefore-from_without z (once xs) x y k) in
        let apart = (Contains-from_without z (once xs) y (StandsBefore-Contains (without z (once xs)) x y k)).0 in
        record { front = z ∷ inner.front; back = inner.back; split = ap (λ w. z ∷ w) inner.split; none = λ c. not_there inner apart (Contains-cons_cases z inner.front y c) }
      where
        not_there : (inner : StandsBeforeAll xs x y) → bytes_eq y z ≡ false → (z ≡ y) ⊎ Contains inner.front y → ⊥
        not_there inner apart (inl e) = other_name z y apart (sym e)
        not_there inner apart (inr c) = inner.none c

-- the free names are the free occurrences, each once
pub free_names-AreEachOnce : (f : Formula) → AreEachOnce (occurrences f) (free_names f)
free_names-AreEachOnce f = record {
  same = λ x. (Contains-once (occurrences f) x, Contains-from_once (occurrences f) x);
  distinct = once-distinct (occurrences f);
  ordered = once-ordered (occurrences f);
}
