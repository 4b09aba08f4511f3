-- Which ground terms are written in a formula doesn't matter for its width: a core formula in which each term is replaced by one tree has the same free numbers, part for part.
use Rattle.std.specs.Prelude.{◌≡◌, ◌↔◌, ◌==◌, ℕ, ◌+◌, Bool, true, false, not, ◌&&◌, if◌then◌else◌, List, [], ◌∷◌, ◌++◌, ◌⊎◌, Some, None, length, map, reverse, Contains, refl}
use Rattle.std.proofs.Common.{inl, inr, ap, sym, ◌∙◌, subst}
use Rattle.std.proofs.lemmas.List.{map-append}
use Rattle.fort_theory.specs.Trees.{Tree, Node, Nil}
use Rattle.fort_theory.proofs.Lists.{Contains-map, Contains-map_from}
use Rattle.fort_logic.specs.Formulas as surface
use Rattle.fort_logic.specs.Formulas.{Name, Argument, Formula, SurfaceRel, Property}
use Rattle.fort_logic.specs.FreeNames.{free_names}
use Rattle.fort_theory.specs.Cores.{Atom, Related, InContext, Normal, IsTerm, Core, True, Leaf, Not, Binary, Exists, Infinite, Star, Plus, Step, Conv}
use Rattle.fort_theory.specs.Logic.{And, Or, Iff}
use Rattle.fort_theory.specs.Parts.{postorder, stands_in, is_free, HasManyColumns, HasManyRootsIn, HasManyRootsAt, IsTooWide}
use Rattle.fort_logic.specs.Translation.{atom, number_in, some, every, equal, infinitely_many, implies, at_most_one_step, normalises, joins, terminates, all_terminate, related, property_core, commutes, about, about_both, core_in, core_of, IsFormulaTooWide}
use Rattle.fort_theory.proofs.ColumnLaws.{AreColumns-same}

-- each term is replaced by the tree that the translation takes where there is no term
abbrev blank_atom : Atom → Atom
blank_atom (Related rel index x y) = Related rel index x y
blank_atom (InContext e number place x y) = InContext e number place x y
blank_atom (Normal index x) = Normal index x
blank_atom (IsTerm x t) = IsTerm x (Node 0 Nil)

abbrev pub blank : Core → Core
blank True = True
blank (Leaf a) = Leaf (blank_atom a)
blank (Not f) = Not (blank f)
blank (Binary op f g) = Binary op (blank f) (blank g)
blank (Exists n f) = Exists n (blank f)
blank (Infinite n f) = Infinite n (blank f)

stands_in-blank : (n : ℕ) (a : Atom) → stands_in n (blank_atom a) ≡ stands_in n a
stands_in-blank n (Related rel index x y) = refl
stands_in-blank n (InContext e number place x y) = refl
stands_in-blank n (Normal index x) = refl
stands_in-blank n (IsTerm x t) = refl

is_free-blank : (n : ℕ) (c : Core) → is_free n (blank c) ≡ is_free n c
is_free-blank n True = refl
is_free-blank n (Leaf a) = stands_in-blank n a
is_free-blank n (Not f) = is_free-blank n f
is_free-blank n (Binary op f g) = rw (is_free-blank n f, is_free-blank n g) refl
is_free-blank n (Exists x f) = ap (λ b. not (x == n) && b) (is_free-blank n f)
is_free-blank n (Infinite x f) = ap (λ b. not (x == n) && b) (is_free-blank n f)

one_more : (f h : Core) → postorder (blank f) ≡ map blank (postorder f)
    → postorder (blank f) ++ blank h ∷ [] ≡ map blank (postorder f ++ h ∷ [])
one_more f h is = ap (λ fs. fs ++ blank h ∷ []) is ∙ sym (map-append blank (postorder f) (h ∷ []))

two_more : (f g h : Core) → postorder (blank f) ≡ map blank (postorder f) → postorder (blank g) ≡ map blank (postorder g)
    → postorder (blank f) ++ (postorder (blank g) ++ blank h ∷ []) ≡ map blank (postorder f ++ (postorder g ++ h ∷ []))
two_more f g h first second =
    ap (λ fs. fs ++ (postorder (blank g) ++ blank h ∷ [])) first
    ∙ (ap (λ gs. map blank (postorder f) ++ gs) (one_more g h second) ∙ sym (map-append blank (postorder f) (postorder g ++ h ∷ [])))

postorder-blank : (c : Core) → postorder (blank c) ≡ map blank (postorder c)
postorder-blank True = refl
postorder-blank (Leaf a) = refl
postorder-blank (Not f) = one_more f (Not f) (postorder-blank f)
postorder-blank (Binary op f g) = two_more f g (Binary op f g) (postorder-blank f) (postorder-blank g)
postorder-blank (Exists n f) = one_more f (Exists n f) (postorder-blank f)
postorder-blank (Infinite n f) = one_more f (Infinite n f) (postorder-blank f)

HasManyRootsIn-blank : (a : Atom) → HasManyRootsIn (blank_atom a) ≡ HasManyRootsIn a
HasManyRootsIn-blank (Related rel index x y) = refl
HasManyRootsIn-blank (InContext e number place x y) = refl
HasManyRootsIn-blank (Normal index x) = refl
HasManyRootsIn-blank (IsTerm x t) = refl

HasManyRootsAt-blank : (c : Core) → HasManyRootsAt (blank c) ≡ HasManyRootsAt c
HasManyRootsAt-blank True = refl
HasManyRootsAt-blank (Leaf a) = HasManyRootsIn-blank a
HasManyRootsAt-blank (Not f) = refl
HasManyRootsAt-blank (Binary op f g) = refl
HasManyRootsAt-blank (Exists n f) = refl
HasManyRootsAt-blank (Infinite n f) = refl

-- the same columns, and the same expression
wide-same : (h f : Core) → ((n : ℕ) → is_free n h ≡ is_free n f) → HasManyRootsAt h ≡ HasManyRootsAt f → HasManyColumns f ⊎ HasManyRootsAt f → HasManyColumns h ⊎ HasManyRootsAt h
wide-same h f tells long (inl many) =
    inl (record { columns = many.columns; are_columns = AreColumns-same h f many.columns tells many.are_columns; many = many.many })
wide-same h f tells long (inr is) = inr (rw long is)

IsTooWide-blank : (c : Core) → IsTooWide c ↔ IsTooWide (blank c)
IsTooWide-blank c = (
  (λ w. record {
    part = blank w.part;
    among = subst (λ cs. Contains cs (blank w.part)) (sym (postorder-blank c)) (Contains-map blank (postorder c) w.part w.among);
    wide = wide-same (blank w.part) w.part (λ n. is_free-blank n w.part) (HasManyRootsAt-blank w.part) w.wide;
  }),
  (λ w.
      let from = Contains-map_from blank (postorder c) w.part (subst (λ cs. Contains cs w.part) (postorder-blank c) w.among) in
      let same = subst (λ p. HasManyColumns p ⊎ HasManyRootsAt p) (sym from.2) w.wide in
      record {
        part = from.0;
        among = from.1;
        wide = wide-same from.0 (blank from.0) (λ n. sym (is_free-blank n from.0)) (sym (HasManyRootsAt-blank from.0)) same;
      }),
)

-- ---- the translation with no terms at all

blank-some : (n : ℕ) (c d : Core) → blank c ≡ d → blank (some n c) ≡ some n d
blank-some n c d is = by (is_free n c) refl ∙ sym (ap (λ b. if b then Exists n d else d) told)
  where
    told : is_free n d ≡ is_free n c
    told = sym (ap (is_free n) is) ∙ is_free-blank n c

    by : (b : Bool) → is_free n c ≡ b → blank (if is_free n c then Exists n c else c) ≡ (if is_free n c then Exists n d else d)
    by true e = rw e (ap (Exists n) is)
    by false e = rw e is

blank-every : (n : ℕ) (c d : Core) → blank c ≡ d → blank (every n c) ≡ every n d
blank-every n c d is = ap Not (blank-some n (Not c) (Not d) (ap Not is))

blank-infinitely_many : (n : ℕ) (c d : Core) → blank c ≡ d → blank (infinitely_many n c) ≡ infinitely_many n d
blank-infinitely_many n c d is =
    by (is_free n c) refl ∙ sym (ap (λ b. if b then Infinite n d else Binary And d (Infinite n (equal n n))) told)
  where
    told : is_free n d ≡ is_free n c
    told = sym (ap (is_free n) is) ∙ is_free-blank n c

    by : (b : Bool) → is_free n c ≡ b
        → blank (if is_free n c then Infinite n c else Binary And c (Infinite n (equal n n)))
        ≡ (if is_free n c then Infinite n d else Binary And d (Infinite n (equal n n)))
    by true e = rw e (ap (Infinite n) is)
    by false e = rw e (ap (λ f. Binary And f (Infinite n (equal n n))) is)

blank-both : (f f' g g' : Core) (make : Core → Core → Core) → blank f ≡ f' → blank g ≡ g' → make (blank f) (blank g) ≡ make f' g'
blank-both f f' g g' make first second = rw (first, second) refl

two_binders : (n : ℕ) (c : Core) → blank c ≡ c → blank (every n (every (n + 1) c)) ≡ every n (every (n + 1) c)
two_binders n c is = blank-every n (every (n + 1) c) (every (n + 1) c) (blank-every (n + 1) c c is)

-- for all of n and of n + 1: where the first formula is true, some have the second, in which no terms are written
implied : (n : ℕ) (c : Core) (found : Core) → blank c ≡ c → blank found ≡ found
    → blank (every n (every (n + 1) (implies (some (n + 2) c) found))) ≡ every n (every (n + 1) (implies (some (n + 2) c) found))
implied n c found is also =
    two_binders n (implies (some (n + 2) c) found)
    (blank-both (some (n + 2) c) (some (n + 2) c) found found implies (blank-some (n + 2) c c is) also)

blank-joins : (index n x y : ℕ) → blank (joins index n x y) ≡ joins index n x y
blank-joins index n x y = let c = Binary And (atom Star index x n) (atom Star index y n) in blank-some n c c refl

blank-terminates : (index n x : ℕ) → blank (terminates index n x) ≡ terminates index n x
blank-terminates index n x =
    let many = infinitely_many n (atom Star index x n) in
    let c = Binary And (atom Star index x n) (atom Plus index n n) in
    blank-both (Not many) (Not many) (Not (some n c)) (Not (some n c)) (Binary And)
    (ap Not (blank-infinitely_many n (atom Star index x n) (atom Star index x n) refl)) (ap Not (blank-some n c c refl))

blank-property : (p : Property) (index n : ℕ) → blank (property_core p index n) ≡ property_core p index n
blank-property surface.Cr index n =
    implied n (Binary And (atom Star index (n + 2) n) (atom Star index (n + 2) (n + 1))) (joins index (n + 2) n (n + 1)) refl (blank-joins index (n + 2) n (n + 1))
blank-property surface.Wcr index n =
    implied n (Binary And (atom Step index (n + 2) n) (atom Step index (n + 2) (n + 1))) (joins index (n + 2) n (n + 1)) refl (blank-joins index (n + 2) n (n + 1))
blank-property surface.Scr index n =
    let met = Binary And (at_most_one_step index n (n + 2)) (atom Star index (n + 1) (n + 2)) in
    implied n (Binary And (atom Step index (n + 2) n) (atom Step index (n + 2) (n + 1))) (some (n + 2) met) refl (blank-some (n + 2) met met refl)
blank-property surface.Wn index n =
    let c = some (n + 1) (normalises index n (n + 1)) in
    blank-every n c c (blank-some (n + 1) (normalises index n (n + 1)) (normalises index n (n + 1)) refl)
blank-property surface.Unr index n =
    implied n (Binary And (normalises index (n + 2) n) (normalises index (n + 2) (n + 1))) (equal n (n + 1)) refl refl
blank-property surface.Unc index n =
    two_binders n (implies (Binary And (Binary And (atom Conv index n (n + 1)) (Leaf (Normal index n))) (Leaf (Normal index (n + 1)))) (equal n (n + 1))) refl
blank-property surface.Nfp index n =
    two_binders n (implies (Binary And (atom Conv index n (n + 1)) (Leaf (Normal index (n + 1)))) (atom Star index n (n + 1))) refl

blank-all_terminate : (index n : ℕ) → blank (all_terminate index n) ≡ all_terminate index n
blank-all_terminate index n =
    let c = terminates index (n + 1) n in blank-every n c c (blank-terminates index (n + 1) n)

blank-commutes : (n : ℕ) → blank (commutes n) ≡ commutes n
blank-commutes n =
    let from = Binary And (atom Star 1 (n + 2) n) (atom Star 2 (n + 2) (n + 1)) in
    let to = Binary And (atom Star 2 n (n + 2)) (atom Star 1 (n + 1) (n + 2)) in
    implied n from (some (n + 2) to) refl (blank-some (n + 2) to to refl)

blank-related : (rel : SurfaceRel) (index x y : ℕ) → blank (related rel index x y) ≡ related rel index x y
blank-related surface.Eq index x y = refl
blank-related surface.Step index x y = refl
blank-related surface.Star index x y = refl
blank-related surface.Plus index x y = refl
blank-related surface.Reflexive index x y = refl
blank-related surface.Normal index x y = refl
blank-related surface.Root index x y = refl
blank-related surface.Below index x y = refl
blank-related surface.Par index x y = refl
blank-related surface.Either index x y = refl
blank-related surface.Conv index x y = refl

module _ (terms : List Tree) where
  blank-about : (scope : List Name) (n : ℕ) (a : Argument) (make with_none : ℕ → ℕ → Core) → ((m x : ℕ) → blank (make m x) ≡ with_none m x)
      → blank (about terms scope n a make) ≡ about [] scope n a with_none
  blank-about scope n (surface.Var x) make with_none is = is n (number_in scope x)
  blank-about scope n (surface.Ground k) make with_none is = ap (λ c. Exists n (Binary And (Leaf (IsTerm n (Node 0 Nil))) c)) (is (n + 1) n)

  blank-about_both : (scope : List Name) (n : ℕ) (a b : Argument) (make : ℕ → ℕ → ℕ → Core) → ((m x y : ℕ) → blank (make m x y) ≡ make m x y)
      → blank (about_both terms scope n a b make) ≡ about_both [] scope n a b make
  blank-about_both scope n a b make is =
      blank-about scope n a (λ m x. about terms scope m b (λ k y. make k x y)) (λ m x. about [] scope m b (λ k y. make k x y))
      (λ m x. blank-about scope m b (λ k y. make k x y) (λ k y. make k x y) (λ k y. is k x y))

  blank-core_in : (scope : List Name) (f : Formula) → blank (core_in terms scope f) ≡ core_in [] scope f
  blank-core_in scope surface.True = refl
  blank-core_in scope surface.False = refl
  blank-core_in scope (surface.Related rel a b index) =
      blank-about_both scope (length scope) a b (λ n x y. related rel index x y) (λ n x y. blank-related rel index x y)
  blank-core_in scope (surface.InContext e number place a b) =
      blank-about_both scope (length scope) a b (λ n x y. Leaf (InContext e number place x y)) (λ n x y. refl)
  blank-core_in scope (surface.Nf a index) = blank-about scope (length scope) a (λ n x. Leaf (Normal index x)) (λ n x. Leaf (Normal index x)) (λ n x. refl)
  blank-core_in scope (surface.Join a b index) =
      blank-about_both scope (length scope) a b (λ n x y. joins index n x y) (λ n x y. blank-joins index n x y)
  blank-core_in scope (surface.Sn None index) = blank-all_terminate index (length scope)
  blank-core_in scope (surface.Sn (Some a) index) =
      blank-about scope (length scope) a (λ n x. terminates index n x) (λ n x. terminates index n x) (λ n x. blank-terminates index n x)
  blank-core_in scope (surface.Has p index) = blank-property p index (length scope)
  blank-core_in scope surface.Com = blank-commutes (length scope)
  blank-core_in scope (surface.Not f) = ap Not (blank-core_in scope f)
  blank-core_in scope (surface.And f g) =
      blank-both (core_in terms scope f) (core_in [] scope f) (core_in terms scope g) (core_in [] scope g) (Binary And) (blank-core_in scope f) (blank-core_in scope g)
  blank-core_in scope (surface.Or f g) =
      blank-both (core_in terms scope f) (core_in [] scope f) (core_in terms scope g) (core_in [] scope g) (Binary Or) (blank-core_in scope f) (blank-core_in scope g)
  blank-core_in scope (surface.Imp f g) =
      blank-both (core_in terms scope f) (core_in [] scope f) (core_in terms scope g) (core_in [] scope g) implies (blank-core_in scope f) (blank-core_in scope g)
  blank-core_in scope (surface.Iff f g) =
      blank-both (core_in terms scope f) (core_in [] scope f) (core_in terms scope g) (core_in [] scope g) (Binary Iff) (blank-core_in scope f) (blank-core_in scope g)
  blank-core_in scope (surface.Exists x f) =
      blank-some (length scope) (core_in terms (x ∷ scope) f) (core_in [] (x ∷ scope) f) (blank-core_in (x ∷ scope) f)
  blank-core_in scope (surface.Forall x f) =
      blank-every (length scope) (core_in terms (x ∷ scope) f) (core_in [] (x ∷ scope) f) (blank-core_in (x ∷ scope) f)
  blank-core_in scope (surface.Infinite x f) =
      blank-infinitely_many (length scope) (core_in terms (x ∷ scope) f) (core_in [] (x ∷ scope) f) (blank-core_in (x ∷ scope) f)

  -- Result: the core formula is too wide whichever terms are written in the formula
  pub core_of-too_wide : (f : Formula) → IsTooWide (core_of terms f) ↔ IsFormulaTooWide f
  core_of-too_wide f =
      let wide = IsTooWide-blank (core_of terms f) in
      let is = blank-core_in (reverse (free_names f)) f in
      ((λ w. subst IsTooWide is (wide.0 w)), (λ w. wide.1 (subst IsTooWide (sym is) w)))
