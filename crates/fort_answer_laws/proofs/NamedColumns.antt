-- The columns of a formula's core formula are the numbers of its free names, all of them.
use Rattle.std.specs.Prelude.{◌≡◌, ℕ, zero, suc, ◌+◌, ◌<◌, ◌≤◌, ◌||◌, ◌&&◌, ◌==◌, Bool, true, false, not, if◌then◌else◌, List, [], ◌∷◌, ◌++◌, length, reverse, Some, None, slice_get, get_or, bytes_eq, Contains, refl}
use Rattle.std.specs.List.{range_with_len}
use Rattle.std.proofs.Common.{sym, ap, subst, ◌∙◌, arith, ⊎_elim, eq-eqb}
use Rattle.std.proofs.lemmas.Bool.{or_left, or_right}
use Rattle.std.proofs.lemmas.List.{reverse-reverse}
use Rattle.std.proofs.lemmas.Option.{slice_get-get_or}
use Rattle.std.proofs.lemmas.List.Elements.{Contains-append_cases}
use Rattle.fort_theory.specs.Trees.{Tree}
use Rattle.fort_theory.proofs.Members.{Contains-head, Contains-behind, Contains-none, Contains-cons_cases, Contains-from_filter}
use Rattle.fort_logic.specs.Formulas as surface
use Rattle.fort_logic.specs.Formulas.{Name, Argument, Formula, SurfaceRel}
use Rattle.fort_logic.specs.FreeNames.{without, names_in, occurrences, free_names}
use Rattle.fort_theory.specs.EachOnce.{StandsBefore}
use Rattle.fort_theory.specs.Cores.{Core, Leaf, Normal, IsTerm, Not, Binary, Exists, Infinite, Star, Plus, InContext}
use Rattle.fort_theory.specs.Logic.{And}
use Rattle.fort_theory.specs.Parts.{is_free}
use Rattle.fort_logic.specs.Translation.{number_in, some, every, infinitely_many, equal, related, joins, terminates, term_at, about, about_both, core_in, core_of, atom}
use Rattle.fort_logic.proofs.NamesOnce.{free_names-AreEachOnce}
use Rattle.fort_logic.proofs.FreeNumbers.{core_of-free}
use Rattle.fort_logic.proofs.ScopeNumbers.{number_in-below, slice_get-number_in, Contains-reverse}
use Rattle.fort_tables.proofs.EqualTests.{test_from_apart}
use Rattle.fort_parts.specs.PartColumns.{columns_of}
use Rattle.fort_parts.proofs.PartColumnLaws.{columns_of-unique, Contains-range, range-below, ascending-range}

itself : (k : ℕ) → (k == k) ≡ true
itself k = eq-eqb k k refl

-- a smaller number stays free under a binder
outside : (k n : ℕ) (f : Core) → k < n → is_free k f ≡ true → (not (n == k) && is_free k f) ≡ true
outside k n f l h = rw (ap not (test_from_apart n k (λ e. absurd (omega arith)))) h

free-some : (k n : ℕ) (f : Core) → k < n → is_free k f ≡ true → is_free k (some n f) ≡ true
free-some k n f l h = by (is_free n f) refl
  where
    by : (b : Bool) → is_free n f ≡ b → is_free k (if b then Exists n f else f) ≡ true
    by true e = outside k n f l h
    by false e = h

free-infinitely_many : (k n : ℕ) (f : Core) → k < n → is_free k f ≡ true → is_free k (infinitely_many n f) ≡ true
free-infinitely_many k n f l h = by (is_free n f) refl
  where
    by : (b : Bool) → is_free n f ≡ b → is_free k (if b then Infinite n f else Binary And f (Infinite n (equal n n))) ≡ true
    by true e = outside k n f l h
    by false e = or_left (is_free k f) (is_free k (Infinite n (equal n n))) h

first-two : (x y : ℕ) → ((x == x) || (y == x)) ≡ true
first-two x y = or_left (x == x) (y == x) (itself x)

second-two : (x y : ℕ) → ((x == y) || (y == y)) ≡ true
second-two x y = or_right (x == y) (y == y) (itself y)

free-related_first : (rel : SurfaceRel) (index x y : ℕ) → is_free x (related rel index x y) ≡ true
free-related_first surface.Eq index x y = first-two x y
free-related_first surface.Step index x y = first-two x y
free-related_first surface.Star index x y = first-two x y
free-related_first surface.Plus index x y = first-two x y
free-related_first surface.Reflexive index x y = or_left ((x == x) || (y == x)) _ (first-two x y)
free-related_first surface.Normal index x y = or_left ((x == x) || (y == x)) (y == x) (first-two x y)
free-related_first surface.Root index x y = first-two x y
free-related_first surface.Below index x y = first-two x y
free-related_first surface.Par index x y = first-two x y
free-related_first surface.Either index x y = or_left ((x == x) || (y == x)) _ (first-two x y)
free-related_first surface.Conv index x y = first-two x y

free-related_second : (rel : SurfaceRel) (index x y : ℕ) → is_free y (related rel index x y) ≡ true
free-related_second surface.Eq index x y = second-two x y
free-related_second surface.Step index x y = second-two x y
free-related_second surface.Star index x y = second-two x y
free-related_second surface.Plus index x y = second-two x y
free-related_second surface.Reflexive index x y = or_left ((x == y) || (y == y)) _ (second-two x y)
free-related_second surface.Normal index x y = or_left ((x == y) || (y == y)) (y == y) (second-two x y)
free-related_second surface.Root index x y = second-two x y
free-related_second surface.Below index x y = second-two x y
free-related_second surface.Par index x y = second-two x y
free-related_second surface.Either index x y = or_left ((x == y) || (y == y)) _ (second-two x y)
free-related_second surface.Conv index x y = second-two x y

free-joins_first : (index n x y : ℕ) → x < n → is_free x (joins index n x y) ≡ true
free-joins_first index n x y l = free-some x n (Binary And (atom Star index x n) (atom Star index y n)) l (or_left ((x == x) || (n == x)) _ (first-two x n))

free-joins_second : (index n x y : ℕ) → y < n → is_free y (joins index n x y) ≡ true
free-joins_second index n x y l =
    free-some y n (Binary And (atom Star index x n) (atom Star index y n)) l (or_right ((x == y) || (n == y)) ((y == y) || (n == y)) (first-two y n))

free-terminates : (index n x : ℕ) → x < n → is_free x (terminates index n x) ≡ true
free-terminates index n x l =
    or_left (is_free x (infinitely_many n (atom Star index x n))) (is_free x (some n (Binary And (atom Star index x n) (atom Plus index n n))))
    (free-infinitely_many x n (atom Star index x n) l (first-two x n))

-- what is left is another name, and was there
other_name : (y : Name) (names : List Name) (x : Name) → Contains (without y names) x → (bytes_eq x y ≡ false) × Contains names x
other_name y names x c =
    let found = Contains-from_filter (λ z. not (bytes_eq z y)) names x c in (turned (bytes_eq x y) found.1, found.0)
  where
    turned : (b : Bool) → not b ≡ true → b ≡ false
    turned true e = absurd cc
    turned false e = refl

module _ (terms : List Tree) (scope : List Name) where
  -- a number that the rest has is free about an argument, where it isn't bound there
  free-about : (k n : ℕ) (a : Argument) (make : ℕ → ℕ → Core) → k < n → ((m x : ℕ) → n ≤ m → is_free k (make m x) ≡ true)
      → is_free k (about terms scope n a make) ≡ true
  free-about k n (surface.Var x) make l h = h n (number_in scope x) (omega arith)
  free-about k n (surface.Ground i) make l h =
      outside k n (Binary And (Leaf (IsTerm n (term_at terms i))) (make (n + 1) n)) l (or_right (n == k) (is_free k (make (n + 1) n)) (h (n + 1) n (omega arith)))

  -- the number of the argument itself
  free-own : (n : ℕ) (a : Argument) (make : ℕ → ℕ → Core) (x : Name) → Contains (names_in a) x → number_in scope x < n
      → ((m k : ℕ) → n ≤ m → k < m → is_free k (make m k) ≡ true) → is_free (number_in scope x) (about terms scope n a make) ≡ true
  free-own n (surface.Ground i) make x c l h = absurd (Contains-none x c)
  free-own n (surface.Var y) make x c l h =
      ⊎_elim
      (λ (e : y ≡ x). subst (λ z. is_free (number_in scope x) (make n (number_in scope z)) ≡ true) (sym e) (h n (number_in scope x) (omega arith) l))
      (λ none. absurd (Contains-none x none)) (Contains-cons_cases y [] x c)

  free-about_both : (n : ℕ) (a b : Argument) (make : ℕ → ℕ → ℕ → Core) (x : Name) → Contains (names_in a ++ names_in b) x → number_in scope x < n
      → ((m k y : ℕ) → k < m → is_free k (make m k y) ≡ true) → ((m y k : ℕ) → k < m → is_free k (make m y k) ≡ true)
      → is_free (number_in scope x) (about_both terms scope n a b make) ≡ true
  free-about_both n a b make x c l first second =
      ⊎_elim
      (λ one. free-own n a (λ m z. about terms scope m b (λ i y. make i z y)) x one l
      (λ m k low below. free-about k m b (λ i y. make i k y) below (λ i y more. first i k y (omega arith))))
      (λ other. free-about (number_in scope x) n a (λ m z. about terms scope m b (λ i y. make i z y)) l
      (λ m z more. free-own m b (λ i y. make i z y) x other (omega arith) (λ i k low below. second i z k below)))
      (Contains-append_cases (names_in a) (names_in b) x c)

module _ (terms : List Tree) where
  abbrev Named : List Name → Name → Core → Type 0
  Named scope x f = is_free (number_in scope x) f ≡ true

  -- below a binder of another name
  under : (scope : List Name) (y x : Name) (f : Core) → bytes_eq x y ≡ false → Named (y ∷ scope) x f → Named scope x f
  under scope y x f other h =
      let e : number_in (y ∷ scope) x ≡ number_in scope x = ap (λ b. if b then length scope else number_in scope x) other in
      subst (λ k. is_free k f ≡ true) e h

  free-either : (k : ℕ) (x : Name) (xs ys : List Name) (f g : Core) → Contains (xs ++ ys) x → (Contains xs x → is_free k f ≡ true)
      → (Contains ys x → is_free k g ≡ true) → (is_free k f || is_free k g) ≡ true
  free-either k x xs ys f g c one two =
      ⊎_elim (λ h. or_left (is_free k f) (is_free k g) (one h)) (λ h. or_right (is_free k f) (is_free k g) (two h)) (Contains-append_cases xs ys x c)

  free-bound : (scope : List Name) (y x : Name) (names : List Name) (f g : Core) → Contains (without y names) x → Contains scope x
      → (Contains names x → Contains (y ∷ scope) x → Named (y ∷ scope) x f) → (Named scope x f → Named scope x g) → Named scope x g
  free-bound scope y x names f g c s inner kept =
      let other = other_name y names x c in
      kept (under scope y x f other.0 (inner other.1 (Contains-behind y scope x s)))

  free-core_in : (scope : List Name) (f : Formula) (x : Name) → Contains (occurrences f) x → Contains scope x → Named scope x (core_in terms scope f)
  free-core_in scope surface.True x c s = absurd (Contains-none x c)
  free-core_in scope surface.False x c s = absurd (Contains-none x c)
  free-core_in scope (surface.Related rel a b index) x c s =
      free-about_both terms scope (length scope) a b (λ n y z. related rel index y z) x c (number_in-below scope x s)
      (λ m k y l. free-related_first rel index k y) (λ m y k l. free-related_second rel index y k)
  free-core_in scope (surface.InContext e number place a b) x c s =
      free-about_both terms scope (length scope) a b (λ n y z. Leaf (InContext e number place y z)) x c (number_in-below scope x s)
      (λ m k y l. first-two k y) (λ m y k l. second-two y k)
  free-core_in scope (surface.Nf a index) x c s =
      free-own terms scope (length scope) a (λ n y. Leaf (Normal index y)) x c (number_in-below scope x s) (λ m k low l. itself k)
  free-core_in scope (surface.Join a b index) x c s =
      free-about_both terms scope (length scope) a b (λ n y z. joins index n y z) x c (number_in-below scope x s)
      (λ m k y l. free-joins_first index m k y l) (λ m y k l. free-joins_second index m y k l)
  free-core_in scope (surface.Sn (Some a) index) x c s =
      free-own terms scope (length scope) a (λ n y. terminates index n y) x c (number_in-below scope x s) (λ m k low l. free-terminates index m k l)
  free-core_in scope (surface.Sn None index) x c s = absurd (Contains-none x c)
  free-core_in scope (surface.Has p index) x c s = absurd (Contains-none x c)
  free-core_in scope surface.Com x c s = absurd (Contains-none x c)
  free-core_in scope (surface.Not f) x c s = free-core_in scope f x c s
  free-core_in scope (surface.And f g) x c s =
      free-either (number_in scope x) x (occurrences f) (occurrences g) (core_in terms scope f) (core_in terms scope g) c
      (λ h. free-core_in scope f x h s) (λ h. free-core_in scope g x h s)
  free-core_in scope (surface.Or f g) x c s =
      free-either (number_in scope x) x (occurrences f) (occurrences g) (core_in terms scope f) (core_in terms scope g) c
      (λ h. free-core_in scope f x h s) (λ h. free-core_in scope g x h s)
  free-core_in scope (surface.Imp f g) x c s =
      free-either (number_in scope x) x (occurrences f) (occurrences g) (core_in terms scope f) (core_in terms scope g) c
      (λ h. free-core_in scope f x h s) (λ h. free-core_in scope g x h s)
  free-core_in scope (surface.Iff f g) x c s =
      free-either (number_in scope x) x (occurrences f) (occurrences g) (core_in terms scope f) (core_in terms scope g) c
      (λ h. free-core_in scope f x h s) (λ h. free-core_in scope g x h s)
  free-core_in scope (surface.Exists y f) x c s =
      let g = core_in terms (y ∷ scope) f in
      free-bound scope y x (occurrences f) g (some (length scope) g) c s (λ h t. free-core_in (y ∷ scope) f x h t)
      (free-some (number_in scope x) (length scope) g (number_in-below scope x s))
  free-core_in scope (surface.Forall y f) x c s =
      let g = core_in terms (y ∷ scope) f in
      free-bound scope y x (occurrences f) g (every (length scope) g) c s (λ h t. free-core_in (y ∷ scope) f x h t)
      (free-some (number_in scope x) (length scope) (Not g) (number_in-below scope x s))
  free-core_in scope (surface.Infinite y f) x c s =
      let g = core_in terms (y ∷ scope) f in
      free-bound scope y x (occurrences f) g (infinitely_many (length scope) g) c s (λ h t. free-core_in (y ∷ scope) f x h t)
      (free-infinitely_many (number_in scope x) (length scope) g (number_in-below scope x s))

-- ---- each name has one place

contained : {A : Type 0} (ys : List A) (j : ℕ) (x : A) → slice_get ys j ≡ Some x → Contains ys x
contained [] j x e = absurd cc
contained (y ∷ ys) zero x e = subst (Contains (y ∷ ys)) (let same : y ≡ x = cc in same) (Contains-head y ys)
contained (y ∷ ys) (suc j) x e = Contains-behind y ys x (contained ys j x e)

before_itself : {A : Type 0} (y : A) (ys : List A) (x : A) → y ≡ x → Contains ys x → StandsBefore (y ∷ ys) x x
before_itself y ys x e c = record { front = []; back = ys; split = ap (λ w. w ∷ ys) e; behind = c }

behind : {A : Type 0} (y : A) (ys : List A) (x : A) → StandsBefore ys x x → StandsBefore (y ∷ ys) x x
behind y ys x h = record { front = y ∷ h.front; back = h.back; split = ap (λ w. y ∷ w) h.split; behind = h.behind }

one_place : {A : Type 0} (ys : List A) (k j : ℕ) (x : A) → slice_get ys k ≡ Some x → slice_get ys j ≡ Some x → ((y : A) → StandsBefore ys y y → ⊥) → k ≡ j
one_place [] k j x a b d = absurd cc
one_place (y ∷ ys) zero zero x a b d = refl
one_place (y ∷ ys) zero (suc j) x a b d = absurd (d x (before_itself y ys x (let same : y ≡ x = cc in same) (contained ys j x b)))
one_place (y ∷ ys) (suc k) zero x a b d = absurd (d x (before_itself y ys x (let same : y ≡ x = cc in same) (contained ys k x a)))
one_place (y ∷ ys) (suc k) (suc j) x a b d = ap suc (one_place ys k j x a b (λ z h. d z (behind y ys z h)))

-- Result: the number of a free name is its place
pub number_of_name : (f : Formula) (k : ℕ) (x : Name) → slice_get (free_names f) k ≡ Some x → number_in (reverse (free_names f)) x ≡ k
number_of_name f k x at =
    let names = free_names f in
    let scope = reverse names in
    let inside = Contains-reverse names x (contained names k x at) in
    one_place names (number_in scope x) k x (ap (λ w. slice_get w (number_in scope x)) (sym (reverse-reverse names)) ∙ slice_get-number_in scope x inside) at
    (free_names-AreEachOnce f).distinct

-- Result: and it is free in the core formula
pub core_of-named : (terms : List Tree) (f : Formula) (k : ℕ) → k < length (free_names f) → is_free k (core_of terms f) ≡ true
core_of-named terms f k l =
    let names = free_names f in
    let x = get_or names k [] in
    let at = slice_get-get_or names k [] l in
    let there : Contains names x = contained names k x at in
    subst (λ i. is_free i (core_of terms f) ≡ true) (number_of_name f k x at)
    (free-core_in terms (reverse names) f x (((free_names-AreEachOnce f).same x).1 there) (Contains-reverse names x there))

-- Result: the columns of the core formula are the numbers of the free names
pub columns_of-core_of : (terms : List Tree) (f : Formula) → columns_of (core_of terms f) ≡ range_with_len 0 (length (free_names f))
columns_of-core_of terms f =
    sym (columns_of-unique (core_of terms f) (range_with_len 0 (length (free_names f))) (record {
      ascending = ascending-range (length (free_names f));
      free =
          λ n. (
            λ c. core_of-named terms f n (range-below n (length (free_names f)) c),
            λ e. Contains-range n (length (free_names f)) (core_of-free terms f n e),
          );
    }))
