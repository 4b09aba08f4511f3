-- The core formula of a formula binds numbers that are free, and its free numbers are those of free names.
use Rattle.std.specs.Prelude.{◌≡◌, ◌==◌, ℕ, ◌+◌, ◌<◌, Bool, true, false, not, ◌||◌, ◌&&◌, if◌then◌else◌, List, [], ◌∷◌, ◌++◌, ◌⊎◌, Some, None, length, reverse, bytes_eq, Contains, refl}
use Rattle.std.proofs.Common.{ap, sym, ◌∙◌, subst, arith, inl, inr}
use Rattle.std.proofs.lemmas.Bool.{or_cases, or_left, and_parts}
use Rattle.std.proofs.lemmas.Bool.Decides.{Decides-eqb}
use Rattle.std.proofs.lemmas.List.{length-reverse}
use Rattle.std.proofs.lemmas.List.Elements.{Contains-append_left, Contains-append_right}
use Rattle.fort_theory.specs.Trees.{Tree}
use Rattle.fort_theory.proofs.Members.{Contains-head}
use Rattle.fort_logic.specs.Formulas as surface
use Rattle.fort_logic.specs.Formulas.{Name, Argument, Formula, SurfaceRel, Property}
use Rattle.fort_logic.specs.FreeNames.{without, names_in, occurrences, free_names}
use Rattle.fort_theory.specs.Cores.{Core, Leaf, InContext, Normal, IsTerm, Not, Binary, Exists, Infinite, Star, Plus, Step, Conv}
use Rattle.fort_theory.specs.Logic.{And}
use Rattle.fort_theory.specs.Parts.{is_free, BindsFree, IsClosed}
use Rattle.fort_logic.specs.Translation.{atom, number_in, some, every, equal, infinitely_many, implies, joins, forks, normalises, at_most_one_step, terminates, all_terminate, related, property_core, commutes, term_at, about, about_both, core_in, core_of}
use Rattle.fort_logic.proofs.ScopeNumbers.{Contains-without, Contains-once, Contains-reverse, number_in-below}

same : (n k : ℕ) → (n == k) ≡ true → n ≡ k
same n k is = (Decides-eqb n k).0 is

itself : (n : ℕ) → (n == n) ≡ true
itself n = (Decides-eqb n n).1 refl

-- ---- binders

pub BindsFree-some : (n : ℕ) (c : Core) → BindsFree c → BindsFree (some n c)
BindsFree-some n c h = by (is_free n c) refl
  where
    by : (b : Bool) → is_free n c ≡ b → BindsFree (if b then Exists n c else c)
    by true is = (is, h)
    by false is = h

pub BindsFree-infinitely_many : (n : ℕ) (c : Core) → BindsFree c → BindsFree (infinitely_many n c)
BindsFree-infinitely_many n c h = by (is_free n c) refl
  where
    by : (b : Bool) → is_free n c ≡ b → BindsFree (if b then Infinite n c else Binary And c (Infinite n (equal n n)))
    by true is = (is, h)
    by false is = (h, (ap (λ b. b || b) (itself n), tt))

BindsFree-related : (rel : SurfaceRel) (index x y : ℕ) → BindsFree (related rel index x y)
BindsFree-related surface.Eq index x y = tt
BindsFree-related surface.Step index x y = tt
BindsFree-related surface.Star index x y = tt
BindsFree-related surface.Plus index x y = tt
BindsFree-related surface.Reflexive index x y = (tt, tt)
BindsFree-related surface.Normal index x y = (tt, tt)
BindsFree-related surface.Root index x y = tt
BindsFree-related surface.Below index x y = tt
BindsFree-related surface.Par index x y = tt
BindsFree-related surface.Either index x y = (tt, tt)
BindsFree-related surface.Conv index x y = tt

two_binders : (n : ℕ) (c : Core) → BindsFree c → BindsFree (every n (every (n + 1) c))
two_binders n c h = BindsFree-some n (Not (every (n + 1) c)) (BindsFree-some (n + 1) (Not c) h)

BindsFree-joins : (index n x y : ℕ) → BindsFree (joins index n x y)
BindsFree-joins index n x y = BindsFree-some n (Binary And (atom Star index x n) (atom Star index y n)) (tt, tt)

BindsFree-terminates : (index n x : ℕ) → BindsFree (terminates index n x)
BindsFree-terminates index n x = (
  BindsFree-infinitely_many n (atom Star index x n) tt,
  BindsFree-some n (Binary And (atom Star index x n) (atom Plus index n n)) (tt, tt),
)

BindsFree-property : (p : Property) (index n : ℕ) → BindsFree (property_core p index n)
BindsFree-property surface.Cr index n =
    two_binders n (implies (forks (atom Star index) (n + 2) n (n + 1)) (joins index (n + 2) n (n + 1)))
    (BindsFree-some (n + 2) (Binary And (atom Star index (n + 2) n) (atom Star index (n + 2) (n + 1))) (tt, tt), BindsFree-joins index (n + 2) n (n + 1))
BindsFree-property surface.Wcr index n =
    two_binders n (implies (forks (atom Step index) (n + 2) n (n + 1)) (joins index (n + 2) n (n + 1)))
    (BindsFree-some (n + 2) (Binary And (atom Step index (n + 2) n) (atom Step index (n + 2) (n + 1))) (tt, tt), BindsFree-joins index (n + 2) n (n + 1))
BindsFree-property surface.Scr index n =
    let met = Binary And (at_most_one_step index n (n + 2)) (atom Star index (n + 1) (n + 2)) in
    two_binders n (implies (forks (atom Step index) (n + 2) n (n + 1)) (some (n + 2) met))
    (BindsFree-some (n + 2) (Binary And (atom Step index (n + 2) n) (atom Step index (n + 2) (n + 1))) (tt, tt), BindsFree-some (n + 2) met ((tt, tt), tt))
BindsFree-property surface.Wn index n =
    BindsFree-some n (Not (some (n + 1) (normalises index n (n + 1)))) (BindsFree-some (n + 1) (normalises index n (n + 1)) (tt, tt))
BindsFree-property surface.Unr index n =
    two_binders n (implies (forks (normalises index) (n + 2) n (n + 1)) (equal n (n + 1)))
    (BindsFree-some (n + 2) (Binary And (normalises index (n + 2) n) (normalises index (n + 2) (n + 1))) ((tt, tt), (tt, tt)), tt)
BindsFree-property surface.Unc index n =
    two_binders n (implies (Binary And (Binary And (atom Conv index n (n + 1)) (Leaf (Normal index n))) (Leaf (Normal index (n + 1)))) (equal n (n + 1))) (((tt, tt), tt), tt)
BindsFree-property surface.Nfp index n =
    two_binders n (implies (Binary And (atom Conv index n (n + 1)) (Leaf (Normal index (n + 1)))) (atom Star index n (n + 1))) ((tt, tt), tt)

BindsFree-all_terminate : (index n : ℕ) → BindsFree (all_terminate index n)
BindsFree-all_terminate index n = BindsFree-some n (Not (terminates index (n + 1) n)) (BindsFree-terminates index (n + 1) n)

BindsFree-commutes : (n : ℕ) → BindsFree (commutes n)
BindsFree-commutes n =
    let from = Binary And (atom Star 1 (n + 2) n) (atom Star 2 (n + 2) (n + 1)) in
    let to = Binary And (atom Star 2 n (n + 2)) (atom Star 1 (n + 1) (n + 2)) in
    two_binders n (implies (some (n + 2) from) (some (n + 2) to)) (BindsFree-some (n + 2) from (tt, tt), BindsFree-some (n + 2) to (tt, tt))

module _ (terms : List Tree) (scope : List Name) where
  -- a ground term's variable is free, since it is said to be the term
  BindsFree-about : (n : ℕ) (a : Argument) (make : ℕ → ℕ → Core) → ((m x : ℕ) → BindsFree (make m x)) → BindsFree (about terms scope n a make)
  BindsFree-about n (surface.Var x) make bound = bound n (number_in scope x)
  BindsFree-about n (surface.Ground k) make bound = (or_left (n == n) (is_free n (make (n + 1) n)) (itself n), (tt, bound (n + 1) n))

  BindsFree-about_both : (n : ℕ) (a b : Argument) (make : ℕ → ℕ → ℕ → Core) → ((m x y : ℕ) → BindsFree (make m x y))
      → BindsFree (about_both terms scope n a b make)
  BindsFree-about_both n a b make bound =
      BindsFree-about n a (λ m x. about terms scope m b (λ k y. make k x y))
      (λ m x. BindsFree-about m b (λ k y. make k x y) (λ k y. bound k x y))

pub BindsFree-core_in : (terms : List Tree) (scope : List Name) (f : Formula) → BindsFree (core_in terms scope f)
BindsFree-core_in terms scope surface.True = tt
BindsFree-core_in terms scope surface.False = tt
BindsFree-core_in terms scope (surface.Related rel a b index) =
    BindsFree-about_both terms scope (length scope) a b (λ n x y. related rel index x y) (λ n x y. BindsFree-related rel index x y)
BindsFree-core_in terms scope (surface.InContext e number place a b) =
    BindsFree-about_both terms scope (length scope) a b (λ n x y. Leaf (InContext e number place x y)) (λ n x y. tt)
BindsFree-core_in terms scope (surface.Nf a index) = BindsFree-about terms scope (length scope) a (λ n x. Leaf (Normal index x)) (λ n x. tt)
BindsFree-core_in terms scope (surface.Join a b index) =
    BindsFree-about_both terms scope (length scope) a b (λ n x y. joins index n x y) (λ n x y. BindsFree-joins index n x y)
BindsFree-core_in terms scope (surface.Sn None index) = BindsFree-all_terminate index (length scope)
BindsFree-core_in terms scope (surface.Sn (Some a) index) =
    BindsFree-about terms scope (length scope) a (λ n x. terminates index n x) (λ n x. BindsFree-terminates index n x)
BindsFree-core_in terms scope (surface.Has p index) = BindsFree-property p index (length scope)
BindsFree-core_in terms scope surface.Com = BindsFree-commutes (length scope)
BindsFree-core_in terms scope (surface.Not f) = BindsFree-core_in terms scope f
BindsFree-core_in terms scope (surface.And f g) = (BindsFree-core_in terms scope f, BindsFree-core_in terms scope g)
BindsFree-core_in terms scope (surface.Or f g) = (BindsFree-core_in terms scope f, BindsFree-core_in terms scope g)
BindsFree-core_in terms scope (surface.Imp f g) = (BindsFree-core_in terms scope f, BindsFree-core_in terms scope g)
BindsFree-core_in terms scope (surface.Iff f g) = (BindsFree-core_in terms scope f, BindsFree-core_in terms scope g)
BindsFree-core_in terms scope (surface.Exists x f) =
    BindsFree-some (length scope) (core_in terms (x ∷ scope) f) (BindsFree-core_in terms (x ∷ scope) f)
BindsFree-core_in terms scope (surface.Forall x f) =
    BindsFree-some (length scope) (Not (core_in terms (x ∷ scope) f)) (BindsFree-core_in terms (x ∷ scope) f)
BindsFree-core_in terms scope (surface.Infinite x f) =
    BindsFree-infinitely_many (length scope) (core_in terms (x ∷ scope) f) (BindsFree-core_in terms (x ∷ scope) f)

-- Result: the translation binds no number that isn't free
pub core_of-binds_free : (terms : List Tree) (f : Formula) → BindsFree (core_of terms f)
core_of-binds_free terms f = BindsFree-core_in terms (reverse (free_names f)) f

-- ---- free numbers

-- each number that is free has P
abbrev pub AllFree : (ℕ → Type 0) → Core → Type 0
AllFree P c = (k : ℕ) → is_free k c ≡ true → P k

AllFree-Atom : (P : ℕ → Type 0) (x y : ℕ) → P x → P y → (k : ℕ) → ((x == k) || (y == k)) ≡ true → P k
AllFree-Atom P x y first second k free =
    elim (or_cases (x == k) (y == k) free) [ inl is ↦ subst P (same x k is) first | inr is ↦ subst P (same y k is) second ]

AllFree-Nf : (P : ℕ → Type 0) (x : ℕ) → P x → (k : ℕ) → (x == k) ≡ true → P k
AllFree-Nf P x first k free = subst P (same x k free) first

AllFree-two : (P : ℕ → Type 0) (f g : Core) → AllFree P f → AllFree P g → (k : ℕ) → (is_free k f || is_free k g) ≡ true → P k
AllFree-two P f g first second k free =
    elim (or_cases (is_free k f) (is_free k g) free) [ inl is ↦ first k is | inr is ↦ second k is ]

-- below a binder of n
abbrev pub Below : (ℕ → Type 0) → ℕ → ℕ → Type 0
Below P n = λ k. (k ≡ n) ⊎ P k

other_number : (n k : ℕ) (b : Bool) → (not (n == k) && b) ≡ true → k ≡ n → ⊥
other_number n k b free e =
    let is : (n == k) ≡ true = (Decides-eqb n k).1 (sym e) in
    let no : not (n == k) ≡ false = ap not is in
    let yes = (and_parts (not (n == k)) b free).0 in cc

outside : (P : ℕ → Type 0) (n k : ℕ) → (k ≡ n → ⊥) → Below P n k → P k
outside P n k other (inl e) = absurd (other e)
outside P n k other (inr h) = h

AllFree-bound : (P : ℕ → Type 0) (n : ℕ) (c : Core) → AllFree (Below P n) c → (k : ℕ) → (not (n == k) && is_free k c) ≡ true → P k
AllFree-bound P n c h k free =
    outside P n k (other_number n k (is_free k c) free) (h k (and_parts (not (n == k)) (is_free k c) free).1)

AllFree-unbound : (P : ℕ → Type 0) (n : ℕ) (c : Core) → is_free n c ≡ false → AllFree (Below P n) c → AllFree P c
AllFree-unbound P n c bound h k free =
    outside P n k (λ e. let said : is_free n c ≡ true = ap (λ i. is_free i c) (sym e) ∙ free in cc) (h k free)

AllFree-some : (P : ℕ → Type 0) (n : ℕ) (c : Core) → AllFree (Below P n) c → AllFree P (some n c)
AllFree-some P n c h = by (is_free n c) refl
  where
    by : (b : Bool) → is_free n c ≡ b → AllFree P (if b then Exists n c else c)
    by true is = AllFree-bound P n c h
    by false is = AllFree-unbound P n c is h

AllFree-infinitely_many : (P : ℕ → Type 0) (n : ℕ) (c : Core) → AllFree (Below P n) c → AllFree P (infinitely_many n c)
AllFree-infinitely_many P n c h = by (is_free n c) refl
  where
    by : (b : Bool) → is_free n c ≡ b → AllFree P (if b then Infinite n c else Binary And c (Infinite n (equal n n)))
    by true is = AllFree-bound P n c h
    by false is =
        AllFree-two P c (Infinite n (equal n n)) (AllFree-unbound P n c is h)
        (AllFree-bound P n (equal n n) (AllFree-Atom (Below P n) n n (inl refl) (inl refl)))

AllFree-related : (P : ℕ → Type 0) (rel : SurfaceRel) (index x y : ℕ) → P x → P y → AllFree P (related rel index x y)
AllFree-related P surface.Eq index x y a b = AllFree-Atom P x y a b
AllFree-related P surface.Step index x y a b = AllFree-Atom P x y a b
AllFree-related P surface.Star index x y a b = AllFree-Atom P x y a b
AllFree-related P surface.Plus index x y a b = AllFree-Atom P x y a b
AllFree-related P surface.Reflexive index x y a b =
    AllFree-two P (equal x y) (atom Step index x y) (AllFree-Atom P x y a b) (AllFree-Atom P x y a b)
AllFree-related P surface.Normal index x y a b =
    AllFree-two P (atom Star index x y) (Leaf (Normal index y)) (AllFree-Atom P x y a b) (AllFree-Nf P y b)
AllFree-related P surface.Root index x y a b = AllFree-Atom P x y a b
AllFree-related P surface.Below index x y a b = AllFree-Atom P x y a b
AllFree-related P surface.Par index x y a b = AllFree-Atom P x y a b
AllFree-related P surface.Either index x y a b =
    AllFree-two P (atom Step index x y) (atom Step index y x) (AllFree-Atom P x y a b) (AllFree-Atom P y x b a)
AllFree-related P surface.Conv index x y a b = AllFree-Atom P x y a b

AllFree-meets : (P : ℕ → Type 0) (i j n x y : ℕ) → P x → P y → AllFree P (some n (Binary And (atom Star i x n) (atom Star j y n)))
AllFree-meets P i j n x y a b =
    AllFree-some P n (Binary And (atom Star i x n) (atom Star j y n))
    (AllFree-two (Below P n) (atom Star i x n) (atom Star j y n)
    (AllFree-Atom (Below P n) x n (inr a) (inl refl)) (AllFree-Atom (Below P n) y n (inr b) (inl refl)))

AllFree-joins : (P : ℕ → Type 0) (index n x y : ℕ) → P x → P y → AllFree P (joins index n x y)
AllFree-joins P index n x y a b = AllFree-meets P index index n x y a b

AllFree-terminates : (P : ℕ → Type 0) (index n x : ℕ) → P x → AllFree P (terminates index n x)
AllFree-terminates P index n x a =
    let reached = AllFree-Atom (Below P n) x n (inr a) (inl refl) in
    AllFree-two P (Not (infinitely_many n (atom Star index x n))) (Not (some n (Binary And (atom Star index x n) (atom Plus index n n))))
    (AllFree-infinitely_many P n (atom Star index x n) reached)
    (AllFree-some P n (Binary And (atom Star index x n) (atom Plus index n n))
    (AllFree-two (Below P n) (atom Star index x n) (atom Plus index n n) reached (AllFree-Atom (Below P n) n n (inl refl) (inl refl))))

-- a relation with two numbers has no other
abbrev pub OnlyThese : (ℕ → ℕ → Core) → Type 1
OnlyThese rel = (P : ℕ → Type 0) (x y : ℕ) → P x → P y → AllFree P (rel x y)

AllFree-forks : (P : ℕ → Type 0) (rel rel' : ℕ → ℕ → Core) → OnlyThese rel → OnlyThese rel' → (x y z : ℕ) → P y → P z
    → AllFree P (some x (Binary And (rel x y) (rel' x z)))
AllFree-forks P rel rel' only only' x y z b c =
    AllFree-some P x (Binary And (rel x y) (rel' x z))
    (AllFree-two (Below P x) (rel x y) (rel' x z) (only (Below P x) x y (inl refl) (inr b)) (only' (Below P x) x z (inl refl) (inr c)))

-- the two numbers that a property binds
abbrev pub Bound : ℕ → ℕ → Type 0
Bound n = Below (Below (λ k. ⊥) n) (n + 1)

first_bound : (n : ℕ) → Bound n n
first_bound n = inr (inl refl)

second_bound : (n : ℕ) → Bound n (n + 1)
second_bound n = inl refl

no_others : (n : ℕ) (c : Core) → AllFree (Bound n) c → AllFree (λ k. ⊥) (every n (every (n + 1) c))
no_others n c h = AllFree-some (λ k. ⊥) n (Not (every (n + 1) c)) (AllFree-some (Below (λ k. ⊥) n) (n + 1) (Not c) h)

AllFree-property : (p : Property) (index n : ℕ) → IsClosed (property_core p index n)
AllFree-property surface.Cr index n = no_others n
    (implies (forks (atom Star index) (n + 2) n (n + 1)) (joins index (n + 2) n (n + 1)))
    (AllFree-two (Bound n) (Not (forks (atom Star index) (n + 2) n (n + 1))) (joins index (n + 2) n (n + 1))
    (AllFree-forks (Bound n) (atom Star index) (atom Star index) AllFree-Atom AllFree-Atom (n + 2) n (n + 1) (first_bound n) (second_bound n))
    (AllFree-joins (Bound n) index (n + 2) n (n + 1) (first_bound n) (second_bound n)))
AllFree-property surface.Wcr index n = no_others n
    (implies (forks (atom Step index) (n + 2) n (n + 1)) (joins index (n + 2) n (n + 1)))
    (AllFree-two (Bound n) (Not (forks (atom Step index) (n + 2) n (n + 1))) (joins index (n + 2) n (n + 1))
    (AllFree-forks (Bound n) (atom Step index) (atom Step index) AllFree-Atom AllFree-Atom (n + 2) n (n + 1) (first_bound n) (second_bound n))
    (AllFree-joins (Bound n) index (n + 2) n (n + 1) (first_bound n) (second_bound n)))
AllFree-property surface.Scr index n = no_others n
    (implies (forks (atom Step index) (n + 2) n (n + 1)) (some (n + 2) (Binary And (at_most_one_step index n (n + 2)) (atom Star index (n + 1) (n + 2)))))
    (AllFree-two (Bound n) (Not (forks (atom Step index) (n + 2) n (n + 1)))
    (some (n + 2) (Binary And (at_most_one_step index n (n + 2)) (atom Star index (n + 1) (n + 2))))
    (AllFree-forks (Bound n) (atom Step index) (atom Step index) AllFree-Atom AllFree-Atom (n + 2) n (n + 1) (first_bound n) (second_bound n))
    (AllFree-some (Bound n) (n + 2) (Binary And (at_most_one_step index n (n + 2)) (atom Star index (n + 1) (n + 2)))
    (AllFree-two (Below (Bound n) (n + 2)) (at_most_one_step index n (n + 2)) (atom Star index (n + 1) (n + 2))
    (AllFree-related (Below (Bound n) (n + 2)) surface.Reflexive index n (n + 2) (inr (first_bound n)) (inl refl))
    (AllFree-Atom (Below (Bound n) (n + 2)) (n + 1) (n + 2) (inr (second_bound n)) (inl refl)))))
AllFree-property surface.Wn index n =
    AllFree-some (λ k. ⊥) n (Not (some (n + 1) (normalises index n (n + 1))))
    (AllFree-some (Below (λ k. ⊥) n) (n + 1) (normalises index n (n + 1))
    (AllFree-related (Bound n) surface.Normal index n (n + 1) (first_bound n) (second_bound n)))
AllFree-property surface.Unr index n =
    let only_normalises = λ (P : ℕ → Type 0) (x y : ℕ). AllFree-related P surface.Normal index x y in no_others n
    (implies (forks (normalises index) (n + 2) n (n + 1)) (equal n (n + 1)))
    (AllFree-two (Bound n) (Not (forks (normalises index) (n + 2) n (n + 1))) (equal n (n + 1))
    (AllFree-forks (Bound n) (normalises index) (normalises index) only_normalises only_normalises (n + 2) n (n + 1) (first_bound n) (second_bound n))
    (AllFree-Atom (Bound n) n (n + 1) (first_bound n) (second_bound n)))
AllFree-property surface.Unc index n = no_others n
    (implies (Binary And (Binary And (atom Conv index n (n + 1)) (Leaf (Normal index n))) (Leaf (Normal index (n + 1)))) (equal n (n + 1)))
    (AllFree-two (Bound n) (Not (Binary And (Binary And (atom Conv index n (n + 1)) (Leaf (Normal index n))) (Leaf (Normal index (n + 1))))) (equal n (n + 1))
    (AllFree-two (Bound n) (Binary And (atom Conv index n (n + 1)) (Leaf (Normal index n))) (Leaf (Normal index (n + 1)))
    (AllFree-two (Bound n) (atom Conv index n (n + 1)) (Leaf (Normal index n))
    (AllFree-Atom (Bound n) n (n + 1) (first_bound n) (second_bound n)) (AllFree-Nf (Bound n) n (first_bound n)))
    (AllFree-Nf (Bound n) (n + 1) (second_bound n)))
    (AllFree-Atom (Bound n) n (n + 1) (first_bound n) (second_bound n)))
AllFree-property surface.Nfp index n = no_others n
    (implies (Binary And (atom Conv index n (n + 1)) (Leaf (Normal index (n + 1)))) (atom Star index n (n + 1)))
    (AllFree-two (Bound n) (Not (Binary And (atom Conv index n (n + 1)) (Leaf (Normal index (n + 1))))) (atom Star index n (n + 1))
    (AllFree-two (Bound n) (atom Conv index n (n + 1)) (Leaf (Normal index (n + 1)))
    (AllFree-Atom (Bound n) n (n + 1) (first_bound n) (second_bound n)) (AllFree-Nf (Bound n) (n + 1) (second_bound n)))
    (AllFree-Atom (Bound n) n (n + 1) (first_bound n) (second_bound n)))

AllFree-all_terminate : (index n : ℕ) → IsClosed (all_terminate index n)
AllFree-all_terminate index n =
    AllFree-some (λ k. ⊥) n (Not (terminates index (n + 1) n)) (AllFree-terminates (Below (λ k. ⊥) n) index (n + 1) n (inl refl))

AllFree-commutes : (n : ℕ) → IsClosed (commutes n)
AllFree-commutes n =
    let from = some (n + 2) (Binary And (atom Star 1 (n + 2) n) (atom Star 2 (n + 2) (n + 1))) in
    let to = some (n + 2) (Binary And (atom Star 2 n (n + 2)) (atom Star 1 (n + 1) (n + 2))) in
    no_others n (implies from to) (AllFree-two (Bound n) (Not from) to
    (AllFree-forks (Bound n) (atom Star 1) (atom Star 2) AllFree-Atom AllFree-Atom (n + 2) n (n + 1) (first_bound n) (second_bound n))
    (AllFree-meets (Bound n) 2 1 (n + 2) n (n + 1) (first_bound n) (second_bound n)))

module _ (terms : List Tree) (scope : List Name) where
  -- an argument that is a variable has a number with P
  abbrev pub Among : (ℕ → Type 0) → Argument → Type 0
  Among P a = (x : Name) → Contains (names_in a) x → P (number_in scope x)

  -- a ground term's own number is bound at once
  AllFree-about : (P : ℕ → Type 0) (n : ℕ) (a : Argument) (make : ℕ → ℕ → Core) → Among P a
      → ((Q : ℕ → Type 0) (m x : ℕ) → ((k : ℕ) → P k → Q k) → Q x → AllFree Q (make m x)) → AllFree P (about terms scope n a make)
  AllFree-about P n (surface.Var x) make among only = only P n (number_in scope x) (λ k p. p) (among x (Contains-head x []))
  AllFree-about P n (surface.Ground k) make among only =
      AllFree-bound P n (Binary And (Leaf (IsTerm n (term_at terms k))) (make (n + 1) n))
      (AllFree-two (Below P n) (Leaf (IsTerm n (term_at terms k))) (make (n + 1) n)
      (AllFree-Nf (Below P n) n (inl refl)) (only (Below P n) (n + 1) n (λ i p. inr p) (inl refl)))

  AllFree-about_both : (P : ℕ → Type 0) (n : ℕ) (a b : Argument) (make : ℕ → ℕ → ℕ → Core) → Among P a → Among P b
      → ((Q : ℕ → Type 0) (m x y : ℕ) → Q x → Q y → AllFree Q (make m x y)) → AllFree P (about_both terms scope n a b make)
  AllFree-about_both P n a b make first second only =
      AllFree-about P n a (λ m x. about terms scope m b (λ k y. make k x y)) first (λ Q m x kept at_x.
      AllFree-about Q m b (λ k y. make k x y) (λ y among. kept (number_in scope y) (second y among))
      (λ R k y still at_y. only R k x y (still x at_x) at_y))

-- the number of a name that occurs free
abbrev pub IsNumberOf : List Name → List Name → ℕ → Type 0
IsNumberOf scope names k = (x : Name) × Contains names x × (number_in scope x ≡ k)

-- a name below a binder is the bound one, or has its number outside
moved_out : (scope : List Name) (x : Name) (names : List Name) (k : ℕ) → IsNumberOf (x ∷ scope) names k
    → Below (IsNumberOf scope (without x names)) (length scope) k
moved_out scope x names k (y, among, is) = by (bytes_eq y x) refl
  where
    by : (b : Bool) → bytes_eq y x ≡ b → Below (IsNumberOf scope (without x names)) (length scope) k
    by true e = inl (sym is ∙ ap (λ b. if b then length scope else number_in scope y) e)
    by false e =
        inr (y, Contains-without x names y e among, sym (ap (λ b. if b then length scope else number_in scope y) e) ∙ is)

more_names : (scope names more : List Name) (c : Core) → ((x : Name) → Contains names x → Contains more x)
    → AllFree (IsNumberOf scope names) c → AllFree (IsNumberOf scope more) c
more_names scope names more c kept h k free = let at = h k free in (at.0, kept at.0 at.1, at.2)

module _ (terms : List Tree) where
  both_free : (f g : Formula) (scope : List Name) → AllFree (IsNumberOf scope (occurrences f)) (core_in terms scope f)
      → AllFree (IsNumberOf scope (occurrences g)) (core_in terms scope g) → (k : ℕ)
      → (is_free k (core_in terms scope f) || is_free k (core_in terms scope g)) ≡ true → IsNumberOf scope (occurrences f ++ occurrences g) k
  both_free f g scope first second =
      let xs = occurrences f in
      let ys = occurrences g in
      AllFree-two (IsNumberOf scope (xs ++ ys)) (core_in terms scope f) (core_in terms scope g)
      (more_names scope xs (xs ++ ys) (core_in terms scope f) (Contains-append_left xs ys) first)
      (more_names scope ys (xs ++ ys) (core_in terms scope g) (Contains-append_right xs ys) second)

  first_names : (scope : List Name) (a b : Argument) → Among terms scope (IsNumberOf scope (names_in a ++ names_in b)) a
  first_names scope a b x among = (x, Contains-append_left (names_in a) (names_in b) x among, refl)

  second_names : (scope : List Name) (a b : Argument) → Among terms scope (IsNumberOf scope (names_in a ++ names_in b)) b
  second_names scope a b x among = (x, Contains-append_right (names_in a) (names_in b) x among, refl)

  pub AllFree-core_in : (f : Formula) (scope : List Name) → AllFree (IsNumberOf scope (occurrences f)) (core_in terms scope f)
  AllFree-core_in surface.True scope = λ k free. absurd cc
  AllFree-core_in surface.False scope = λ k free. absurd cc
  AllFree-core_in (surface.Related rel a b index) scope =
      AllFree-about_both terms scope (IsNumberOf scope (names_in a ++ names_in b)) (length scope) a b (λ n x y. related rel index x y)
      (first_names scope a b) (second_names scope a b) (λ Q n x y at_x at_y. AllFree-related Q rel index x y at_x at_y)
  AllFree-core_in (surface.InContext e number place a b) scope =
      AllFree-about_both terms scope (IsNumberOf scope (names_in a ++ names_in b)) (length scope) a b (λ n x y. Leaf (InContext e number place x y))
      (first_names scope a b) (second_names scope a b) (λ Q n x y at_x at_y. AllFree-Atom Q x y at_x at_y)
  AllFree-core_in (surface.Nf a index) scope =
      AllFree-about terms scope (IsNumberOf scope (names_in a)) (length scope) a (λ n x. Leaf (Normal index x))
      (λ x among. (x, among, refl)) (λ Q n x kept at_x. AllFree-Nf Q x at_x)
  AllFree-core_in (surface.Join a b index) scope =
      AllFree-about_both terms scope (IsNumberOf scope (names_in a ++ names_in b)) (length scope) a b (λ n x y. joins index n x y)
      (first_names scope a b) (second_names scope a b) (λ Q n x y at_x at_y. AllFree-joins Q index n x y at_x at_y)
  AllFree-core_in (surface.Sn None index) scope = λ k free. absurd (AllFree-all_terminate index (length scope) k free)
  AllFree-core_in (surface.Sn (Some a) index) scope =
      AllFree-about terms scope (IsNumberOf scope (names_in a)) (length scope) a (λ n x. terminates index n x)
      (λ x among. (x, among, refl)) (λ Q n x kept at_x. AllFree-terminates Q index n x at_x)
  AllFree-core_in (surface.Has p index) scope = λ k free. absurd (AllFree-property p index (length scope) k free)
  AllFree-core_in surface.Com scope = λ k free. absurd (AllFree-commutes (length scope) k free)
  AllFree-core_in (surface.Not f) scope = AllFree-core_in f scope
  AllFree-core_in (surface.And f g) scope = both_free f g scope (AllFree-core_in f scope) (AllFree-core_in g scope)
  AllFree-core_in (surface.Or f g) scope = both_free f g scope (AllFree-core_in f scope) (AllFree-core_in g scope)
  AllFree-core_in (surface.Imp f g) scope = both_free f g scope (AllFree-core_in f scope) (AllFree-core_in g scope)
  AllFree-core_in (surface.Iff f g) scope = both_free f g scope (AllFree-core_in f scope) (AllFree-core_in g scope)
  AllFree-core_in (surface.Exists x f) scope =
      AllFree-some (IsNumberOf scope (without x (occurrences f))) (length scope) (core_in terms (x ∷ scope) f)
      (λ k free. moved_out scope x (occurrences f) k (AllFree-core_in f (x ∷ scope) k free))
  AllFree-core_in (surface.Forall x f) scope =
      AllFree-some (IsNumberOf scope (without x (occurrences f))) (length scope) (Not (core_in terms (x ∷ scope) f))
      (λ k free. moved_out scope x (occurrences f) k (AllFree-core_in f (x ∷ scope) k free))
  AllFree-core_in (surface.Infinite x f) scope =
      AllFree-infinitely_many (IsNumberOf scope (without x (occurrences f))) (length scope) (core_in terms (x ∷ scope) f)
      (λ k free. moved_out scope x (occurrences f) k (AllFree-core_in f (x ∷ scope) k free))

  -- Result: a number that is free in the core formula is that of a free name
  pub core_of-free : (f : Formula) (n : ℕ) → is_free n (core_of terms f) ≡ true → n < length (free_names f)
  core_of-free f n free =
      let scope = reverse (free_names f) in
      let at = AllFree-core_in f scope n free in
      let below = number_in-below scope at.0 (Contains-reverse (free_names f) at.0 (Contains-once (occurrences f) at.0 at.1)) in
      let e = at.2 in
      let l = length-reverse (free_names f) in omega arith
