-- To believe: which core formula a formula is turned into, with the ground terms that are written in it. That it is true exactly where the formula is, over right-ground rules where that says SN, is proved.
use Rattle.std.specs.Prelude.{ℕ, ◌+◌, if◌then◌else◌, List, [], ◌∷◌, Some, None, length, reverse, bytes_eq, slice_index_or}
use Rattle.fort_theory.specs.Trees.{Tree, Node, Nil}
use Rattle.fort_logic.specs.Formulas as surface
use Rattle.fort_logic.specs.Formulas.{Name, Argument, Formula, SurfaceRel, Property}
use Rattle.fort_logic.specs.FreeNames.{free_names}
use Rattle.fort_theory.specs.Cores.{Rel, Core, True, Leaf, Related, InContext, Normal, IsTerm, Not, Binary, Exists, Infinite, Eq, Root, Below, Step, Par, Plus, Star, Conv}
use Rattle.fort_theory.specs.Logic.{And, Or, Iff}
use Rattle.fort_theory.specs.Parts.{is_free, IsTooWide}

-- a scope lists the names that may be used, the innermost first; the number of a name is how many stand outside its
-- innermost place
abbrev pub number_in : List Name → Name → ℕ
number_in [] x = 0
number_in (y ∷ ys) x = if bytes_eq x y then length ys else number_in ys x

abbrev pub atom : Rel → (index x y : ℕ) → Core
atom rel index x y = Leaf (Related rel index x y)

-- equality has nothing to do with rules, and the index 1
abbrev pub equal : (x y : ℕ) → Core
equal x y = atom Eq 1 x y

-- a binder of a number that isn't free is left out
abbrev pub some : ℕ → Core → Core
some n f = if is_free n f then Exists n f else f

abbrev pub every : ℕ → Core → Core
every n f = Not (some n (Not f))

-- of a number that isn't free: the formula, and that there are infinitely many terms
abbrev pub infinitely_many : ℕ → Core → Core
infinitely_many n f = if is_free n f then Infinite n f else Binary And f (Infinite n (equal n n))

abbrev pub implies : Core → Core → Core
implies f g = Binary Or (Not f) g

abbrev pub at_most_one_step : (index x y : ℕ) → Core
at_most_one_step index x y = Binary Or (equal x y) (atom Step index x y)

abbrev pub normalises : (index x y : ℕ) → Core
normalises index x y = Binary And (atom Star index x y) (Leaf (Normal index y))

-- u has the number n
abbrev pub joins : (index n x y : ℕ) → Core
joins index n x y = some n (Binary And (atom Star index x n) (atom Star index y n))

-- from x no infinitely many terms are reached, and none that is reached from itself by a step or more
abbrev pub terminates : (index n x : ℕ) → Core
terminates index n x =
    Binary And (Not (infinitely_many n (atom Star index x n))) (Not (some n (Binary And (atom Star index x n) (atom Plus index n n))))

abbrev pub related : SurfaceRel → (index x y : ℕ) → Core
related surface.Eq index x y = equal x y
related surface.Step index x y = atom Step index x y
related surface.Star index x y = atom Star index x y
related surface.Plus index x y = atom Plus index x y
related surface.Reflexive index x y = at_most_one_step index x y
related surface.Normal index x y = normalises index x y
related surface.Root index x y = atom Root index x y
related surface.Below index x y = atom Below index x y
related surface.Par index x y = atom Par index x y
related surface.Either index x y = Binary Or (atom Step index x y) (atom Step index y x)
related surface.Conv index x y = atom Conv index x y

-- some x has a step, or a reduction, to y and to z
abbrev pub forks : (rel : ℕ → ℕ → Core) → (x y z : ℕ) → Core
forks rel x y z = some x (Binary And (rel x y) (rel x z))

-- n is the first number that is not in use
abbrev pub property_core : Property → (index n : ℕ) → Core
property_core surface.Cr index n =
    every n (every (n + 1) (implies (forks (atom Star index) (n + 2) n (n + 1)) (joins index (n + 2) n (n + 1))))
property_core surface.Wcr index n =
    every n (every (n + 1) (implies (forks (atom Step index) (n + 2) n (n + 1)) (joins index (n + 2) n (n + 1))))
property_core surface.Scr index n = every n (every (n + 1) (implies (forks (atom Step index) (n + 2) n (n + 1))
    (some (n + 2) (Binary And (at_most_one_step index n (n + 2)) (atom Star index (n + 1) (n + 2))))))
property_core surface.Wn index n = every n (some (n + 1) (normalises index n (n + 1)))
property_core surface.Unr index n =
    every n (every (n + 1) (implies (forks (normalises index) (n + 2) n (n + 1)) (equal n (n + 1))))
property_core surface.Unc index n =
    every n (every (n + 1) (implies (Binary And (Binary And (atom Conv index n (n + 1)) (Leaf (Normal index n))) (Leaf (Normal index (n + 1)))) (equal n (n + 1))))
property_core surface.Nfp index n =
    every n (every (n + 1) (implies (Binary And (atom Conv index n (n + 1)) (Leaf (Normal index (n + 1)))) (atom Star index n (n + 1))))

abbrev pub all_terminate : (index n : ℕ) → Core
all_terminate index n = every n (terminates index (n + 1) n)

abbrev pub commutes : (n : ℕ) → Core
commutes n = every n (every (n + 1) (implies (some (n + 2) (Binary And (atom Star 1 (n + 2) n) (atom Star 2 (n + 2) (n + 1))))
    (some (n + 2) (Binary And (atom Star 2 n (n + 2)) (atom Star 1 (n + 1) (n + 2))))))

-- the ground term with this place; where there is none, some tree
abbrev pub term_at : List Tree → ℕ → Tree
term_at terms k = slice_index_or terms k (Node 0 Nil)

-- a formula about an argument, where n is the first number that is not in use: for a ground term that number is bound to it.
-- `make` gives the rest, from the first number that is not in use then and the argument's number.
abbrev pub about : List Tree → List Name → ℕ → Argument → (make : ℕ → ℕ → Core) → Core
about terms scope n (surface.Var x) make = make n (number_in scope x)
about terms scope n (surface.Ground k) make = Exists n (Binary And (Leaf (IsTerm n (term_at terms k))) (make (n + 1) n))

-- the same of two, the first one's binder outside
abbrev pub about_both : List Tree → List Name → ℕ → Argument → Argument → (make : ℕ → ℕ → ℕ → Core) → Core
about_both terms scope n a b make = about terms scope n a (λ m x. about terms scope m b (λ k y. make k x y))

-- the core formula in a scope; a binder has the number of names outside it
abbrev pub core_in : List Tree → List Name → Formula → Core
core_in terms scope surface.True = True
core_in terms scope surface.False = Not True
core_in terms scope (surface.Related rel a b index) = about_both terms scope (length scope) a b (λ n x y. related rel index x y)
core_in terms scope (surface.InContext e number place a b) =
    about_both terms scope (length scope) a b (λ n x y. Leaf (InContext e number place x y))
core_in terms scope (surface.Nf a index) = about terms scope (length scope) a (λ n x. Leaf (Normal index x))
core_in terms scope (surface.Join a b index) = about_both terms scope (length scope) a b (λ n x y. joins index n x y)
core_in terms scope (surface.Sn (Some a) index) = about terms scope (length scope) a (λ n x. terminates index n x)
core_in terms scope (surface.Sn None index) = all_terminate index (length scope)
core_in terms scope (surface.Has property index) = property_core property index (length scope)
core_in terms scope surface.Com = commutes (length scope)
core_in terms scope (surface.Not f) = Not (core_in terms scope f)
core_in terms scope (surface.And f g) = Binary And (core_in terms scope f) (core_in terms scope g)
core_in terms scope (surface.Or f g) = Binary Or (core_in terms scope f) (core_in terms scope g)
core_in terms scope (surface.Imp f g) = implies (core_in terms scope f) (core_in terms scope g)
core_in terms scope (surface.Iff f g) = Binary Iff (core_in terms scope f) (core_in terms scope g)
core_in terms scope (surface.Exists x f) = some (length scope) (core_in terms (x ∷ scope) f)
core_in terms scope (surface.Forall x f) = every (length scope) (core_in terms (x ∷ scope) f)
core_in terms scope (surface.Infinite x f) = infinitely_many (length scope) (core_in terms (x ∷ scope) f)

-- the core formula of a formula in which these terms are written: the free names have the first numbers, in their order
abbrev pub core_of : List Tree → Formula → Core
core_of terms f = core_in terms (reverse (free_names f)) f

-- some part of its core formula has too many columns or root steps; which terms are written in it doesn't matter for that
abbrev pub IsFormulaTooWide : Formula → Type 0
IsFormulaTooWide f = IsTooWide (core_of [] f)
