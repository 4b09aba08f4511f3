-- To believe: which indices of rules, and which places of ground terms, a formula mentions, from left to right; whether it has an expression.
use Rattle.std.specs.Prelude.{◌≡◌, Bool, true, false, ◌||◌, ℕ, ◌<◌, ◌≤◌, List, [], ◌∷◌, ◌++◌, length, Some, None, Contains}
use Rattle.fort_theory.specs.Trees.{Tree}
use Rattle.fort_theory.specs.Expressions.{root_indices}
use Rattle.fort_logic.specs.Formulas.{Argument, Var, Ground, Formula, True, False, Related, InContext, Nf, Join, Sn, Has, Com, Not, And, Or, Imp, Iff, Exists, Forall, Infinite}

-- the indices; one that is left out counts as 1, COM as 1 and 2
abbrev pub indices : Formula → List ℕ
indices True = []
indices False = []
indices (Related rel a b index) = index ∷ []
indices (InContext e number place a b) = root_indices e
indices (Nf a index) = index ∷ []
indices (Join a b index) = index ∷ []
indices (Sn a index) = index ∷ []
indices (Has property index) = index ∷ []
indices Com = 1 ∷ 2 ∷ []
indices (Not f) = indices f
indices (And f g) = indices f ++ indices g
indices (Or f g) = indices f ++ indices g
indices (Imp f g) = indices f ++ indices g
indices (Iff f g) = indices f ++ indices g
indices (Exists x f) = indices f
indices (Forall x f) = indices f
indices (Infinite x f) = indices f

-- the place of the ground term that an argument is
abbrev pub places_in : Argument → List ℕ
places_in (Var x) = []
places_in (Ground k) = k ∷ []

abbrev pub places : Formula → List ℕ
places True = []
places False = []
places (Related rel a b index) = places_in a ++ places_in b
places (InContext e number place a b) = places_in a ++ places_in b
places (Nf a index) = places_in a
places (Join a b index) = places_in a ++ places_in b
places (Sn (Some a) index) = places_in a
places (Sn None index) = []
places (Has property index) = []
places Com = []
places (Not f) = places f
places (And f g) = places f ++ places g
places (Or f g) = places f ++ places g
places (Imp f g) = places f ++ places g
places (Iff f g) = places f ++ places g
places (Exists x f) = places f
places (Forall x f) = places f
places (Infinite x f) = places f

-- none of these is above the bound
abbrev pub AreWithin : ℕ → List ℕ → Type 0
AreWithin bound xs = (y : ℕ) → Contains xs y → y ≤ bound

-- x is the first of these that is above the bound
pub record IsFirstAbove (bound : ℕ) (xs : List ℕ) (x : ℕ) : Type 0 where
  pub front : List ℕ
  pub back : List ℕ
  pub split : xs ≡ front ++ x ∷ back
  pub within : AreWithin bound front
  pub above : bound < x

-- the ground terms that are written in the formula are this many at most
abbrev pub HasPlacesBelow : ℕ → Formula → Type 0
HasPlacesBelow count f = (k : ℕ) → Contains (places f) k → k < count

-- there is a term for each of them
abbrev pub HasTermsFor : Formula → List Tree → Type 0
HasTermsFor f terms = HasPlacesBelow (length terms) f

-- whether some atom of it is by an expression
abbrev pub has_expression : Formula → Bool
has_expression True = false
has_expression False = false
has_expression (Related rel a b index) = false
has_expression (InContext e number place a b) = true
has_expression (Nf a index) = false
has_expression (Join a b index) = false
has_expression (Sn a index) = false
has_expression (Has property index) = false
has_expression Com = false
has_expression (Not f) = has_expression f
has_expression (And f g) = has_expression f || has_expression g
has_expression (Or f g) = has_expression f || has_expression g
has_expression (Imp f g) = has_expression f || has_expression g
has_expression (Iff f g) = has_expression f || has_expression g
has_expression (Exists x f) = has_expression f
has_expression (Forall x f) = has_expression f
has_expression (Infinite x f) = has_expression f
