-- Where each term has finitely many successors, and no path from it has n steps, a finite list holds all that it reaches.
use Rattle.std.specs.Prelude.{ℕ, zero, suc, List, [], ◌∷◌, Contains}
use Rattle.std.specs.List.{flat_map}
use Rattle.std.proofs.Common.{sym, subst, arith}
use Rattle.std.proofs.lemmas.List.Elements.{Contains-append_left, Contains-append_right}
use Rattle.fort_theory.specs.Trees.{Tree}
use Rattle.fort_theory.specs.Rewriting.{Relation, Path}
use Rattle.fort_theory.proofs.Members.{Contains-head, Contains-behind, Contains-none}
use Rattle.fort_theory.proofs.Stops.{Stops}

module _ (next : Tree → List Tree) where
  -- what is reached from the term by fewer than n steps
  abbrev pub reducts : ℕ → Tree → List Tree
  reducts zero s = []
  reducts (suc n) s = s ∷ flat_map (reducts n) (next s)

Contains-flat_map : {A B : Type 0} (f : A → List B) (xs : List A) (x : A) (y : B) → Contains xs x → Contains (f x) y → Contains (flat_map f xs) y
Contains-flat_map f [] x y c d = absurd (Contains-none x c)
Contains-flat_map f (z ∷ xs) x y (zero, l, e) d =
    Contains-append_left (f z) (flat_map f xs) y (subst (λ w. Contains (f w) y) (sym e) d)
Contains-flat_map f (z ∷ xs) x y (suc k, l, e) d =
    Contains-append_right (f z) (flat_map f xs) y (Contains-flat_map f xs x y (k, omega arith, e) d)

module _ (r : Relation) (next : Tree → List Tree) (all : (s t : Tree) → r s t → Contains (next s) t) where
  -- Result
  pub Contains-reducts : (n : ℕ) (s : Tree) (us : List Tree) (t : Tree) → Stops r n s → Path r s us t → Contains (reducts next n s) t
  Contains-reducts zero s us t stops path = absurd stops
  Contains-reducts (suc n) s [] t stops path =
      subst (λ u. Contains (s ∷ flat_map (reducts next n) (next s)) u) path (Contains-head s (flat_map (reducts next n) (next s)))
  Contains-reducts (suc n) s (u ∷ us) t stops path =
      Contains-behind s (flat_map (reducts next n) (next s)) t
      (Contains-flat_map (reducts next n) (next s) u t (all s u path.0) (Contains-reducts n u us t (stops u path.0) path.1))
