-- To believe: at which indices a formula says SN, from left to right, and that a system's rules of them are right-ground.
use Rattle.std.specs.Prelude.{◌≡◌, ℕ, List, [], ◌∷◌, ◌++◌, Contains}
use Rattle.fort_theory.specs.Sides.{System}
use Rattle.fort_theory.specs.RightGround.{IsRightGroundAt}
use Rattle.fort_logic.specs.Formulas.{Formula, True, False, Related, InContext, Nf, Join, Sn, Has, Com, Not, And, Or, Imp, Iff, Exists, Forall, Infinite}

abbrev pub terminations : Formula → List ℕ
terminations True = []
terminations False = []
terminations (Related rel a b index) = []
terminations (InContext e number place a b) = []
terminations (Nf a index) = []
terminations (Join a b index) = []
terminations (Sn a index) = index ∷ []
terminations (Has property index) = []
terminations Com = []
terminations (Not f) = terminations f
terminations (And f g) = terminations f ++ terminations g
terminations (Or f g) = terminations f ++ terminations g
terminations (Imp f g) = terminations f ++ terminations g
terminations (Iff f g) = terminations f ++ terminations g
terminations (Exists x f) = terminations f
terminations (Forall x f) = terminations f
terminations (Infinite x f) = terminations f

-- each of these numbers has P
abbrev pub AreAll : (ℕ → Type 0) → List ℕ → Type 0
AreAll P xs = (x : ℕ) → Contains xs x → P x

-- x is the first of these that hasn't P
pub record IsFirstWithout (P : ℕ → Type 0) (xs : List ℕ) (x : ℕ) : Type 0 where
  pub front : List ℕ
  pub back : List ℕ
  pub split : xs ≡ front ++ x ∷ back
  pub before : AreAll P front
  pub here : P x → ⊥

-- the system's rules of each index of an SN are right-ground
abbrev pub IsRightGroundFor : System → Formula → Type 0
IsRightGroundFor system f = AreAll (IsRightGroundAt system) (terminations f)

-- the first index of an SN of which a rule isn't
abbrev pub IsFirstNotRightGround : System → Formula → ℕ → Type 0
IsFirstNotRightGround system f = IsFirstWithout (IsRightGroundAt system) (terminations f)
