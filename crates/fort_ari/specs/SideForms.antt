-- Inside: when a form is a side by itself, what a reader has read of a side, and what is wrong with the names of two sides.
use Rattle.std.specs.Prelude.{◌≡◌, ℕ, ◌+◌, ◌-◌, ◌≤◌, List, [], ◌∷◌, ◌++◌, length, take, drop, Some, bytes_eq}
use Rattle.std.specs.List.{IsDistinct, AllByRecursion}
use Rattle.fort_theory.specs.Signatures.{Signature, arity_of}
use Rattle.fort_theory.specs.Sides as theory
use Rattle.fort_theory.specs.Sides.{pushed_at}
use Rattle.fort_theory.specs.Patterns.{PatternSystem, pattern_pair}
use Rattle.fort_terms.specs.declared.side.Side.{Side}
use Rattle.fort_terms.specs.SideView.{as_side}
use Rattle.fort_grammar.specs.Forms.{Form}
use Rattle.fort_grammar.specs.Declarations.{ProblemFault, LeftRepeats, RightRepeats, Shares}
use Rattle.fort_grammar.specs.RuleForms.{IsSide, IsFunctionNamed, IsFirstMetAgain, IsFirstAlso}

-- the form is some side
pub record IsRightSide (bytes : List ℕ) (signature : Signature) (f : Form) : Type 0 where
  pub side : theory.Side
  pub names : List (List ℕ)
  pub is : IsSide bytes signature 0 f side names

-- the elements of a list are the name of a function and at least one more, as many as its arity
pub record IsHeadFor (bytes : List ℕ) (signature : Signature) (es : List Form) : Type 0 where
  pub head : Form
  pub first : Form
  pub others : List Form
  pub g : ℕ
  pub is : es ≡ head ∷ first ∷ others
  pub named : IsFunctionNamed bytes signature head g
  pub takes : arity_of signature g ≡ Some (length (first ∷ others))

-- the elements behind the first, up to a number, are sides
pub record AreRightUpTo (bytes : List ℕ) (signature : Signature) (es : List Form) (i : ℕ) : Type 0 where
  pub low : 1 ≤ i
  pub each : AllByRecursion (IsRightSide bytes signature) (take (i - 1) (drop 1 es))

-- the form is this side, numbered behind the names before, and its names are added to those
pub record ReadsSide (bytes : List ℕ) (signature : Signature) (f : Form) (old new : List (List ℕ)) (side : theory.Side) : Type 0 where
  pub names : List (List ℕ)
  pub added : new ≡ old ++ names
  pub is : IsSide bytes signature (length old) f side names

-- the forms are these sides one by one, with the names of all, numbered from n on
pub data AreSidesEach (bytes : List ℕ) (signature : Signature) : (n : ℕ) → List Form → List Side → List (List ℕ) → Type 0 where
  NoneOfThem : {n : ℕ} → AreSidesEach bytes signature n [] [] []
  OneOfThem : {n : ℕ} {f : Form} {fs : List Form} {s : Side} {ss : List Side} {names others : List (List ℕ)} → IsSide bytes signature n f (as_side s) names
      → AreSidesEach bytes signature (n + length names) fs ss others → AreSidesEach bytes signature n (f ∷ fs) (s ∷ ss) (names ++ others)

-- the elements behind the first, up to a number, are these sides, and their names are added to those before
pub record ReadsUpTo (bytes : List ℕ) (signature : Signature) (es : List Form) (i : ℕ) (old new : List (List ℕ)) (sides : List Side) : Type 0 where
  pub low : 1 ≤ i
  pub names : List (List ℕ)
  pub added : new ≡ old ++ names
  pub each : AreSidesEach bytes signature (length old) (take (i - 1) (drop 1 es)) sides names

-- what is first wrong with the names of two sides of rule i
pub data AreBadNames (i : ℕ) (left right : List (List ℕ)) : ProblemFault → Type 0 where
  InLeft : (name : List ℕ) → IsFirstMetAgain left name → AreBadNames i left right (LeftRepeats i name)
  InRight : (name : List ℕ) → IsDistinct bytes_eq left → IsFirstMetAgain right name → AreBadNames i left right (RightRepeats i name)
  Between : (name : List ℕ) → IsDistinct bytes_eq left → IsDistinct bytes_eq right → IsFirstAlso left right name → AreBadNames i left right (Shares i name)

-- two forms are these sides, the variables of the second numbered behind those of the first
pub record AreBothSides (bytes : List ℕ) (signature : Signature) (left right : Form) (rule : theory.Rule) (left_names right_names : List (List ℕ)) : Type 0 where
  pub left_is : IsSide bytes signature 0 left rule.left left_names
  pub right_is : IsSide bytes signature (length left_names) right rule.right right_names

-- the system has one more rule, of these two sides, at the end of those of this index
pub record PushesSides (bytes : List ℕ) (left right : Form) (index : ℕ) (old new : PatternSystem) : Type 0 where
  pub rule : theory.Rule
  pub left_names : List (List ℕ)
  pub right_names : List (List ℕ)
  pub both : AreBothSides bytes old.signature left right rule left_names right_names
  pub once : IsDistinct bytes_eq (left_names ++ right_names)
  pub same : new.signature ≡ old.signature
  pub rules : new.rules ≡ pushed_at index (pattern_pair rule) old.rules

-- two forms are sides, and this is first wrong with their names
pub record HaveBadNames (bytes : List ℕ) (signature : Signature) (left right : Form) (i : ℕ) (fault : ProblemFault) : Type 0 where
  pub rule : theory.Rule
  pub left_names : List (List ℕ)
  pub right_names : List (List ℕ)
  pub both : AreBothSides bytes signature left right rule left_names right_names
  pub bad : AreBadNames i left_names right_names fault
