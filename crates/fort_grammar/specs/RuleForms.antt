-- To believe: which forms are which rules of which index, and what is wrong with a form that is none.
use Rattle.std.specs.Prelude.{◌≡◌, ◌≢◌, ℕ, ◌+◌, ◌<◌, ◌≤◌, ◌==◌, List, [], ◌∷◌, ◌++◌, length, Some, Contains, bytes_eq, codes, decimal, filter, map}
use Rattle.std.specs.List.{IsDistinct}
use Rattle.fort_theory.specs.Signatures.{Signature, IsName, arity_of, name_of, names_of}
use Rattle.fort_theory.specs.Sides.{Side, Sides, Var, App, NoSide, MoreSides, side_count, Rule}
use Rattle.fort_grammar.specs.Forms.{Form, Forms, ListForm, NoForm, MoreForms}
use Rattle.fort_grammar.specs.Declarations.{as_list, word_of, elements_of, ProblemFault, BadForm, BadName, WrongCount, VariableApplied, TooManyRules, LeftRepeats, RightRepeats, Shares}

abbrev pub most_rules : ℕ
most_rules = 4096

-- `(rule LEFT RIGHT)`, of index 1 however many systems there are, or `(rule LEFT RIGHT :index I)`, where there are this many systems
pub data HasSides (bytes : List ℕ) (number : ℕ) (f left right : Form) : (index : ℕ) → Type 0 where
  OfFirst : (head : Form) → elements_of f ≡ Some (head ∷ left ∷ right ∷ []) → word_of bytes head ≡ Some (codes "rule")
      → HasSides bytes number f left right 1
  OfIndex : (head key value : Form) {index : ℕ} → elements_of f ≡ Some (head ∷ left ∷ right ∷ key ∷ value ∷ [])
      → word_of bytes head ≡ Some (codes "rule") → word_of bytes key ≡ Some (codes ":index") → word_of bytes value ≡ Some (decimal index)
      → 1 ≤ index → index ≤ number → HasSides bytes number f left right index

-- the form is a word that is the name of a variable: no function has it. So a name that no `fun` declares is a variable, on a left side
-- too, and a misspelt constant changes the system
pub record IsVariableNamed (bytes : List ℕ) (signature : Signature) (f : Form) (name : List ℕ) : Type 0 where
  pub word : word_of bytes f ≡ Some name
  pub named : IsName name
  pub free : Contains (names_of signature) name → ⊥

-- the form is a word that is the name of function g
pub record IsFunctionNamed (bytes : List ℕ) (signature : Signature) (f : Form) (g : ℕ) : Type 0 where
  pub name : List ℕ
  pub word : word_of bytes f ≡ Some name
  pub named : IsName name
  pub declared : name_of signature g ≡ Some name

-- a side with the names of its variables from left to right, one for each occurrence; these are numbered in that order, from n on.
-- It is the name of a constant, a variable, or a list of a function's name and at least one argument, as many as its arity
mutual
  pub data IsSide (bytes : List ℕ) (signature : Signature) : (n : ℕ) → Form → Side → List (List ℕ) → Type 0 where
    AConstant : {n : ℕ} {f : Form} {g : ℕ} → IsFunctionNamed bytes signature f g → arity_of signature g ≡ Some 0 → IsSide bytes signature n f (App g NoSide) []
    AVariable : {n : ℕ} {f : Form} {name : List ℕ} → IsVariableNamed bytes signature f name → IsSide bytes signature n f (Var n) (name ∷ [])
    AnApplication : {n from to : ℕ} {head first : Form} {others : Forms} {g : ℕ} {ss : Sides} {names : List (List ℕ)} → IsFunctionNamed bytes signature head g
        → arity_of signature g ≡ Some (side_count ss) → AreSides bytes signature n (MoreForms first others) ss names
        → IsSide bytes signature n (ListForm from to (MoreForms head (MoreForms first others))) (App g ss) names

  pub data AreSides (bytes : List ℕ) (signature : Signature) : (n : ℕ) → Forms → Sides → List (List ℕ) → Type 0 where
    NoSides : {n : ℕ} → AreSides bytes signature n NoForm NoSide []
    MoreOf : {n : ℕ} {f : Form} {fs : Forms} {s : Side} {ss : Sides} {names others : List (List ℕ)} → IsSide bytes signature n f s names
        → AreSides bytes signature (n + length names) fs ss others → AreSides bytes signature n (MoreForms f fs) (MoreSides s ss) (names ++ others)

-- a rule of one of the systems
pub record IndexedRule : Type 0 where
  pub index : ℕ
  pub rule : Rule

-- a rule in which no variable stands twice
pub record IsRule (bytes : List ℕ) (number : ℕ) (signature : Signature) (f : Form) (given : IndexedRule) : Type 0 where
  pub left : Form
  pub right : Form
  pub sides : HasSides bytes number f left right given.index
  pub left_names : List (List ℕ)
  pub right_names : List (List ℕ)
  pub left_is : IsSide bytes signature 0 left given.rule.left left_names
  pub right_is : IsSide bytes signature (length left_names) right given.rule.right right_names
  pub once : IsDistinct bytes_eq (left_names ++ right_names)

abbrev pub AreRules : List ℕ → ℕ → Signature → List Form → List IndexedRule → Type 0
AreRules bytes number signature [] [] = Unit {0}
AreRules bytes number signature [] (r ∷ rs) = ⊥
AreRules bytes number signature (f ∷ fs) [] = ⊥
AreRules bytes number signature (f ∷ fs) (r ∷ rs) = IsRule bytes number signature f r × AreRules bytes number signature fs rs

-- those of one index, in their order
abbrev pub rules_of : ℕ → List IndexedRule → List Rule
rules_of index given = map (λ (r : IndexedRule). r.rule) (filter (λ (r : IndexedRule). r.index == index) given)

-- what follows says what is told of a form that is no rule; which forms are rules doesn't rest on it

-- what is first wrong with a side of form i, each form before its arguments, these from left to right
mutual
  pub data IsBadSide (bytes : List ℕ) (signature : Signature) (i : ℕ) : Form → ProblemFault → Type 0 where
    NoName : {f : Form} (word : List ℕ) → word_of bytes f ≡ Some word → (IsName word → ⊥) → IsBadSide bytes signature i f (BadName i)
    NoConstant : {f : Form} (g : ℕ) → IsFunctionNamed bytes signature f g → arity_of signature g ≢ Some 0 → IsBadSide bytes signature i f (WrongCount i)
    NoApplication : {f : Form} (elements : List Form) → elements_of f ≡ Some elements → ((head first : Form) (others : List Form) (word : List ℕ)
        → elements ≡ head ∷ first ∷ others → word_of bytes head ≡ Some word → ⊥) → IsBadSide bytes signature i f (BadForm i)
    NoHeadName : {f : Form} (head first : Form) (others : List Form) (word : List ℕ) → elements_of f ≡ Some (head ∷ first ∷ others)
        → word_of bytes head ≡ Some word → (IsName word → ⊥) → IsBadSide bytes signature i f (BadName i)
    AnAppliedVariable : {f : Form} (head first : Form) (others : List Form) (name : List ℕ) → elements_of f ≡ Some (head ∷ first ∷ others)
        → IsVariableNamed bytes signature head name → IsBadSide bytes signature i f (VariableApplied i)
    OtherCount : {f : Form} (head first : Form) (others : List Form) (g : ℕ) → elements_of f ≡ Some (head ∷ first ∷ others)
        → IsFunctionNamed bytes signature head g → arity_of signature g ≢ Some (length (first ∷ others)) → IsBadSide bytes signature i f (WrongCount i)
    InArguments : {from to : ℕ} {head first : Form} {others : Forms} {g : ℕ} {fault : ProblemFault} → IsFunctionNamed bytes signature head g
        → arity_of signature g ≡ Some (length (as_list (MoreForms first others))) → AreBadSides bytes signature i (MoreForms first others) fault
        → IsBadSide bytes signature i (ListForm from to (MoreForms head (MoreForms first others))) fault

  pub data AreBadSides (bytes : List ℕ) (signature : Signature) (i : ℕ) : Forms → ProblemFault → Type 0 where
    FirstIsBad : {f : Form} {fs : Forms} {fault : ProblemFault} → IsBadSide bytes signature i f fault → AreBadSides bytes signature i (MoreForms f fs) fault
    LaterIsBad : {f : Form} {fs : Forms} {fault : ProblemFault} (side : Side) (names : List (List ℕ)) → IsSide bytes signature 0 f side names
        → AreBadSides bytes signature i fs fault → AreBadSides bytes signature i (MoreForms f fs) fault

-- the name that is first met for a second time
pub record IsFirstMetAgain (names : List (List ℕ)) (name : List ℕ) : Type 0 where
  pub front : List (List ℕ)
  pub back : List (List ℕ)
  pub split : names ≡ front ++ name ∷ back
  pub again : Contains front name
  pub first : IsDistinct bytes_eq front

-- the first name of one list that is in the other
pub record IsFirstAlso (names others : List (List ℕ)) (name : List ℕ) : Type 0 where
  pub front : List (List ℕ)
  pub back : List (List ℕ)
  pub split : names ≡ front ++ name ∷ back
  pub also : Contains others name
  pub before : (x : List ℕ) → Contains front x → Contains others x → ⊥

-- two sides that are right each by itself, with the names of their variables
pub record HasRightSides (bytes : List ℕ) (number : ℕ) (signature : Signature) (f : Form) (left_names right_names : List (List ℕ)) : Type 0 where
  pub left : Form
  pub right : Form
  pub index : ℕ
  pub sides : HasSides bytes number f left right index
  pub left_side : Side
  pub right_side : Side
  pub left_is : IsSide bytes signature 0 left left_side left_names
  pub right_is : IsSide bytes signature (length left_names) right right_side right_names

-- what is first wrong with form i, a list that begins with `rule`, behind so many rules of all systems
pub data IsBadRule (bytes : List ℕ) (number : ℕ) (signature : Signature) (count i : ℕ) (f : Form) : ProblemFault → Type 0 where
  OneTooMany : count ≡ most_rules → IsBadRule bytes number signature count i f TooManyRules
  NoRule : count < most_rules → ((left right : Form) (index : ℕ) → HasSides bytes number f left right index → ⊥)
      → IsBadRule bytes number signature count i f (BadForm i)
  BadLeft : (left right : Form) (index : ℕ) (fault : ProblemFault) → count < most_rules → HasSides bytes number f left right index
      → IsBadSide bytes signature i left fault → IsBadRule bytes number signature count i f fault
  BadRight : (left right : Form) (index : ℕ) (side : Side) (names : List (List ℕ)) (fault : ProblemFault) → count < most_rules
      → HasSides bytes number f left right index → IsSide bytes signature 0 left side names → IsBadSide bytes signature i right fault
      → IsBadRule bytes number signature count i f fault
  LeftTwice : (left_names right_names : List (List ℕ)) (name : List ℕ) → count < most_rules → HasRightSides bytes number signature f left_names right_names
      → IsFirstMetAgain left_names name → IsBadRule bytes number signature count i f (LeftRepeats i name)
  RightTwice : (left_names right_names : List (List ℕ)) (name : List ℕ) → count < most_rules → HasRightSides bytes number signature f left_names right_names
      → IsDistinct bytes_eq left_names → IsFirstMetAgain right_names name → IsBadRule bytes number signature count i f (RightRepeats i name)
  InBoth : (left_names right_names : List (List ℕ)) (name : List ℕ) → count < most_rules → HasRightSides bytes number signature f left_names right_names
      → IsDistinct bytes_eq left_names → IsDistinct bytes_eq right_names → IsFirstAlso left_names right_names name
      → IsBadRule bytes number signature count i f (Shares i name)
