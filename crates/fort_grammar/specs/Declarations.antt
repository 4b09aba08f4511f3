-- To believe: which forms declare which functions, and what is wrong with a form that declares none.
use Rattle.std.specs.Prelude.{◌≡◌, ℕ, ◌<◌, ◌≤◌, List, [], ◌∷◌, length, Option, None, Some, Contains, bytes_eq, codes, decimal, slice_range}
use Rattle.std.specs.List.{IsDistinct}
use Rattle.fort_theory.specs.Signatures.{most_functions, most_arguments, most_indices, Symbol, Signature, IsName, names_of}
use Rattle.fort_grammar.specs.Forms.{Form, Forms, Word, ListForm, NoForm, MoreForms}

abbrev pub as_list : Forms → List Form
as_list NoForm = []
as_list (MoreForms f fs) = f ∷ as_list fs

-- the text of a word
abbrev pub word_of : List ℕ → Form → Option (List ℕ)
word_of bytes (Word from to) = Some (slice_range bytes from to)
word_of bytes (ListForm from to fs) = None

-- the elements of a list
abbrev pub elements_of : Form → Option (List Form)
elements_of (Word from to) = None
elements_of (ListForm from to fs) = Some (as_list fs)

-- the form is a list whose elements are words with these texts, one by one
abbrev pub AreWords : List ℕ → List Form → List (List ℕ) → Type 0
AreWords bytes [] [] = Unit {0}
AreWords bytes [] (w ∷ ws) = ⊥
AreWords bytes (f ∷ fs) [] = ⊥
AreWords bytes (f ∷ fs) (w ∷ ws) = (word_of bytes f ≡ Some w) × AreWords bytes fs ws

pub record IsListOfWords (bytes : List ℕ) (f : Form) (words : List (List ℕ)) : Type 0 where
  pub elements : List Form
  pub is : elements_of f ≡ Some elements
  pub words_are : AreWords bytes elements words

-- the form is a list whose first element is this word
pub record IsHeaded (bytes word : List ℕ) (f : Form) : Type 0 where
  pub first : Form
  pub others : List Form
  pub is : elements_of f ≡ Some (first ∷ others)
  pub head : word_of bytes first ≡ Some word

-- `(format TRS)`, of one system, or `(format TRS :number N)`, of N systems
pub data IsFormat (bytes : List ℕ) (f : Form) : (number : ℕ) → Type 0 where
  OneSystem : IsListOfWords bytes f (codes "format" ∷ codes "TRS" ∷ []) → IsFormat bytes f 1
  Several : {number : ℕ} → 1 ≤ number → number ≤ most_indices
      → IsListOfWords bytes f (codes "format" ∷ codes "TRS" ∷ codes ":number" ∷ decimal number ∷ []) → IsFormat bytes f number

abbrev pub IsNoFormat : List ℕ → Form → Type 0
IsNoFormat bytes f = (number : ℕ) → IsFormat bytes f number → ⊥

-- a word that is an arity
abbrev pub IsArity : List ℕ → ℕ → Type 0
IsArity word n = (n ≤ most_arguments) × (word ≡ decimal n)

-- `(fun NAME ARITY)`
pub record Declares (bytes : List ℕ) (f : Form) (s : Symbol) : Type 0 where
  pub words : IsListOfWords bytes f (codes "fun" ∷ s.name ∷ decimal s.arity ∷ [])
  pub named : IsName s.name
  pub small : s.arity ≤ most_arguments

abbrev pub DeclareEach : List ℕ → List Form → Signature → Type 0
DeclareEach bytes [] [] = Unit {0}
DeclareEach bytes [] (s ∷ ss) = ⊥
DeclareEach bytes (f ∷ fs) [] = ⊥
DeclareEach bytes (f ∷ fs) (s ∷ ss) = Declares bytes f s × DeclareEach bytes fs ss

-- the forms declare this signature, one symbol each
pub record AreDeclarations (bytes : List ℕ) (forms : List Form) (signature : Signature) : Type 0 where
  pub each : DeclareEach bytes forms signature
  pub distinct : IsDistinct bytes_eq (names_of signature)
  pub few : length signature ≤ most_functions

-- why a text of forms is no problem; the number is the form's. From here on it is said what is told of forms that declare nothing;
-- which forms are declarations doesn't rest on it
pub data ProblemFault : Type 0 where
  NoFormat : ProblemFault
  BadForm : ℕ → ProblemFault
  BadName : ℕ → ProblemFault
  BadArity : ℕ → ProblemFault
  Duplicate : ℕ → ProblemFault
  TooManyFunctions : ProblemFault
  TooManyRules : ProblemFault
  NoConstant : ProblemFault
  WrongCount : ℕ → ProblemFault
  VariableApplied : ℕ → ProblemFault
  LeftRepeats : ℕ → List ℕ → ProblemFault
  RightRepeats : ℕ → List ℕ → ProblemFault
  Shares : ℕ → List ℕ → ProblemFault

-- what is first wrong with form i, a list that begins with `fun`, where the forms before declare the signature
pub data IsBadDeclaration (bytes : List ℕ) (signature : Signature) (i : ℕ) (f : Form) : ProblemFault → Type 0 where
  OneTooMany : length signature ≡ most_functions → IsBadDeclaration bytes signature i f TooManyFunctions
  NotThreeWords : length signature < most_functions
      → ((head name arity : List ℕ) → IsListOfWords bytes f (head ∷ name ∷ arity ∷ []) → ⊥) → IsBadDeclaration bytes signature i f (BadForm i)
  NoName : (head name arity : List ℕ) → length signature < most_functions → IsListOfWords bytes f (head ∷ name ∷ arity ∷ [])
      → (IsName name → ⊥) → IsBadDeclaration bytes signature i f (BadName i)
  NoArity : (head name arity : List ℕ) → length signature < most_functions → IsListOfWords bytes f (head ∷ name ∷ arity ∷ [])
      → IsName name → ((n : ℕ) → IsArity arity n → ⊥) → IsBadDeclaration bytes signature i f (BadArity i)
  Twice : (head name arity : List ℕ) (n : ℕ) → length signature < most_functions → IsListOfWords bytes f (head ∷ name ∷ arity ∷ [])
      → IsName name → IsArity arity n → Contains (names_of signature) name → IsBadDeclaration bytes signature i f (Duplicate i)
