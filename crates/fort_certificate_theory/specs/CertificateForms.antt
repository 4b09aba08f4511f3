-- To believe: which forms are which certificate of a problem of so many systems.
use Rattle.std.specs.Prelude.{◌≡◌, ℕ, ◌≤◌, ◌==◌, Bool, true, false, if◌then◌else◌, List, [], ◌∷◌, Some, codes, decimal, drop}
use Rattle.std.specs.List.{AllZip}
use Rattle.fort_tables.specs.Counts.{Count, Finite, Infinite}
use Rattle.fort_grammar.specs.Forms.{Form}
use Rattle.fort_grammar.specs.Declarations.{word_of, elements_of, IsListOfWords}
use Rattle.fort_alike.specs.ListedClosures.{Which, Star, Conv, Why, Any, Kids, Rule, Pair}
use Rattle.fort_certificate_theory.specs.Certificates.{Step, Closure, Part, Merge, Counts, Value, Certificate}

-- without merges version 1 is that of problems of one system and version 2 that of problems of several; version 3 is that with merges, of any
-- problem
pub data Version : Type 0 where
  OfOne : Version
  OfSeveral : Version
  OfReduced : Version

abbrev pub version_word : Version → List ℕ
version_word OfOne = codes "1"
version_word OfSeveral = codes "2"
version_word OfReduced = codes "3"

-- a closure tells its index
abbrev pub tells_index : Version → Bool
tells_index OfOne = false
tells_index OfSeveral = true
tells_index OfReduced = true

abbrev pub has_merges : Version → Bool
has_merges OfOne = false
has_merges OfSeveral = false
has_merges OfReduced = true

-- of a problem of so many systems, with merges or without
abbrev pub version_for : (reduces : Bool) → (number : ℕ) → Version
version_for true number = OfReduced
version_for false number = if number == 1 then OfOne else OfSeveral

abbrev pub IsVersionOf : (number : ℕ) → Version → Type 0
IsVersionOf number version = (reduces : Bool) × (version ≡ version_for reduces number)

abbrev pub most_number : ℕ
most_number = 4294967295

-- the word is this number
pub record IsNumberWord (word : List ℕ) (n : ℕ) : Type 0 where
  pub is : word ≡ decimal n
  pub small : n ≤ most_number

pub record IsNumberForm (bytes : List ℕ) (f : Form) (n : ℕ) : Type 0 where
  pub word : List ℕ
  pub is : word_of bytes f ≡ Some word
  pub number : IsNumberWord word n

abbrev pub verdict_word : Bool → List ℕ
verdict_word true = codes "yes"
verdict_word false = codes "no"

abbrev pub which_word : Which → List ℕ
which_word Star = codes "star"
which_word Conv = codes "conv"

-- the last word of a pair
pub data IsWhyWord (word : List ℕ) : Why → Type 0 where
  AnyWord : word ≡ codes "any" → IsWhyWord word Any
  KidsWord : word ≡ codes "kids" → IsWhyWord word Kids
  RuleWord : {k : ℕ} → IsNumberWord word k → IsWhyWord word (Rule k)

-- `(N N any)`, `(N N kids)` or `(N N N)`
pub record IsPairForm (bytes : List ℕ) (f : Form) (pair : Pair) : Type 0 where
  pub p_word : List ℕ
  pub q_word : List ℕ
  pub why_word : List ℕ
  pub words : IsListOfWords bytes f (p_word ∷ q_word ∷ why_word ∷ [])
  pub p_is : IsNumberWord p_word pair.p
  pub q_is : IsNumberWord q_word pair.q
  pub why_is : IsWhyWord why_word pair.why

-- `(fin N)` or `(inf N)`
pub data IsCountForm (bytes : List ℕ) (f : Form) : Count → Type 0 where
  FiniteForm : {n : ℕ} (word : List ℕ) → IsListOfWords bytes f (codes "fin" ∷ word ∷ []) → IsNumberWord word n → IsCountForm bytes f (Finite n)
  InfiniteForm : {n : ℕ} (word : List ℕ) → IsListOfWords bytes f (codes "inf" ∷ word ∷ []) → IsNumberWord word n → IsCountForm bytes f (Infinite n)

-- `(closure WHICH PAIR..)`, or where the index is told `(closure WHICH INDEX PAIR..)`; `(part K TARGET..)`; in a version with merges
-- `(merge K CLASS..)`; `(counts K COUNT..)`; `(value K VERDICT)`
pub data IsStepForm (bytes : List ℕ) (version : Version) (f : Form) : Step → Type 0 where
  ClosureForm : {which : Which} {pairs : List Pair} (head second : Form) (others : List Form) → tells_index version ≡ false
      → elements_of f ≡ Some (head ∷ second ∷ others) → word_of bytes head ≡ Some (codes "closure")
      → word_of bytes second ≡ Some (which_word which) → AllZip (IsPairForm bytes) others pairs
      → IsStepForm bytes version f (Closure which 1 pairs)
  IndexedForm : {which : Which} {index : ℕ} {pairs : List Pair} (head second third : Form) (others : List Form) → tells_index version ≡ true
      → elements_of f ≡ Some (head ∷ second ∷ third ∷ others) → word_of bytes head ≡ Some (codes "closure")
      → word_of bytes second ≡ Some (which_word which) → IsNumberForm bytes third index → AllZip (IsPairForm bytes) others pairs
      → IsStepForm bytes version f (Closure which index pairs)
  PartForm : {k : ℕ} {targets : List ℕ} (head second : Form) (others : List Form) → elements_of f ≡ Some (head ∷ second ∷ others)
      → word_of bytes head ≡ Some (codes "part") → IsNumberForm bytes second k → AllZip (IsNumberForm bytes) others targets
      → IsStepForm bytes version f (Part k targets)
  MergeForm : {k : ℕ} {classes : List ℕ} (head second : Form) (others : List Form) → has_merges version ≡ true
      → elements_of f ≡ Some (head ∷ second ∷ others) → word_of bytes head ≡ Some (codes "merge")
      → IsNumberForm bytes second k → AllZip (IsNumberForm bytes) others classes → IsStepForm bytes version f (Merge k classes)
  CountsForm : {k : ℕ} {counts : List Count} (head second : Form) (others : List Form) → elements_of f ≡ Some (head ∷ second ∷ others)
      → word_of bytes head ≡ Some (codes "counts") → IsNumberForm bytes second k → AllZip (IsCountForm bytes) others counts
      → IsStepForm bytes version f (Counts k counts)
  ValueForm : {k : ℕ} {value : Bool} (head second third : Form) → elements_of f ≡ Some (head ∷ second ∷ third ∷ [])
      → word_of bytes head ≡ Some (codes "value") → IsNumberForm bytes second k → word_of bytes third ≡ Some (verdict_word value)
      → IsStepForm bytes version f (Value k value)

-- `(certificate VERSION VERDICT)`
abbrev pub IsHeaderForm : List ℕ → Version → Form → Bool → Type 0
IsHeaderForm bytes version f verdict = IsListOfWords bytes f (codes "certificate" ∷ version_word version ∷ verdict_word verdict ∷ [])

-- the forms from this number on, behind a problem of so many systems: a header of a version of its certificates, and steps up to the end
pub record IsCertificate (bytes : List ℕ) (number : ℕ) (forms : List Form) (from : ℕ) (c : Certificate) : Type 0 where
  pub version : Version
  pub of_problem : IsVersionOf number version
  pub header : Form
  pub others : List Form
  pub first : c.first ≡ from
  pub split : drop from forms ≡ header ∷ others
  pub headed : IsHeaderForm bytes version header c.verdict
  pub are_steps : AllZip (IsStepForm bytes version) others c.steps
