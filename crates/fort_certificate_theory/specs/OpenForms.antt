-- To believe: which forms are which certificate of an open formula.
use Rattle.std.specs.Prelude.{◌≡◌, ℕ, List, [], ◌∷◌, ◌++◌, Option, None, Some, codes, drop}
use Rattle.std.specs.List.{AllZip}
use Rattle.fort_grammar.specs.Forms.{Form}
use Rattle.fort_grammar.specs.Declarations.{word_of, elements_of, IsListOfWords}
use Rattle.fort_tables.specs.Tuples.{TupleSymbol}
use Rattle.fort_tables.specs.Entries.{Entry}
use Rattle.fort_certificate_theory.specs.CertificateForms.{Version, OfReduced, IsNumberWord, IsNumberForm, IsStepForm}
use Rattle.fort_certificate_theory.specs.OpenCertificates.{Claim, Found, Empty, OpenCertificate}

abbrev pub claim_word : Claim → List ℕ
claim_word Found = codes "found"
claim_word Empty = codes "empty"

abbrev pub open_version_word : List ℕ
open_version_word = codes "4"

-- its steps are those of a version with merges
abbrev pub step_version : Version
step_version = OfReduced

abbrev pub absent_word : List ℕ
absent_word = codes "-"

abbrev pub node_word : List ℕ
node_word = codes "node"

-- `-` where a column is absent, else the number of a symbol
pub data IsSymbolWord (word : List ℕ) : Option ℕ → Type 0 where
  AbsentWord : word ≡ absent_word → IsSymbolWord word None
  SymbolWord : {g : ℕ} → IsNumberWord word g → IsSymbolWord word (Some g)

pub record IsSymbolForm (bytes : List ℕ) (f : Form) (g : Option ℕ) : Type 0 where
  pub word : List ℕ
  pub is : word_of bytes f ≡ Some word
  pub symbol : IsSymbolWord word g

-- `(W..)`, a word for each column
pub record IsTupleSymbolForm (bytes : List ℕ) (f : Form) (symbol : TupleSymbol) : Type 0 where
  pub columns : List Form
  pub list : elements_of f ≡ Some columns
  pub are : AllZip (IsSymbolForm bytes) columns symbol

-- `(node (W..) N..)`
pub record IsNodeForm (bytes : List ℕ) (f : Form) (node : Entry) : Type 0 where
  pub head : Form
  pub second : Form
  pub others : List Form
  pub list : elements_of f ≡ Some (head ∷ second ∷ others)
  pub headed : word_of bytes head ≡ Some node_word
  pub symbol : IsTupleSymbolForm bytes second node.symbol
  pub kids : AllZip (IsNumberForm bytes) others node.kids

-- `(certificate 4 CLAIM)`
abbrev pub IsOpenHeaderForm : List ℕ → Form → Claim → Type 0
IsOpenHeaderForm bytes f claim = IsListOfWords bytes f (codes "certificate" ∷ open_version_word ∷ claim_word claim ∷ [])

-- the forms from this number on: a header, steps, and then nodes up to the end
pub record IsOpenCertificate (bytes : List ℕ) (forms : List Form) (from : ℕ) (c : OpenCertificate) : Type 0 where
  pub header : Form
  pub step_forms : List Form
  pub node_forms : List Form
  pub first : c.first ≡ from
  pub split : drop from forms ≡ header ∷ (step_forms ++ node_forms)
  pub headed : IsOpenHeaderForm bytes header c.claim
  pub are_steps : AllZip (IsStepForm bytes step_version) step_forms c.steps
  pub are_nodes : AllZip (IsNodeForm bytes) node_forms c.nodes
