-- To believe: what is first wrong with forms that are no certificate of an open formula.
use Rattle.std.specs.Prelude.{◌≡◌, ℕ, ◌+◌, List, [], ◌∷◌, ◌++◌, length, None, Some, codes, drop}
use Rattle.std.specs.List.{AllZip}
use Rattle.fort_grammar.specs.Forms.{Form}
use Rattle.fort_grammar.specs.Declarations.{word_of, elements_of, IsListOfWords, IsHeaded}
use Rattle.fort_tables.specs.Tuples.{TupleSymbol}
use Rattle.fort_tables.specs.Entries.{Entry}
use Rattle.fort_certificate_theory.specs.Certificates.{Step}
use Rattle.fort_certificate_theory.specs.CertificateForms.{IsNumberWord, IsNumberForm, IsStepForm}
use Rattle.fort_certificate_theory.specs.CertificateFaults.{CertificateFault, BadForm, BadNumber, OtherVersion, FaultKind, AsForm, AsNumber, fault_of, IsNoNumber, IsBadAt, NumberSlot, IsBadStep}
use Rattle.fort_certificate_theory.specs.OpenCertificates.{Claim}
use Rattle.fort_certificate_theory.specs.OpenForms.{claim_word, open_version_word, step_version, absent_word, node_word, IsSymbolForm, IsTupleSymbolForm, IsNodeForm, IsOpenHeaderForm}

-- in a column's place a word that is neither `-` nor a number is a bad number, all else a bad form
pub data IsBadSymbol (bytes : List ℕ) (f : Form) : FaultKind → Type 0 where
  NoWord : word_of bytes f ≡ None → IsBadSymbol bytes f AsForm
  NoSymbol : (word : List ℕ) → word_of bytes f ≡ Some word → (word ≡ absent_word → ⊥) → IsNoNumber word → IsBadSymbol bytes f AsNumber

-- no list, or its first bad element
pub data IsBadTupleSymbol (bytes : List ℕ) (f : Form) : FaultKind → Type 0 where
  NoList : elements_of f ≡ None → IsBadTupleSymbol bytes f AsForm
  BadColumn : {kind : FaultKind} (before after : List Form) (symbol : TupleSymbol) (bad : Form) → elements_of f ≡ Some (before ++ bad ∷ after)
      → AllZip (IsSymbolForm bytes) before symbol → IsBadSymbol bytes bad kind → IsBadTupleSymbol bytes f kind

-- what is first wrong with form i, which should be a node
pub data IsBadNode (bytes : List ℕ) (i : ℕ) (f : Form) : CertificateFault → Type 0 where
  NoNode : (IsHeaded bytes node_word f → ⊥) → IsBadNode bytes i f (BadForm i)
  WithoutSymbol : (head : Form) → elements_of f ≡ Some (head ∷ []) → word_of bytes head ≡ Some node_word → IsBadNode bytes i f (BadForm i)
  InSymbol : (head second : Form) (others : List Form) (kind : FaultKind) → elements_of f ≡ Some (head ∷ second ∷ others)
      → word_of bytes head ≡ Some node_word → IsBadTupleSymbol bytes second kind → IsBadNode bytes i f (fault_of i kind)
  InKids : (head second : Form) (before after : List Form) (symbol : TupleSymbol) (kids : List ℕ) (bad : Form) (kind : FaultKind)
      → elements_of f ≡ Some (head ∷ second ∷ (before ++ bad ∷ after)) → word_of bytes head ≡ Some node_word
      → IsTupleSymbolForm bytes second symbol → AllZip (IsNumberForm bytes) before kids → IsBadAt bytes bad NumberSlot kind
      → IsBadNode bytes i f (fault_of i kind)

-- what is first wrong with form i, which should be the header
pub data IsBadOpenHeader (bytes : List ℕ) (i : ℕ) (f : Form) : CertificateFault → Type 0 where
  NoHeader : ((second third : List ℕ) → IsListOfWords bytes f (codes "certificate" ∷ second ∷ third ∷ []) → ⊥) → IsBadOpenHeader bytes i f (BadForm i)
  NoVersion : (second third : List ℕ) → IsListOfWords bytes f (codes "certificate" ∷ second ∷ third ∷ []) → IsNoNumber second
      → IsBadOpenHeader bytes i f (BadNumber i)
  WrongVersion : (n : ℕ) (second third : List ℕ) → IsListOfWords bytes f (codes "certificate" ∷ second ∷ third ∷ []) → IsNumberWord second n
      → (second ≡ open_version_word → ⊥) → IsBadOpenHeader bytes i f (OtherVersion i)
  WrongClaim : (third : List ℕ) → IsListOfWords bytes f (codes "certificate" ∷ open_version_word ∷ third ∷ [])
      → ((claim : Claim) → third ≡ claim_word claim → ⊥) → IsBadOpenHeader bytes i f (BadForm i)

-- the first fault of the forms from this number on: there is no header, or it is bad; or behind steps, or behind nodes behind these, a form
-- is bad. The first form headed as a node has to be one, and each form behind it
pub data IsFirstOpenFault (bytes : List ℕ) (forms : List Form) (from : ℕ) : CertificateFault → Type 0 where
  WithoutHeader : drop from forms ≡ [] → IsFirstOpenFault bytes forms from (BadForm from)
  InHeader : (header : Form) (others : List Form) (fault : CertificateFault) → drop from forms ≡ header ∷ others
      → IsBadOpenHeader bytes from header fault → IsFirstOpenFault bytes forms from fault
  InStep : (header : Form) (claim : Claim) (before after : List Form) (steps : List Step) (f : Form) (fault : CertificateFault)
      → drop from forms ≡ header ∷ (before ++ f ∷ after) → IsOpenHeaderForm bytes header claim
      → AllZip (IsStepForm bytes step_version) before steps → (IsHeaded bytes node_word f → ⊥)
      → IsBadStep bytes step_version (from + 1 + length before) f fault → IsFirstOpenFault bytes forms from fault
  InNode : (header : Form) (claim : Claim) (before between after : List Form) (steps : List Step) (nodes : List Entry) (f : Form)
      (fault : CertificateFault) → drop from forms ≡ header ∷ (before ++ (between ++ f ∷ after)) → IsOpenHeaderForm bytes header claim
      → AllZip (IsStepForm bytes step_version) before steps → AllZip (IsNodeForm bytes) between nodes
      → (nodes ≡ [] → IsHeaded bytes node_word f) → IsBadNode bytes (from + 1 + length before + length between) f fault
      → IsFirstOpenFault bytes forms from fault
