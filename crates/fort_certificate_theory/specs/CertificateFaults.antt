-- To believe: what is first wrong with forms that are no certificate of a problem of so many systems.
use Rattle.std.specs.Prelude.{◌≡◌, ℕ, ◌+◌, Bool, true, List, [], ◌∷◌, ◌++◌, length, Option, None, Some, codes, drop, if◌then◌else◌}
use Rattle.std.specs.List.{AllZip}
use Rattle.fort_tables.specs.Counts.{Count}
use Rattle.fort_grammar.specs.Forms.{Form}
use Rattle.fort_grammar.specs.Declarations.{word_of, elements_of, IsListOfWords, IsHeaded}
use Rattle.fort_alike.specs.ListedClosures.{Which, Pair}
use Rattle.fort_certificate_theory.specs.Certificates.{Step}
use Rattle.fort_certificate_theory.specs.CertificateForms.{Version, version_word, tells_index, has_merges, IsVersionOf, IsNumberWord, IsNumberForm, verdict_word, which_word, IsPairForm, IsCountForm, IsStepForm, IsHeaderForm}

-- the number is the form's
pub data CertificateFault : Type 0 where
  BadForm : ℕ → CertificateFault
  BadNumber : ℕ → CertificateFault
  OtherVersion : ℕ → CertificateFault

pub data FaultKind : Type 0 where
  AsForm : FaultKind
  AsNumber : FaultKind

abbrev pub fault_of : ℕ → FaultKind → CertificateFault
fault_of i AsForm = BadForm i
fault_of i AsNumber = BadNumber i

-- what may stand at a place
pub data Slot : Type 0 where
  WhichSlot : Slot
  NumberSlot : Slot
  VerdictSlot : Slot
  PairSlot : Slot
  CountSlot : Slot

abbrev pub Fits : List ℕ → Form → Slot → Type 0
Fits bytes f WhichSlot = (w : Which) × (word_of bytes f ≡ Some (which_word w))
Fits bytes f NumberSlot = (n : ℕ) × IsNumberForm bytes f n
Fits bytes f VerdictSlot = (v : Bool) × (word_of bytes f ≡ Some (verdict_word v))
Fits bytes f PairSlot = (p : Pair) × IsPairForm bytes f p
Fits bytes f CountSlot = (c : Count) × IsCountForm bytes f c

abbrev pub IsNoNumber : List ℕ → Type 0
IsNoNumber word = (n : ℕ) → IsNumberWord word n → ⊥

-- a word in a number's place that is no number is a bad number, all else a bad form; a pair is first held to be three words, and a count two
pub data IsBadAt (bytes : List ℕ) (f : Form) : Slot → FaultKind → Type 0 where
  NoWhich : (Fits bytes f WhichSlot → ⊥) → IsBadAt bytes f WhichSlot AsForm
  NoVerdict : (Fits bytes f VerdictSlot → ⊥) → IsBadAt bytes f VerdictSlot AsForm
  NoWord : word_of bytes f ≡ None → IsBadAt bytes f NumberSlot AsForm
  NoNumber : (word : List ℕ) → word_of bytes f ≡ Some word → IsNoNumber word → IsBadAt bytes f NumberSlot AsNumber
  NotThree : ((u v w : List ℕ) → IsListOfWords bytes f (u ∷ v ∷ w ∷ []) → ⊥) → IsBadAt bytes f PairSlot AsForm
  NoPair : (u v w : List ℕ) → IsListOfWords bytes f (u ∷ v ∷ w ∷ []) → (Fits bytes f PairSlot → ⊥) → IsBadAt bytes f PairSlot AsNumber
  NotTwo : ((u v : List ℕ) → IsListOfWords bytes f (u ∷ v ∷ []) → ⊥) → IsBadAt bytes f CountSlot AsForm
  NoCount : (u v : List ℕ) → IsListOfWords bytes f (u ∷ v ∷ []) → (u ≡ codes "fin" → ⊥) → (u ≡ codes "inf" → ⊥) → IsBadAt bytes f CountSlot AsForm
  FiniteNumber : (v : List ℕ) → IsListOfWords bytes f (codes "fin" ∷ v ∷ []) → IsNoNumber v → IsBadAt bytes f CountSlot AsNumber
  InfiniteNumber : (v : List ℕ) → IsListOfWords bytes f (codes "inf" ∷ v ∷ []) → IsNoNumber v → IsBadAt bytes f CountSlot AsNumber

-- from left to right: these slots, and then any number of the last one, if there is one
pub data AreBad (bytes : List ℕ) : List Slot → Option Slot → List Form → FaultKind → Type 0 where
  Absent : (s : Slot) (ss : List Slot) (rest : Option Slot) → AreBad bytes (s ∷ ss) rest [] AsForm
  Here : (s : Slot) (ss : List Slot) (rest : Option Slot) (f : Form) (fs : List Form) (kind : FaultKind) → IsBadAt bytes f s kind
      → AreBad bytes (s ∷ ss) rest (f ∷ fs) kind
  Later : (s : Slot) (ss : List Slot) (rest : Option Slot) (f : Form) (fs : List Form) (kind : FaultKind) → Fits bytes f s
      → AreBad bytes ss rest fs kind → AreBad bytes (s ∷ ss) rest (f ∷ fs) kind
  Extra : (f : Form) (fs : List Form) → AreBad bytes [] None (f ∷ fs) AsForm
  HereOfRest : (s : Slot) (f : Form) (fs : List Form) (kind : FaultKind) → IsBadAt bytes f s kind → AreBad bytes [] (Some s) (f ∷ fs) kind
  LaterOfRest : (s : Slot) (f : Form) (fs : List Form) (kind : FaultKind) → Fits bytes f s → AreBad bytes [] (Some s) fs kind
      → AreBad bytes [] (Some s) (f ∷ fs) kind

-- the steps by their heads
pub data StepHead : Type 0 where
  ClosureHead : StepHead
  PartHead : StepHead
  MergeHead : StepHead
  CountsHead : StepHead
  ValueHead : StepHead

abbrev pub head_word : StepHead → List ℕ
head_word ClosureHead = codes "closure"
head_word PartHead = codes "part"
head_word MergeHead = codes "merge"
head_word CountsHead = codes "counts"
head_word ValueHead = codes "value"

-- whether a step of this version may have it
abbrev pub is_head_of : Version → StepHead → Bool
is_head_of version ClosureHead = true
is_head_of version PartHead = true
is_head_of version MergeHead = has_merges version
is_head_of version CountsHead = true
is_head_of version ValueHead = true

abbrev pub index_slots : Version → List Slot
index_slots version = if tells_index version then (NumberSlot ∷ []) else []

abbrev pub slots_of : StepHead → Version → List Slot
slots_of ClosureHead version = WhichSlot ∷ index_slots version
slots_of PartHead version = NumberSlot ∷ []
slots_of MergeHead version = NumberSlot ∷ []
slots_of CountsHead version = NumberSlot ∷ []
slots_of ValueHead version = NumberSlot ∷ VerdictSlot ∷ []

abbrev pub rest_of : StepHead → Option Slot
rest_of ClosureHead = Some PairSlot
rest_of PartHead = Some NumberSlot
rest_of MergeHead = Some NumberSlot
rest_of CountsHead = Some CountSlot
rest_of ValueHead = None

-- what is first wrong with form i, which should be a step
pub data IsBadStep (bytes : List ℕ) (version : Version) (i : ℕ) (f : Form) : CertificateFault → Type 0 where
  NoHead : ((h : StepHead) → is_head_of version h ≡ true → IsHeaded bytes (head_word h) f → ⊥) → IsBadStep bytes version i f (BadForm i)
  BadElement : (h : StepHead) (head : Form) (others : List Form) (kind : FaultKind) → is_head_of version h ≡ true
      → elements_of f ≡ Some (head ∷ others)
      → word_of bytes head ≡ Some (head_word h) → AreBad bytes (slots_of h version) (rest_of h) others kind
      → IsBadStep bytes version i f (fault_of i kind)

-- what is first wrong with form i, which should be the header of a certificate of a problem of so many systems
pub data IsBadHeader (bytes : List ℕ) (number : ℕ) (i : ℕ) (f : Form) : CertificateFault → Type 0 where
  NoHeader : ((second third : List ℕ) → IsListOfWords bytes f (codes "certificate" ∷ second ∷ third ∷ []) → ⊥)
      → IsBadHeader bytes number i f (BadForm i)
  NoVersion : (second third : List ℕ) → IsListOfWords bytes f (codes "certificate" ∷ second ∷ third ∷ []) → IsNoNumber second
      → IsBadHeader bytes number i f (BadNumber i)
  WrongVersion : (n : ℕ) (second third : List ℕ) → IsListOfWords bytes f (codes "certificate" ∷ second ∷ third ∷ []) → IsNumberWord second n
      → ((version : Version) → IsVersionOf number version → second ≡ version_word version → ⊥) → IsBadHeader bytes number i f (OtherVersion i)
  WrongVerdict : (version : Version) (third : List ℕ) → IsVersionOf number version
      → IsListOfWords bytes f (codes "certificate" ∷ version_word version ∷ third ∷ [])
      → ((v : Bool) → third ≡ verdict_word v → ⊥) → IsBadHeader bytes number i f (BadForm i)

-- the first fault of the forms from this number on: there is no header, or it is bad, or a step is, and all before it are none
pub data IsFirstCertificateFault (bytes : List ℕ) (number : ℕ) (forms : List Form) (from : ℕ) : CertificateFault → Type 0 where
  WithoutHeader : drop from forms ≡ [] → IsFirstCertificateFault bytes number forms from (BadForm from)
  InHeader : (header : Form) (others : List Form) (fault : CertificateFault) → drop from forms ≡ header ∷ others
      → IsBadHeader bytes number from header fault → IsFirstCertificateFault bytes number forms from fault
  InStep : (version : Version) (header : Form) (verdict : Bool) (before after : List Form) (steps : List Step) (f : Form) (fault : CertificateFault)
      → drop from forms ≡ header ∷ (before ++ f ∷ after) → IsVersionOf number version → IsHeaderForm bytes version header verdict
      → AllZip (IsStepForm bytes version) before steps → IsBadStep bytes version (from + 1 + length before) f fault → IsFirstCertificateFault bytes number forms from fault
