-- A step is a head and slots that are filled.
use Rattle.std.proofs.Common.{◌≡◌, ℕ, Bool, true, false, if◌then◌else◌, List, [], ◌∷◌, length, get_or, Some, refl, ap, sym, ◌∙◌, arith, subst}
use Rattle.std.specs.List.{AllZip}
use Rattle.fort_grammar.specs.Forms.{Form}
use Rattle.fort_grammar.specs.Declarations.{word_of, elements_of}
use Rattle.fort_certificate_theory.specs.Certificates.{Step, Closure, Part, Merge, Counts, Value}
use Rattle.fort_certificate_theory.specs.CertificateForms.{Version, tells_index, IsNumberForm, IsPairForm, IsCountForm, IsStepForm, ClosureForm, IndexedForm, PartForm, MergeForm, CountsForm, ValueForm}
use Rattle.fort_certificate_theory.specs.CertificateFaults.{Slot, WhichSlot, NumberSlot, PairSlot, CountSlot, Fits, StepHead, ClosureHead, PartHead, MergeHead, CountsHead, ValueHead, head_word, is_head_of, slots_of, rest_of}
use Rattle.fort_certificate_theory.specs.FilledSlots.{FitAll}
use Rattle.fort_certificate_theory.proofs.OneCertificate.{word_one}

pub record Filled (bytes : List ℕ) (version : Version) (f : Form) : Type 0 where
  pub which : StepHead
  pub of_version : is_head_of version which ≡ true
  pub head : Form
  pub others : List Form
  pub is : elements_of f ≡ Some (head ∷ others)
  pub headed : word_of bytes head ≡ Some (head_word which)
  pub fit : FitAll bytes (slots_of which version) (rest_of which) others

rest_fits : {A : Type 0} (bytes : List ℕ) (s : Slot) (R : Form → A → Type 0) → ((f : Form) (x : A) → R f x → Fits bytes f s) → (fs : List Form) (xs : List A)
    → AllZip R fs xs → FitAll bytes [] (Some s) fs
rest_fits bytes s R fit [] [] h = tt
rest_fits bytes s R fit [] (x ∷ xs) h = absurd h
rest_fits bytes s R fit (f ∷ fs) [] h = absurd h
rest_fits bytes s R fit (f ∷ fs) (x ∷ xs) h = (fit f x h.0, rest_fits bytes s R fit fs xs h.1)

-- the slots behind the head of a closure
abbrev closure_slots : (told : Bool) → List Slot
closure_slots told = WhichSlot ∷ (if told then (NumberSlot ∷ []) else [])

pub filled : (bytes : List ℕ) (version : Version) (f : Form) (s : Step) → IsStepForm bytes version f s → Filled bytes version f
filled bytes version f s (ClosureForm {which = w} {pairs = ps} a b fs v is head second each) = record {
  which = ClosureHead;
  of_version = refl;
  head = a;
  others = b ∷ fs;
  is = is;
  headed = head;
  fit = subst (λ (told : Bool). FitAll bytes (closure_slots told) (Some PairSlot) (b ∷ fs)) (sym v)
      ((w, second), rest_fits bytes PairSlot (IsPairForm bytes) (λ g p h. (p, h)) fs ps each);
}
filled bytes version f s (IndexedForm {which = w} {index = i} {pairs = ps} a b c fs v is head second third each) = record {
  which = ClosureHead;
  of_version = refl;
  head = a;
  others = b ∷ c ∷ fs;
  is = is;
  headed = head;
  fit = subst (λ (told : Bool). FitAll bytes (closure_slots told) (Some PairSlot) (b ∷ c ∷ fs)) (sym v)
      ((w, second), ((i, third), rest_fits bytes PairSlot (IsPairForm bytes) (λ g p h. (p, h)) fs ps each));
}
filled bytes version f s (PartForm {k = k} {targets = ns} a b fs is head second each) = record {
  which = PartHead;
  of_version = refl;
  head = a;
  others = b ∷ fs;
  is = is;
  headed = head;
  fit = ((k, second), rest_fits bytes NumberSlot (IsNumberForm bytes) (λ g n h. (n, h)) fs ns each);
}
filled bytes version f s (MergeForm {k = k} {classes = ns} a b fs v is head second each) = record {
  which = MergeHead;
  of_version = v;
  head = a;
  others = b ∷ fs;
  is = is;
  headed = head;
  fit = ((k, second), rest_fits bytes NumberSlot (IsNumberForm bytes) (λ g n h. (n, h)) fs ns each);
}
filled bytes version f s (CountsForm {k = k} {counts = cs} a b fs is head second each) = record {
  which = CountsHead;
  of_version = refl;
  head = a;
  others = b ∷ fs;
  is = is;
  headed = head;
  fit = ((k, second), rest_fits bytes CountSlot (IsCountForm bytes) (λ g c h. (c, h)) fs cs each);
}
filled bytes version f s (ValueForm {k = k} {value = v} a b c is head second third) = record {
  which = ValueHead;
  of_version = refl;
  head = a;
  others = b ∷ c ∷ [];
  is = is;
  headed = head;
  fit = ((k, second), ((v, third), tt));
}

each_from_fits : {A : Type 0} (bytes : List ℕ) (s : Slot) (R : Form → A → Type 0) → ((f : Form) → Fits bytes f s → (x : A) × R f x) → (fs : List Form)
    → FitAll bytes [] (Some s) fs → (xs : List A) × AllZip R fs xs
each_from_fits bytes s R read [] h = ([], tt)
each_from_fits bytes s R read (f ∷ fs) h =
    let one = read f h.0 in
    let rest = each_from_fits bytes s R read fs h.1 in
    (one.0 ∷ rest.0, (one.1, rest.1))

abbrev SomeStep : List ℕ → Version → Form → Type 0
SomeStep bytes version f = (s : Step) × IsStepForm bytes version f s

closure_from_filled : (bytes : List ℕ) (version : Version) (told : Bool) (f a b : Form) (fs : List Form) → tells_index version ≡ told
    → elements_of f ≡ Some (a ∷ b ∷ fs) → word_of bytes a ≡ Some (head_word ClosureHead)
    → FitAll bytes (closure_slots told) (Some PairSlot) (b ∷ fs) → SomeStep bytes version f
closure_from_filled bytes version false f a b fs told is head h =
    let pairs = each_from_fits bytes PairSlot (IsPairForm bytes) (λ g fits. fits) fs h.1 in
    (Closure h.0.0 1 pairs.0, ClosureForm a b fs told is head h.0.1 pairs.1)
closure_from_filled bytes version true f a b [] told is head h = absurd h.1
closure_from_filled bytes version true f a b (c ∷ fs) told is head h =
    let pairs = each_from_fits bytes PairSlot (IsPairForm bytes) (λ g fits. fits) fs h.1.1 in
    (Closure h.0.0 h.1.0.0 pairs.0, IndexedForm a b c fs told is head h.0.1 h.1.0.1 pairs.1)

-- a head of the version whose slots are filled is a step
pub step_from_filled : (bytes : List ℕ) (version : Version) (f : Form) (which : StepHead) (a : Form) (fs : List Form) → is_head_of version which ≡ true
    → elements_of f ≡ Some (a ∷ fs) → word_of bytes a ≡ Some (head_word which) → FitAll bytes (slots_of which version) (rest_of which) fs
    → SomeStep bytes version f
step_from_filled bytes version f ClosureHead a [] v is head h = absurd h
step_from_filled bytes version f ClosureHead a (b ∷ fs) v is head h = closure_from_filled bytes version (tells_index version) f a b fs refl is head h
step_from_filled bytes version f PartHead a [] v is head h = absurd h
step_from_filled bytes version f PartHead a (b ∷ fs) v is head h =
    let targets = each_from_fits bytes NumberSlot (IsNumberForm bytes) (λ g fits. fits) fs h.1 in
    (Part h.0.0 targets.0, PartForm a b fs is head h.0.1 targets.1)
step_from_filled bytes version f MergeHead a [] v is head h = absurd h
step_from_filled bytes version f MergeHead a (b ∷ fs) v is head h =
    let classes = each_from_fits bytes NumberSlot (IsNumberForm bytes) (λ g fits. fits) fs h.1 in
    (Merge h.0.0 classes.0, MergeForm a b fs v is head h.0.1 classes.1)
step_from_filled bytes version f CountsHead a [] v is head h = absurd h
step_from_filled bytes version f CountsHead a (b ∷ fs) v is head h =
    let counts = each_from_fits bytes CountSlot (IsCountForm bytes) (λ g fits. fits) fs h.1 in
    (Counts h.0.0 counts.0, CountsForm a b fs is head h.0.1 counts.1)
step_from_filled bytes version f ValueHead a [] v is head h = absurd h
step_from_filled bytes version f ValueHead a (b ∷ []) v is head h = absurd h.1
step_from_filled bytes version f ValueHead a (b ∷ c ∷ []) v is head h = (Value h.0.0 h.1.0.0, ValueForm a b c is head h.0.1 h.1.0.1)
step_from_filled bytes version f ValueHead a (b ∷ c ∷ d ∷ fs) v is head h = absurd h.1.1

-- the heads have different lengths or first letters
head_one : (g h : StepHead) → head_word g ≡ head_word h → g ≡ h
head_one ClosureHead ClosureHead e = refl
head_one PartHead PartHead e = refl
head_one MergeHead MergeHead e = refl
head_one CountsHead CountsHead e = refl
head_one ValueHead ValueHead e = refl
head_one g h e =
    let l = ap length e in
    let d = ap (λ w. get_or w 0 0) e in
    absurd (omega arith)

pub record SameParts (a b : Form) (fs gs : List Form) : Type 0 where
  pub head : a ≡ b
  pub others : fs ≡ gs

pub same_parts : (f a b : Form) (fs gs : List Form) → elements_of f ≡ Some (a ∷ fs) → elements_of f ≡ Some (b ∷ gs) → SameParts a b fs gs
same_parts f a b fs gs h k = let e : Some (a ∷ fs) ≡ Some (b ∷ gs) = sym h ∙ k in record { head = cc; others = cc }

pub heads_same : (bytes : List ℕ) (f a b : Form) (fs gs : List Form) (g h : StepHead) → elements_of f ≡ Some (a ∷ fs) → elements_of f ≡ Some (b ∷ gs)
    → word_of bytes a ≡ Some (head_word g) → word_of bytes b ≡ Some (head_word h) → g ≡ h
heads_same bytes f a b fs gs g h x y u v =
    head_one g h (word_one bytes b (head_word g) (head_word h) (ap (word_of bytes) (sym (same_parts f a b fs gs x y).head) ∙ u) v)
