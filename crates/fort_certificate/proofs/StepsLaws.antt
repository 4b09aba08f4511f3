-- Forms that are steps, one after another, and the first that is none.
use Rattle.std.proofs.Common.{◌≡◌, ℕ, zero, suc, ◌+◌, ◌-◌, ◌<◌, ◌≤◌, Bool, true, List, [], ◌∷◌, ◌++◌, length, get_or, slice_get, take, drop, Option, Some, refl, ap, sym, ◌∙◌, subst, arith}
use Rattle.std.specs.List.{AllZip}
use Rattle.std.proofs.lemmas.List.{drop_more, drop_all, take_all, take_more, take-take, length-drop, length-take, length-take-le, get_or-drop, get_or-take}
use Rattle.std.proofs.lemmas.List.{take-append-drop}
use Rattle.std.proofs.lemmas.Option.{slice_get_within, get_or_from_slice_get}
use Rattle.std.proofs.lemmas.Slice.Zip.{all_zipped_more}
use Rattle.fort_grammar.specs.Forms.{Form, Forms, NoForm, MoreForms, Word, ListForm, AreFormsOf}
use Rattle.fort_grammar.specs.Declarations.{as_list, elements_of, IsHeaded}
use Rattle.fort_sexpr.specs.FormCode.{node_count, node_counts}
use Rattle.fort_sexpr.specs.FormView.{form_count, form_at}
use Rattle.fort_sexpr.proofs.FormLists.{node_counts-AreForms}
use Rattle.fort_certificate_theory.specs.Certificates.{Step}
use Rattle.fort_certificate_theory.specs.CertificateForms.{Version, IsVersionOf, IsStepForm, IsHeaderForm, IsCertificate}
use Rattle.fort_certificate_theory.specs.CertificateFaults as grammar
use Rattle.fort_certificate_theory.specs.CertificateFaults.{CertificateFault, FaultKind, fault_of, StepHead, head_word, is_head_of, slots_of, rest_of, AreBad, IsBadStep, BadElement, IsBadHeader, IsFirstCertificateFault, WithoutHeader, InHeader, InStep}
use Rattle.fort_certificate_theory.specs.FilledSlots.{FitAll}
use Rattle.fort_certificate_theory.proofs.StepSlots.{step_from_filled}
use Rattle.fort_certificate.specs.Checking.{IsSomeStep, HasFirstBad, HasBadStep, between}

-- the forms of a text as a list
pub form_at-list : (fs : Forms) (i : ℕ) (f : Form) → form_at fs i ≡ Some f → slice_get (as_list fs) i ≡ Some f
form_at-list NoForm i f e = absurd cc
form_at-list (MoreForms g gs) zero f e = e
form_at-list (MoreForms g gs) (suc i) f e = form_at-list gs i f e

pub form_count-list : (fs : Forms) → form_count fs ≡ length (as_list fs)
form_count-list NoForm = refl
form_count-list (MoreForms f fs) = ap suc (form_count-list fs)

-- behind the last form there is none
pub none_behind : (fs : Forms) (i : ℕ) (f : Form) → i ≡ form_count fs → slice_get (as_list fs) i ≡ Some f → ⊥
none_behind fs i f e here = omega (arith, slice_get_within (as_list fs) i f here, form_count-list fs)

some_node : (f : Form) → 1 ≤ node_count f
some_node (Word from to) = omega arith
some_node (ListForm from to fs) = omega arith

form_count-node_counts : (fs : Forms) → form_count fs ≤ node_counts fs
form_count-node_counts NoForm = omega arith
form_count-node_counts (MoreForms f fs) = omega (arith, some_node f, form_count-node_counts fs)

-- a text has fewer forms than bytes, or as many
pub form_count-bytes : (bytes : List ℕ) (fs : Forms) → AreFormsOf bytes fs → form_count fs ≤ length bytes
form_count-bytes bytes fs h = omega (arith, node_counts-AreForms h.stand, form_count-node_counts fs)

-- one step
pub step_fits : (bytes : List ℕ) (version : Version) (f : Form) (which : StepHead) (fs : List Form) (slots : List grammar.Slot) (last : Option grammar.Slot)
    → is_head_of version which ≡ true → IsHeaded bytes (head_word which) f → elements_of f ≡ Some fs → slots ≡ slots_of which version
    → last ≡ rest_of which → FitAll bytes slots last (drop 1 fs) → IsSomeStep bytes version f
step_fits bytes version f which fs slots last allowed headed is e g fit =
    let same : fs ≡ headed.first ∷ headed.others = (let i = headed.is in cc) in
    step_from_filled bytes version f which headed.first headed.others allowed headed.is headed.head
    (subst (λ gs. FitAll bytes (slots_of which version) (rest_of which) (drop 1 gs)) same
    (subst (λ l. FitAll bytes (slots_of which version) l (drop 1 fs)) g (subst (λ ss. FitAll bytes ss last (drop 1 fs)) e fit)))

pub step_bad : (bytes : List ℕ) (version : Version) (f : Form) (which : StepHead) (fs : List Form) (slots : List grammar.Slot) (last : Option grammar.Slot)
    (kind : FaultKind) → is_head_of version which ≡ true → IsHeaded bytes (head_word which) f → elements_of f ≡ Some fs
    → slots ≡ slots_of which version → last ≡ rest_of which → AreBad bytes slots last (drop 1 fs) kind → (i : ℕ) → IsBadStep bytes version i f (fault_of i kind)
step_bad bytes version f which fs slots last kind allowed headed is e g bad i =
    let same : fs ≡ headed.first ∷ headed.others = (let i = headed.is in cc) in
    BadElement which headed.first headed.others kind allowed headed.is headed.head
    (subst (λ gs. AreBad bytes (slots_of which version) (rest_of which) (drop 1 gs) kind) same
    (subst (λ l. AreBad bytes (slots_of which version) l (drop 1 fs) kind) g (subst (λ ss. AreBad bytes ss last (drop 1 fs) kind) e bad)))

-- forms that are values, from one number up to another
abbrev pub AreSomeUpTo : {A : Type 0} → (Form → A → Type 0) → List Form → ℕ → ℕ → Type 0
AreSomeUpTo {A} R all from i = (xs : List A) × AllZip R (between from i all) xs

module _ {A : Type 0} (R : Form → A → Type 0) (all : List Form) (from i : ℕ) (f : Form) (some : AreSomeUpTo R all from i) (low : from ≤ i)
    (here : slice_get all i ≡ Some f) where
  inside : i - from < length (drop from all)
  inside = omega (arith, low, slice_get_within all i f here, length-drop from all)

  element : get_or (drop from all) (i - from) f ≡ f
  element =
      let e : from + (i - from) ≡ i = omega (arith, low) in
      get_or-drop from all (i - from) f ∙ (ap (λ k. get_or all k f) e ∙ get_or_from_slice_get all i f f here)

  pub some_more : ((x : A) × R f x) → AreSomeUpTo R all from (i + 1)
  some_more one =
      let next : (i + 1) - from ≡ (i - from) + 1 = omega (arith, low) in
      let grown : take ((i + 1) - from) (drop from all) ≡ take (i - from) (drop from all) ++ f ∷ [] =
      ap (λ k. take k (drop from all)) next
      ∙ (take_more (drop from all) (i - from) f inside ∙ ap (λ g. take (i - from) (drop from all) ++ g ∷ []) element) in
      rw grown (some.0 ++ one.0 ∷ [], all_zipped_more R (take (i - from) (drop from all)) some.0 f one.0 some.1 one.1)

  -- the first that is bad, of the forms up to an end
  pub first_bad : (Bad : ℕ → Form → CertificateFault → Type 0) (end : ℕ) (fault : CertificateFault) → i < end → Bad i f fault
      → HasFirstBad R Bad from (between from end all) fault
  first_bad Bad end fault before_end bad =
      let ys = between from end all in
      let k = i - from in
      let front : take k ys ≡ between from i all = take-take k (end - from) (drop from all) (omega (arith, low)) in
      let long : length (between from i all) ≡ k = length-take-le k (drop from all) (omega (arith, inside)) in
      let place : i ≡ from + length (between from i all) = omega (arith, long, low) in
      let within : k < length ys = omega (arith, inside, low, before_end, length-take (end - from) (drop from all)) in
      let at : get_or ys k f ≡ f = get_or-take (end - from) (drop from all) k f (omega (arith, low)) ∙ element in
      record {
        before = between from i all;
        f = f;
        after = drop (k + 1) ys;
        values = some.0;
        is = sym (take-append-drop k ys)
            ∙ (ap (λ gs. gs ++ drop k ys) front ∙ ap (λ gs. between from i all ++ gs) (drop_more ys k f within ∙ ap (λ g. g ∷ drop (k + 1) ys) at));
        fine = some.1;
        bad = subst (λ n. Bad n f fault) place bad;
      }

-- up to the last form of a text
pub between_end : (fs : Forms) (from end : ℕ) → end ≡ form_count fs → between from end (as_list fs) ≡ drop from (as_list fs)
between_end fs from end e =
    take_all (end - from) (drop from (as_list fs)) (omega (arith, length-drop from (as_list fs), e, form_count-list fs))

-- the header, and the steps behind it
pub header_split : (all : List Form) (from : ℕ) (header : Form) → slice_get all from ≡ Some header → drop from all ≡ header ∷ drop (from + 1) all
header_split all from header here =
    drop_more all from header (slice_get_within all from header here)
    ∙ ap (λ g. g ∷ drop (from + 1) all) (get_or_from_slice_get all from header header here)

module _ (bytes : List ℕ) (number : ℕ) (all : List Form) (from : ℕ) (header : Form) (here : slice_get all from ≡ Some header) where
  split : drop from all ≡ header ∷ drop (from + 1) all
  split = header_split all from header here

  pub header_bad : (fault : CertificateFault) → IsBadHeader bytes number from header fault → IsFirstCertificateFault bytes number all from fault
  header_bad fault bad = InHeader header (drop (from + 1) all) fault split bad

  module _ (version : Version) (of_problem : IsVersionOf number version) (verdict : Bool) (headed : IsHeaderForm bytes version header verdict) where
    pub step_is_bad : (fault : CertificateFault) → HasBadStep bytes version (from + 1) (drop (from + 1) all) fault
        → IsFirstCertificateFault bytes number all from fault
    step_is_bad fault h =
        InStep version header verdict h.before h.after h.values h.f fault (split ∙ ap (λ gs. header ∷ gs) h.is) of_problem headed h.fine h.bad

    pub certificate_of : (steps : List Step) → AllZip (IsStepForm bytes version) (drop (from + 1) all) steps
        → IsCertificate bytes number all from (record { first = from; verdict = verdict; steps = steps })
    certificate_of steps each = record {
      version = version;
      of_problem = of_problem;
      header = header;
      others = drop (from + 1) all;
      first = refl;
      split = split;
      headed = headed;
      are_steps = each;
    }

pub no_header : (bytes : List ℕ) (number : ℕ) (all : List Form) (from : ℕ) → length all ≤ from
    → IsFirstCertificateFault bytes number all from (grammar.BadForm from)
no_header bytes number all from end = WithoutHeader (drop_all from all end)
