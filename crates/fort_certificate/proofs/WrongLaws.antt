-- What is wrong with elements, by the first that is bad.
use Rattle.std.proofs.Common.{◌≡◌, ℕ, Bool, true, if◌then◌else◌, List, [], ◌∷◌, Option, None, Some, refl, ap, sym, ◌∙◌, subst}
use Rattle.fort_grammar.specs.Forms.{Form}
use Rattle.fort_grammar.specs.Declarations.{word_of, elements_of, IsHeaded}
use Rattle.fort_certificate_theory.specs.CertificateForms.{Version, tells_index}
use Rattle.fort_certificate_theory.specs.CertificateFaults as grammar
use Rattle.fort_certificate_theory.specs.CertificateFaults.{FaultKind, AsForm, fault_of, WhichSlot, NumberSlot, PairSlot, ClosureHead, Fits, IsBadAt, AreBad, Absent, Here, Later, Extra, HereOfRest, LaterOfRest, head_word, is_head_of, IsBadStep, BadElement}
use Rattle.fort_certificate_theory.proofs.StepSlots.{same_parts}
use Rattle.fort_certificate.specs.declared.slot.Head.{Head}
use Rattle.fort_certificate.specs.ReadView.{as_head}
use Rattle.fort_certificate.specs.Checking.{AreBadElementsOf}

-- whatever is bad of these, which are left, is bad of them all
pub record IsBadAlong (bytes : List ℕ) (s : grammar.Slot) (fs left : List Form) : Type 0 where
  pub all : (kind : FaultKind) → AreBad bytes [] (Some s) left kind → AreBad bytes [] (Some s) fs kind

pub along_none : (bytes : List ℕ) (s : grammar.Slot) (fs : List Form) → IsBadAlong bytes s fs fs
along_none bytes s fs = record { all = λ kind bad. bad }

module _ (bytes : List ℕ) (s : grammar.Slot) (fs left rest : List Form) (f : Form) (along : IsBadAlong bytes s fs left) (next : left ≡ f ∷ rest) where
  pub along_more : Fits bytes f s → IsBadAlong bytes s fs rest
  along_more fits =
      record { all = λ kind bad. along.all kind (subst (λ gs. AreBad bytes [] (Some s) gs kind) (sym next) (LaterOfRest s f rest kind fits bad)) }

  pub along_bad : (kind : FaultKind) → IsBadAt bytes f s kind → AreBad bytes [] (Some s) fs kind
  along_bad kind bad = along.all kind (subst (λ gs. AreBad bytes [] (Some s) gs kind) (sym next) (HereOfRest s f rest kind bad))

-- the slots that stand once
pub slot_absent : (bytes : List ℕ) (s : grammar.Slot) (ss : List grammar.Slot) (last : Option grammar.Slot) (fs : List Form) → fs ≡ []
    → AreBad bytes (s ∷ ss) last fs AsForm
slot_absent bytes s ss last fs none = subst (λ gs. AreBad bytes (s ∷ ss) last gs AsForm) (sym none) (Absent s ss last)

module _ (bytes : List ℕ) (s : grammar.Slot) (ss : List grammar.Slot) (last : Option grammar.Slot) (fs rest : List Form) (f : Form) (split : fs ≡ f ∷ rest)
    (kind : FaultKind) where
  pub slot_bad : IsBadAt bytes f s kind → AreBad bytes (s ∷ ss) last fs kind
  slot_bad bad = subst (λ gs. AreBad bytes (s ∷ ss) last gs kind) (sym split) (Here s ss last f rest kind bad)

  pub slot_fits : Fits bytes f s → AreBad bytes ss last rest kind → AreBad bytes (s ∷ ss) last fs kind
  slot_fits fits bad = subst (λ gs. AreBad bytes (s ∷ ss) last gs kind) (sym split) (Later s ss last f rest kind fits bad)

-- behind the head of a closure, by whether its index is told
pub closure_bad : (bytes : List ℕ) (version : Version) (told : Bool) (fs : List Form) (kind : FaultKind) → tells_index version ≡ told
    → AreBad bytes (WhichSlot ∷ (if told then (NumberSlot ∷ []) else [])) (Some PairSlot) fs kind → AreBadElementsOf bytes version ClosureHead fs kind
closure_bad bytes version told fs kind e bad =
    subst (λ (t : Bool). AreBad bytes (WhichSlot ∷ (if t then (NumberSlot ∷ []) else [])) (Some PairSlot) fs kind) (sym e) bad

pub some_extra : (bytes : List ℕ) (fs : List Form) → (fs ≡ [] → ⊥) → AreBad bytes [] None fs AsForm
some_extra bytes [] more = absurd (more refl)
some_extra bytes (f ∷ fs) more = Extra f fs

-- a list whose elements behind its head are bad
pub list_bad : (bytes other : List ℕ) (version : Version) (f : Form) (head which : Head) (a : Form) (fs : List Form) → other ≡ bytes → head ≡ which
    → is_head_of version (as_head head) ≡ true → IsHeaded bytes (head_word (as_head head)) f → elements_of f ≡ Some (a ∷ fs) → (kind : FaultKind)
    → AreBadElementsOf other version (as_head which) fs kind → (i : ℕ) → IsBadStep bytes version i f (fault_of i kind)
list_bad bytes other version f head which a fs same is allowed headed elements kind bad i =
    BadElement (as_head which) a fs kind (subst (λ (h : Head). is_head_of version (as_head h) ≡ true) is allowed) elements
    (ap (word_of bytes) (same_parts f a headed.first fs headed.others elements headed.is).head ∙ (headed.head ∙ ap (λ (h : Head). Some (head_word (as_head h))) is))
    (subst (λ (b : List ℕ). AreBadElementsOf b version (as_head which) fs kind) same bad)
