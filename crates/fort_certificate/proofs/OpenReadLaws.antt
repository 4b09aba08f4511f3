-- A header, steps and nodes are a certificate of an open formula; and the first that is none is its first fault.
use Rattle.std.proofs.Common.{◌≡◌, ℕ, zero, suc, ◌+◌, ◌-◌, ◌≤◌, List, [], ◌∷◌, ◌++◌, length, slice_get, drop, Some, refl, ap, sym, ◌∙◌, subst, arith, append_assoc}
use Rattle.std.specs.List.{AllZip, AllByRecursion}
use Rattle.std.proofs.lemmas.List.{drop-drop, drop_all, length-drop, length-take-le, take-append-drop}
use Rattle.fort_grammar.specs.Forms.{Form}
use Rattle.fort_grammar.specs.Declarations.{IsHeaded}
use Rattle.fort_tables.specs.Entries.{Entry}
use Rattle.fort_certificate_theory.specs.Certificates.{Step}
use Rattle.fort_certificate_theory.specs.CertificateForms.{IsStepForm}
use Rattle.fort_certificate_theory.specs.CertificateFaults as grammar
use Rattle.fort_certificate_theory.specs.CertificateFaults.{CertificateFault}
use Rattle.fort_certificate_theory.specs.OpenCertificates.{Claim}
use Rattle.fort_certificate_theory.specs.OpenForms.{step_version, node_word, IsNodeForm, IsOpenHeaderForm, IsOpenCertificate}
use Rattle.fort_certificate_theory.specs.OpenFaults.{IsBadNode, IsBadOpenHeader, IsFirstOpenFault, WithoutHeader, InHeader, InStep, InNode}
use Rattle.fort_certificate.specs.Checking.{AreSomeSteps, HasBadStep, between}
use Rattle.fort_certificate.specs.NodeChecking.{HasBadNode}
use Rattle.fort_certificate.proofs.StepsLaws.{header_split}

pub no_open_header : (bytes : List ℕ) (all : List Form) (from : ℕ) → length all ≤ from → IsFirstOpenFault bytes all from (grammar.BadForm from)
no_open_header bytes all from end = WithoutHeader (drop_all from all end)

first_there : {A : Type 0} (xs : List A) (i : ℕ) (x : A) (rest : List A) → drop i xs ≡ x ∷ rest → slice_get xs i ≡ Some x
first_there [] i x rest e = absurd (none i e)
  where
    none : (i : ℕ) → drop i [] ≡ x ∷ rest → ⊥
    none zero h = cc
    none (suc i) h = cc
first_there (y ∷ xs) zero x rest e = let same : y ≡ x = cc in ap Some same
first_there (y ∷ xs) (suc i) x rest e = first_there xs i x rest e

-- a fact of each of a list holds of one of them
holds_of : {A : Type 0} (P : A → Type 0) (before after : List A) (x : A) → AllByRecursion P (before ++ x ∷ after) → P x
holds_of P [] after x h = h.0
holds_of P (y ∷ before) after x h = holds_of P before after x h.1

none_zipped : {A : Type 0} (R : Form → A → Type 0) (fs : List Form) (xs : List A) → xs ≡ [] → AllZip R fs xs → fs ≡ []
none_zipped R [] xs e h = refl
none_zipped R (f ∷ fs) [] e h = absurd h
none_zipped R (f ∷ fs) (x ∷ xs) e h = absurd cc

module _ (bytes : List ℕ) (all : List Form) (from : ℕ) (header : Form) (here : slice_get all from ≡ Some header) where
  pub open_header_bad : (fault : CertificateFault) → IsBadOpenHeader bytes from header fault → IsFirstOpenFault bytes all from fault
  open_header_bad fault bad = InHeader header (drop (from + 1) all) fault (header_split all from header here) bad

  module _ (claim : Claim) (headed : IsOpenHeaderForm bytes header claim) (end : ℕ) (order : from + 1 ≤ end) (within : end ≤ length all) where
    abbrev step_forms : List Form
    step_forms = between (from + 1) end all

    cut : drop (from + 1) all ≡ step_forms ++ drop end all
    cut =
        let e : (from + 1) + (end - (from + 1)) ≡ end = omega (arith, order) in
        sym (take-append-drop (end - (from + 1)) (drop (from + 1) all))
        ∙ ap (λ gs. step_forms ++ gs) (drop-drop (end - (from + 1)) (from + 1) all ∙ ap (λ k. drop k all) e)

    split : drop from all ≡ header ∷ (step_forms ++ drop end all)
    split = header_split all from header here ∙ ap (λ gs. header ∷ gs) cut

    pub open_step_bad : AllByRecursion (λ f. IsHeaded bytes node_word f → ⊥) (between (from + 1) end all) → (fault : CertificateFault)
        → HasBadStep bytes step_version (from + 1) (between (from + 1) end all) fault → IsFirstOpenFault bytes all from fault
    open_step_bad none fault h =
        let whole = split ∙ ap (λ gs. header ∷ gs) (ap (λ gs. gs ++ drop end all) h.is ∙ append_assoc h.before (h.f ∷ h.after) (drop end all)) in
        let other = holds_of (λ f. IsHeaded bytes node_word f → ⊥) h.before h.after h.f
        (subst (AllByRecursion (λ f. IsHeaded bytes node_word f → ⊥)) h.is none) in
        InStep header claim h.before (h.after ++ drop end all) h.values h.f fault whole headed h.fine other h.bad

    pub open_node_bad : AreSomeSteps bytes step_version (between (from + 1) end all) → ((f : Form) → slice_get all end ≡ Some f → IsHeaded bytes node_word f)
        → (fault : CertificateFault) → HasBadNode bytes end (drop end all) fault → IsFirstOpenFault bytes all from fault
    open_node_bad steps first fault h =
        let long : length step_forms ≡ end - (from + 1) =
        length-take-le (end - (from + 1)) (drop (from + 1) all) (omega (arith, length-drop (from + 1) all, within)) in
        let place : end + length h.before ≡ from + 1 + length step_forms + length h.before = omega (arith, long, order) in
        InNode header claim step_forms h.before h.after steps.0 h.values h.f fault
        (split ∙ ap (λ gs. header ∷ (step_forms ++ gs)) h.is) headed steps.1 h.fine
        (λ e.
        let none = none_zipped (IsNodeForm bytes) h.before h.values e h.fine in
        first h.f (first_there all end h.f h.after (h.is ∙ ap (λ gs. gs ++ h.f ∷ h.after) none)))
        (subst (λ k. IsBadNode bytes k h.f fault) place h.bad)

    pub open_certificate_of : (steps : List Step) (nodes : List Entry) → AllZip (IsStepForm bytes step_version) (between (from + 1) end all) steps
        → AllZip (IsNodeForm bytes) (drop end all) nodes
        → IsOpenCertificate bytes all from (record { first = from; claim = claim; steps = steps; nodes = nodes })
    open_certificate_of steps nodes each too = record {
      header = header;
      step_forms = step_forms;
      node_forms = drop end all;
      first = refl;
      split = split;
      headed = headed;
      are_steps = each;
      are_nodes = too;
    }
