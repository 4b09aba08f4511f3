-- A text without fault is a ground term where it has one form, and that is one.
use Rattle.std.proofs.Common.{◌≡◌, ℕ, List, [], ◌∷◌, length, drop, Some, ap, ◌∙◌, subst, arith}
use Rattle.fort_theory.specs.Trees.{Tree}
use Rattle.fort_theory.specs.Signatures.{Signature}
use Rattle.fort_grammar.specs.Forms.{Form, Forms, NoForm, MoreForms, AreFormsOf}
use Rattle.fort_grammar.specs.Text.{TextFault, IsFirstFault}
use Rattle.fort_grammar.specs.Declarations.{as_list}
use Rattle.fort_grammar.specs.GroundForms.{IsGroundForm, IsGroundText}
use Rattle.fort_sexpr.specs.FormView.{form_at, form_count}
use Rattle.fort_sexpr.proofs.OneFault.{IsFaultless-no_first_fault}
use Rattle.fort_grammar.proofs.OneReading.{same_forms}
use Rattle.fort_ari.proofs.FormTexts.{form_count-as_list}

only_form : (fs : Forms) (f : Form) → form_count fs ≡ 1 → form_at fs 0 ≡ Some f → as_list fs ≡ f ∷ []
only_form NoForm f count first = absurd (omega arith)
only_form (MoreForms g NoForm) f count first = let same : g ≡ f = cc in ap (λ x. x ∷ []) same
only_form (MoreForms g (MoreForms h fs)) f count first = absurd (omega arith)

first_form : (fs : Forms) (f : Form) → form_at fs 0 ≡ Some f → as_list fs ≡ f ∷ drop 1 (as_list fs)
first_form NoForm f first = absurd cc
first_form (MoreForms g fs) f first = let same : g ≡ f = cc in ap (λ x. x ∷ as_list fs) same

-- a text that is at fault is none
pub faulty_text : (signature : Signature) (text : List ℕ) (fault : TextFault) → IsFirstFault text fault → (t : Tree) → IsGroundText signature text t → ⊥
faulty_text signature text fault first t g = IsFaultless-no_first_fault text fault first g.are_forms.faultless

module _ (signature : Signature) (text : List ℕ) (forms : Forms) (are : AreFormsOf text forms) where
  pub one_form : (t : Tree) → IsGroundText signature text t → form_count forms ≡ 1
  one_form t g =
      let same = same_forms text forms g.forms are.stand g.are_forms.stand in
      form_count-as_list forms ∙ ap (λ fs. length (as_list fs)) same ∙ ap length g.is

  pub ground_text : (f : Form) (t : Tree) → form_count forms ≡ 1 → form_at forms 0 ≡ Some f → IsGroundForm text signature f t → IsGroundText signature text t
  ground_text f t count first is = record { forms = forms; are_forms = are; only = f; is = only_form forms f count first; term = is }

  pub only_term : (f : Form) (t : Tree) → form_at forms 0 ≡ Some f → IsGroundText signature text t → IsGroundForm text signature f t
  only_term f t first g =
      let same = same_forms text forms g.forms are.stand g.are_forms.stand in
      let here = first_form forms f first in
      let there = ap as_list same in
      let is = g.is in
      let one : g.only ≡ f = cc in subst (λ x. IsGroundForm text signature x t) one g.term
