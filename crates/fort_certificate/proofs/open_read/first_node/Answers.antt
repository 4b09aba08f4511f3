use Rattle.std.proofs.Common.{◌≡◌, false, true, refl, Some, sym, ◌∙◌, subst}
use Rattle.fort_grammar.specs.Forms.{Form}
use Rattle.fort_grammar.specs.Declarations.{as_list, IsHeaded}
use Rattle.fort_certificate_theory.specs.OpenForms.{node_word}
use Rattle.fort_certificate.proofs.NodeLaws.{all_more}
use Rattle.fort_certificate.proofs.StepsLaws.{form_at-list, none_behind}
use Rattle.fort_certificate.proofs.open_read.first_node.Goals as goal

pub returns-then-is_headed-clause-headed : goal.returns-then-is_headed-clause-headed
returns-then-is_headed-clause-headed c = λ f at.
    let bytes = c.args.forms.now.bytes in
    let here = form_at-list c.args.forms.now.forms c.forms.i c.form.result.form c.form.ensures.form in
    let e : Some c.form.result.form ≡ Some f = sym here ∙ at in
    let same : c.form.result.form ≡ f = cc in
    subst (λ (g : Form). IsHeaded bytes node_word g) same (rw c.form.ensures.bytes at (c.if-is_headed.ensures.0 refl))

pub forms-preserved : goal.forms-preserved
forms-preserved c =
    let bytes = c.args.forms.now.bytes in
    let here = form_at-list c.args.forms.now.forms c.forms.i c.form.result.form c.form.ensures.form in
    all_more (λ f. IsHeaded bytes node_word f → ⊥) (as_list c.args.forms.now.forms) c.args.from c.forms.i c.form.result.form c.forms.auto.i here
    c.forms.invariant
    (λ h.
    let there : IsHeaded c.form.result.bytes node_word c.form.result.form = rw c.form.ensures.bytes h in
    let wrong : false ≡ true = c.if-is_headed.ensures.1 there in absurd cc)

pub returns-clause-headed : goal.returns-clause-headed
returns-clause-headed c = λ f at. absurd (none_behind c.args.forms.now.forms c.len.result f c.len.ensures.count at)
