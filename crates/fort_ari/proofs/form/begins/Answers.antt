use Rattle.std.proofs.Common.{sym, subst, arith}
use Rattle.fort_grammar.specs.Declarations.{IsHeaded}
use Rattle.fort_grammar.specs.ProblemForms.{BeginsOtherwise}
use Rattle.fort_ari.specs.Parts.{BeginsHeaded}
use Rattle.fort_ari.proofs.FormTexts.{drop-form_at, drop-none}
use Rattle.fort_ari.proofs.form.begins.Goals as goal

pub returns-then-i-len-clause-headed : goal.returns-then-i-len-clause-headed
returns-then-i-len-clause-headed c = λ yes.
    subst (BeginsHeaded c.args.forms.now.bytes c.args.head.now) (sym (drop-form_at c.args.forms.now.forms c.args.i c.form.result.form c.form.ensures.form))
    (subst (λ bytes. IsHeaded bytes c.args.head.now c.form.result.form) c.form.ensures.bytes (c.is_headed.ensures.0 yes))

pub returns-then-i-len-clause-otherwise : goal.returns-then-i-len-clause-otherwise
returns-then-i-len-clause-otherwise c = λ no.
    subst (BeginsOtherwise c.args.forms.now.bytes c.args.head.now) (sym (drop-form_at c.args.forms.now.forms c.args.i c.form.result.form c.form.ensures.form))
    (λ h. let yes = c.is_headed.ensures.1 (subst (λ bytes. IsHeaded bytes c.args.head.now c.form.result.form) (sym c.form.ensures.bytes) h) in cc)

pub returns-else-i-len-clause-otherwise : goal.returns-else-i-len-clause-otherwise
returns-else-i-len-clause-otherwise c = λ no.
    subst (BeginsOtherwise c.args.forms.now.bytes c.args.head.now) (sym (drop-none c.args.forms.now.forms c.args.i (omega (arith, c.if-i-len.false, c.len.ensures.count)))) tt
