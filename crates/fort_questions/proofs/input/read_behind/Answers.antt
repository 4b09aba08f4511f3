use Rattle.std.proofs.Common.{◌≡◌, ◌+◌, length, refl, sym, ap, ◌∙◌, subst, arith}
use Rattle.std.specs.Prelude.{IfSome}
use Rattle.fort_theory.specs.Patterns.{PatternSystem}
use Rattle.fort_grammar.specs.Declarations.{as_list, BadForm}
use Rattle.fort_answers.specs.Lines.{problem_fault_line}
use Rattle.fort_certificate_theory.specs.CertificateForms.{IsCertificate}
use Rattle.fort_certificate_theory.specs.CertificateFaults.{IsFirstCertificateFault}
use Rattle.fort_certificate.specs.Faults.{as_fault}
use Rattle.fort_steps.specs.OpenView.{as_open}
use Rattle.fort_steps.specs.CertificateView.{as_certificate}
use Rattle.fort_answers.specs.InputAnswer.{BeginsPlainly, behind_declarations, IsInputRefused}
use Rattle.fort_questions.specs.declared.input.Behind.TheVariants.{Nothing, Certificate, OpenCertificate}
use Rattle.fort_questions.specs.Inputs.{BeginsFor, IsReadBehind}
use Rattle.fort_questions.specs.Questions.{as_tail}
use Rattle.fort_questions.proofs.Fitting.{number_is}
use Rattle.fort_questions.proofs.InputLines.{form_refused, nothing_behind, rule_refused, signature_alone, certificate_refused, certificate_behind, open_certificate_refused, open_certificate_behind}
use Rattle.fort_questions.proofs.input.read_behind.Goals as goal

pub returns-then-problem-len-clause-refused : goal.returns-then-problem-len-clause-refused
returns-then-problem-len-clause-refused c = λ s problem same.
    let forms = c.args.forms.now in
    let line = c.in_ok-line-in-Nothing.line.items in
    subst (λ t. IsInputRefused (as_tail t) forms.bytes line) (sym c.in-Nothing.is)
    (form_refused forms.bytes forms.forms c.requires.short c.requires.are s c.args.problem.now.next problem line
    (omega (arith, c.len.ensures.count, c.if-problem-len.true)) c.in_ok-line-in-Nothing.ensures)

pub returns-else-problem-len-clause-ok : goal.returns-else-problem-len-clause-ok
returns-else-problem-len-clause-ok c = λ s problem same.
    let forms = c.args.forms.now in
    let is = nothing_behind forms.bytes forms.forms c.requires.short c.requires.are s c.args.problem.now.next problem
    (omega (arith, c.len.ensures.count, c.if-problem-len.false)) in
    subst (λ t. IsReadBehind (as_tail t) forms.bytes s Nothing) (sym c.in-Nothing.is) (record { behind = tt; is = is; behind_is = tt })

pub returns-in-Ok-clause-ok : goal.returns-in-Ok-clause-ok
returns-in-Ok-clause-ok c = λ s problem same.
    let forms = c.args.forms.now in
    let next = c.args.problem.now.next in
    let own = as_certificate c.in-Ok.certificate in
    let number = number_is c.number-number.result c.args.problem.now.system s c.number-number.ensures.count same in
    let is = certificate_behind forms.bytes forms.forms c.requires.short c.requires.are s next problem own
    (subst (λ n. IsCertificate forms.bytes n (as_list forms.forms) next own) number c.in-Ok.ensures.ok) in
    subst (λ t. IsReadBehind (as_tail t) forms.bytes s (Certificate c.in-Ok.certificate)) (sym c.in-Certificate.is)
    (record { behind = own; is = is; behind_is = refl })

pub returns-in_ok-certificate_line-in-Err-clause-refused : goal.returns-in_ok-certificate_line-in-Err-clause-refused
returns-in_ok-certificate_line-in-Err-clause-refused c = λ s problem same.
    let forms = c.args.forms.now in
    let next = c.args.problem.now.next in
    let fault = c.in-Err.fault in
    let line = c.in_ok-certificate_line-in-Err.field-0.items in
    let number = number_is c.number-number.result c.args.problem.now.system s c.number-number.ensures.count same in
    subst (λ t. IsInputRefused (as_tail t) forms.bytes line) (sym c.in-Certificate.is)
    (certificate_refused forms.bytes forms.forms c.requires.short c.requires.are s next problem fault line
    (subst (λ n. IfSome (as_fault fault) (IsFirstCertificateFault forms.bytes n (as_list forms.forms) next)) number c.in-Err.ensures.fault)
    c.in_ok-certificate_line-in-Err.ensures)

pub returns-in-Ok-read_open-clause-ok : goal.returns-in-Ok-read_open-clause-ok
returns-in-Ok-read_open-clause-ok c = λ s problem same.
    let forms = c.args.forms.now in
    let own = as_open c.in-Ok-read_open.certificate in
    let is = open_certificate_behind forms.bytes forms.forms c.requires.short c.requires.are s c.args.problem.now.next problem own
    c.in-Ok-read_open.ensures.ok in
    subst (λ t. IsReadBehind (as_tail t) forms.bytes s (OpenCertificate c.in-Ok-read_open.certificate)) (sym c.in-OpenCertificate.is)
    (record { behind = own; is = is; behind_is = refl })

pub returns-in_ok-certificate_line-in-Err-read_open-clause-refused : goal.returns-in_ok-certificate_line-in-Err-read_open-clause-refused
returns-in_ok-certificate_line-in-Err-read_open-clause-refused c = λ s problem same.
    let forms = c.args.forms.now in
    let line = c.in_ok-certificate_line-in-Err-read_open.field-0.items in
    subst (λ t. IsInputRefused (as_tail t) forms.bytes line) (sym c.in-OpenCertificate.is)
    (open_certificate_refused forms.bytes forms.forms c.requires.short c.requires.are s c.args.problem.now.next problem c.in-Err-read_open.fault line
    c.in-Err-read_open.ensures.fault c.in_ok-certificate_line-in-Err-read_open.ensures)

pub returns-then-behind-len-clause-refused : goal.returns-then-behind-len-clause-refused
returns-then-behind-len-clause-refused c = λ s problem same.
    let forms = c.args.forms.now in
    let line = c.in_ok-line-in-NoRules.line.items in
    let begins : BeginsPlainly forms.bytes (as_list forms.forms) =
    subst (λ t. BeginsFor (as_tail t) forms.bytes (as_list forms.forms)) c.in-NoRules.is c.requires.begins in
    let count : c.len-behind.result ≡ length s.signature =
    c.len-behind.ensures.count ∙ ap length (c.signature.ensures.same ∙ ap (λ (x : PatternSystem). x.signature) same) in
    let at : behind_declarations s ≡ c.len-behind.result + 1 = omega (arith, count) in
    subst (λ t. IsInputRefused (as_tail t) forms.bytes line) (sym c.in-NoRules.is)
    (rule_refused forms.bytes forms.forms c.requires.short c.requires.are s c.args.problem.now.next problem line begins
    (omega (arith, count, c.len-in-NoRules.ensures.count, c.if-behind-len.true))
    (c.in_ok-line-in-NoRules.ensures ∙ ap (λ n. problem_fault_line (BadForm n)) (sym at)))

pub returns-else-behind-len-clause-ok : goal.returns-else-behind-len-clause-ok
returns-else-behind-len-clause-ok c = λ s problem same.
    let forms = c.args.forms.now in
    let begins : BeginsPlainly forms.bytes (as_list forms.forms) =
    subst (λ t. BeginsFor (as_tail t) forms.bytes (as_list forms.forms)) c.in-NoRules.is c.requires.begins in
    let count : c.len-behind.result ≡ length s.signature =
    c.len-behind.ensures.count ∙ ap length (c.signature.ensures.same ∙ ap (λ (x : PatternSystem). x.signature) same) in
    let is = signature_alone forms.bytes forms.forms c.requires.short c.requires.are s c.args.problem.now.next problem begins
    (omega (arith, count, c.len-in-NoRules.ensures.count, c.if-behind-len.false)) in
    subst (λ t. IsReadBehind (as_tail t) forms.bytes s Nothing) (sym c.in-NoRules.is) (record { behind = tt; is = is; behind_is = tt })
