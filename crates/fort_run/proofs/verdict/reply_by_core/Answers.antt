use Rattle.std.proofs.lemmas.Result.{IfOk-weaker}
use Rattle.fort_formulas.specs.CoreView.{as_core}
use Rattle.fort_formulas.specs.FormulaView.{as_formula}
use Rattle.fort_questions.specs.declared.question.Question.TheVariants.{Truth, Certificate, Terms, TermsCertificate, Check, Solutions, Confirm, Synth}
use Rattle.fort_run.proofs.PosedQuestions.{settled}
use Rattle.fort_run.proofs.verdict.reply_by_core.Goals as goal

pub returns-in-Truth : goal.returns-in-Truth
returns-in-Truth c =
    let f = as_formula c.args.formula.now in
    let core = as_core c.args.core.now in
    IfOk-weaker c.truth.result _ _ (λ r says. λ terms posed.
    settled c.args.question (Truth c.in-Truth.options) c.args.input.now f terms core r c.in-Truth.is posed (λ p behind is. says f))
    c.truth.ensures

pub returns-in-Certificate : goal.returns-in-Certificate
returns-in-Certificate c =
    let f = as_formula c.args.formula.now in
    let core = as_core c.args.core.now in
    IfOk-weaker c.certificate.result _ _ (λ r says. λ terms posed.
    settled c.args.question (Certificate c.in-Certificate.options) c.args.input.now f terms core r c.in-Certificate.is posed (λ p behind is. says f))
    c.certificate.ensures

pub returns-in-Terms : goal.returns-in-Terms
returns-in-Terms c =
    let f = as_formula c.args.formula.now in
    let core = as_core c.args.core.now in
    IfOk-weaker c.least_terms.result _ _ (λ r says. λ terms posed.
    settled c.args.question (Terms c.in-Terms.options) c.args.input.now f terms core r c.in-Terms.is posed (λ p behind is. says))
    c.least_terms.ensures

pub returns-in-Check : goal.returns-in-Check
returns-in-Check c =
    let f = as_formula c.args.formula.now in
    let core = as_core c.args.core.now in
    IfOk-weaker c.checked_behind.result _ _ (λ r says. λ terms posed.
    settled c.args.question Check c.args.input.now f terms core r c.in-Check.is posed (λ p behind is. says f behind is.behind_is))
    c.checked_behind.ensures

pub returns-in-Solutions : goal.returns-in-Solutions
returns-in-Solutions c =
    let f = as_formula c.args.formula.now in
    let core = as_core c.args.core.now in
    IfOk-weaker c.first_terms.result _ _ (λ r says. λ terms posed.
    settled c.args.question (Solutions c.in-Solutions.options c.in-Solutions.bounds) c.args.input.now f terms core r c.in-Solutions.is posed (λ p behind is. says))
    c.first_terms.ensures

pub returns-in-TermsCertificate : goal.returns-in-TermsCertificate
returns-in-TermsCertificate c =
    let f = as_formula c.args.formula.now in
    let core = as_core c.args.core.now in
    IfOk-weaker c.terms_certificate.result _ _ (λ r says. λ terms posed.
    settled c.args.question (TermsCertificate c.in-TermsCertificate.options) c.args.input.now f terms core r c.in-TermsCertificate.is posed (λ p behind is. says f))
    c.terms_certificate.ensures

pub returns-in-Confirm : goal.returns-in-Confirm
returns-in-Confirm c =
    let f = as_formula c.args.formula.now in
    let core = as_core c.args.core.now in
    IfOk-weaker c.confirmed_behind.result _ _ (λ r says. λ terms posed.
    settled c.args.question Confirm c.args.input.now f terms core r c.in-Confirm.is posed (λ p behind is. says behind is.behind_is))
    c.confirmed_behind.ensures

pub returns-in-Synth : goal.returns-in-Synth
returns-in-Synth c =
    let f = as_formula c.args.formula.now in
    let core = as_core c.args.core.now in
    IfOk-weaker c.synth.result _ _ (λ r says. λ terms posed.
    settled c.args.question (Synth c.in-Synth.options c.in-Synth.family) c.args.input.now f terms core r c.in-Synth.is posed (λ p behind is. says f))
    c.synth.ensures
