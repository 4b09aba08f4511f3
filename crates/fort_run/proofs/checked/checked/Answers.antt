use Rattle.std.proofs.Common.{ap, ◌∙◌}
use Rattle.fort_formulas.specs.CoreView.{as_core}
use Rattle.fort_steps.specs.CertificateView.{as_certificate}
use Rattle.fort_cert_checker.specs.OutcomeView.{as_reason}
use Rattle.fort_run.specs.StatusView.{code_of}
use Rattle.fort_run.specs.declared.status.Status.TheVariants.{Positive}
use Rattle.fort_run.proofs.CheckOutcomes.{certified_settles, rejected_settles}
use Rattle.fort_run.proofs.LineReplies.{line_is}
use Rattle.fort_run.proofs.PosedQuestions.{closed_core}
use Rattle.fort_run.proofs.checked.checked.Goals as goal

pub new-requires-clause-decided : goal.new-requires-clause-decided
new-requires-clause-decided c = c.requires.2.decided

pub new-requires-clause-closed : goal.new-requires-clause-closed
new-requires-clause-closed c = closed_core c.requires.0 c.args.system.now c.requires.1 (as_core c.args.core.now) c.requires.2

pub check-requires : goal.check-requires
check-requires c = (c.args.system.now, as_core c.args.core.now, as_certificate c.args.certificate.now, c.in_ok-checker.ensures)

pub returns-in-Ok : goal.returns-in-Ok
returns-in-Ok c =
    let system = c.args.system.now in
    let k = as_core c.args.core.now in
    let own = as_certificate c.args.certificate.now in
    line_is c.line.result Positive c.certified_line.result.now _ (λ r status_is text_is none. λ f p terms lawful same posed.
    certified_settles f system terms k posed own p lawful same r none c.in-Ok.verdict (c.in-Ok.ensures.outcome system k own c.in_ok-checker.ensures)
    (c.in-Ok.ensures.truth system k own c.in_ok-checker.ensures) status_is (text_is ∙ c.certified_line.ensures))
    c.line.ensures.status c.line.ensures.text c.line.ensures.limit

pub returns : goal.returns
returns c = λ f p terms lawful same posed.
    let system = c.args.system.now in
    let k = as_core c.args.core.now in
    let own = as_certificate c.args.certificate.now in
    let rejected = c.in-Err.rejected in
    rejected_settles f system terms k posed own p lawful same c.of.result c.of.ensures.limit rejected.form rejected.place (as_reason rejected.reason)
    (c.in-Err.ensures.outcome system k own c.in_ok-checker.ensures) (ap code_of c.of.ensures.status)
    (c.of.ensures.text ∙ c.in_ok-rejected_line-in-Err.ensures)
