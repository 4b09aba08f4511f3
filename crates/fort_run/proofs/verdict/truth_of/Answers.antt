use Rattle.std.proofs.Common.{◌≡◌, true, false}
use Rattle.fort_answers.specs.Lines.{yes_line, no_line}
use Rattle.fort_run.specs.StatusView.{code_of}
use Rattle.fort_run.specs.declared.status.Status.TheVariants.{Positive, Negative}
use Rattle.fort_run.proofs.Deciding.{true_verdict, false_verdict, no_table}
use Rattle.fort_run.proofs.LineReplies.{line_is}
use Rattle.fort_run.proofs.verdict.truth_of.Goals as goal

pub unreachable-requires : goal.unreachable-requires
unreachable-requires c = no_table c.requires.0 c.requires.1 c.requires.2 c.args.last.now c.in-Auto.field-0 c.in-Auto.is c.requires.3 c.requires.4

pub returns-in-Truth-true-clause-verdict : goal.returns-in-Truth-true-clause-verdict
returns-in-Truth-true-clause-verdict c =
    line_is c.line.result Positive yes_line _ (λ r status_is text_is none. λ f p terms lawful closed decided.
    true_verdict p lawful f terms c.args.last.now decided closed c.in-Truth-true.field-0 c.in-Truth-true.is (code_of r.status) r.text.items
    (let e : c.in-Truth-true.field-0 ≡ true = cc in e) status_is text_is)
    c.line.ensures.status c.line.ensures.text c.line.ensures.limit

pub returns-in-Truth-false-clause-verdict : goal.returns-in-Truth-false-clause-verdict
returns-in-Truth-false-clause-verdict c =
    let line = c.line-in-Truth-false in
    line_is line.result Negative no_line _ (λ r status_is text_is none. λ f p terms lawful closed decided.
    false_verdict p lawful f terms c.args.last.now decided closed c.in-Truth-false.field-0 c.in-Truth-false.is (code_of r.status) r.text.items
    (let e : c.in-Truth-false.field-0 ≡ false = cc in e) status_is text_is)
    line.ensures.status line.ensures.text line.ensures.limit
