use Rattle.std.proofs.Common.{◌≡◌, ◌++◌, length, map, ap, sym, subst, ◌∙◌}
use Rattle.std.specs.Prelude.{Ok, Err}
use Rattle.fort_theory.specs.Patterns.{PatternSystem}
use Rattle.fort_theory.specs.Signatures.{Signature, IsSignature}
use Rattle.fort_logic.specs.FreeNames.{free_names}
use Rattle.fort_tables.specs.Entries.{AreNodes}
use Rattle.fort_parts.specs.PartColumns.{columns_of}
use Rattle.fort_formulas.specs.CoreView.{as_core}
use Rattle.fort_formulas.specs.FormulaView.{as_formula}
use Rattle.fort_cert_checker.specs.OutcomeView.{as_reason}
use Rattle.fort_certificate_theory.specs.OpenChecked.{HasOpenOutcome}
use Rattle.fort_open_checker.specs.OpenOutcomeView.{as_outcome}
use Rattle.fort_steps.specs.OpenView.{as_node, as_open}
use Rattle.fort_answers.specs.ConfirmAnswer.{certified_witness_line, certified_none_line}
use Rattle.fort_answers.specs.Witnesses.{bindings}
use Rattle.fort_run.specs.StatusView.{code_of}
use Rattle.fort_run.specs.Witnesses.{AreLastTerms}
use Rattle.fort_run.specs.declared.status.Status.TheVariants.{Positive}
use Rattle.fort_run.proofs.ConfirmOutcomes.{found_settles, empty_settles, rejected_settles, no_entry_settles}
use Rattle.fort_run.proofs.LineReplies.{line_is}
use Rattle.fort_run.proofs.OpenTruths.{nodes_fit, last_terms}
use Rattle.fort_run.proofs.PosedQuestions.{open_columns}
use Rattle.fort_run.proofs.confirmed.confirmed.Goals as goal

pub new-requires-clause-open : goal.new-requires-clause-open
new-requires-clause-open c = open_columns (as_formula c.args.formula.now) c.args.system.now c.requires.0 (as_core c.args.core.now) c.requires.1

pub check-requires : goal.check-requires
check-requires c = (c.args.system.now, as_core c.args.core.now, as_open c.args.certificate.now, c.in_ok-checker.ensures)

pub nodes_dag-requires : goal.nodes_dag-requires
nodes_dag-requires c =
    let system = c.args.system.now in
    let k = as_core c.args.core.now in
    let own = as_open c.args.certificate.now in
    let signature = c.signature-signature in
    let has = subst (λ o. HasOpenOutcome system k own (as_outcome o)) (c.in-Ok-Found.is ∙ ap Ok c.in-Ok-Found.field-0-is)
    (c.check.ensures.outcome system k own c.in_ok-checker.ensures) in
    let fit = nodes_fit (as_formula c.args.formula.now) system c.requires.0 k c.requires.1 signature.ensures.lawful own has in (
      system.signature,
      length (columns_of k),
      subst IsSignature signature.ensures.same c.len-symbols.ensures.lawful,
      fit.1,
      subst (λ ns. AreNodes system.signature (length (columns_of k)) (map as_node ns)) (sym c.deref.ensures.value) fit.0,
    )

pub witness_text-requires-clause-terms : goal.witness_text-requires-clause-terms
witness_text-requires-clause-terms c =
    let f = as_formula c.args.formula.now in
    let system = c.args.system.now in
    let k = as_core c.args.core.now in
    let own = as_open c.args.certificate.now in
    let dag = c.in_ok-dag-in-Ok-Found.dag in
    let has = subst (λ o. HasOpenOutcome system k own (as_outcome o)) (c.in-Ok-Found.is ∙ ap Ok c.in-Ok-Found.field-0-is)
    (c.check.ensures.outcome system k own c.in_ok-checker.ensures) in
    let one = last_terms f system c.requires.0 k c.requires.1 c.signature-signature.ensures.lawful own has in
    let nodes_are = c.in_ok-dag-in-Ok-Found.ensures ∙ ap (map as_node) c.deref.ensures.value in
    let there = subst (λ ns. AreLastTerms system.signature (free_names f) ns one.0) (sym nodes_are) one.1 in
    (one.0, subst (λ (s : Signature). AreLastTerms s (free_names f) dag one.0) (sym c.signature-signature.ensures.same) there)

pub returns-in-Ok-Found : goal.returns-in-Ok-Found
returns-in-Ok-Found c = λ p terms lawful same posed.
    let f = as_formula c.args.formula.now in
    let system = c.args.system.now in
    let k = as_core c.args.core.now in
    let own = as_open c.args.certificate.now in
    let dag = c.in_ok-dag-in-Ok-Found.dag in
    let signature = c.signature-signature in
    let has = subst (λ o. HasOpenOutcome system k own (as_outcome o)) (c.in-Ok-Found.is ∙ ap Ok c.in-Ok-Found.field-0-is)
    (c.check.ensures.outcome system k own c.in_ok-checker.ensures) in
    let one = last_terms f system terms k posed signature.ensures.lawful own has in
    let nodes_are = c.in_ok-dag-in-Ok-Found.ensures ∙ ap (map as_node) c.deref.ensures.value in
    let there = subst (λ ns. AreLastTerms system.signature (free_names f) ns one.0) (sym nodes_are) one.1 in
    let here = subst (λ (s : Signature). AreLastTerms s (free_names f) dag one.0) (sym signature.ensures.same) there in
    let text = c.in_ok-text-in-Ok-Found.text.items in
    let says = subst (λ (s : Signature). text ≡ certified_witness_line ++ bindings s (free_names f) one.0)
    (signature.ensures.same ∙ ap (λ (s : PatternSystem). s.signature) same) (c.in_ok-text-in-Ok-Found.ensures one.0 here) in
    found_settles f system terms k posed own p lawful same c.of.result c.of.ensures.limit signature.ensures.lawful has one.0
    (subst (λ (s : PatternSystem). AreLastTerms s.signature (free_names f) own.nodes one.0) same one.1) (ap code_of c.of.ensures.status)
    (c.of.ensures.text ∙ says)

pub returns-in-Ok-Empty : goal.returns-in-Ok-Empty
returns-in-Ok-Empty c =
    let f = as_formula c.args.formula.now in
    let system = c.args.system.now in
    let k = as_core c.args.core.now in
    let own = as_open c.args.certificate.now in
    let has = subst (λ o. HasOpenOutcome system k own (as_outcome o)) (c.in-Ok-Empty.is ∙ ap Ok c.in-Ok-Empty.field-0-is)
    (c.check.ensures.outcome system k own c.in_ok-checker.ensures) in
    line_is c.line.result Positive certified_none_line _ (λ r status_is text_is none. λ p terms lawful same posed.
    empty_settles f system terms k posed own p lawful same r none c.signature-signature.ensures.lawful has status_is text_is)
    c.line.ensures.status c.line.ensures.text c.line.ensures.limit

pub returns-in-Err-Rejected : goal.returns-in-Err-Rejected
returns-in-Err-Rejected c = λ p terms lawful same posed.
    let system = c.args.system.now in
    let k = as_core c.args.core.now in
    let own = as_open c.args.certificate.now in
    let rejected = c.in-Err-Rejected.rejected in
    let line = c.in_ok-rejected_line-in-Err-Rejected in
    let of = c.of-in-Err-Rejected in
    let has = subst (λ o. HasOpenOutcome system k own (as_outcome o)) (c.in-Err-Rejected.is ∙ ap Err c.in-Err-Rejected.field-0-is)
    (c.check.ensures.outcome system k own c.in_ok-checker.ensures) in
    rejected_settles (as_formula c.args.formula.now) system terms k posed own p lawful same of.result of.ensures.limit rejected.form rejected.place
    (as_reason rejected.reason) has (ap code_of of.ensures.status) (of.ensures.text ∙ rw c.in-Err-Rejected.field-0-is at line.ensures)

pub returns : goal.returns
returns c = λ p terms lawful same posed.
    let system = c.args.system.now in
    let k = as_core c.args.core.now in
    let own = as_open c.args.certificate.now in
    let line = c.in_ok-node_line-in-Err-NoEntry in
    let of = c.of-in-Err-NoEntry in
    let has = subst (λ o. HasOpenOutcome system k own (as_outcome o)) (c.in-Err-NoEntry.is ∙ ap Err c.in-Err-NoEntry.field-0-is)
    (c.check.ensures.outcome system k own c.in_ok-checker.ensures) in
    no_entry_settles (as_formula c.args.formula.now) system terms k posed own p lawful same of.result of.ensures.limit c.in-Err-NoEntry.form has
    (ap code_of of.ensures.status) (of.ensures.text ∙ rw c.in-Err-NoEntry.field-0-is at line.ensures)
