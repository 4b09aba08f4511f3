use Rattle.std.proofs.Common.{◌≡◌, ◌++◌, true, false, sym, ap, subst, ◌∙◌, arith}
use Rattle.std.specs.Prelude.{IfSome, IfNone}
use Rattle.fort_logic.specs.FreeNames.{free_names}
use Rattle.fort_tables.specs.Tables.{listed_table}
use Rattle.fort_formulas.specs.FormulaView.{as_formula}
use Rattle.fort_tables.specs.LeastTuple.{AcceptsNone}
use Rattle.fort_witness.specs.Answers.{IsWitness}
use Rattle.fort_answers.specs.Lines.{witness_line, none_line}
use Rattle.fort_answers.specs.Witnesses.{bindings}
use Rattle.fort_run.specs.StatusView.{code_of}
use Rattle.fort_run.specs.Witnesses.{AreLastTerms}
use Rattle.fort_run.specs.declared.status.Status.TheVariants.{Positive, Negative}
use Rattle.fort_run.proofs.LineReplies.{line_is}
use Rattle.fort_run.proofs.WitnessVerdicts.{value-found, value-not_found, table-found, table-not_found, last_terms_of}
use Rattle.fort_run.proofs.witness.witness.Goals as goal

pub witness_text-requires-clause-few : goal.witness_text-requires-clause-few
witness_text-requires-clause-few c =
    let w = subst (λ o. IfSome o (λ nodes. IsWitness (listed_table c.in-Auto.table) nodes)) c.in-Some.is c.in_ok-dag-in-Auto.ensures.some in
    omega (arith, w.few, c.states-states.ensures.count)

pub witness_text-requires-clause-terms : goal.witness_text-requires-clause-terms
witness_text-requires-clause-terms c =
    let f = as_formula c.args.formula.now in
    let w = subst (λ o. IfSome o (λ nodes. IsWitness (listed_table c.in-Auto.table) nodes)) c.in-Some.is c.in_ok-dag-in-Auto.ensures.some in
    let one = last_terms_of f c.requires.0 c.requires.1 c.args.last.now c.in-Auto.table c.in-Some.dag c.in-Auto.is c.requires.3 w in
    (one.0, subst (λ s. AreLastTerms s (free_names f) c.in-Some.dag one.0) (sym c.requires.2) one.1)

pub returns-in-Truth-true-clause-verdict : goal.returns-in-Truth-true-clause-verdict
returns-in-Truth-true-clause-verdict c =
    line_is c.line.result Positive witness_line _ (λ r status_is text_is none. λ p terms lawful same decided.
    value-found p lawful (as_formula c.args.formula.now) terms c.args.last.now decided c.in-Truth-true.field-0 c.in-Truth-true.is (code_of r.status) r.text.items
    (let e : c.in-Truth-true.field-0 ≡ true = cc in e) status_is text_is)
    c.line.ensures.status c.line.ensures.text c.line.ensures.limit

pub returns-in-Truth-false-clause-verdict : goal.returns-in-Truth-false-clause-verdict
returns-in-Truth-false-clause-verdict c =
    let line = c.line-in-Truth-false in
    line_is line.result Negative none_line _ (λ r status_is text_is none. λ p terms lawful same decided.
    value-not_found p lawful (as_formula c.args.formula.now) terms c.args.last.now decided c.in-Truth-false.field-0 c.in-Truth-false.is (code_of r.status) r.text.items
    (let e : c.in-Truth-false.field-0 ≡ false = cc in e) status_is text_is)
    line.ensures.status line.ensures.text line.ensures.limit

pub returns-in_ok-text-in-Some-clause-verdict : goal.returns-in_ok-text-in-Some-clause-verdict
returns-in_ok-text-in-Some-clause-verdict c = λ p terms lawful same decided.
    let f = as_formula c.args.formula.now in
    let nodes = c.in-Some.dag in
    let w = subst (λ o. IfSome o (λ nodes. IsWitness (listed_table c.in-Auto.table) nodes)) c.in-Some.is c.in_ok-dag-in-Auto.ensures.some in
    let one = last_terms_of f _ terms c.args.last.now c.in-Auto.table nodes c.in-Auto.is decided w in
    let here = subst (λ s. AreLastTerms s (free_names f) nodes one.0) (sym same) one.1 in
    let text = c.in_ok-text-in-Some.ensures one.0 here in
    let r = c.of.result in
    table-found p lawful f terms c.args.last.now decided c.in-Auto.table c.in-Auto.is (code_of r.status) r.text.items nodes one.0 w one.1 (ap code_of c.of.ensures.status)
    (c.of.ensures.text ∙ subst (λ s. c.in_ok-text-in-Some.text.items ≡ witness_line ++ bindings s (free_names f) one.0) same text)

pub returns-in-None-clause-verdict : goal.returns-in-None-clause-verdict
returns-in-None-clause-verdict c =
    let line = c.line-in-None in
    line_is line.result Negative none_line _ (λ r status_is text_is none. λ p terms lawful same decided.
    table-not_found p lawful (as_formula c.args.formula.now) terms c.args.last.now decided c.in-Auto.table c.in-Auto.is (code_of r.status) r.text.items
    (subst (λ o. IfNone o (AcceptsNone (listed_table c.in-Auto.table))) c.in-None.is c.in_ok-dag-in-Auto.ensures.none) status_is text_is)
    line.ensures.status line.ensures.text line.ensures.limit
