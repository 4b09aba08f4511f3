use Rattle.std.proofs.Common.{◌≡◌, ◌++◌, length, inl, inr, sym, ap, subst, ◌∙◌, arith, eqb-true}
use Rattle.std.proofs.lemmas.Bool.{eqb-false}
use Rattle.fort_theory.specs.Patterns.{pattern_system}
use Rattle.fort_logic.specs.FreeNames.{free_names}
use Rattle.fort_formulas.specs.FormulaView.{as_formula}
use Rattle.fort_words.specs.RequestView.{as_bounds}
use Rattle.fort_answers.specs.SolutionTerms.{count_line, solution_lines}
use Rattle.fort_engine.specs.AnswerView.{HasStatesWithin}
use Rattle.fort_run.specs.StatusView.{code_of}
use Rattle.fort_run.proofs.SolutionVerdicts.{value_closed, all_terms, solutions_say, status_by}
use Rattle.fort_run.proofs.solutions.solutions.Goals as goal
use Rattle.fort_run.proofs.solutions.solutions.Goals.{then-is_empty, else-is_empty}

pub unreachable-requires : goal.unreachable-requires
unreachable-requires c =
    let d = c.requires.decided in
    c.requires.open (value_closed (as_formula c.args.formula.now) d.0 d.1 c.args.last.now c.in-Truth.field-0 c.in-Truth.is d.3)

pub solutions-requires-clause-states : goal.solutions-requires-clause-states
solutions-requires-clause-states c = subst (HasStatesWithin 1000000) c.in-Auto.is c.requires.states

pub solutions_text-requires : goal.solutions_text-requires
solutions_text-requires c =
    let f = as_formula c.args.formula.now in
    let d = c.requires.decided in
    let found = c.in_ok-found-in-Auto.found in
    let bounds = as_bounds c.args.bounds in
    let all = all_terms f d.0 d.1 c.args.last.now c.in-Auto.table c.in-Auto.is d.3 bounds.height bounds.most found.dag found.nodes.items
    found.more c.in_ok-found-in-Auto.ensures c.args.signature.now d.2 in
    (all.0, all.2)

pub returns-clause-verdict : goal.returns-clause-verdict
returns-clause-verdict c = λ p terms lawful same decided.
    let f = as_formula c.args.formula.now in
    let last = c.args.last.now in
    let table = c.in-Auto.table in
    let found = c.in_ok-found-in-Auto.found in
    let nodes = found.nodes.items in
    let w = c.in_ok-found-in-Auto.ensures in
    let bounds = as_bounds c.args.bounds in
    let all = all_terms f (pattern_system p) terms last table c.in-Auto.is decided bounds.height bounds.most found.dag nodes
    found.more w c.args.signature.now same in
    let text = c.in_ok-text-in-Auto.text.items in
    let says : text ≡ count_line (length all.0) found.more ++ solution_lines c.args.signature.now (free_names f) all.0 =
    c.in_ok-text-in-Auto.ensures all.0 all.2 in
    let status = status_by all.0 (length nodes) (code_of c.if-is_empty.status) all.2.count (elim c.if-is_empty.branch [
      | then-is_empty x ↦
          inl (omega (arith, eqb-true _ 0 (sym c.is_empty.ensures ∙ x.if-is_empty.true), found.nodes.ok.0), ap code_of x.status-is)
      | else-is_empty x ↦ inr (
        (λ none. eqb-false _ 0 (sym c.is_empty.ensures ∙ x.if-is_empty.false) (omega (arith, none, found.nodes.ok.0))),
        ap code_of x.status-is,
      )
    ]) in
    solutions_say p lawful f terms last decided table c.in-Auto.is bounds found.dag nodes found.more w all.0 all.1
    (code_of c.of.result.status) c.of.result.text.items (ap code_of c.of.ensures.status ∙ status)
    (c.of.ensures.text
    ∙ subst (λ s. text ≡ count_line (length all.0) found.more ++ solution_lines s (free_names f) all.0) same says)
