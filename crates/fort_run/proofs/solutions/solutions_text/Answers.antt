use Rattle.std.proofs.Common.{◌≡◌, ◌<◌, [], ◌++◌, length, get_or, sym, ap, ◌∙◌, arith, append-nil}
use Rattle.fort_logic.specs.FreeNames.{free_names}
use Rattle.fort_formulas.specs.FormulaView.{as_formula}
use Rattle.fort_answers.specs.Lines.{line}
use Rattle.fort_answers.specs.SolutionTerms.{count_line, solution_text}
use Rattle.fort_run.proofs.TermTexts.{terms-there, solutions-line, solutions-all}
use Rattle.fort_run.proofs.solutions.solutions_text.Goals as goal

pub loop-k-init : goal.loop-k-init
loop-k-init c = λ tss are.
    let count : c.len.result ≡ length c.args.found.now.nodes.items = omega (arith, c.len.ensures, c.args.found.now.nodes.ok.0) in
    let line = count_line (length c.args.found.now.nodes.items) c.args.found.now.more in
    c.in_ok-text.ensures ∙ (ap (λ n. count_line n c.args.found.now.more) count ∙ sym (append-nil line))

pub push_solution-requires : goal.push_solution-requires
push_solution-requires c =
    let names = free_names (as_formula c.args.formula.now) in
    let found = c.args.found.now in
    let low : c.loop-k.k < length found.nodes.items = omega (arith, c.loop-k-test.true, c.len-k-end.ensures) in (
      get_or c.requires.0 c.loop-k.k [],
      terms-there c.args.signature.now names c.deref.result.now found.dag found.nodes.items c.requires.0 c.loop-k.k
          c.index.result.now c.requires.1 low (c.deref.ensures.value ∙ c.in_ok-names.ensures) c.index.ensures,
    )

pub loop-k-preserved : goal.loop-k-preserved
loop-k-preserved c = λ tss are.
    let sig = c.args.signature.now in
    let names = free_names (as_formula c.args.formula.now) in
    let found = c.args.found.now in
    let k = c.loop-k.k in
    let low : k < length found.nodes.items = omega (arith, c.loop-k-test.true, c.len-k-end.ensures) in
    let same : c.deref.result.now ≡ names = c.deref.ensures.value ∙ c.in_ok-names.ensures in
    let ts = get_or tss k [] in
    let there = terms-there sig names c.deref.result.now found.dag found.nodes.items tss k c.index.result.now are low same c.index.ensures in
    let old = c.loop-k.text.items in
    solutions-line sig names tss k (count_line (length found.nodes.items) found.more) old c.push_solution.new.text.items
    (omega (arith, are.count, low)) (c.loop-k.invariant tss are)
    (c.in_ok-push_solution.ensures ts there ∙ ap (λ xs. old ++ line (solution_text sig xs ts)) same)

pub returns : goal.returns
returns c = λ tss are.
    let found = c.args.found.now in
    solutions-all c.args.signature.now (free_names (as_formula c.args.formula.now)) tss (length found.nodes.items) c.loop-k.k found.more
    c.loop-k.text.items (sym are.count) (omega (arith, c.loop-k-test.false, c.len-k-end.ensures, are.count)) (c.loop-k.invariant tss are)
