use Rattle.std.proofs.Common.{◌-◌, ◌<◌, [], length, get_or, sym, ap, subst, ◌∙◌, arith}
use Rattle.std.proofs.lemmas.List.{get_or_default}
use Rattle.fort_theory.specs.Trees.{Node, Nil}
use Rattle.fort_logic.specs.FreeNames.{free_names}
use Rattle.fort_formulas.specs.FormulaView.{as_formula}
use Rattle.fort_run.specs.Witnesses.{AreTermsAt}
use Rattle.fort_run.proofs.TermTexts.{bindings-line}
use Rattle.fort_run.proofs.witness.witness_text.Goals as goal

pub push_binding-requires : goal.push_binding-requires
push_binding-requires c =
    let names = free_names (as_formula c.args.formula.now) in
    let low : c.loop-column.column < length names = omega (arith, c.loop-column-test.true, ap length c.in_ok-names.ensures, c.in_ok-names.names.ok.0, c.len-column-end.ensures) in
    record {
      terms = (
        names,
        c.requires.terms.0,
        subst (λ n. AreTermsAt c.args.signature.now names c.args.dag.now (n - 1) c.requires.terms.0) (sym c.len.ensures) c.requires.terms.1,
        low,
      );
    }

pub loop-column-preserved : goal.loop-column-preserved
loop-column-preserved c = λ ts are.
    let names = free_names (as_formula c.args.formula.now) in
    let k = c.loop-column.column in
    let d = Node 0 Nil in
    let low : k < length names = omega (arith, c.loop-column-test.true, ap length c.in_ok-names.ensures, c.in_ok-names.names.ok.0, c.len-column-end.ensures) in
    let inside : k < length c.in_ok-names.names.items = omega (arith, low, ap length c.in_ok-names.ensures) in
    bindings-line c.args.signature.now names ts k d c.args.first.now c.loop-column.text.items c.push_binding.new.text.items c.push.new.self.items c.as_bytes-name.result.now low are.count
    (c.loop-column.invariant ts are)
    (c.as_bytes-name.ensures ∙ (c.index.ensures ∙ (get_or_default c.in_ok-names.names.items k c.index.result.now [] inside ∙ ap (λ xs. get_or xs k []) c.in_ok-names.ensures)))
    (c.in_ok-push_binding.ensures names ts d (subst (λ n. AreTermsAt c.args.signature.now names c.args.dag.now (n - 1) ts) (sym c.len.ensures) are) low) c.in_ok-push.ensures.items
