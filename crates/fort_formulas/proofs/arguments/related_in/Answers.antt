use Rattle.std.proofs.Common.{length, refl}
use Rattle.std.proofs.lemmas.Result.{IfOk-weaker}
use Rattle.fort_logic.specs.Translation.{related}
use Rattle.fort_formulas.specs.FormulaView.{as_surface_rel, as_argument}
use Rattle.fort_formulas.specs.ScopeView.{as_scope}
use Rattle.fort_formulas.specs.CoreView.{as_core}
use Rattle.fort_formulas.proofs.ArgumentLaws.{about_both-made}
use Rattle.fort_formulas.proofs.arguments.related_in.Goals as goal

pub returns : goal.returns
returns c =
    let scope = as_scope c.args.scope.now in
    IfOk-weaker c.bind-2.result _ _
    (λ whole above.
    about_both-made c.args.terms.now scope (length scope) (as_argument c.args.a.now) (as_argument c.args.b.now)
    (λ n x y. related (as_surface_rel c.args.rel) c.args.index x y) _ _ _ _ _ _ (as_core whole)
    c.argument_numbers.ensures.is c.number_of-x.ensures c.number_of-y.ensures refl c.in_ok-related.ensures c.in_ok-inner.ensures above)
    c.bind-2.ensures
