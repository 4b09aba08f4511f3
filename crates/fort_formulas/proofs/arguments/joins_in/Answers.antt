use Rattle.std.proofs.Common.{◌≡◌, ◌+◌, length, refl}
use Rattle.std.proofs.lemmas.Result.{IfOk-weaker}
use Rattle.fort_logic.specs.Translation.{joins}
use Rattle.fort_formulas.specs.FormulaView.{as_argument}
use Rattle.fort_formulas.specs.NumbersNeeded.{argument_numbers}
use Rattle.fort_formulas.specs.ScopeView.{as_scope}
use Rattle.fort_formulas.specs.CoreView.{as_core}
use Rattle.fort_formulas.proofs.ArgumentLaws.{about_both-made}
use Rattle.fort_formulas.proofs.arguments.joins_in.Goals as goal

pub returns : goal.returns
returns c =
    let scope = as_scope c.args.scope.now in
    let numbers : c.depth.result + c.argument_numbers-2.result + c.argument_numbers-3.result
    ≡ length (as_scope c.args.scope.now) + argument_numbers (as_argument c.args.a.now) + argument_numbers (as_argument c.args.b.now) =
    rw (c.depth.ensures, c.argument_numbers-2.ensures.is, c.argument_numbers-3.ensures.is) refl in
    IfOk-weaker c.bind-2.result _ _
    (λ whole above.
    about_both-made c.args.terms.now scope (length scope) (as_argument c.args.a.now) (as_argument c.args.b.now)
    (λ n x y. joins c.args.index n x y) _ _ _ (c.depth.result + c.argument_numbers-2.result + c.argument_numbers-3.result) _ _ (as_core whole)
    c.argument_numbers.ensures.is c.number_of-x.ensures c.number_of-y.ensures numbers c.in_ok-joins.ensures c.in_ok-inner.ensures above)
    c.bind-2.ensures
