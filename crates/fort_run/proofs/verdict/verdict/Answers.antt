use Rattle.std.proofs.lemmas.Result.{IfOk-weaker}
use Rattle.fort_formulas.specs.CoreView.{as_core}
use Rattle.fort_formulas.specs.FormulaView.{as_formula}
use Rattle.fort_run.specs.Posed.{IsPosed}
use Rattle.fort_questions.specs.Questions.{openness_of}
use Rattle.fort_run.proofs.verdict.verdict.Goals as goal

pub returns : goal.returns
returns c =
    let posed : IsPosed (openness_of c.args.question) (as_formula c.args.formula.now) c.args.input.now.system c.args.terms.now (as_core c.in_ok-core.core) = record {
      taken = c.requires.taken;
      ready = c.requires.ready;
      is = c.in_ok-core.ensures.is;
      keeps = c.in_ok-core.ensures.truth;
      decided = c.in_ok-core.ensures.decided;
    } in
    IfOk-weaker c.reply_by_core.result _ _ (λ r says. says c.args.terms.now posed) c.reply_by_core.ensures
