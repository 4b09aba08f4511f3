use Rattle.std.proofs.Common.{map, sym, subst, refl}
use Rattle.std.proofs.lemmas.Result.{IfOk-weaker}
use Rattle.fort_theory.specs.Cores.{Leaf, Related}
use Rattle.fort_relations.specs.RelView.{as_rel}
use Rattle.fort_steps.specs.StepView.{as_step}
use Rattle.fort_cert_checker.specs.Plans.{IsAtomPlan}
use Rattle.fort_cert_checker.proofs.plan.relation_labels.Goals as goal

pub returns : goal.returns
returns c =
    let rel = as_rel c.args.rel in
    IfOk-weaker c.by_pairs.result _ _ (λ labels made.
    subst (IsAtomPlan c.args.system.now (map as_step c.args.steps.now) (Leaf (Related rel c.args.index c.args.x c.args.y))) (sym made.1) (record {
      rel = rel;
      index = c.args.index;
      first = c.args.x;
      second = c.args.y;
      pairs = c.pairs_read-pairs.result.now;
      whole = refl;
      closure = c.pairs_read-pairs.ensures;
      labels = made.2;
    }))
    c.by_pairs.ensures
