use Rattle.std.proofs.Common.{length, IfOk, IfErr, arith, ap, refl, sym, ◌∙◌, subst}
use Rattle.std.proofs.lemmas.Result.{IfOk-weaker}
use Rattle.fort_theory.specs.Signatures.{Signature}
use Rattle.fort_explore.specs.declared.table.Explored.{Explored}
use Rattle.fort_explore.specs.Answer.{IfOver}
use Rattle.fort_explore.specs.ListedTargets.{AreListedTargets}
use Rattle.fort_explore.specs.Exploring.{IsOver, IsFound}
use Rattle.fort_explore.proofs.ExploreLaws.{exploring_none}
use Rattle.fort_explore.proofs.table.explore_from_none.Goals as goal

pub explore_on-requires-clause-served : goal.explore_on-requires-clause-served
explore_on-requires-clause-served g c = subst (g.L.Labeller.serves c.args.labeller.now) (sym c.in_ok-maker.ensures.signature) c.requires

pub explore_on-requires-clause-exploring : goal.explore_on-requires-clause-exploring
explore_on-requires-clause-exploring g c =
    let m = c.in_ok-maker.ensures in
    exploring_none _ _ (g.L.Labeller.label c.args.labeller.now) c.in_ok-maker.maker _ _ refl (m.columns ∙ c.columns.ensures.count) m.presences m.entries m.targets c.in_ok-found.ensures.firsts c.in_ok-found.ensures.labels

pub returns : goal.returns
returns g c =
    let n = g.L.Labeller.column_count c.args.labeller.now in
    let label = g.L.Labeller.label c.args.labeller.now in
    let accepting = g.L.Labeller.accepting c.args.labeller.now in
    let cap = c.args.cap in
    let r = c.explore_on.result in
    let same = c.in_ok-maker.ensures.signature in
    record {
      found = subst (λ (s : Signature). IfOk r (λ x. IsFound s n label accepting cap x.table)) same c.explore_on.ensures.table;
      targets = subst (λ b. IfOk r (AreListedTargets b)) c.list_for-targets.ensures.there c.explore_on.ensures.targets;
      over = subst (λ (s : Signature). IfErr r (λ e. IfOver e (λ ts. IsOver s n label ts cap))) same c.explore_on.ensures.over;
      steps = IfOk-weaker r _ _ (λ (x : Explored) h. omega (arith, h, ap length c.in_ok-maker.ensures.targets)) c.explore_on.ensures.steps;
      grows = c.explore_on.ensures.grows;
    }
