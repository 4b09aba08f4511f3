use Rattle.std.proofs.lemmas.Result.{IfOk-weaker, IfErr-weaker}
use Rattle.fort_tables.proofs.LabelRuleLaws.{IsTableBy-labels}
use Rattle.fort_explore.proofs.ExploreLaws.{if_over}
use Rattle.fort_explore.proofs.by_keys.explore_by_keys.Goals as goal

pub returns : goal.returns
returns g c =
    let sig = c.args.sig.now in
    let n = g.L.Labeller.column_count c.args.labeller.now in
    let label = g.L.Labeller.label c.args.labeller.now in
    let accepting = g.L.Labeller.accepting c.args.labeller.now in
    let r = c.explore_leading.result in
    record {
      ok = IfOk-weaker r _ _ (λ x h. h.table) c.explore_leading.ensures.found;
      table = IfOk-weaker r _ _ (λ x h. IsTableBy-labels sig n label accepting _ h.table h.listed.table) c.explore_leading.ensures.found;
      listed = IfOk-weaker r _ _ (λ x h. h.listed) c.explore_leading.ensures.found;
      targets = c.explore_leading.ensures.targets;
      few = IfOk-weaker r _ _ (λ x h. h.few) c.explore_leading.ensures.found;
      over = IfErr-weaker r _ _ (if_over _ _ (λ ts h. h.tuples)) c.explore_leading.ensures.over;
      nodes = IfErr-weaker r _ _ (if_over _ _ (λ ts h. h.nodes)) c.explore_leading.ensures.over;
    }
