use Rattle.fort_engine.proofs.AnswerLaws.{IsDecision-labels}
use Rattle.fort_engine.proofs.by_keys.explored_by_keys.Goals as goal

pub returns : goal.returns
returns g c f are =
    let x = c.in_ok-found.found in
    let found = c.in_ok-found.ensures in
    let kept = c.in_ok-kept.ensures in
    IsDecision-labels c.args.system.now c.args.options.now f (g.L.Labeller.column_count c.args.labels.now) (g.L.Labeller.label c.args.labels.now)
    (g.L.Labeller.accepting c.args.labels.now) c.signature.result.now x c.in_ok-kept.kept c.in_ok-kept.classes c.signature.ensures.same are found.ok found.table found.targets found.few
    (kept.right c.args.system.now f) found.listed kept.finals kept.kept
