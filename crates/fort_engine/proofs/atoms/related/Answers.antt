use Rattle.fort_theory.specs.Cores as core
use Rattle.fort_relations.specs.RelView.{as_rel}
use Rattle.fort_engine.proofs.AnswerLaws.{AreLabelsFor-Atom}
use Rattle.fort_engine.proofs.atoms.related.Goals as goal

pub returns : goal.returns
returns c =
    let l = c.in_ok-labels.ensures in
    let rel = as_rel c.args.rel in
    c.by_labels.ensures (core.Leaf (core.Related rel c.args.index c.args.x c.args.y))
    (AreLabelsFor-Atom c.args.system.now c.args.options.now.reduces rel c.args.index c.args.x c.args.y c.in_ok-labels.labels l.columns l.alike l.accepted)
