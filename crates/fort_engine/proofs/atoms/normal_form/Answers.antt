use Rattle.fort_theory.specs.Cores as core
use Rattle.fort_engine.proofs.AnswerLaws.{AreLabelsFor-Nf}
use Rattle.fort_engine.proofs.atoms.normal_form.Goals as goal

pub returns : goal.returns
returns c x =
    let l = c.in_ok-labels.ensures in
    c.by_labels.ensures (core.Leaf (core.Normal c.args.index x)) (AreLabelsFor-Nf c.args.system.now c.args.options.now.reduces c.args.index x c.in_ok-labels.labels l.columns l.alike l.accepted)
