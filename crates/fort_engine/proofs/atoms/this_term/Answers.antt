use Rattle.fort_theory.specs.Cores as core
use Rattle.fort_engine.proofs.AnswerLaws.{AreLabelsFor-Is}
use Rattle.fort_engine.proofs.atoms.this_term.Goals as goal

pub returns : goal.returns
returns c x =
    let l = c.in_ok-labels.ensures in
    let sig = c.args.system.now.signature in
    c.by_labels.ensures (core.Leaf (core.IsTerm x c.args.term.now))
    (AreLabelsFor-Is c.args.system.now c.args.options.now.reduces x c.args.term.now c.in_ok-labels.labels l.columns (l.alike sig) (l.accepted sig))
