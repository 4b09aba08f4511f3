use Rattle.fort_theory.specs.Cores as core
use Rattle.fort_relations.specs.HolesView.{as_hole_number, as_hole_place}
use Rattle.fort_relations.specs.RexView.{as_expression}
use Rattle.fort_engine.proofs.AnswerLaws.{AreLabelsFor-Expression}
use Rattle.fort_engine.proofs.atoms.in_context.Goals as goal

pub returns : goal.returns
returns c =
    let l = c.in_ok-labels.ensures in
    let e = as_expression c.args.rex.now in
    let number = as_hole_number c.args.holes in
    let place = as_hole_place c.args.place in
    c.by_labels.ensures (core.Leaf (core.InContext e number place c.args.x c.args.y))
    (AreLabelsFor-Expression c.args.system.now c.args.options.now.reduces e number place c.args.x c.args.y c.in_ok-labels.labels l.columns l.alike l.accepted)
