use Rattle.std.proofs.Common.{ap, ◌∙◌}
use Rattle.std.proofs.lemmas.Result.{IfOk-weaker}
use Rattle.fort_theory.specs.Cores.{Eq}
use Rattle.fort_relations.specs.HolesView.{as_hole_number, as_hole_place}
use Rattle.fort_relations.specs.RexView.{as_expression}
use Rattle.fort_relation_exprs.proofs.RexLaws.{related_columns, tells_alike, accepts_true}
use Rattle.fort_relation_exprs.proofs.labels.RexLabels.new.Goals as goal

pub returns-clause-columns : goal.returns-clause-columns
returns-clause-columns c =
    IfOk-weaker c.of_transducer.result _ _
    (λ l of columns are.
    let same = related_columns (as_expression c.args.rex.now) (as_hole_number c.args.holes) (as_hole_place c.args.place) c.args.x c.args.y columns are in
    ap (λ s. s.columns) of.shape ∙ c.arguments_of.ensures.columns Eq 0 columns same) c.of_transducer.ensures

pub returns-clause-alike : goal.returns-clause-alike
returns-clause-alike c =
    IfOk-weaker c.of_transducer.result _ _
    (λ l of columns are.
    let same = related_columns (as_expression c.args.rex.now) (as_hole_number c.args.holes) (as_hole_place c.args.place) c.args.x c.args.y columns are in
    tells_alike c.args.system.now (as_expression c.args.rex.now) c.in_ok-agtt.agtt c.in_ok-agtt.ensures.compiled (as_hole_number c.args.holes) (as_hole_place c.args.place)
    c.arguments_of.result l of c.args.x c.args.y columns (c.arguments_of.ensures.columns Eq 0 columns same) (c.arguments_of.ensures.first Eq 0 columns same)
    (c.arguments_of.ensures.second Eq 0 columns same) c.arguments_of.ensures.arguments) c.of_transducer.ensures

pub returns-clause-accepted : goal.returns-clause-accepted
returns-clause-accepted c =
    IfOk-weaker c.of_transducer.result _ _
    (λ l of columns are.
    let same = related_columns (as_expression c.args.rex.now) (as_hole_number c.args.holes) (as_hole_place c.args.place) c.args.x c.args.y columns are in
    accepts_true c.args.system.now (as_expression c.args.rex.now) c.in_ok-agtt.agtt c.in_ok-agtt.ensures.compiled (as_hole_number c.args.holes) (as_hole_place c.args.place)
    c.arguments_of.result l of c.args.x c.args.y columns (c.arguments_of.ensures.columns Eq 0 columns same) (c.arguments_of.ensures.first Eq 0 columns same)
    (c.arguments_of.ensures.second Eq 0 columns same) c.arguments_of.ensures.arguments) c.of_transducer.ensures
