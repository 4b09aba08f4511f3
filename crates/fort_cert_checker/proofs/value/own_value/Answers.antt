use Rattle.std.proofs.Common.{refl}
use Rattle.fort_check_steps.specs.Turned.{turned_table}
use Rattle.fort_cert_checker.proofs.ValueArms as arms
use Rattle.fort_cert_checker.proofs.value.own_value.Goals as goal

pub returns-in-Truth-clause-value : goal.returns-in-Truth-clause-value
returns-in-Truth-clause-value c system parts k made f due = arms.truth_value system parts c.args.past.now k made f c.args.plan.now c.args.marks.now due _ c.in-Truth.is refl

pub returns-in-Negation-clause-value : goal.returns-in-Negation-clause-value
returns-in-Negation-clause-value c system parts k made f due = arms.negation_value system parts c.args.past.now k made f c.args.plan.now c.args.marks.now due c.in-Negation.source _ c.truth.result c.in-Negation.is c.truth.ensures refl

pub returns-in-Product-clause-value : goal.returns-in-Product-clause-value
returns-in-Product-clause-value c system parts k made f due = arms.product_value system parts c.args.past.now k made f c.args.plan.now c.args.marks.now due c.in-Product.op c.in-Product.first c.in-Product.second c.connect.result c.truth-one.result c.truth-other.result c.in-Product.is c.truth-one.ensures c.truth-other.ensures c.connect.ensures

pub table-body-requires : goal.table-body-requires
table-body-requires c = let d = c.requires.due in arms.projection_at d.0 d.1 c.args.past.now d.2 d.3 d.4 c.args.plan.now c.args.marks.now d.5 c.in-Projection.source c.in-Projection.field-1 c.in-Projection.is

pub returns-in-Projection-clause-value : goal.returns-in-Projection-clause-value
returns-in-Projection-clause-value c system parts k made f due = arms.projection_value system parts c.args.past.now k made f c.args.plan.now c.args.marks.now due c.in-Projection.source c.in-Projection.field-1 c.accepts_some.result (turned_table c.table-body.result) c.in-Projection.is c.table-body.ensures.is c.accepts_some.ensures

pub accepts_many-requires : goal.accepts_many-requires
accepts_many-requires c = let d = c.requires.due in record { body = arms.many_needs d.0 d.1 c.args.past.now d.2 d.3 d.4 c.args.plan.now c.args.marks.now d.5 c.in-Many.source c.in-Many.column c.in-Many.counts c.in-Many.is c.deref.result.now c.deref.ensures.value }

pub returns-in-Many-clause-value : goal.returns-in-Many-clause-value
returns-in-Many-clause-value c system parts k made f due = arms.many_value_at system parts c.args.past.now k made f c.args.plan.now c.args.marks.now due c.in-Many.source c.in-Many.column c.in-Many.counts c.in-Many.is c.deref.result.now c.deref.ensures.value c.accepts_many.result c.accepts_many.ensures.value

pub unreachable-requires : goal.unreachable-requires
unreachable-requires c = let d = c.requires.due in arms.not_atom d.0 d.1 c.args.past.now d.2 d.3 d.4 c.args.plan.now c.args.marks.now d.5 c.in-Atom.field-0 c.in-Atom.is
