use Rattle.std.proofs.Common.{refl}
use Rattle.fort_cert_checker.proofs.TableArms as arms
use Rattle.fort_cert_checker.proofs.part_tables.check_table.Goals as goal

pub check_atom-requires-clause-few : goal.check_atom-requires-clause-few
check_atom-requires-clause-few c = let d = c.requires.due in d.4.few

pub check_atom-requires-clause-scratch : goal.check_atom-requires-clause-scratch
check_atom-requires-clause-scratch c = let d = c.requires.due in arms.atom_room c.args.system.now d.0 c.args.past.now d.1 d.2 d.3 c.args.plan.now c.args.targets.now c.args.room.now c.args.scratch.now c.args.marks.now d.4 c.in-Atom.labels c.in-Atom.is

pub returns-in-Atom-clause-step : goal.returns-in-Atom-clause-step
returns-in-Atom-clause-step c parts k made f due = arms.atom_step c.args.system.now parts c.args.past.now k made f c.args.plan.now c.args.targets.now c.args.room.now c.args.scratch.now c.args.marks.now due c.in-Atom.labels c.in-Atom.is c.check_atom.new.room c.check_atom.result c.check_atom.ensures.step

pub check_product-requires-clause-answers : goal.check_product-requires-clause-answers
check_product-requires-clause-answers c = let d = c.requires.due in arms.product_answers c.args.system.now d.0 c.args.past.now d.1 d.2 d.3 c.args.plan.now c.args.targets.now c.args.room.now c.args.scratch.now c.args.marks.now d.4 c.in-Product.op c.in-Product.first c.in-Product.second (arms.product_plan c.args.system.now d.0 c.args.past.now d.1 d.2 d.3 c.args.plan.now c.args.targets.now c.args.room.now c.args.scratch.now c.args.marks.now d.4 c.in-Product.op c.in-Product.first c.in-Product.second c.in-Product.is) c.args.plan.now.columns refl

pub check_product-requires-clause-scratch : goal.check_product-requires-clause-scratch
check_product-requires-clause-scratch c = let d = c.requires.due in arms.product_room c.args.system.now d.0 c.args.past.now d.1 d.2 d.3 c.args.plan.now c.args.targets.now c.args.room.now c.args.scratch.now c.args.marks.now d.4 c.in-Product.op c.in-Product.first c.in-Product.second c.in-Product.is

pub returns-in-Product-clause-step : goal.returns-in-Product-clause-step
returns-in-Product-clause-step c parts k made f due = arms.product_step c.args.system.now parts c.args.past.now k made f c.args.plan.now c.args.targets.now c.args.room.now c.args.scratch.now c.args.marks.now due c.in-Product.op c.in-Product.first c.in-Product.second (arms.product_plan c.args.system.now parts c.args.past.now k made f c.args.plan.now c.args.targets.now c.args.room.now c.args.scratch.now c.args.marks.now due c.in-Product.op c.in-Product.first c.in-Product.second c.in-Product.is) c.args.plan.now.columns refl c.check_product.new.room c.check_product.result c.check_product.ensures.step

pub check_projection-requires-clause-body : goal.check_projection-requires-clause-body
check_projection-requires-clause-body c = let d = c.requires.due in arms.projection_needs c.args.system.now d.0 c.args.past.now d.1 d.2 d.3 c.args.plan.now c.args.targets.now c.args.room.now c.args.scratch.now c.args.marks.now d.4 c.in-Projection.source c.in-Projection.column c.in-Projection.is

pub returns-in-Projection-clause-step : goal.returns-in-Projection-clause-step
returns-in-Projection-clause-step c parts k made f due = arms.projection_step c.args.system.now parts c.args.past.now k made f c.args.plan.now c.args.targets.now c.args.room.now c.args.scratch.now c.args.marks.now due c.in-Projection.source c.in-Projection.column c.in-Projection.is c.check_projection.new.room c.check_projection.result c.check_projection.ensures.step

pub check_many-requires-clause-body : goal.check_many-requires-clause-body
check_many-requires-clause-body c = let d = c.requires.due in arms.many_needs c.args.system.now d.0 c.args.past.now d.1 d.2 d.3 c.args.plan.now c.args.targets.now c.args.room.now c.args.scratch.now c.args.marks.now d.4 c.in-Many.source c.in-Many.column c.deref.result.now (arms.many_plan c.args.system.now d.0 c.args.past.now d.1 d.2 d.3 c.args.plan.now c.args.targets.now c.args.room.now c.args.scratch.now c.args.marks.now d.4 c.in-Many.source c.in-Many.column c.in-Many.counts c.in-Many.is c.deref.result.now c.deref.ensures.value).marks_are (arms.many_plan c.args.system.now d.0 c.args.past.now d.1 d.2 d.3 c.args.plan.now c.args.targets.now c.args.room.now c.args.scratch.now c.args.marks.now d.4 c.in-Many.source c.in-Many.column c.in-Many.counts c.in-Many.is c.deref.result.now c.deref.ensures.value) (arms.many_width c.args.system.now d.0 c.args.past.now d.1 d.2 d.3 c.args.plan.now c.args.targets.now c.args.room.now c.args.scratch.now c.args.marks.now d.4 c.in-Many.source c.in-Many.column c.in-Many.counts c.in-Many.is) (arms.many_sized c.args.system.now d.0 c.args.past.now d.1 d.2 d.3 c.args.plan.now c.args.targets.now c.args.room.now c.args.scratch.now c.args.marks.now d.4 c.in-Many.source c.in-Many.column c.in-Many.counts c.in-Many.is c.deref.result.now c.deref.ensures.value)

pub returns-in-Many-clause-step : goal.returns-in-Many-clause-step
returns-in-Many-clause-step c parts k made f due = arms.many_step c.args.system.now parts c.args.past.now k made f c.args.plan.now c.args.targets.now c.args.room.now c.args.scratch.now c.args.marks.now due c.in-Many.source c.in-Many.column c.deref.result.now (arms.many_plan c.args.system.now parts c.args.past.now k made f c.args.plan.now c.args.targets.now c.args.room.now c.args.scratch.now c.args.marks.now due c.in-Many.source c.in-Many.column c.in-Many.counts c.in-Many.is c.deref.result.now c.deref.ensures.value).marks_are (arms.many_plan c.args.system.now parts c.args.past.now k made f c.args.plan.now c.args.targets.now c.args.room.now c.args.scratch.now c.args.marks.now due c.in-Many.source c.in-Many.column c.in-Many.counts c.in-Many.is c.deref.result.now c.deref.ensures.value) (arms.many_width c.args.system.now parts c.args.past.now k made f c.args.plan.now c.args.targets.now c.args.room.now c.args.scratch.now c.args.marks.now due c.in-Many.source c.in-Many.column c.in-Many.counts c.in-Many.is) (arms.many_sized c.args.system.now parts c.args.past.now k made f c.args.plan.now c.args.targets.now c.args.room.now c.args.scratch.now c.args.marks.now due c.in-Many.source c.in-Many.column c.in-Many.counts c.in-Many.is c.deref.result.now c.deref.ensures.value) c.check_many.new.room c.check_many.result c.check_many.ensures.step

pub check_product-requires-clause-first : goal.check_product-requires-clause-first
check_product-requires-clause-first c = let d = c.requires.due in (arms.product_lists c.args.system.now d.0 c.args.past.now d.1 d.2 d.3 c.args.plan.now c.args.targets.now c.args.room.now c.args.scratch.now c.args.marks.now d.4 c.in-Product.op c.in-Product.first c.in-Product.second c.in-Product.is).0

pub check_product-requires-clause-second : goal.check_product-requires-clause-second
check_product-requires-clause-second c = let d = c.requires.due in (arms.product_lists c.args.system.now d.0 c.args.past.now d.1 d.2 d.3 c.args.plan.now c.args.targets.now c.args.room.now c.args.scratch.now c.args.marks.now d.4 c.in-Product.op c.in-Product.first c.in-Product.second c.in-Product.is).1

pub check_projection-requires-clause-list : goal.check_projection-requires-clause-list
check_projection-requires-clause-list c = let d = c.requires.due in arms.projection_list c.args.system.now d.0 c.args.past.now d.1 d.2 d.3 c.args.plan.now c.args.targets.now c.args.room.now c.args.scratch.now c.args.marks.now d.4 c.in-Projection.source c.in-Projection.column c.in-Projection.is

pub check_many-requires-clause-list : goal.check_many-requires-clause-list
check_many-requires-clause-list c = let d = c.requires.due in arms.many_list c.args.system.now d.0 c.args.past.now d.1 d.2 d.3 c.args.plan.now c.args.targets.now c.args.room.now c.args.scratch.now c.args.marks.now d.4 c.in-Many.source c.in-Many.column c.in-Many.counts c.in-Many.is
