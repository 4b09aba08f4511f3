use Rattle.std.proofs.Common.{ap, sym, ◌∙◌, subst}
use Rattle.std.proofs.lemmas.Result.{IfOk-weaker}
use Rattle.fort_parts.specs.PartColumns.{columns_of}
use Rattle.fort_outline.specs.Roots.{root_core, HasOperandsBelow}
use Rattle.fort_outline.proofs.ColumnLaws.{both_ok, operand_columns, over_one, columns_two, columns_bound}
use Rattle.fort_outline.proofs.columns.root_columns.Goals as goal

pub returns-in-Leaf : goal.returns-in-Leaf
returns-in-Leaf c =
    IfOk-weaker c.leaf_columns.result _ _
    (λ ns is parts are. is ∙ sym (ap (λ r. columns_of (root_core parts r)) c.in-Leaf.is))
    c.leaf_columns.ensures

pub returns-in-Binary : goal.returns-in-Binary
returns-in-Binary c =
    let arm = c.in-Binary in
    let over = subst (HasOperandsBelow _) arm.is c.requires in
    both_ok c.of_both.result _ _ _
    (λ ns rise same parts are.
    columns_two parts arm.field-0 arm.f arm.g c.deref-in-Binary.result.now c.deref-in-Binary-2.result.now ns.items
    (operand_columns parts c.args.before.now arm.f c.index-before-f-in-Binary.result c.deref-in-Binary.result.now are over.0 c.index-before-f-in-Binary.is c.deref-in-Binary.ensures.value)
    (operand_columns parts c.args.before.now arm.g c.index-before-g.result c.deref-in-Binary-2.result.now are over.1 c.index-before-g.is c.deref-in-Binary-2.ensures.value)
    rise same
    ∙ sym (ap (λ r. columns_of (root_core parts r)) arm.is))
    c.of_both.ensures.rise c.of_both.ensures.same

pub returns-in-Exists : goal.returns-in-Exists
returns-in-Exists c =
    let arm = c.in-Exists in
    let over = over_one _ c.args.root.now arm.n arm.f arm.is c.requires in
    IfOk-weaker c.without.result _ _
    (λ ns kept parts are.
    columns_bound parts c.args.root.now arm.n arm.f c.deref-in-Exists.result.now ns.items arm.is
    (operand_columns parts c.args.before.now arm.f c.index-before-f-in-Exists.result c.deref-in-Exists.result.now are over c.index-before-f-in-Exists.is c.deref-in-Exists.ensures.value)
    kept)
    c.without.ensures
