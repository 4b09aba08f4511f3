use Rattle.std.proofs.Common.{◌∙◌}
use Rattle.fort_outline.proofs.ColumnLaws.{both_ok, columns_pair, columns_variable}
use Rattle.fort_outline.proofs.columns.leaf_columns.Goals as goal

pub returns-in-Related : goal.returns-in-Related
returns-in-Related c =
    let arm = c.in-Related in
    both_ok c.of_both.result _ _ _ (λ ns rise same. columns_pair c.args.leaf.now arm.x arm.y ns.items arm.is rise same) c.of_both.ensures.rise c.of_both.ensures.same

pub returns-in_ok-vec-in-Normal : goal.returns-in_ok-vec-in-Normal
returns-in_ok-vec-in-Normal c = c.in_ok-vec-in-Normal.ensures.items ∙ columns_variable c.args.leaf.now c.in-Normal.x c.in-Normal.is
