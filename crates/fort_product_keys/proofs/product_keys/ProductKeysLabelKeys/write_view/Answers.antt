use Rattle.fort_product_keys.proofs.ProgramLaws.{lent_operand}
use Rattle.fort_product_keys.proofs.product_keys.ProductKeysLabelKeys.write_view.Goals as goal

pub operand_view-first-requires : goal.operand_view-first-requires
operand_view-first-requires g c =
    record { operand = (_, lent_operand g.T.Table.table g.T.TableClasses.lead _ _ _ _ _ c.first.ensures.lent c.columns-columns.ensures.count c.first.ensures.operand) }

pub operand_view-second-requires : goal.operand_view-second-requires
operand_view-second-requires g c =
    record { operand = (_, lent_operand g.T.Table.table g.T.TableClasses.lead _ _ _ _ _ c.second.ensures.lent c.columns-columns.ensures.count c.second.ensures.operand) }
