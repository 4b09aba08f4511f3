use Rattle.std.proofs.Common.{get_or, ap}
use Rattle.fort_product_keys.proofs.ProgramLaws.{lent_view}
use Rattle.fort_product_keys.proofs.product_keys.ProductKeysLabelKeys.write_key.Goals as goal

pub operand_key-requires : goal.operand_key-requires
operand_key-requires g c =
    let asked = c.requires.view in
    lent_view g.T.Table.table g.T.TableClasses.lead g.T.TableClasses.view_number _ _ _ _ asked.0 asked.1 _ _ c.first.ensures.lent c.first.ensures.operand
    (ap (λ xs. get_or xs 0 0) asked.2) (ap (λ xs. get_or xs 1 0) asked.2)

pub operand_key-requires-2 : goal.operand_key-requires-2
operand_key-requires-2 g c =
    let asked = c.requires.view in
    lent_view g.T.Table.table g.T.TableClasses.lead g.T.TableClasses.view_number _ _ _ _ asked.0 asked.1 _ _ c.second.ensures.lent c.second.ensures.operand
    (ap (λ xs. get_or xs 2 0) asked.2) (ap (λ xs. get_or xs 3 0) asked.2)
