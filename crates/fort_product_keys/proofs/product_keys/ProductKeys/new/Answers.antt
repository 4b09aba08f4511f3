use Rattle.fort_product_keys.proofs.ProgramLaws.{product_goes}
use Rattle.fort_product_keys.proofs.product_keys.ProductKeys.new.Goals as goal

pub returns-clause-goes : goal.returns-clause-goes
returns-clause-goes g c =
    product_goes g.T.Table.table g.T.TableClasses.lead g.T.TableClasses.view_number g.T.TableClasses.leader_in g.met.T.TableClasses.is_led g.met.T.TableClasses.leads
    _ _ _ _ _ _ c.first.ensures.lent c.second.ensures.lent c.first.ensures.operand c.second.ensures.operand c.columns-first_columns.ensures.lawful c.columns-second_columns.ensures.lawful
