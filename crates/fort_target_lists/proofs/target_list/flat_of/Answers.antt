use Rattle.std.proofs.Common.{IfSome, subst}
use Rattle.fort_target_lists.specs.TargetLists.{IsOperandList}
use Rattle.fort_target_lists.proofs.ListLaws.{operand_list}
use Rattle.fort_target_lists.proofs.target_list.flat_of.Goals as goal

pub returns-in-Some : goal.returns-in-Some
returns-in-Some c = λ o h.
    operand_list o c.in-Some.list.now c.flat.result (λ l. l.now) c.flat.ensures.made (subst (λ x. IfSome x (λ l. IsOperandList o l.now)) c.in-Some.is h)
