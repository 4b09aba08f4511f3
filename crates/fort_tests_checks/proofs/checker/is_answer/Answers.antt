use Rattle.fort_tests_checks.proofs.CheckedFormulaLaws.{IsDecided-many_reduced, IsClosed-many_reduced}
use Rattle.fort_tests_checks.proofs.checker.is_answer.Goals as goal

pub new-requires : goal.new-requires
new-requires c = record { decided = IsDecided-many_reduced _ c.in_ok-system.ensures _ c.in_ok-core.ensures; closed = IsClosed-many_reduced _ c.in_ok-core.ensures }

pub check-requires : goal.check-requires
check-requires c = (_, _, _, c.check-first.ensures.again _ _ _ c.in_ok-checker.ensures)
