use Rattle.std.proofs.Common.{Err, ap, ◌≡◌, true, false}
use Rattle.std.proofs.lemmas.Result.{err_from_is_err_and}
use Rattle.fort_ari.specs.declared.fault.ProblemFault.TheVariants.{Memory}
use Rattle.fort_ari.proofs.Declared.{fault_without_format, fault_without_constant}
use Rattle.fort_ari.proofs.problem.read_problem.Goals as goal

pub returns-in_default-clause-fault : goal.returns-in_default-clause-fault
returns-in_default-clause-fault c = fault_without_format _ _ c.in_default.ensures.none

pub returns-then-not-has_constant-clause-fault : goal.returns-then-not-has_constant-clause-fault
returns-then-not-has_constant-clause-fault c =
    fault_without_constant _ _ c.in_ok-declarations.declarations.signature c.in_ok-declarations.declarations.next (c.in-Some.number, c.in-Some.ensures.some)
    c.in_ok-declarations.ensures.ok (λ h. let no : false ≡ true = c.if-not-has_constant.ensures.1 h in cc)

pub returns-in_err-declarations-clause-memory : goal.returns-in_err-declarations-clause-memory
returns-in_err-declarations-clause-memory c =
    let p = err_from_is_err_and c.from_residual.result c.from_residual.ensures.1 in
    rw (p.1, p.2) (λ memory. let same : c.in_err-declarations.field-0.0 ≡ Memory = cc in c.in_err-declarations.ensures.memory (ap Err same))
