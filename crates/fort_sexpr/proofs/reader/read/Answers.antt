use Rattle.std.proofs.lemmas.Result.{err_from_is_err_and}
use Rattle.std.proofs.Common.{[], sym, append-nil}
use Rattle.fort_sexpr.proofs.Fronts.{fault_of_all}
use Rattle.fort_sexpr.proofs.reader.read.Goals as goal

pub returns-in_err-at-clause-fault : goal.returns-in_err-at-clause-fault
returns-in_err-at-clause-fault c =
    let p = err_from_is_err_and c.from_residual.result c.from_residual.ensures.1 in
    let bytes = c.args.bytes.items in
    let front = rw c.as_slice.ensures.value at c.in_err-at.ensures.fault in
    rw (p.1, p.2) (fault_of_all bytes [] bytes c.in_err-at.field-0.0 (sym (append-nil bytes)) front)
