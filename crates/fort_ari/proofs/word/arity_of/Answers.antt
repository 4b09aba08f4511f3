use Rattle.std.proofs.Common.{arith}
use Rattle.fort_ari.proofs.Words.{IsArity-at, length-IsArity, low_from_IsArity, high_from_IsArity}
use Rattle.fort_ari.proofs.word.arity_of.Goals as goal
use Rattle.fort_ari.proofs.word.arity_of.Goals.{then-digit-lt48-via-then-digit-lt48, then-digit-lt48-via-else-digit-lt48+then-digit-gt56}

pub returns-in_default-clause-none : goal.returns-in_default-clause-none
returns-in_default-clause-none c = λ n h. let one = length-IsArity c.args.word.now n h in absurd (omega arith)

pub returns-in_default-2-clause-none : goal.returns-in_default-2-clause-none
returns-in_default-2-clause-none c = λ n h. let one = length-IsArity c.args.word.now n h in absurd (omega arith)

pub returns-then-digit-lt48-clause-none : goal.returns-then-digit-lt48-clause-none
returns-then-digit-lt48-clause-none c = λ n h.
    let low = low_from_IsArity c.args.word.now n h in
    let high = high_from_IsArity c.args.word.now n h in
    elim c.then-digit-lt48.branch [
      | then-digit-lt48-via-then-digit-lt48 w ↦ absurd (omega arith)
      | then-digit-lt48-via-else-digit-lt48+then-digit-gt56 w ↦ absurd (omega arith)
    ]

pub returns-clause-some : goal.returns-clause-some
returns-clause-some c = IsArity-at c.args.word.now (omega arith) (omega arith) (omega arith)
