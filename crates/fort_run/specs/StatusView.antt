-- Inside: which number each status of the program is.
use Rattle.std.specs.Prelude.{ℕ}
use Rattle.fort_answers.specs.Lines as status
use Rattle.fort_run.specs.declared.status.Status.{Status}
use Rattle.fort_run.specs.declared.status.Status.TheVariants.{Positive, Negative, Usage, Refused, Limited, OutOfMemory, ReadFailed, WriteFailed}

abbrev pub code_of : Status → ℕ
code_of Positive = status.positive
code_of Negative = status.negative
code_of Usage = status.usage
code_of Refused = status.refused
code_of Limited = status.limited
code_of OutOfMemory = status.out_of_memory
code_of ReadFailed = status.read_failed
code_of WriteFailed = status.write_failed
