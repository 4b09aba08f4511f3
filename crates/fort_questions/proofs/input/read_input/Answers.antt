use Rattle.std.proofs.Common.{◌≤◌, length, refl, sym, arith, true≢false}
use Rattle.std.proofs.lemmas.Result.{err_from_is_err_and}
use Rattle.fort_questions.specs.Questions.{as_tail}
use Rattle.fort_questions.proofs.InputLines.{few_forms, problem_refused, format_refused}
use Rattle.fort_questions.proofs.input.read_input.Goals as goal

pub read_problem-requires : goal.read_problem-requires
read_problem-requires c =
    let count = few_forms c.args.forms.now.bytes c.args.forms.now.forms c.requires.are in
    let short : length c.args.forms.now.bytes ≤ 67108864 = c.requires.short in
    record { few = omega arith }

pub returns-in-Err-clause-refused : goal.returns-in-Err-clause-refused
returns-in-Err-clause-refused c =
    problem_refused c.args.forms.now.bytes c.args.forms.now.forms c.requires.short c.requires.are (as_tail c.args.tail) (c.if-not-begins_for.ensures.0 refl) c.in-Err.fault
    c.in_ok-problem_line-in-Err.field-0.items c.in-Err.ensures.fault c.in_ok-problem_line-in-Err.ensures

pub returns-in_err-behind-clause-refused : goal.returns-in_err-behind-clause-refused
returns-in_err-behind-clause-refused c =
    let p = err_from_is_err_and c.from_residual-in_err-behind.result c.from_residual-in_err-behind.ensures.1 in
    let read = c.in-Ok.ensures.ok in
    rw (p.1, p.2) (c.in_err-behind.ensures.refused read.0 read.1 read.2)

pub returns-clause-ok : goal.returns-clause-ok
returns-clause-ok c =
    let read = c.in-Ok.ensures.ok in
    let behind = c.in_ok-behind.ensures.ok read.0 read.1 read.2 in
    record { system = read.0; behind = behind.behind; is = behind.is; input_is = record { same = read.2; behind_is = behind.behind_is } }

pub returns-then-not-begins_for-clause-refused : goal.returns-then-not-begins_for-clause-refused
returns-then-not-begins_for-clause-refused c =
    format_refused c.args.forms.now.bytes c.args.forms.now.forms c.requires.short c.requires.are (as_tail c.args.tail) c.in_ok-line.line.items
    (λ begins. true≢false (sym (c.if-not-begins_for.ensures.1 begins))) c.in_ok-line.ensures
