use Rattle.std.proofs.Common.{◌+◌, ◌-◌, arith, length, ◌∙◌}
use Rattle.std.specs.List.{range_with_len}
use Rattle.fort_entry_walk.specs.Candidates.{candidates_from}
use Rattle.fort_entry_walk.proofs.CandidateLaws.{none_left, digit_past, digit_there}
use Rattle.fort_entry_walk.proofs.candidates.+candidates.Goals as goal

pub write_first-returns-then-range-clause-next : goal.write_first-returns-then-range-clause-next
write_first-returns-then-range-clause-next t c = none_left c.args.sig.now c.args.range (length c.args.digits.now) (omega arith)

pub write_first_from-returns-then-write_first-clause-next : goal.write_first_from-returns-then-write_first-clause-next
write_first_from-returns-then-write_first-clause-next t c =
    let i = c.loop-digit.invariant in
    let there = rw (c.with_column.ensures, c.column_arity.ensures.value, i.width) at c.if-write_first.ensures.next in
    digit_there c.args.sig.now c.args.range (length c.args.others.now) c.loop-digit.digit c.write_first.new.digits
    (candidates_from c.args.sig.now c.args.range (length c.args.others.now) (range_with_len c.args.from (length c.args.sig.now + 1 - c.args.from)))
    (omega arith) (c.if-write_first.ensures.width ∙ i.width) there i.same

pub write_first_from-loop-digit-preserved : goal.write_first_from-loop-digit-preserved
write_first_from-loop-digit-preserved t c =
    let i = c.loop-digit.invariant in
    let none = rw (c.with_column.ensures, c.column_arity.ensures.value, i.width) at c.if-write_first.ensures.next in
    record {
      width = c.if-write_first.ensures.width ∙ i.width;
      same = digit_past c.args.sig.now c.args.range (length c.args.others.now) c.loop-digit.digit _ (omega arith) none i.same;
    }
