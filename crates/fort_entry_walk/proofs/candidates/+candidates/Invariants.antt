use Rattle.std.proofs.Common.{◌≡◌, ◌+◌, ◌-◌, ◌*◌, length}
use Rattle.std.specs.List.{range_with_len}
use Rattle.fort_entry_walk.specs.Candidates.{candidates_from}
use Rattle.fort_entry_walk.proofs.candidates.+candidates.Given as goal

abbrev pub decreases-write_first : goal.decreases-write_first
decreases-write_first l = 2 * length l.digits.now

abbrev pub decreases-write_first_from : goal.decreases-write_first_from
decreases-write_first_from l = 2 * length l.others.now + 1

abbrev pub invariant-write_first_from-loop-digit : goal.invariant-write_first_from-loop-digit
invariant-write_first_from-loop-digit l = record {
  width : length l.others ≡ length l.initial.others;
  same : candidates_from l.sig l.range (length l.initial.others) (range_with_len l.digit (length l.sig + 1 - l.digit)) ≡ candidates_from l.sig l.range (length l.initial.others) (range_with_len l.from (length l.sig + 1 - l.from));
}
