use Rattle.std.proofs.Common.{◌<◌, length, refl, ◌∙◌, arith}
use Rattle.std.proofs.lemmas.List.{length-set}
use Rattle.fort_target_lists.proofs.LayLaws.{start_more, start_within, begun_more, counts_left}
use Rattle.fort_target_lists.proofs.laying.begin_stages.Goals as goal

pub loop-s-init : goal.loop-s-init
loop-s-init c = record {
  size = refl;
  before = λ es h. refl;
  begun = λ es h r l. absurd (omega arith);
  later = λ r l. refl;
}

pub overflow_add-before : goal.overflow_add-before
overflow_add-before c =
    let es = c.requires.0 in
    let s = c.loop-s.s in
    let v = c.loop-s.invariant in
    omega (
      arith,
      v.before es c.requires.1,
      v.later s (omega arith),
      c.requires.1 s (omega (arith, c.loop-s-test.true)),
      start_within es s (length c.args.cursors.now) (omega (arith, c.loop-s-test.true)),
      c.requires.2,
    )

pub loop-s-preserved : goal.loop-s-preserved
loop-s-preserved c =
    let s = c.loop-s.s in
    let v = c.loop-s.invariant in
    let low : s < length c.args.cursors.now = omega (arith, c.loop-s-test.true) in
    record {
      size = length-set c.loop-s.cursors s c.loop-s.before ∙ v.size;
      before = λ es h. omega (arith, v.before es h, v.later s (omega arith), h s low, start_more es s);
      begun = λ es h. begun_more es c.loop-s.cursors s c.loop-s.before (omega (arith, low, v.size)) (v.before es h) (v.begun es h);
      later = counts_left c.loop-s.cursors c.args.cursors.now s c.loop-s.before v.later;
    }

pub returns-clause-begins : goal.returns-clause-begins
returns-clause-begins c = λ es h r l. c.loop-s.invariant.begun es h r (omega (arith, l, c.loop-s-test.false))
