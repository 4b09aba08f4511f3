use Rattle.std.proofs.Common.{Err, ap}
use Rattle.fort_theory.specs.Sides.{variables}
use Rattle.fort_terms.specs.SideView.{as_side}
use Rattle.fort_sample.proofs.MadeRules.{not_repeated, not_shared}
use Rattle.fort_sample.proofs.rules.push.Goals as goal

pub unreachable-requires : goal.unreachable-requires
unreachable-requires c =
    let v = c.in-Err-LeftRepeats._v in
    not_repeated (variables (as_side c.args.left.now)) v c.requires.separated.left (c.in-Err-LeftRepeats.ensures.left_repeats v (ap Err c.in-Err-LeftRepeats.field-0-is))

pub unreachable-requires-in-Err-RightRepeats : goal.unreachable-requires-in-Err-RightRepeats
unreachable-requires-in-Err-RightRepeats c =
    let v = c.in-Err-RightRepeats._v in
    let r = c.in-Err-RightRepeats.ensures.right_repeats v (ap Err c.in-Err-RightRepeats.field-0-is) in
    not_repeated (variables (as_side c.args.right.now)) v c.requires.separated.right r.1

pub unreachable-requires-in-Err-Shares : goal.unreachable-requires-in-Err-Shares
unreachable-requires-in-Err-Shares c =
    let v = c.in-Err-Shares._v in
    let r = c.in-Err-Shares.ensures.shares v (ap Err c.in-Err-Shares.field-0-is) in
    not_shared (as_side c.args.left.now) (as_side c.args.right.now) v c.requires.separated.separated r.2
