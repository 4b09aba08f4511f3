use Rattle.std.proofs.Common.{◌∙◌, ap, Err}
use Rattle.fort_theory.specs.Sides.{pushed_at, variables}
use Rattle.fort_terms.specs.PatternView.{as_pattern}
use Rattle.fort_terms.specs.SideView.{as_side}
use Rattle.fort_synth.proofs.CandidateSides.{FitsSide-side_from, FitsSide-ground_side, left-not_repeated, right-not_repeated, not_shared}
use Rattle.fort_synth.proofs.CandidateSystems.{pair-rule_of}
use Rattle.fort_synth.proofs.candidate.push_rule.Goals as goal

pub push-requires-clause-left_fits : goal.push-requires-clause-left_fits
push-requires-clause-left_fits c = rw c.in_ok-left.ensures.side (FitsSide-side_from _ 0 _ c.requires.left_fits)

pub push-requires-clause-right_fits : goal.push-requires-clause-right_fits
push-requires-clause-right_fits c = rw c.in_ok-right.ensures (FitsSide-ground_side _ _ c.requires.right_fits)

pub returns-in-Ok-clause-rules : goal.returns-in-Ok-clause-rules
returns-in-Ok-clause-rules c =
    c.in-Ok.ensures.ok
    ∙ ap (λ pair. pushed_at 1 pair c.args.system.now.rules)
    (pair-rule_of (as_pattern c.args.pattern.now) c.args.term.now (as_side c.in_ok-left.left) (as_side c.in_ok-right.right) c.in_ok-left.ensures.side c.in_ok-right.ensures)

pub unreachable-requires : goal.unreachable-requires
unreachable-requires c =
    let v = c.in-Err-LeftRepeats._v in
    left-not_repeated 0 v (as_pattern c.args.pattern.now) c.in_ok-left.left c.in_ok-left.ensures.side
    (c.in-Err-LeftRepeats.ensures.left_repeats v (ap Err c.in-Err-LeftRepeats.field-0-is))

pub unreachable-requires-in-Err-RightRepeats : goal.unreachable-requires-in-Err-RightRepeats
unreachable-requires-in-Err-RightRepeats c =
    let v = c.in-Err-RightRepeats._v in
    let r = c.in-Err-RightRepeats.ensures.right_repeats v (ap Err c.in-Err-RightRepeats.field-0-is) in
    right-not_repeated v c.args.term.now c.in_ok-right.right c.in_ok-right.ensures r.1

pub unreachable-requires-in-Err-Shares : goal.unreachable-requires-in-Err-Shares
unreachable-requires-in-Err-Shares c =
    let v = c.in-Err-Shares._v in
    let r = c.in-Err-Shares.ensures.shares v (ap Err c.in-Err-Shares.field-0-is) in
    not_shared (variables (as_side c.in_ok-left.left)) v c.args.term.now c.in_ok-right.right c.in_ok-right.ensures r.2
