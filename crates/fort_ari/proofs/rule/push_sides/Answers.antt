use Rattle.std.proofs.Common.{◌^◌, Err, ap, subst, arith}
use Rattle.std.proofs.lemmas.Option.{IfSome_then}
use Rattle.std.proofs.lemmas.Result.{err_from_is_err_and}
use Rattle.fort_theory.specs.Sides.{FitsSide}
use Rattle.fort_terms.specs.SideView.{as_side}
use Rattle.fort_ari.specs.Faults.{as_fault}
use Rattle.fort_ari.proofs.SideLaws.{FitsSide-IsSide, none_repeats, none_shared}
use Rattle.fort_ari.proofs.RuleSides.{both_read, room_for_right}
use Rattle.fort_ari.proofs.rule.push_sides.Goals as goal

pub returns-in_err-check_names-clause-fault : goal.returns-in_err-check_names-clause-fault
returns-in_err-check_names-clause-fault c =
    let p = err_from_is_err_and c.from_residual-in_err-check_names.result c.from_residual-in_err-check_names.ensures.1 in
    let both = both_read (λ x. x.now) _ _ _ _ _ _ _ c.len-count.result c.new-names.ensures.items c.in_ok-left.ensures
    (rw c.requires.same_bytes at c.in_ok-right.ensures) (omega (arith, c.len-count.ensures)) in
    rw (p.1, p.2) (IfSome_then (as_fault c.in_err-check_names.field-0.0) (rw (c.deref.ensures.value, c.deref-2.ensures.value) at c.in_err-check_names.ensures.fault)
    (λ fault bad. record {
      rule = record { left = as_side c.in_ok-left.left; right = as_side c.in_ok-right.right };
      left_names = _;
      right_names = _;
      both = rw c.signature-signature.ensures.same at both;
      bad = bad;
    }))

pub side_of-requires-2-clause-few : goal.side_of-requires-2-clause-few
side_of-requires-2-clause-few c =
    room_for_right (λ x. x.now) c.args.rule.now.left.form c.args.rule.now.right.form _ _ _ (2 ^ 32) c.new-names.ensures.items c.in_ok-left.ensures c.requires.small

pub push-requires-clause-left_fits : goal.push-requires-clause-left_fits
push-requires-clause-left_fits c =
    subst (λ s. FitsSide s (as_side c.in_ok-left.left)) c.signature-signature.ensures.same (FitsSide-IsSide c.in_ok-left.ensures.is)

pub push-requires-clause-right_fits : goal.push-requires-clause-right_fits
push-requires-clause-right_fits c =
    subst (λ s. FitsSide s (as_side c.in_ok-right.right)) c.signature-signature.ensures.same (FitsSide-IsSide c.in_ok-right.ensures.is)

pub returns-in-Ok-clause-ok : goal.returns-in-Ok-clause-ok
returns-in-Ok-clause-ok c =
    let both = both_read (λ x. x.now) _ _ _ _ _ _ _ c.len-count.result c.new-names.ensures.items c.in_ok-left.ensures
    (rw c.requires.same_bytes at c.in_ok-right.ensures) (omega (arith, c.len-count.ensures)) in
    record {
      rule = record { left = as_side c.in_ok-left.left; right = as_side c.in_ok-right.right };
      left_names = _;
      right_names = _;
      both = rw c.signature-signature.ensures.same at both;
      once = rw (c.deref.ensures.value, c.deref-2.ensures.value) at c.in_ok-check_names.ensures.ok;
      same = c.push.ensures.same_signature;
      rules = c.in-Ok.ensures.ok;
    }

pub unreachable-requires : goal.unreachable-requires
unreachable-requires c =
    none_repeats c.in-Err-LeftRepeats._v c.in_ok-left.ensures.is (c.in-Err-LeftRepeats.ensures.left_repeats c.in-Err-LeftRepeats._v (ap Err c.in-Err-LeftRepeats.field-0-is))

pub unreachable-requires-in-Err-RightRepeats : goal.unreachable-requires-in-Err-RightRepeats
unreachable-requires-in-Err-RightRepeats c =
    let r = c.in-Err-RightRepeats.ensures.right_repeats c.in-Err-RightRepeats._v (ap Err c.in-Err-RightRepeats.field-0-is) in
    none_repeats c.in-Err-RightRepeats._v c.in_ok-right.ensures.is r.1

pub unreachable-requires-in-Err-Shares : goal.unreachable-requires-in-Err-Shares
unreachable-requires-in-Err-Shares c =
    let r = c.in-Err-Shares.ensures.shares c.in-Err-Shares._v (ap Err c.in-Err-Shares.field-0-is) in
    let both = both_read (λ x. x.now) _ _ _ _ _ _ _ c.len-count.result c.new-names.ensures.items c.in_ok-left.ensures
    (rw c.requires.same_bytes at c.in_ok-right.ensures) (omega (arith, c.len-count.ensures)) in
    none_shared c.in-Err-Shares._v both.left_is both.right_is r.2
