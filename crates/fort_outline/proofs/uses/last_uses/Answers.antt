use Rattle.std.proofs.Common.{◌≡◌, ◌<◌, ℕ, length, get_or, set, replicate, arith, ap, sym, ◌∙◌, subst, inl}
use Rattle.std.proofs.lemmas.List.{get_or_default, length-replicate, get_or-replicate, length-set}
use Rattle.fort_outline.specs.declared.root.Root.TheVariants.{True}
use Rattle.fort_outline.specs.Roots.{cores_of, HasOperandsBelow}
use Rattle.fort_outline.specs.Outlines.{AreLastUses}
use Rattle.fort_outline.proofs.UseLaws.{AreNoted, AreUsed, noted_more, used_more, low_more, last_uses, lent_whole}
use Rattle.fort_outline.proofs.RootLaws.{HasOperandsBelow-more}
use Rattle.fort_outline.proofs.uses.last_uses.Goals as goal

pub loop-k-init : goal.loop-k-init
loop-k-init c =
    let zeros : c.as_mut_slice-all.result.now ≡ replicate (length c.args.roots.now) 0 =
    c.as_mut_slice-all.ensures.value ∙ c.in_ok-uses.ensures.items_if_clones_equal (λ y e. e) in
    let long : length c.as_mut_slice-all.result.now ≡ length c.args.roots.now = ap length zeros ∙ length-replicate (length c.args.roots.now) 0 in
    let zero_at = λ (j : ℕ) (m : j < length c.args.roots.now). ap (λ xs. get_or xs j 0) zeros ∙ get_or-replicate (length c.args.roots.now) j 0 0 m in
    record {
      count = long;
      noted = λ j i l m o. absurd (omega arith);
      used = λ j l. inl (zero_at j (omega (arith, long)));
      low =
          λ j l.
          let at = zero_at j (omega (arith, long)) in
          omega arith;
    }

pub note_operands-requires : goal.note_operands-requires
note_operands-requires c =
    let k = c.loop-k.k in
    let root = c.index-roots-k.result in
    let is : get_or c.args.roots.now k True ≡ root = get_or_default c.args.roots.now k True root c.loop-k-test.true ∙ sym c.index-roots-k.is in
    HasOperandsBelow-more k (length c.loop-k.all) root (omega (arith, c.loop-k.invariant.count)) (subst (HasOperandsBelow k) is (c.requires.order k c.loop-k-test.true))

pub loop-k-preserved : goal.loop-k-preserved
loop-k-preserved c =
    let k = c.loop-k.k in
    let root = c.index-roots-k.result in
    let is : get_or c.args.roots.now k True ≡ root = get_or_default c.args.roots.now k True root c.loop-k-test.true ∙ sym c.index-roots-k.is in
    let count : length c.note_operands.new.uses ≡ length c.loop-k.all = c.note_operands.auto.uses in
    record {
      count = count ∙ c.loop-k.invariant.count;
      noted = noted_more c.args.roots.now root c.loop-k.all c.note_operands.new.uses k count is c.loop-k.invariant.noted c.loop-k.invariant.low c.note_operands.ensures;
      used = λ j l. let m : j < length c.loop-k.all = omega arith in used_more c.args.roots.now root c.loop-k.all c.note_operands.new.uses k j is (c.loop-k.invariant.used j m) (c.note_operands.ensures j m);
      low = λ j l. let m : j < length c.loop-k.all = omega arith in low_more root c.loop-k.all c.note_operands.new.uses k j (c.loop-k.invariant.low j m) (c.note_operands.ensures j m);
    }

pub returns : goal.returns
returns c =
    let roots = c.args.roots.now in
    let all = c.loop-k.all in
    let made = set all c.args.whole (length roots) in
    let end : length roots ≡ c.loop-k.k = omega arith in
    let noted : AreNoted roots all (length roots) = subst (AreNoted roots all) (sym end) c.loop-k.invariant.noted in
    let used : AreUsed roots all (length roots) = subst (AreUsed roots all) (sym end) c.loop-k.invariant.used in
    let lent = lent_whole c.in_ok-uses.uses.len made c.in_ok-uses.uses.items (length-set all c.args.whole (length roots) ∙ (c.loop-k.invariant.count ∙ sym c.in_ok-uses.ensures.len)) in
    subst (AreLastUses (cores_of roots) c.args.whole) (sym lent) (last_uses roots all c.args.whole c.requires.order c.requires.distinct c.loop-k.invariant.count noted used c.requires.within)
