use Rattle.std.proofs.Common.{◌≡◌, ℕ, drop, false, subst, ap, sym, ◌∙◌, arith}
use Rattle.fort_leading_walk.specs.Choices.{is_among, is_in_some}
use Rattle.fort_leading_walk.proofs.NewestLaws.{until_at, none_one_less}
use Rattle.fort_leading_walk.proofs.choices.places_until.Goals as goal

pub returns-then-is_among : goal.returns-then-is_among
returns-then-is_among g c =
    let lists = g.L.LeaderLists.lists c.args.lists.now in
    let here = ap (is_among c.args.newest) (sym c.leaders.ensures) ∙ (sym c.is_among.ensures ∙ c.if-is_among.true) in
    until_at c.args.newest lists c.loop-until.until c.loop-until.invariant.within c.loop-until.invariant.none (λ l. here)

pub loop-until-preserved : goal.loop-until-preserved
loop-until-preserved g c =
    let lists = g.L.LeaderLists.lists c.args.lists.now in
    let other = ap (is_among c.args.newest) (sym c.leaders.ensures) ∙ (sym c.is_among.ensures ∙ c.if-is_among.false) in
    record {
      within = omega (arith, c.loop-until.invariant.within);
      none = none_one_less c.args.newest lists c.loop-until.until c.loop-until-test.true c.loop-until.invariant.within c.loop-until.invariant.none other;
    }

pub returns : goal.returns
returns g c =
    let lists = g.L.LeaderLists.lists c.args.lists.now in
    let e : c.loop-until.until ≡ 0 = omega (arith, c.loop-until-test.false) in
    until_at c.args.newest lists 0 (omega arith) (subst (λ (n : ℕ). is_in_some c.args.newest (drop n lists) ≡ false) e c.loop-until.invariant.none) (λ l. absurd (omega arith))
