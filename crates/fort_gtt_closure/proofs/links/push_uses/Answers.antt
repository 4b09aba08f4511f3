use Rattle.std.proofs.Common.{◌≡◌, ℕ, ◌<◌, ◌∙◌, sym, subst, length, get_or, take, arith, List}
use Rattle.std.specs.Prelude.{Contains}
use Rattle.std.proofs.lemmas.List.{take_all}
use Rattle.fort_gtt_closure.specs.Groups.{lists, group}
use Rattle.fort_gtt_closure.proofs.ElementLaws.{each_more}
use Rattle.fort_gtt_closure.proofs.GroupLaws.{count_pushed, group_kept, group_new}
use Rattle.fort_gtt_closure.proofs.links.push_uses.Goals as goal

pub loop-kid-preserved : goal.loop-kid-preserved
loop-kid-preserved c =
    let g = c.loop-kid.groups in
    let h = c.push.new.self in
    let i = c.loop-kid.invariant in
    let kid : ℕ = get_or c.args.kids.now c.loop-kid.kid-index 0 in
    let pushed = c.in_ok-push.ensures.ok in
    record {
      count = count_pushed g h kid c.args.pair pushed ∙ i.count;
      kept = λ state other there. group_kept g h kid c.args.pair pushed state other (i.kept state other there);
      added = each_more (λ (state : ℕ). state < length (lists c.args.groups.now) → Contains (group h state) c.args.pair) c.args.kids.now c.loop-kid.kid-index 0 c.loop-kid-test.true
          (λ state there low. group_kept g h kid c.args.pair pushed state c.args.pair (i.added state there low))
          (λ low. group_new g h kid c.args.pair pushed (subst (λ n. kid < n) (sym i.count) low));
    }

pub returns-clause-added : goal.returns-clause-added
returns-clause-added c state there low =
    let all : take c.loop-kid.kid-index c.args.kids.now ≡ c.args.kids.now = take_all c.loop-kid.kid-index c.args.kids.now (omega arith) in
    c.loop-kid.invariant.added state (subst (λ (zs : List ℕ). Contains zs state) (sym all) there) low
