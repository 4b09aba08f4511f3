use Rattle.std.proofs.Common.{ℕ, List, sym, ◌∙◌, subst}
use Rattle.fort_infinity.specs.Rankings.{HasRoom, AreReady}
use Rattle.fort_infinity.proofs.RoundLaws.{ready_at_start}
use Rattle.fort_infinity.proofs.ranks.settled_ranks.Goals as goal

pub settle-requires-clause-ready : goal.settle-requires-clause-ready
settle-requires-clause-ready c =
    let w = c.requires.ready in
    let made = c.in_ok-ranking.ensures in (
      w.0,
      w.1,
      subst (λ (xs : List ℕ). AreReady w.0 w.1 c.args.children.now 0 c.in_ok-ranking.ranking xs) (sym (c.in_ok-tried.ensures.items_if_clones_equal (λ x y e. e)))
          (ready_at_start w.0 w.1 c.args.children.now c.in_ok-ranking.ranking c.args.alone.now w.2.column w.3 w.2.pure (subst (HasRoom c.in_ok-ranking.ranking) (c.states.ensures ∙ w.3.count) made.room) made.ranks made.passed made.waiting),
    )

pub returns-clause-count : goal.returns-clause-count
returns-clause-count c = c.in_ok-settle.ensures.room.ranks

pub returns-clause-settled : goal.returns-clause-settled
returns-clause-settled c = λ body column pure are.
    let made = c.in_ok-ranking.ensures in
    c.in_ok-settle.ensures.settled body column (subst (λ (xs : List ℕ). AreReady body column c.args.children.now 0 c.in_ok-ranking.ranking xs) (sym (c.in_ok-tried.ensures.items_if_clones_equal (λ x y e. e)))
    (ready_at_start body column c.args.children.now c.in_ok-ranking.ranking c.args.alone.now pure.column are pure.pure (subst (HasRoom c.in_ok-ranking.ranking) (c.states.ensures ∙ are.count) made.room) made.ranks made.passed made.waiting))
