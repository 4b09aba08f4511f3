use Rattle.std.proofs.Common.{◌≡◌, ℕ, ◌+◌, get_or, drop, Vec, Global, ◌∙◌, sym, arith, subst}
use Rattle.std.proofs.lemmas.List.{get_or_default}
use Rattle.fort_tables.specs.Tables.{Table}
use Rattle.fort_infinity.specs.Rankings.{rank_of, AreTried, AreReady, HasUnranked}
use Rattle.fort_infinity.proofs.TryLaws.{OnErr-always, children_within, room_for, tried_within, skipped, advanced, tried_unranked}
use Rattle.fort_infinity.proofs.ranks.Ranking.round.Goals as goal
use Rattle.fort_infinity.proofs.ranks.Ranking.round.Goals.{then-index-eq0+in_ok-advance, else-index-eq0}

pub index-requires : goal.index-requires
index-requires c =
    let w = c.requires.ready in
    let h = c.loop-q.invariant w.0 w.1 w.2 in
    let room = room_for w.0 w.1 c.args.children.now c.args.round c.args.self.now c.loop-q.self (drop c.loop-q.q-index c.args.tried.now) c.loop-q.ranked.items h in
    omega (arith, tried_within w.0 w.1 c.args.children.now c.args.round c.args.self.now c.loop-q.self c.args.tried.now c.loop-q.q-index c.loop-q.ranked.items w.2 c.loop-q-test.true h, room.ranks, c.loop-q.self.ranks.ok.0)

pub advance-requires-clause-room : goal.advance-requires-clause-room
advance-requires-clause-room c =
    let w = c.requires.ready in
    room_for w.0 w.1 c.args.children.now c.args.round c.args.self.now c.loop-q.self (drop c.loop-q.q-index c.args.tried.now) c.loop-q.ranked.items (c.loop-q.invariant w.0 w.1 w.2)

pub advance-requires-clause-state : goal.advance-requires-clause-state
advance-requires-clause-state c =
    let w = c.requires.ready in
    tried_within w.0 w.1 c.args.children.now c.args.round c.args.self.now c.loop-q.self c.args.tried.now c.loop-q.q-index c.loop-q.ranked.items w.2 c.loop-q-test.true (c.loop-q.invariant w.0 w.1 w.2)

pub advance-requires-clause-children : goal.advance-requires-clause-children
advance-requires-clause-children c =
    let w = c.requires.ready in
    children_within w.0 w.1 c.args.children.now w.2.start.column w.2.start.are_children

pub loop-q-preserved : goal.loop-q-preserved
loop-q-preserved c = λ body column ready.
    let children = c.args.children.now in
    let tried = c.args.tried.now in
    let i = c.loop-q.q-index in
    let q = get_or tried i 0 in
    let s = c.loop-q.self in
    let h = c.loop-q.invariant body column ready in
    let room = room_for body column children c.args.round c.args.self.now s (drop i tried) c.loop-q.ranked.items h in
    let within = tried_within body column children c.args.round c.args.self.now s tried i c.loop-q.ranked.items ready c.loop-q-test.true h in
    let rank : c.index.result.now ≡ rank_of s q = c.index.ensures ∙ get_or_default s.ranks.items q c.index.result.now 0 (omega (arith, within, room.ranks)) in
    elim c.if-index-eq0.branch [
      | then-index-eq0+in_ok-advance w ↦
          let none : rank_of s q ≡ 0 = sym rank ∙ w.if-index-eq0.true in
          let now = advanced body column children c.args.round c.args.self.now s tried i c.loop-q.ranked.items ready c.loop-q-test.true h w.advance.new.self w.advance.new.ranked.items none w.in_ok-advance.ensures.advanced in
          subst (λ (z : Vec ℕ Global). AreTried body column children c.args.round c.args.self.now c.if-index-eq0.self (drop (i + 1) tried) z.items) (sym w.ranked-is)
          (subst (λ z. AreTried body column children c.args.round c.args.self.now z (drop (i + 1) tried) w.advance.new.ranked.items) (sym w.self-is) now)
      | else-index-eq0 w ↦
          let now = skipped body column children c.args.round c.args.self.now s tried i c.loop-q.ranked.items ready c.loop-q-test.true h c.index.result.now (sym rank) w.if-index-eq0.false in
          subst (λ (z : Vec ℕ Global). AreTried body column children c.args.round c.args.self.now c.if-index-eq0.self (drop (i + 1) tried) z.items) (sym w.ranked-is)
          (subst (λ z. AreTried body column children c.args.round c.args.self.now z (drop (i + 1) tried) c.loop-q.ranked.items) (sym w.self-is) now)
    ]

pub returns-in_err-advance-clause-memory : goal.returns-in_err-advance-clause-memory
returns-in_err-advance-clause-memory c =
    let children = c.args.children.now in
    let tried = c.args.tried.now in
    let i = c.loop-q.q-index in
    let s = c.loop-q.self in
    let wanted : (body : Table) (column : ℕ) → AreReady body column children c.args.round c.args.self.now tried → HasUnranked body column c.advance.new.self =
    λ body column ready.
    let h = c.loop-q.invariant body column ready in
    let room = room_for body column children c.args.round c.args.self.now s (drop i tried) c.loop-q.ranked.items h in
    let within = tried_within body column children c.args.round c.args.self.now s tried i c.loop-q.ranked.items ready c.loop-q-test.true h in
    let rank : c.index.result.now ≡ rank_of s (get_or tried i 0) = c.index.ensures ∙ get_or_default s.ranks.items (get_or tried i 0) c.index.result.now 0 (omega (arith, within, room.ranks)) in
    tried_unranked body column children c.args.round c.args.self.now s tried i c.loop-q.ranked.items ready c.loop-q-test.true h c.advance.new.self (sym rank ∙ c.if-index-eq0.true) c.in_err-advance.ensures.memory in
    OnErr-always c.from_residual.result _ wanted
