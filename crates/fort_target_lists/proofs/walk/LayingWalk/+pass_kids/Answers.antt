use Rattle.std.proofs.Common.{◌≡◌, ℕ, suc, ◌+◌, ◌-◌, ◌^◌, ◌<◌, ◌≤◌, List, Vec, Global, length, get_or, vec_capacity, ap, refl, sym, ◌∙◌, arith, subst}
use Rattle.fort_theory.specs.Signatures.{Signature}
use Rattle.fort_tables.specs.Tuples.{AreSymbols, kid_presence}
use Rattle.fort_target_lists.specs.Chains.{IsFirstFrom}
use Rattle.fort_target_lists.specs.Walks.{HasPassedBehind}
use Rattle.fort_target_lists.proofs.WalkTurns.{next_stop, turn_first, turn_next, turn_last, stop_next, stop_end, passed_end}
use Rattle.fort_target_lists.proofs.walk.LayingWalk.+pass_kids.Goals as goal
use Rattle.fort_target_lists.proofs.walk.LayingWalk.+pass_kids.Goals.{then-rest-eq1, else-rest-eq1}

pub kid_presence-requires : goal.kid_presence-requires
kid_presence-requires t c =
    let p = c.requires.at.0 in
    let h = c.requires.at.1 in
    subst (λ (sig : Signature). AreSymbols sig c.args.symbol.now) (sym h.goes.signature) h.symbol.symbols

pub first-q-requires : goal.first-q-requires
first-q-requires t c =
    let h = c.requires.at.1 in
    omega (arith, c.kid_presence.ensures.bound, h.goes.chains.size, ap (λ n. 2 ^ n) h.symbol.width)

pub states-init : goal.states-init
states-init t c = record {
  turn = λ p h v.
      let w : c.kid_presence.result ≡ kid_presence p.table.signature c.args.symbol.now c.args.j = c.kid_presence.ensures.value ∙ ap (λ s. kid_presence s c.args.symbol.now c.args.j) h.goes.signature in
      let low : c.kid_presence.result < 2 ^ p.table.columns = omega (arith, c.kid_presence.ensures.bound, ap (λ n. 2 ^ n) h.symbol.width) in
      let first = subst (λ (q : ℕ). IsFirstFrom p.table.presences 0 c.kid_presence.result q) (sym c.first-q.ensures) (h.goes.chains.first c.kid_presence.result low) in
      turn_first p c.args.self.now c.args.symbol.now c.args.j (c.args.rest - 1) c.kid_presence.result c.first-q.result c.args.cursors.now c.args.laid.now.items w first v;
  room = refl;
}

pub pass-requires-clause-at : goal.pass-requires-clause-at
pass-requires-clause-at t c =
    let p = c.requires.at.0 in
    let h = c.requires.at.1 in
    let walk = c.args.self.now in
    let f = c.args.symbol.now in
    let v = c.states.invariant.turn p h c.requires.at.2 in
    let low : c.states.q < length p.table.presences = omega (arith, c.states-test.true, c.len-states.ensures, h.goes.chains.states) in
    let next = stop_next p walk f c.args.latest c.args.j c.args.rest c.states.q c.max-stage.result c.states.cursors c.states.laid.items c.requires.some c.max-stage.ensures low h v in
    let stop = next_stop p f c.args.j (c.args.rest - 1) c.states.q next.0 in
    (f, stop, stop_end stop walk f c.max-stage.result (c.args.j + 1) (c.args.rest - 1) (omega (arith, c.if-rest-eq1.true)) next.1, v.passed)

pub pass-requires-clause-room : goal.pass-requires-clause-room
pass-requires-clause-room t c = λ b. omega (arith, c.requires.room b, c.states.invariant.room)

pub pass_kids-requires : goal.pass_kids-requires
pass_kids-requires t c =
    let p = c.requires.at.0 in
    let h = c.requires.at.1 in
    let walk = c.args.self.now in
    let f = c.args.symbol.now in
    let v = c.states.invariant.turn p h c.requires.at.2 in
    let low : c.states.q < length p.table.presences = omega (arith, c.states-test.true, c.len-states.ensures, h.goes.chains.states) in
    let next = stop_next p walk f c.args.latest c.args.j c.args.rest c.states.q c.max-stage.result c.states.cursors c.states.laid.items c.requires.some c.max-stage.ensures low h v in
    let stop = next_stop p f c.args.j (c.args.rest - 1) c.states.q next.0 in
    let few = c.requires.few in
    let some : 0 < c.args.rest - 1 = omega (arith, c.if-rest-eq1.false, c.requires.some) in
    (omega (arith, c.decreases, c.requires.some), (some, (omega (arith, few, some), ((stop, next.1, v.passed), λ b. omega (arith, c.requires.room b, c.states.invariant.room)))))

pub states-preserved : goal.states-preserved
states-preserved t c = record {
  turn = λ p h old.
      let walk = c.args.self.now in
      let f = c.args.symbol.now in
      let j = c.args.j in
      let n = c.args.rest - 1 in
      let q = c.states.q in
      let v = c.states.invariant.turn p h old in
      let low : q < length p.table.presences = omega (arith, c.states-test.true, c.len-states.ensures, h.goes.chains.states) in
      let next = stop_next p walk f c.args.latest j c.args.rest q c.max-stage.result c.states.cursors c.states.laid.items c.requires.some c.max-stage.ensures low h v in
      let stop = next_stop p f j n q next.0 in
      let F : List ℕ → Vec ℕ Global → Type 0 = λ cursors laid. HasPassedBehind stop walk.lays f (j + 1) n cursors laid.items in
      let passed : F c.if-rest-eq1.cursors c.if-rest-eq1.laid =
      elim c.if-rest-eq1.branch [
        | then-rest-eq1 w ↦ (let last : n ≡ 0 = omega (arith, w.if-rest-eq1.true) in
            let made = w.pass.ensures.passed f stop (stop_end stop walk f c.max-stage.result (j + 1) n last next.1) v.passed in
            subst (λ (cs : List ℕ). F cs c.if-rest-eq1.laid) (sym w.cursors-is)
            (subst (F w.pass.new.cursors) (sym w.laid-is) (passed_end stop walk.lays f (j + 1) n w.pass.new.cursors w.pass.new.laid.items last made)))
        | else-rest-eq1 w ↦ subst (λ (cs : List ℕ). F cs c.if-rest-eq1.laid) (sym w.cursors-is)
            (subst (F w.pass_kids.new.cursors) (sym w.laid-is) (w.pass_kids.ensures.passed stop next.1 v.passed))
      ] in
      let first = subst (λ (k : ℕ). IsFirstFrom p.table.presences (suc q) (get_or p.table.presences q 0) k) (sym c.next-q.ensures) (h.goes.chains.next q (omega arith) low) in
      turn_next p walk f j n q c.next-q.result c.states.cursors c.states.laid.items c.if-rest-eq1.cursors c.if-rest-eq1.laid.items low v first passed;
  room = elim c.if-rest-eq1.branch [
    | then-rest-eq1 w ↦ ap (λ (x : Vec ℕ Global). vec_capacity x) w.laid-is ∙ (w.pass.ensures.room ∙ c.states.invariant.room)
    | else-rest-eq1 w ↦ ap (λ (x : Vec ℕ Global). vec_capacity x) w.laid-is ∙ (w.pass_kids.ensures.room ∙ c.states.invariant.room)
  ];
}

pub returns-clause-passed : goal.returns-clause-passed
returns-clause-passed t c = λ p h old.
    let v = c.states.invariant.turn p h old in
    let last : length p.table.presences ≤ c.states.q = omega (arith, c.states-test.false, c.len-states.ensures, h.goes.chains.states) in
    turn_last p c.args.self.now c.args.symbol.now c.args.j c.args.rest c.states.q c.states.cursors c.states.laid.items c.requires.some last v

pub returns-clause-room : goal.returns-clause-room
returns-clause-room t c = c.states.invariant.room
