use Rattle.std.proofs.Common.{◌≡◌, ℕ, suc, ◌+◌, ◌-◌, ◌^◌, ◌<◌, ◌≤◌, List, [], ◌∷◌, ◌++◌, length, get_or, ap, sym, ◌∙◌, arith, subst}
use Rattle.std.proofs.lemmas.List.{take_more_set}
use Rattle.fort_theory.specs.Signatures.{Signature}
use Rattle.fort_tables.specs.Tuples.{AreSymbols, kid_presence}
use Rattle.fort_target_lists.specs.Chains.{IsFirstFrom}
use Rattle.fort_products.specs.HeldWalks.{HasHeldBehind}
use Rattle.fort_target_lists.proofs.WalkTurns.{next_stop}
use Rattle.fort_products.proofs.HoldLaws.{held_first, held_next, held_last, held_at, held_end, behind_end}
use Rattle.fort_products.proofs.held.Holding.+pass_kids.Goals as goal
use Rattle.fort_products.proofs.held.Holding.+pass_kids.Goals.{then-rest-eq1, else-rest-eq1}

pub kid_presence-requires : goal.kid_presence-requires
kid_presence-requires t c =
    let h = c.requires.at.2.stop in
    subst (λ (sig : Signature). AreSymbols sig c.args.symbol.now) (sym h.goes.signature) h.symbol.symbols

pub first-q-requires : goal.first-q-requires
first-q-requires t c =
    let h = c.requires.at.2.stop in
    omega (arith, c.kid_presence.ensures.bound, h.goes.chains.size, ap (λ n. 2 ^ n) h.symbol.width)

pub states-init : goal.states-init
states-init t c = record {
  turn = λ o p a k v.
      let h = a.stop in
      let f = c.args.symbol.now in
      let w : c.kid_presence.result ≡ kid_presence p.table.signature f c.args.j = c.kid_presence.ensures.value ∙ ap (λ s. kid_presence s f c.args.j) h.goes.signature in
      let low : c.kid_presence.result < 2 ^ p.table.columns = omega (arith, c.kid_presence.ensures.bound, ap (λ n. 2 ^ n) h.symbol.width) in
      let first = subst (λ (q : ℕ). IsFirstFrom p.table.presences 0 c.kid_presence.result q) (sym c.first-q.ensures) (h.goes.chains.first c.kid_presence.result low) in
      held_first o p c.args.self.now f c.args.j (c.args.rest - 1) c.kid_presence.result c.first-q.result c.args.cursors.now w first v;
}

pub pass-is_right-requires : goal.pass-is_right-requires
pass-is_right-requires t c =
    let o = c.requires.at.0 in
    let p = c.requires.at.1 in
    let a = c.requires.at.2 in
    let h = a.stop in
    let f = c.args.symbol.now in
    let joint = c.args.joint.now in
    let v = c.states.invariant.turn o p a c.requires.at.3 c.requires.at.4 in
    let low : c.states.q < length p.table.presences = omega (arith, c.states-test.true, c.len-states.ensures, h.goes.chains.states) in
    let next = held_at o p c.args.self.now f joint c.args.latest c.args.j c.args.rest c.states.q c.max-stage.result c.requires.some c.max-stage.ensures low a (v.has low) in
    let stop = next_stop p f c.args.j (c.args.rest - 1) c.states.q next.0 in
    let kids = take_more_set c.args.chosen c.args.j c.states.q (omega (arith, c.requires.few, c.requires.some)) in (
      o,
      f,
      stop,
      held_end o stop c.args.self.now f joint c.max-stage.result (c.args.j + 1) (c.args.rest - 1) (omega (arith, c.if-rest-eq1.true)) next.1,
      kids ∙ ap (λ ks. ks ++ c.states.q ∷ []) c.requires.at.3,
      v.passed,
    )

pub pass_kids-is_right-requires : goal.pass_kids-is_right-requires
pass_kids-is_right-requires t c =
    let o = c.requires.at.0 in
    let p = c.requires.at.1 in
    let a = c.requires.at.2 in
    let h = a.stop in
    let f = c.args.symbol.now in
    let joint = c.args.joint.now in
    let v = c.states.invariant.turn o p a c.requires.at.3 c.requires.at.4 in
    let low : c.states.q < length p.table.presences = omega (arith, c.states-test.true, c.len-states.ensures, h.goes.chains.states) in
    let next = held_at o p c.args.self.now f joint c.args.latest c.args.j c.args.rest c.states.q c.max-stage.result c.requires.some c.max-stage.ensures low a (v.has low) in
    let stop = next_stop p f c.args.j (c.args.rest - 1) c.states.q next.0 in
    let kids = take_more_set c.args.chosen c.args.j c.states.q (omega (arith, c.requires.few, c.requires.some)) in
    let some : 0 < c.args.rest - 1 = omega (arith, c.if-rest-eq1.false, c.requires.some) in
    (omega (arith, c.decreases, c.requires.some), (some, (omega (arith, c.requires.few, some), (o, stop, next.1, kids ∙ ap (λ ks. ks ++ c.states.q ∷ []) c.requires.at.3, v.passed))))

pub states-preserved : goal.states-preserved
states-preserved t c = record {
  turn = λ o p a k old.
      let h = a.stop in
      let hold = c.args.self.now in
      let f = c.args.symbol.now in
      let joint = c.args.joint.now in
      let j = c.args.j in
      let n = c.args.rest - 1 in
      let q = c.states.q in
      let v = c.states.invariant.turn o p a k old in
      let low : q < length p.table.presences = omega (arith, c.states-test.true, c.len-states.ensures, h.goes.chains.states) in
      let next = held_at o p hold f joint c.args.latest j c.args.rest q c.max-stage.result c.requires.some c.max-stage.ensures low a (v.has low) in
      let stop = next_stop p f j n q next.0 in
      let kids = take_more_set c.args.chosen j q (omega (arith, c.requires.few, c.requires.some)) ∙ ap (λ ks. ks ++ q ∷ []) k in
      let F : List ℕ → Type 0 = λ cursors. HasHeldBehind o stop hold f (j + 1) n cursors in
      let passed : F c.if-rest-eq1.cursors =
      elim c.if-rest-eq1.branch [
        | then-rest-eq1 w ↦ (let last : n ≡ 0 = omega (arith, w.if-rest-eq1.true) in
            let fine = sym w.is_right-is ∙ c.if-not-is_right.false in
            let made = w.pass-is_right.ensures o f stop (held_end o stop hold f joint c.max-stage.result (j + 1) n last next.1) kids v.passed fine in
            subst F (sym w.cursors-is) (behind_end o stop hold f (j + 1) n w.pass-is_right.new.cursors last made))
        | else-rest-eq1 w ↦ (let fine = sym w.is_right-is ∙ c.if-not-is_right.false in
            subst F (sym w.cursors-is) (w.pass_kids-is_right.ensures o stop next.1 kids v.passed fine))
      ] in
      let first = subst (λ (m : ℕ). IsFirstFrom p.table.presences (suc q) (get_or p.table.presences q 0) m) (sym c.next-q.ensures) (h.goes.chains.next q (omega arith) low) in
      held_next o p hold f j n q c.next-q.result c.states.cursors c.if-rest-eq1.cursors low v first passed;
}

pub returns : goal.returns
returns t c = λ o p a k old b.
    let v = c.states.invariant.turn o p a k old in
    let last : length p.table.presences ≤ c.states.q = omega (arith, c.states-test.false, c.len-states.ensures, a.stop.goes.chains.states) in
    held_last o p c.args.self.now c.args.symbol.now c.args.j c.args.rest c.states.q c.states.cursors c.requires.some last v
