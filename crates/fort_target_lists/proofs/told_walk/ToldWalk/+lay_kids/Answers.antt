use Rattle.std.proofs.Common.{◌≡◌, ℕ, suc, ◌+◌, ◌-◌, ◌^◌, ◌<◌, ◌≤◌, [], ◌∷◌, ◌++◌, take, length, get_or, ap, sym, ◌∙◌, arith, subst}
use Rattle.fort_tables.specs.Tuples.{kid_presence}
use Rattle.fort_target_lists.specs.Chains.{IsFirstFrom}
use Rattle.fort_target_lists.specs.Flats.{laid}
use Rattle.fort_target_lists.proofs.ToldLaws.{told_first, told_next, told_last, before_next}
use Rattle.fort_target_lists.proofs.told_walk.ToldWalk.+lay_kids.Goals as goal

pub states-init : goal.states-init
states-init g t c = λ body h _.
    let f = c.args.symbol.now in
    let j = c.args.j in
    let w : c.kid_presence.result ≡ kid_presence body.signature f j = c.kid_presence.ensures.value ∙ ap (λ s. kid_presence s f j) h.goes.signature in
    let low : c.kid_presence.result < 2 ^ body.columns = omega (arith, c.kid_presence.ensures.bound, ap (λ n. 2 ^ n) h.symbol.width) in
    let first = subst (λ (q : ℕ). IsFirstFrom body.presences 0 c.kid_presence.result q) (sym c.first-q.ensures) (h.goes.chains.first c.kid_presence.result low) in
    told_first body f (take j c.args.kids) j (c.args.rest - 1) c.kid_presence.result c.first-q.result c.args.laid.now.items w first

pub lay_kids-requires : goal.lay_kids-requires
lay_kids-requires g t c κs within =
    let body = c.requires.before.0 in
    let h = c.requires.before.1 in
    let turned = c.requires.before.2 in
    let j = c.args.j in
    let rest = c.args.rest in
    let q = c.states.q in
    let v = c.states.invariant body h turned in
    let low : q < length body.presences = omega (arith, c.states-test.true, c.len-states.ensures, h.goes.chains.states) in
    let some : 0 < rest - 1 = omega (arith, c.if-rest-eq1.false, c.requires.some) in
    let few = c.requires.few in
    let next = before_next body c.args.self.now c.args.symbol.now (take j c.args.kids) (take (j + 1) c.with_kid-more.result) j rest q c.requires.some c.with_kid-more.ensures low (v.has low) h in
    (omega (arith, c.decreases, c.requires.some), (within, (some, (omega (arith, few, some), (body, next, turned)))))

pub states-preserved : goal.states-preserved
states-preserved g t c = λ body h turned.
    let f = c.args.symbol.now in
    let j = c.args.j in
    let rest = c.args.rest in
    let q = c.states.q in
    let ks = take j c.args.kids in
    let old = c.states.laid.items in
    let v = c.states.invariant body h turned in
    let low : q < length body.presences = omega (arith, c.states-test.true, c.len-states.ensures, h.goes.chains.states) in
    let next = before_next body c.args.self.now f ks (take (j + 1) c.with_kid-more.result) j rest q c.requires.some c.with_kid-more.ensures low (v.has low) h in
    let made : c.lay_kids.new.laid.items ≡ old ++ laid body f (ks ++ q ∷ []) (j + 1) (rest - 1) =
    c.in_ok-lay_kids.ensures body next turned ∙ ap (λ xs. old ++ laid body f xs (j + 1) (rest - 1)) c.with_kid-more.ensures in
    let first = subst (λ (k : ℕ). IsFirstFrom body.presences (suc q) (get_or body.presences q 0) k) (sym c.next-q.ensures) (h.goes.chains.next q (omega arith) low) in
    told_next body f ks j (rest - 1) q c.next-q.result c.args.laid.now.items old c.lay_kids.new.laid.items low v first made

pub returns : goal.returns
returns g t c = λ body h turned.
    let last : length body.presences ≤ c.states.q = omega (arith, c.states-test.false, c.len-states.ensures, h.goes.chains.states) in
    told_last body c.args.symbol.now (take c.args.j c.args.kids) c.args.j c.args.rest c.states.q c.args.laid.now.items c.states.laid.items c.requires.some last (c.states.invariant body h turned)
