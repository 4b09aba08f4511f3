use Rattle.std.proofs.Common.{◌≡◌, ℕ, suc, ◌+◌, ◌-◌, ◌<◌, set, length, get_or, refl, sym, ◌∙◌, arith, subst}
use Rattle.std.proofs.lemmas.List.{length-set}
use Rattle.fort_target_lists.specs.Chains.{AreChainsFrom}
use Rattle.fort_target_lists.proofs.ChainLaws.{chains_none, chains_more}
use Rattle.fort_target_lists.proofs.states.chain_states.Goals as goal

pub loop-k-init : goal.loop-k-init
loop-k-init c = record {
  size = refl;
  chains = λ columns size.
      let ps = c.args.presences.now in
      let all : length ps - 0 ≡ length ps = omega arith in
      subst (λ (n : ℕ). AreChainsFrom columns n ps c.args.firsts.now c.args.nexts.now) (sym all)
      (chains_none columns ps c.args.firsts.now c.args.nexts.now size c.requires.states (λ w l. c.requires.none w (omega (arith, l, size))));
}

pub loop-k-preserved : goal.loop-k-preserved
loop-k-preserved c = record {
  size = length-set c.loop-k.firsts (get_or c.args.presences.now (length c.args.presences.now - 1 - c.loop-k.k) 0) (length c.args.presences.now - 1 - c.loop-k.k) ∙ c.loop-k.invariant.size;
  chains = λ columns size.
      let ps = c.args.presences.now in
      let k = c.loop-k.k in
      let q = length ps - 1 - k in
      let p = get_or ps q 0 in
      let there : q < length ps = omega (arith, c.loop-k-test.true) in
      let low = c.requires.within q there in
      let here : length ps - k ≡ suc q = omega (arith, c.loop-k-test.true) in
      let next : q ≡ length ps - (k + 1) = omega arith in
      let h = subst (λ (n : ℕ). AreChainsFrom columns n ps c.loop-k.firsts c.loop-k.nexts) here (c.loop-k.invariant.chains columns size) in
      subst (λ (n : ℕ). AreChainsFrom columns n ps (set c.loop-k.firsts p q) (set c.loop-k.nexts q (get_or c.loop-k.firsts p 0))) next
      (chains_more columns ps c.loop-k.firsts c.loop-k.nexts q p there refl (omega (arith, low, size)) h);
}

pub returns : goal.returns
returns c = λ columns size.
    let ps = c.args.presences.now in
    let all : length ps - c.loop-k.k ≡ 0 = omega (arith, c.loop-k-test.false) in
    subst (λ (n : ℕ). AreChainsFrom columns n ps c.loop-k.firsts c.loop-k.nexts) all (c.loop-k.invariant.chains columns size)
