use Rattle.std.proofs.Common.{◌∙◌, ◌++◌, ℕ, List, map, take, get_or, ap, sym}
use Rattle.fort_gtt_closure.specs.Groups.{through}
use Rattle.fort_gtt_closure.proofs.ThroughLaws.{through-more}
use Rattle.fort_gtt_closure.proofs.added.through.Goals as goal

pub loop-pair-preserved : goal.loop-pair-preserved
loop-pair-preserved c =
    let pairs = c.args.pairs.now in
    let i = c.loop-pair.pair-index in
    let g = c.args.groups.now in
    let from : ℕ = (get_or pairs i (0, 0)).0 in
    c.in_ok-push_from.ensures
    ∙ (ap (λ ms. ms ++ map (λ (link : ℕ × ℕ). (from, link.1)) c.get.result.now) c.loop-pair.invariant
    ∙ (ap (λ (ls : List (ℕ × ℕ)). through g (take i pairs) ++ map (λ (link : ℕ × ℕ). (from, link.1)) ls) c.get.ensures ∙ sym (through-more g pairs i c.loop-pair-test.true)))
