use Rattle.std.proofs.Common.{◌≡◌, ℕ, ◌+◌, List, [], ◌∷◌, ◌++◌, ◌∙◌, length, take, sym, ap, arith}
use Rattle.std.proofs.lemmas.List.{take_more, length-take}
use Rattle.fort_tree_automata.specs.declared.nta.Move.{Move}
use Rattle.fort_gtt_closure.specs.Scans.{targets}
use Rattle.fort_gtt_closure.proofs.TargetLaws.{targets-push}
use Rattle.fort_gtt_closure.proofs.links.targets.Goals as goal

pub loop-k-preserved : goal.loop-k-preserved
loop-k-preserved c =
    let moves = c.args.moves.now in
    let k = c.loop-k.k in
    let item = c.index-moves-k.result in
    let whole : take (k + 1) moves ≡ take k moves ++ item ∷ [] =
    take_more moves k item c.loop-k-test.true ∙ ap (λ (m : Move). take k moves ++ m ∷ []) (sym c.index-moves-k.is) in
    let place : 0 + length (take k moves) ≡ k = (let lt = c.loop-k-test.true in simp length-take (omega arith)) in
    c.in_ok-push.ensures.items
    ∙ (ap (λ (xs : List (ℕ × ℕ)). xs ++ (item.target, k) ∷ []) c.loop-k.invariant
    ∙ sym (ap (targets 0) whole ∙ (targets-push 0 (take k moves) item ∙ ap (λ (n : ℕ). targets 0 (take k moves) ++ (item.target, n) ∷ []) place)))
