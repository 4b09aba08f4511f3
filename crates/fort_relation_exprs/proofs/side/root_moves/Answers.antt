use Rattle.std.proofs.Common.{◌≡◌, ℕ, List, map, get_or, sym, ap, ◌∙◌, arith}
use Rattle.std.proofs.lemmas.List.{get_or-map, length-map}
use Rattle.fort_alike.specs.PatternNumbers.{PatternNumber}
use Rattle.fort_label_bits.specs.RootPlaces.{root_of}
use Rattle.fort_label_bits.proofs.RootPlaceLaws.{rooted_next}
use Rattle.fort_relation_exprs.specs.Sides.{move_in}
use Rattle.fort_relation_exprs.specs.declared.side.SideMove.{SideMove}
use Rattle.fort_relation_exprs.proofs.side.root_moves.Goals as goal

pub loop-k-preserved : goal.loop-k-preserved
loop-k-preserved c =
    let k = c.loop-k.k in
    let moves : List (PatternNumber × ℕ) = map move_in c.args.moves.now in
    let step : SideMove = c.index-moves-k.result in
    let here : move_in step ≡ get_or moves k (move_in step) = ap move_in c.index-moves-k.is ∙ sym (get_or-map move_in c.args.moves.now k step (move_in step) c.loop-k-test.true) in
    rooted_next (λ (m : PatternNumber × ℕ). root_of m.0) moves k (move_in step) _ _ _ (omega (arith, c.loop-k-test.true, length-map c.args.moves.now move_in)) here
    c.root.ensures c.loop-k.invariant c.in_ok-push.ensures
