use Rattle.std.proofs.Common.{List, map, refl, subst, arith}
use Rattle.fort_label_bits.specs.RootPlaces.{IsRooted}
use Rattle.fort_relation_exprs.specs.Sides.{move_in, move_roots}
use Rattle.fort_relation_exprs.specs.declared.side.Side.{Side}
use Rattle.fort_relation_exprs.specs.declared.side.SideMove.{SideMove}
use Rattle.fort_relation_exprs.proofs.SideLaws.{IsMade, IsSide-made, AreMovesOf-made}
use Rattle.fort_relation_exprs.proofs.side.Side.new.Goals as goal

pub returns-clause-side : goal.returns-clause-side
returns-clause-side c =
    let side : Side = record { count = c.args.nta.now.states; moves = c.in_ok-moves.moves; roots = c.in_ok-roots.roots; leads = c.in_ok-leads.leads } in
    let made : IsMade c.args.nta.now c.args.base c.args.width side = record {
      few = omega arith;
      count = refl;
      moves = c.in_ok-moves.ensures;
      roots = subst (λ (ms : List SideMove). IsRooted (move_roots (map move_in ms)) side.roots) c.as_slice.ensures.value c.in_ok-roots.ensures;
      leads = c.in_ok-leads.ensures;
    } in
    IsSide-made c.args.nta.now c.args.base c.args.width side c.requires.named made

pub returns-clause-moves : goal.returns-clause-moves
returns-clause-moves c =
    let side : Side = record { count = c.args.nta.now.states; moves = c.in_ok-moves.moves; roots = c.in_ok-roots.roots; leads = c.in_ok-leads.leads } in
    AreMovesOf-made c.args.nta.now c.args.base c.args.width side c.requires.named c.in_ok-moves.ensures c.in_ok-leads.ensures
