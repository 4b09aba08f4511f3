use Rattle.std.proofs.Common.{map, refl}
use Rattle.fort_tree_automata.specs.NtaView.{as_move}
use Rattle.fort_tree_automata.proofs.PlaceLaws.{args-among, moves-any, moves-more}
use Rattle.fort_tree_automata.proofs.of_patterns.push_move.Goals as goal

pub places-requires-clause-among : goal.places-requires-clause-among
places-requires-clause-among c =
    rw c.as_slice.ensures (args-among c.args.patterns.now c.args.state c.index-patterns-state.result c.in-App.sym c.in-App.args c.requires.closed c.requires.there c.index-patterns-state.is c.in-App.is)

pub returns-in-Any : goal.returns-in-Any
returns-in-Any c =
    moves-any c.args.patterns.now c.args.state c.index-patterns-state.result (map as_move c.args.moves.now.items) c.requires.there c.index-patterns-state.is c.in-Any.is

pub returns-in_ok-push-in-App : goal.returns-in_ok-push-in-App
returns-in_ok-push-in-App c =
    moves-more c.args.patterns.now c.args.state c.index-patterns-state.result c.in-App.sym c.in-App.args c.args.moves.now.items c.push.new.self.items _ c.requires.there c.index-patterns-state.is
    c.in-App.is c.in_ok-push-in-App.ensures.items refl (rw c.as_slice.ensures at c.in_ok-places-in-App.ensures) refl
