use Rattle.std.proofs.Common.{◌<◌, length, arith, rules}
use Rattle.fort_target_lists.proofs.ListLaws.{symbols_within}
use Rattle.fort_target_lists.proofs.target_list.TargetList.lay.Goals as goal

pub lay-requires-clause-list_room : goal.lay-requires-clause-list_room
lay-requires-clause-list_room c =
    let sig = c.args.signature.now in
    let targets = c.args.targets.now in
    let room = c.requires.list_room in
    let some : 0 < length targets = search (rules, c.is_empty-2.ensures, c.if-is_empty.false) in
    let within = symbols_within c.requires.table.0 sig c.args.columns c.args.presences.now targets c.requires.table.1 some in
    record {
      spots = record { ranks = room.ranks; alike = room.alike };
      starts = omega (arith, within, room.starts);
      targets = room.targets;
    }
