use Rattle.std.proofs.Common.{None}
use Rattle.std.specs.List.{insert}
use Rattle.fort_target_lists.proofs.LookUpLaws.{absent_symbol}
use Rattle.fort_target_lists.proofs.look_up.Finder.absent.Goals as goal

pub look_up-requires : goal.look_up-requires
look_up-requires c =
    let r = c.requires in
    let h = r.3 in
    (r.0, insert r.1 r.2 None, h.list, absent_symbol r.0 r.1 r.2 h.column h.symbol, h.number)
