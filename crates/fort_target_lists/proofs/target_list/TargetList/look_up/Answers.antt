use Rattle.std.proofs.Common.{arith}
use Rattle.fort_target_lists.proofs.LookUpLaws.{table_symbol_below, dense_starts}
use Rattle.fort_target_lists.proofs.target_list.TargetList.look_up.Goals as goal

pub start-start-requires : goal.start-start-requires
start-start-requires c =
    let r = c.requires in
    omega (arith, dense_starts r.0 c.args.self.now r.2 c.if-self.true, table_symbol_below r.0 r.1 r.3, r.4)
