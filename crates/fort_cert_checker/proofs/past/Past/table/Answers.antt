use Rattle.std.proofs.Common.{get_or, ap, refl}
use Rattle.fort_check_steps.specs.declared.room.PartRoom.{PartRoom}
use Rattle.fort_cert_checker.proofs.PastLaws.{table_holds, table_made, table_room}
use Rattle.fort_cert_checker.proofs.past.Past.table.Goals as goal

pub new-requires : goal.new-requires
new-requires c =
    let h = c.requires.1 in
    table_holds c.args.self.now c.args.source c.requires.0 h c.index-self-source.result (get_or c.args.self.now.rooms.now c.args.source.part c.index-self-source-2.result) c.targets_of.result.now (get_or c.args.self.now.plans.now c.args.source.part c.index-self-source.result).columns (ap (λ (d : PartRoom). get_or c.args.self.now.rooms.now c.args.source.part d) c.index-self-source-2.is) refl
    (c.targets_of.ensures.own h.targets h.only)

pub returns-clause-is : goal.returns-clause-is
returns-clause-is c table h =
    table_made c.args.self.now c.args.source table h c.index-self-source.result (get_or c.args.self.now.rooms.now c.args.source.part c.index-self-source-2.result) c.targets_of.result.now (get_or c.args.self.now.plans.now c.args.source.part c.index-self-source.result).columns (ap (λ (d : PartRoom). get_or c.args.self.now.rooms.now c.args.source.part d) c.index-self-source-2.is) refl
    (c.targets_of.ensures.own h.targets h.only) c.new.result c.new.ensures.table c.new.ensures.turns

pub returns-clause-room : goal.returns-clause-room
returns-clause-room c table h =
    table_room c.args.self.now c.args.source table h c.index-self-source.result (get_or c.args.self.now.rooms.now c.args.source.part c.index-self-source-2.result) c.targets_of.result.now (get_or c.args.self.now.plans.now c.args.source.part c.index-self-source.result).columns (ap (λ (d : PartRoom). get_or c.args.self.now.rooms.now c.args.source.part d) c.index-self-source-2.is) refl
    (c.targets_of.ensures.own h.targets h.only) c.new.result c.new.ensures.table
