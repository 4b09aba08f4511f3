use Rattle.std.proofs.Common.{◌∙◌, arith}
use Rattle.fort_tables.specs.Tables.{listed_table}
use Rattle.fort_reduce.proofs.FrontLaws.{behind}
use Rattle.fort_reduce.proofs.targets.Targets.target_behind.Goals as goal

pub target_behind-requires : goal.target_behind-requires
target_behind-requires c =
    let s = c.args.self.now in
    (behind (listed_table s.table.now) s.symbol s.list.now s.start c.args.place c.args.kids.now s.finds c.requires.some c.requires.entry c.requires.place (omega (arith, c.len-count.ensures))).readable

pub returns : goal.returns
returns c =
    let s = c.args.self.now in
    c.target_behind.ensures
    ∙ (behind (listed_table s.table.now) s.symbol s.list.now s.start c.args.place c.args.kids.now s.finds c.requires.some c.requires.entry c.requires.place (omega (arith, c.len-count.ensures))).target
