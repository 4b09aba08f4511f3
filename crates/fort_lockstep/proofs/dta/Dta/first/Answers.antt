use Rattle.std.proofs.Common.{◌<◌, length, subst}
use Rattle.fort_tables.specs.Entries.{Entry}
use Rattle.fort_tables.specs.Tables.{IsFirstWith}
use Rattle.fort_lockstep.specs.DtaInside.{listed_in}
use Rattle.fort_lockstep.proofs.dta.Dta.first.Goals as goal

pub returns : goal.returns
returns c =
    let t = listed_in c.self.inside in
    let q = c.args.q in
    let r = c.get.result in
    let at : q < length t.presences = rw (← c.self.view_is) at c.requires in
    let first = c.self.invariant.firsts.are q r at in
    let is = rw c.as_ref.ensures at (c.get.ensures r) in
    rw (← c.self.view_is) (subst (λ (e : Entry). IsFirstWith t.entries t.targets q e) is first)
