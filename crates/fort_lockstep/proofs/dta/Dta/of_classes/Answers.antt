use Rattle.fort_tables.specs.Tables.{listed_table}
use Rattle.fort_lockstep.proofs.PartLaws.{listed_is, listed_all}
use Rattle.fort_lockstep.proofs.dta.Dta.of_classes.Goals as goal

pub invariant_of-result : goal.invariant_of-result
invariant_of-result c =
    let t = c.requires.table.0 in
    let h = c.requires.table.1 in
    let list = c.of_classes.result in
    let all = listed_all t c.args.signature c.args.columns c.args.presences.items c.args.first_entries c.args.finals.items list h (c.of_classes.ensures (listed_table t) c.requires.table.2) in
    rw c.in_ok-shared.ensures.ok
    (record { listed = all.listed; final_count = c.requires.finals; few = c.requires.few; list = all.list; firsts = all.firsts })

pub returns : goal.returns
returns c = λ t h is.
    rw c.in_ok-shared.ensures.ok
    (listed_is t c.args.signature c.args.columns c.args.presences.items c.args.first_entries c.args.finals.items c.of_classes.result h (c.of_classes.ensures (listed_table t) is))
