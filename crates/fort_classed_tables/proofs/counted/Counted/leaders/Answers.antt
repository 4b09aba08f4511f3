use Rattle.std.proofs.Common.{ℕ, ◌<◌, List, length, get_or, ap, ◌∙◌, arith, subst}
use Rattle.std.proofs.lemmas.Result.{IfOk-weaker}
use Rattle.fort_tables.specs.Tuples.{kid_presence}
use Rattle.fort_tables.specs.Tables.{listed_table}
use Rattle.fort_target_lists.proofs.PlaceLaws.{room}
use Rattle.fort_classed_tables.specs.ColumnLeaders.{AreLedStates}
use Rattle.fort_classed_tables.proofs.PlaceTargets.{rank_low, columns_within}
use Rattle.fort_classed_tables.proofs.PlaceLaws.{led_place}
use Rattle.fort_classed_tables.proofs.counted.Counted.leaders.Goals as goal

pub leaders_by-requires-clause-within : goal.leaders_by-requires-clause-within
leaders_by-requires-clause-within c =
    let s = c.args.self.now in
    let t = listed_table s.table.now in
    let f = c.args.symbol.now in
    let w = kid_presence t.signature f in
    let some : 0 < room t.presences w 0 c.args.kids = omega (arith, c.room.ensures, c.if-room-eq0.false) in
    columns_within t s.flat.now f c.args.place c.requires.counted.flat_is c.requires.symbol (omega (arith, c.requires.place, c.requires.kids)) (subst (λ n. 0 < room t.presences w 0 n) c.requires.kids some)
    c.columns-columns.result c.columns-columns.ensures

pub leaders_by-requires-clause-ranks : goal.leaders_by-requires-clause-ranks
leaders_by-requires-clause-ranks c = λ q l e.
    let s = c.args.self.now in
    let t = listed_table s.table.now in
    let f = c.args.symbol.now in
    let value = c.kid_presence-presence.ensures.value ∙ ap (λ sig. kid_presence sig f c.args.place) c.signature.ensures in
    let low = rank_low t s.flat.now f c.args.place c.columns-columns.result c.requires.counted.flat_is c.columns-columns.ensures q l (e ∙ value) in
    omega (arith, low, ap (λ (xs : List ℕ). get_or xs q 0) c.as_slice-ranks.ensures.value)

pub returns : goal.returns
returns c =
    let s = c.args.self.now in
    let t = listed_table s.table.now in
    let f = c.args.symbol.now in
    let j = c.args.place in
    let w = kid_presence t.signature f in
    let columns = c.columns-columns.result in
    let n = length t.presences in
    let some : 0 < room t.presences w 0 c.args.kids = omega (arith, c.room.ensures, c.if-room-eq0.false) in
    let within = columns_within t s.flat.now f j c.requires.counted.flat_is c.requires.symbol (omega (arith, c.requires.place, c.requires.kids)) (subst (λ n. 0 < room t.presences w 0 n) c.requires.kids some)
    columns c.columns-columns.ensures in
    let value = c.kid_presence-presence.ensures.value ∙ ap (λ sig. kid_presence sig f j) c.signature.ensures in
    IfOk-weaker c.leaders_by.result _ _
    (λ ls led.
    led_place t s.flat.now f j columns ls.items c.requires.counted.flat_is c.columns-columns.ensures within
    (subst (λ (ranks : List ℕ). AreLedStates columns ranks t.presences (w j) n ls.items) c.as_slice-ranks.ensures.value
    (subst (λ p. AreLedStates columns c.as_slice-ranks.result.now t.presences p n ls.items) value led)))
    c.leaders_by.ensures
