use Rattle.std.proofs.Common.{◌≡◌, ◌+◌, true, false, ◌==◌, sym, ◌∙◌, ⊎_elim}
use Rattle.std.proofs.lemmas.Bool.{cases_Bool}
use Rattle.fort_tables.proofs.EqualTests.{equal_from_test}
use Rattle.fort_classed_tables.specs.ColumnLeaders.{AreLedStates, AreMet}
use Rattle.fort_classed_tables.proofs.MetLaws.{led_there, led_elsewhere}
use Rattle.fort_classed_tables.proofs.leaders.leaders_by.Goals as goal

pub loop-q-preserved : goal.loop-q-preserved
loop-q-preserved c =
    let columns = c.args.columns.now in
    let ranks = c.args.ranks.now in
    let ps = c.args.table.now.presences in
    let w = c.args.presence in
    let q = c.loop-q.q in
    let l = c.in_ok-leader.leader in
    let old = c.loop-q.met in
    let met = c.leader.new.self in
    let leaders = c.loop-q.leaders.items in
    let new = c.push.new.self.items in
    let inv = c.loop-q.invariant in
    let made = c.in_ok-push.ensures.items in
    let step : AreLedStates columns ranks ps w (q + 1) new × AreMet columns ranks ps w (q + 1) met new = ⊎_elim
    (λ (b : (c.presence.result == w) ≡ true).
    led_there columns ranks ps w q leaders new l made inv.led old met inv.met_are (sym c.presence.ensures ∙ equal_from_test c.presence.result w b) (c.in_ok-leader.ensures.there b))
    (λ (b : (c.presence.result == w) ≡ false).
    let r = c.in_ok-leader.ensures.not_there b in
    led_elsewhere columns ranks ps w q leaders new l made inv.led old met inv.met_are r.0 r.1)
    (cases_Bool (c.presence.result == w)) in
    record { led = step.0; met_are = step.1 }
