use Rattle.std.proofs.Common.{◌≡◌, ◌+◌, ◌-◌, ◌^◌, ◌<◌, length, ap, ◌∙◌, arith}
use Rattle.fort_tables.specs.Tuples.{kid_presence}
use Rattle.fort_classed_tables.proofs.KidLaws.{room_turn}
use Rattle.fort_classed_tables.proofs.counted.Counted.room.Goals as goal

pub loop-i-preserved : goal.loop-i-preserved
loop-i-preserved c =
    let s = c.args.self.now in
    let f = c.args.symbol.now in
    let i = c.loop-i.i in
    let w = kid_presence s.table.now.signature f in
    let p = c.kid_presence-presence.result in
    let value : p ≡ w (c.args.from + i) = c.kid_presence-presence.ensures.value ∙ ap (λ sig. kid_presence sig f (c.args.from + i)) c.signature-signature.ensures in
    let low : p < length s.counts.now = omega (arith, c.kid_presence-presence.ensures.bound, c.requires.counted.size, ap (λ n. 2 ^ n) c.requires.width) in
    room_turn s.table.now.presences s.counts.now w c.args.from i p c.loop-i.room c.saturating_mul-room.result (2 ^ 64 - 1) c.requires.counted.counts_are value low
    c.loop-i.invariant c.saturating_mul-room.ensures
