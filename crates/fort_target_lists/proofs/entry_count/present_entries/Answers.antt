use Rattle.std.proofs.Common.{◌≡◌, ◌-◌, ◌^◌, ◌<◌, min, [], length, ap, sym, ◌∙◌, arith}
use Rattle.fort_tables.specs.Tuples.{symbol_kids, kid_presence}
use Rattle.fort_target_lists.proofs.PlaceLaws.{room}
use Rattle.fort_target_lists.proofs.EntryCounts.{room_turn, length-entries_from}
use Rattle.fort_target_lists.proofs.entry_count.present_entries.Goals as goal

pub bounds-counts-presence : goal.bounds-counts-presence
bounds-counts-presence c = omega (arith, c.kid_presence-presence.ensures.bound, c.requires.size)

pub loop-j-init : goal.loop-j-init
loop-j-init c = λ ps h. omega arith

pub loop-j-preserved : goal.loop-j-preserved
loop-j-preserved c = λ ps h.
    let sig = c.args.signature.now in
    let f = c.args.symbol.now in
    let p = c.kid_presence-presence.result in
    let low : p < length c.args.counts.now = omega (arith, c.kid_presence-presence.ensures.bound, c.requires.size) in
    room_turn ps c.args.counts.now (kid_presence sig f) c.loop-j.j p c.loop-j.entries c.saturating_mul-entries.result (2 ^ 64 - 1) h c.kid_presence-presence.ensures.value low
    (c.loop-j.invariant ps h) c.saturating_mul-entries.ensures

pub returns : goal.returns
returns c = λ ps h.
    let sig = c.args.signature.now in
    let f = c.args.symbol.now in
    let w = kid_presence sig f in
    let all : c.loop-j.j ≡ symbol_kids sig f = omega (arith, c.loop-j-test.false, c.loop-j.auto.j-end, c.kid_count-kids.ensures.count) in
    c.loop-j.invariant ps h
    ∙ ap (λ n. min n (2 ^ 64 - 1)) (ap (room ps w 0) all ∙ sym (length-entries_from sig ps f [] 0 (symbol_kids sig f)))
