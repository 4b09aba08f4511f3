use Rattle.std.proofs.Common.{◌≡◌, ℕ, ◌*◌, ◌<◌, [], ap, length, get_or, arith, subst}
use Rattle.fort_labels.specs.RowsView.{Labels}
use Rattle.fort_tables.proofs.PieceLaws.{length-pieces}
use Rattle.fort_labels.proofs.RowLaws.{width-pieces}
use Rattle.fort_labels.proofs.rows.Rows.make_room.Goals as goal

pub returns-in_ok-reserve-clause-room : goal.returns-in_ok-reserve-clause-room
returns-in_ok-reserve-clause-room c = omega (arith, length-pieces c.self.inside.width c.self.inside.count c.reserve.new.self.items, c.self.invariant.within)

pub returns-else-self-clause-room : goal.returns-else-self-clause-room
returns-else-self-clause-room c =
    let room = ap (λ (r : Labels). r.room) c.self.view_is in
    let count = ap (λ (r : Labels). length r.labels) c.self.view_is in
    omega (arith, length-pieces c.self.inside.width c.self.inside.count c.self.inside.words.items, c.self.invariant.within, c.if-self.false)

pub returns-in_ok-reserve-clause-widths : goal.returns-in_ok-reserve-clause-widths
returns-in_ok-reserve-clause-widths c =
    let a = c.self.inside in
    let size : length c.reserve.new.self.items ≡ a.count * a.width = omega (arith, ap length c.reserve.ensures.items, c.self.invariant.words) in
    width-pieces a.width a.count c.reserve.new.self.items size

pub returns-in_err-reserve-clause-widths : goal.returns-in_err-reserve-clause-widths
returns-in_err-reserve-clause-widths c =
    let a = c.self.inside in
    let size : length c.reserve.new.self.items ≡ a.count * a.width = omega (arith, ap length c.reserve.ensures.items, c.self.invariant.words) in
    width-pieces a.width a.count c.reserve.new.self.items size

pub returns-else-self-clause-widths : goal.returns-else-self-clause-widths
returns-else-self-clause-widths c =
    let a = c.self.inside in
    subst (λ (r : Labels). (q : ℕ) → q < length r.labels → length (get_or r.labels q []) ≡ r.width) c.self.view_is
    (width-pieces a.width a.count a.words.items c.self.invariant.words)
