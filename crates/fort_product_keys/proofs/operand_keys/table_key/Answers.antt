use Rattle.std.proofs.Common.{◌-◌, sym, ◌∙◌, arith}
use Rattle.fort_product_keys.proofs.ViewedStates.{viewed_at, seen_in}
use Rattle.fort_product_keys.proofs.operand_keys.table_key.Goals as goal

pub overflow_cast-view : goal.overflow_cast-view
overflow_cast-view g c =
    let at = viewed_at (g.T.Table.table c.args.table.now) c.args._places.now (g.T.TableClasses.view_number c.args.table.now) c.args.view.number c.args.view.presence c.requires c.if-view-eq0.false in
    omega (arith, at.view_is, g.met.T.TableClasses.few c.args.table.now at.symbol at.place at.under)

pub leader-requires : goal.leader-requires
leader-requires g c =
    let table = g.T.Table.table c.args.table.now in
    let number = g.T.TableClasses.view_number c.args.table.now in
    let at = viewed_at table c.args._places.now number c.args.view.number c.args.view.presence c.requires c.if-view-eq0.false in
    seen_in table number c.args.view.number c.args.view.presence (c.args.word - 1) at
    (omega (arith, c.if-word-eq0.false, c.if-word-from.false, c.from.ensures, c.states.ensures.count))
    (sym c.presence.ensures ∙ (sym c.from-2.ensures ∙ c.if-from-view.false))
