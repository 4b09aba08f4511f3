use Rattle.std.proofs.Common.{◌≤◌, ◌+◌, ℕ, List, Vec, Global, length, vec_capacity, sym, subst, ◌∙◌, ap, arith}
use Rattle.std.proofs.lemmas.List.{length_push}
use Rattle.fort_tables.specs.Projections.{ArePureBelow}
use Rattle.fort_check_steps.proofs.PureStates.{pure_left, pure_push, pure_tested, impure_tested}
use Rattle.fort_check_steps.proofs.marks.put_pure.Goals as goal
use Rattle.fort_check_steps.proofs.marks.put_pure.Goals.{then-presence-column, else-presence-column}

pub loop-q-preserved : goal.loop-q-preserved
loop-q-preserved g c =
    let table = g.T.Table.table c.args.table.now in
    let P : List ℕ → Type 0 = ArePureBelow table c.args.column (c.loop-q.q + 1) in
    let low = c.requires.column in
    let narrow = c.columns-columns.ensures.lawful.narrow in
    let inv = c.loop-q.invariant in
    record {
      pure = elim c.if-presence-column.branch [
        | then-presence-column w ↦ subst (λ (v : Vec ℕ Global). P v.items) (sym w.states-is)
            (subst P (sym w.push_reserved.ensures.items) (pure_push table c.args.column c.loop-q.q c.loop-q.states.items inv.pure
            (pure_tested table c.args.column c.loop-q.q c.presence.result low narrow c.presence.ensures w.if-presence-column.true)))
        | else-presence-column w ↦ subst (λ (v : Vec ℕ Global). P v.items) (sym w.states-is)
            (pure_left table c.args.column c.loop-q.q c.loop-q.states.items inv.pure
            (impure_tested table c.args.column c.loop-q.q c.presence.result low narrow c.presence.ensures w.if-presence-column.false))
      ];
      count = elim c.if-presence-column.branch [
        | then-presence-column w ↦ subst (λ (v : Vec ℕ Global). length v.items ≤ c.loop-q.q + 1) (sym w.states-is)
            (omega (arith, ap length w.push_reserved.ensures.items, length_push c.loop-q.states.items c.loop-q.q, inv.count))
        | else-presence-column w ↦ subst (λ (v : Vec ℕ Global). length v.items ≤ c.loop-q.q + 1) (sym w.states-is) (omega (arith, inv.count))
      ];
      capacity = elim c.if-presence-column.branch [
        | then-presence-column w ↦ ap vec_capacity w.states-is ∙ (w.push_reserved.ensures.capacity ∙ inv.capacity)
        | else-presence-column w ↦ ap vec_capacity w.states-is ∙ inv.capacity
      ];
    }
