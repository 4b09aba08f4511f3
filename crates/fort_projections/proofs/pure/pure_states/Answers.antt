use Rattle.std.proofs.Common.{◌+◌, ℕ, List, Vec, Global, sym, subst}
use Rattle.fort_tables.specs.Projections.{ArePureBelow}
use Rattle.fort_projections.proofs.PureSearch.{pure_left, pure_push, pure_tested, impure_tested}
use Rattle.fort_projections.proofs.pure.pure_states.Goals as goal
use Rattle.fort_projections.proofs.pure.pure_states.Goals.{then-presence-column+in_ok-push, else-presence-column}

pub loop-q-preserved : goal.loop-q-preserved
loop-q-preserved g c =
    let table = g.T.Table.table c.args.table.now in
    let P : List ℕ → Type 0 = ArePureBelow table c.args.column (c.loop-q.q + 1) in
    let low = c.requires in
    let narrow = c.columns-columns.ensures.lawful.narrow in
    elim c.if-presence-column.branch [
      | then-presence-column+in_ok-push w ↦ subst (λ (v : Vec ℕ Global). P v.items) (sym w.states-is)
          (subst P (sym w.in_ok-push.ensures.items) (pure_push table c.args.column c.loop-q.q c.loop-q.states.items c.loop-q.invariant
          (pure_tested table c.args.column c.loop-q.q c.presence.result low narrow c.presence.ensures w.if-presence-column.true)))
      | else-presence-column w ↦ subst (λ (v : Vec ℕ Global). P v.items) (sym w.states-is)
          (pure_left table c.args.column c.loop-q.q c.loop-q.states.items c.loop-q.invariant
          (impure_tested table c.args.column c.loop-q.q c.presence.result low narrow c.presence.ensures w.if-presence-column.false))
    ]
