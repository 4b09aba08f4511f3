use Rattle.std.proofs.Common.{ap, sym, ◌∙◌, subst, length, arith, List, ℕ, [], ◌∷◌, ◌++◌, get_or}
use Rattle.fort_tables.specs.Entries.{Entry, AreNodes}
use Rattle.fort_labels.specs.RowsView.{Labels}
use Rattle.fort_explore.proofs.KnownLaws.{known_labels}
use Rattle.fort_explore.proofs.PlaceLaws.{ready_nodes, placed_old, placed_new}
use Rattle.fort_explore.proofs.found.place_of.Goals as goal

pub step-requires-clause-served : goal.step-requires-clause-served
step-requires-clause-served g c =
    let r = c.requires.ready in
    let f = c.args.found.now in
    (r.0, r.1, record { entry = r.2.entry; are = known_labels r.0 _ (g.L.Labeller.label c.args.labeller.now) f.firsts f.labels.labels r.2.known })

pub note-requires-clause-nodes : goal.note-requires-clause-nodes
note-requires-clause-nodes g c =
    let r = c.requires.ready in
    let f = c.args.found.now in
    let n = g.L.Labeller.column_count c.args.labeller.now in (
      r.0,
      n,
      subst (λ (fs : List Entry). AreNodes r.0 n (fs ++ c.args.row.now ∷ [])) (sym c.in-None.ensures.firsts)
          (ready_nodes r.0 n (g.L.Labeller.label c.args.labeller.now) f.firsts f.labels.labels c.args.row.now (g.met.L.Labeller.tells_presence c.args.labeller.now r.0 r.1) r.2),
    )

pub returns-in-Some-clause-placed : goal.returns-in-Some-clause-placed
returns-in-Some-clause-placed g c = λ sig s r.
    let f = c.args.found.now in
    let n = g.L.Labeller.column_count c.args.labeller.now in
    let label = g.L.Labeller.label c.args.labeller.now in
    let q = c.in-Some.q in
    let gives = c.step.ensures.gives sig s (record { entry = r.entry; are = known_labels sig n label f.firsts f.labels.labels r.known }) in
    let here = c.in-Some.ensures.found in
    rw (c.in-Some.ensures.labels, c.in-Some.ensures.firsts)
    (placed_old sig n label f.firsts f.labels.labels c.args.row.now q _ (g.met.L.Labeller.tells_presence c.args.labeller.now sig s) r gives
    (omega (arith, ap length c.requires.same, here.0)) (ap (λ (ws : List (List ℕ)). get_or ws q []) (sym c.requires.same) ∙ here.1))

pub returns-in_ok-note-in-None-clause-placed : goal.returns-in_ok-note-in-None-clause-placed
returns-in_ok-note-in-None-clause-placed g c = λ sig s r.
    let f = c.args.found.now in
    let n = g.L.Labeller.column_count c.args.labeller.now in
    let label = g.L.Labeller.label c.args.labeller.now in
    let gives = c.step.ensures.gives sig s (record { entry = r.entry; are = known_labels sig n label f.firsts f.labels.labels r.known }) in
    let absent = rw c.requires.same at c.in-None.ensures.found in
    let none = c.in-None.ensures in
    rw (c.len-q.ensures, none.labels)
    (placed_new sig n label f.firsts f.labels.labels c.args.row.now _ c.note.new.self.firsts c.note.new.self.labels.labels
    (g.met.L.Labeller.tells_presence c.args.labeller.now sig s) r gives absent
    (c.in_ok-note-in-None.ensures.firsts ∙ ap (λ (fs : List Entry). fs ++ c.args.row.now ∷ []) none.firsts)
    (c.in_ok-note-in-None.ensures.labels ∙ ap (λ (l : Labels). l.labels ++ c.step.new.out ∷ []) none.labels))
