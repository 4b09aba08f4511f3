use Rattle.std.proofs.Common.{ℕ, ◌<◌, ◌==◌, List, [], get_or, length, ap, ◌∙◌, arith}
use Rattle.std.proofs.lemmas.Option.{IfSome_then}
use Rattle.fort_tables.specs.Projections.{absent_state, has_state, is_pure}
use Rattle.fort_projections.specs.Choices.{symbol_under}
use Rattle.fort_projections.proofs.ProjectEntries.{kid_within, choices_count, kid_label_width}
use Rattle.fort_projections.proofs.ChoiceSearch.{IfNone_then, absent_same, set_same, pure_same, next_choice, none_choice}
use Rattle.fort_projections.proofs.choices.Choices.next_own.Goals as goal

pub offset_bounds-kids-j : goal.offset_bounds-kids-j
offset_bounds-kids-j g c =
    let s = c.args.self.now in
    let n = choices_count (g.T.Table.table s.body.now) s.column s.alone.now s.rows.now.labels s.row.now s.sym.0 (symbol_under s.row.now s.column s.sym.0) s.arity c.requires.choices in
    omega (arith, n, c.requires.child, c.if-self-j.true, ap length c.kids-kids.ensures.states, c.kids-kids.ensures.few)

pub bounds-kids-j : goal.bounds-kids-j
bounds-kids-j g c =
    let s = c.args.self.now in
    let n = choices_count (g.T.Table.table s.body.now) s.column s.alone.now s.rows.now.labels s.row.now s.sym.0 (symbol_under s.row.now s.column s.sym.0) s.arity c.requires.choices in
    omega (arith, n, c.requires.child, c.if-self-j.true, ap length c.kids-kids.ensures.states)

pub label-requires : goal.label-requires
label-requires g c =
    let s = c.args.self.now in
    let body = g.T.Table.table s.body.now in
    let n = choices_count body s.column s.alone.now s.rows.now.labels s.row.now s.sym.0 (symbol_under s.row.now s.column s.sym.0) s.arity c.requires.choices in
    omega (arith, ap (λ (ks : List ℕ). get_or ks c.args.j 0) c.kids-kids.ensures.states, kid_within body s.column s.rows.now.labels s.row.now c.requires.choices.searched c.args.j (omega (arith, n, c.requires.child, c.if-self-j.true)))

pub next_in_set-requires : goal.next_in_set-requires
next_in_set-requires g c =
    let s = c.args.self.now in
    let body = g.T.Table.table s.body.now in
    let there : c.args.j < length s.row.now.kids = omega (arith, c.if-j-kids.true, ap length c.kids-kids.ensures.states) in
    let w = kid_label_width body s.column s.rows.now.labels s.row.now c.states-states.ensures.lawful c.states-states.ensures.reached c.requires.choices.searched c.args.j there in
    let e = ap length (c.label-then-j-kids.ensures ∙ ap (λ (ks : List ℕ). get_or s.rows.now.labels (get_or ks c.args.j 0) []) c.kids-kids.ensures.states) in
    omega (arith, w, e, c.states-states.ensures.count, c.states-states.type_inv)

pub returns-then-self-j-clause-some : goal.returns-then-self-j-clause-some
returns-then-self-j-clause-some g c =
    let s = c.args.self.now in
    let body = g.T.Table.table s.body.now in
    let n = choices_count body s.column s.alone.now s.rows.now.labels s.row.now s.sym.0 (symbol_under s.row.now s.column s.sym.0) s.arity c.requires.choices in
    IfSome_then c.next_absent.result c.next_absent.ensures.some
    (λ k y. next_choice body s.column s.alone.now s.rows.now.labels s.row.now s.sym.0 (symbol_under s.row.now s.column s.sym.0) s.arity c.states-states.ensures.lawful c.states-states.ensures.reached c.requires.choices c.args.j c.args.from k c.requires.child
    (λ i. absent_state c.label.result.now == i)
    (absent_same body s.column s.rows.now.labels s.row.now s.arity c.args.j c.label.result.now c.kids-kids.result.now c.label.ensures c.kids-kids.ensures.states c.if-self-j.true (omega (arith, n, c.requires.child, c.if-self-j.true)))
    y)

pub returns-then-self-j-clause-none : goal.returns-then-self-j-clause-none
returns-then-self-j-clause-none g c =
    let s = c.args.self.now in
    let body = g.T.Table.table s.body.now in
    let n = choices_count body s.column s.alone.now s.rows.now.labels s.row.now s.sym.0 (symbol_under s.row.now s.column s.sym.0) s.arity c.requires.choices in
    IfNone_then c.next_absent.result c.next_absent.ensures.none
    (none_choice body s.column s.rows.now.labels s.row.now s.arity c.args.j c.args.from
    (λ i. absent_state c.label.result.now == i)
    (absent_same body s.column s.rows.now.labels s.row.now s.arity c.args.j c.label.result.now c.kids-kids.result.now c.label.ensures c.kids-kids.ensures.states c.if-self-j.true (omega (arith, n, c.requires.child, c.if-self-j.true))))

pub returns-then-j-kids-clause-some : goal.returns-then-j-kids-clause-some
returns-then-j-kids-clause-some g c =
    let s = c.args.self.now in
    let body = g.T.Table.table s.body.now in
    IfSome_then c.next_in_set.result c.next_in_set.ensures.some
    (λ k y. next_choice body s.column s.alone.now s.rows.now.labels s.row.now s.sym.0 (symbol_under s.row.now s.column s.sym.0) s.arity c.states-states.ensures.lawful c.states-states.ensures.reached c.requires.choices c.args.j c.args.from k c.requires.child
    (has_state c.label-then-j-kids.result.now)
    (set_same body s.column s.rows.now.labels s.row.now s.arity c.args.j c.label-then-j-kids.result.now c.kids-kids.result.now c.label-then-j-kids.ensures c.kids-kids.ensures.states c.if-self-j.false (omega (arith, c.if-j-kids.true, ap length c.kids-kids.ensures.states)))
    y)

pub returns-else-j-kids-clause-some : goal.returns-else-j-kids-clause-some
returns-else-j-kids-clause-some g c =
    let s = c.args.self.now in
    let body = g.T.Table.table s.body.now in
    IfSome_then c.next_pure.result (c.next_pure.ensures.some body s.column c.requires.choices.pure)
    (λ k y. next_choice body s.column s.alone.now s.rows.now.labels s.row.now s.sym.0 (symbol_under s.row.now s.column s.sym.0) s.arity c.states-states.ensures.lawful c.states-states.ensures.reached c.requires.choices c.args.j c.args.from k c.requires.child
    (is_pure body s.column)
    (pure_same body s.column s.rows.now.labels s.row.now s.arity c.args.j c.if-self-j.false (omega (arith, c.if-j-kids.false, ap length c.kids-kids.ensures.states)))
    y)
