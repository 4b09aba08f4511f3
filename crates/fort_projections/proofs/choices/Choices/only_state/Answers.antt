use Rattle.std.proofs.Common.{ℕ, ◌==◌, List, get_or, length, ap, sym, ◌∙◌, arith}
use Rattle.std.proofs.lemmas.Bool.{eqb-true}
use Rattle.std.proofs.lemmas.Option.{IfSome_then}
use Rattle.fort_tables.specs.Projections.{absent_state}
use Rattle.fort_projections.specs.Choices.{may_choose, symbol_under}
use Rattle.fort_projections.proofs.ProjectEntries.{kid_within, choices_count}
use Rattle.fort_projections.proofs.ChoiceSearch.{absent_same}
use Rattle.fort_projections.proofs.choices.Choices.only_state.Goals as goal

pub offset_bounds-kids-j : goal.offset_bounds-kids-j
offset_bounds-kids-j g c =
    let s = c.args.self.now in
    let n = choices_count (g.T.Table.table s.body.now) s.column s.alone.now s.rows.now.labels s.row.now s.sym.0 (symbol_under s.row.now s.column s.sym.0) s.arity c.requires.choices in
    omega (arith, n, c.requires.child, c.if-self-j.true, ap length c.kids-kids.ensures.states, c.kids-kids.ensures.few)

pub bounds-kids-j : goal.bounds-kids-j
bounds-kids-j g c =
    let s = c.args.self.now in
    let n = choices_count (g.T.Table.table s.body.now) s.column s.alone.now s.rows.now.labels s.row.now s.sym.0 (symbol_under s.row.now s.column s.sym.0) s.arity c.requires.choices in
    omega (arith, n, c.requires.child, c.if-self-j.true, ap length c.kids-kids.ensures.states)

pub label-requires : goal.label-requires
label-requires g c =
    let s = c.args.self.now in
    let body = g.T.Table.table s.body.now in
    let n = choices_count body s.column s.alone.now s.rows.now.labels s.row.now s.sym.0 (symbol_under s.row.now s.column s.sym.0) s.arity c.requires.choices in
    omega (arith, ap (λ (ks : List ℕ). get_or ks c.args.j 0) c.kids-kids.ensures.states, kid_within body s.column s.rows.now.labels s.row.now c.requires.choices.searched c.args.j (omega (arith, n, c.requires.child, c.if-self-j.true)))

pub returns-then-self-j : goal.returns-then-self-j
returns-then-self-j g c =
    let s = c.args.self.now in
    let body = g.T.Table.table s.body.now in
    let n = choices_count body s.column s.alone.now s.rows.now.labels s.row.now s.sym.0 (symbol_under s.row.now s.column s.sym.0) s.arity c.requires.choices in
    let same = absent_same body s.column s.rows.now.labels s.row.now s.arity c.args.j c.label.result.now c.kids-kids.result.now c.label.ensures c.kids-kids.ensures.states c.if-self-j.true (omega (arith, n, c.requires.child, c.if-self-j.true)) in
    IfSome_then c.next_absent.result c.next_absent.ensures.some
    (λ t y k. c.in-None.ensures.none (may_choose body s.column s.rows.now.labels s.row.now s.arity) k ∙ (sym (same k) ∙ ap (λ x. x == k) (eqb-true (absent_state c.label.result.now) t y.hit)))
