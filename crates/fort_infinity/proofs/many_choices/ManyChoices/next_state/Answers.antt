use Rattle.std.proofs.Common.{ℕ, ◌<◌, ◌==◌, List, [], get_or, length, ap, sym, ◌∙◌, arith}
use Rattle.std.proofs.lemmas.Option.{IfSome_then}
use Rattle.fort_tables.specs.Projections.{absent_state, has_state, is_pure}
use Rattle.fort_tables.proofs.ManyEntryLaws.{kid_within, kid_label, choices_count}
use Rattle.fort_projections.proofs.ProjectEntries.{pure_small}
use Rattle.fort_projections.proofs.ChoiceSearch.{IfNone_then, absent_same, set_same, pure_same, none_choice}
use Rattle.fort_infinity.specs.ManyCounts.{is_many}
use Rattle.fort_infinity.proofs.ChoiceLaws.{IfSome_both, next_choice, absent_within}
use Rattle.fort_infinity.proofs.many_choices.ManyChoices.next_state.Goals as goal

pub offset_bounds-kids-j : goal.offset_bounds-kids-j
offset_bounds-kids-j g c =
    let s = c.args.self.now in
    let n = choices_count (g.T.Table.table s.body.now) s.column (is_many s.alone.now s.counts.now) s.rows.now.labels s.row.now s.sym.0 s.symbol s.arity c.states-states.ensures.lawful c.states-states.ensures.reached c.requires.choices in
    omega (arith, n, c.requires.child, c.if-self-j.true, ap length c.kids-kids.ensures.states, c.kids-kids.ensures.few)

pub bounds-kids-j : goal.bounds-kids-j
bounds-kids-j g c =
    let s = c.args.self.now in
    let n = choices_count (g.T.Table.table s.body.now) s.column (is_many s.alone.now s.counts.now) s.rows.now.labels s.row.now s.sym.0 s.symbol s.arity c.states-states.ensures.lawful c.states-states.ensures.reached c.requires.choices in
    omega (arith, n, c.requires.child, c.if-self-j.true, ap length c.kids-kids.ensures.states)

pub label-requires : goal.label-requires
label-requires g c =
    let s = c.args.self.now in
    let body = g.T.Table.table s.body.now in
    let many = is_many s.alone.now s.counts.now in
    let n = choices_count body s.column many s.rows.now.labels s.row.now s.sym.0 s.symbol s.arity c.states-states.ensures.lawful c.states-states.ensures.reached c.requires.choices in
    omega (arith, ap (λ (ks : List ℕ). get_or ks c.args.j 0) c.kids-kids.ensures.states, kid_within body s.column many s.rows.now.labels s.row.now c.states-states.ensures.lawful c.states-states.ensures.reached c.requires.choices.entry c.args.j (omega (arith, n, c.requires.child, c.if-self-j.true)))

pub next_given-requires : goal.next_given-requires
next_given-requires g c =
    let s = c.args.self.now in
    let body = g.T.Table.table s.body.now in
    let there : c.args.j < length s.row.now.kids = omega (arith, c.if-j-kids.true, ap length c.kids-kids.ensures.states) in
    let w = (kid_label body s.column (is_many s.alone.now s.counts.now) s.rows.now.labels s.row.now c.states-states.ensures.lawful c.states-states.ensures.reached c.requires.choices.entry c.args.j there).says.width in
    let e = ap length (c.label-then-j-kids.ensures ∙ ap (λ (ks : List ℕ). get_or s.rows.now.labels (get_or ks c.args.j 0) []) c.kids-kids.ensures.states) in
    omega (arith, w, e, c.states-states.ensures.count, c.states-states.type_inv)

pub returns-then-self-j-clause-some : goal.returns-then-self-j-clause-some
returns-then-self-j-clause-some g c =
    let s = c.args.self.now in
    let body = g.T.Table.table s.body.now in
    let many = is_many s.alone.now s.counts.now in
    let n = choices_count body s.column many s.rows.now.labels s.row.now s.sym.0 s.symbol s.arity c.states-states.ensures.lawful c.states-states.ensures.reached c.requires.choices in
    let there : c.args.j < length s.row.now.kids = omega (arith, n, c.requires.child, c.if-self-j.true) in
    IfSome_then c.next_absent.result c.next_absent.ensures.some
    (λ k y. next_choice body s.column s.rows.now.labels s.row.now s.arity c.args.j c.args.from k
    (λ i. absent_state c.label.result.now == i)
    (absent_same body s.column s.rows.now.labels s.row.now s.arity c.args.j c.label.result.now c.kids-kids.result.now c.label.ensures c.kids-kids.ensures.states c.if-self-j.true there)
    (absent_within body s.column many s.rows.now.labels s.row.now c.states-states.ensures.lawful c.states-states.ensures.reached c.requires.choices.entry c.args.j k c.label.result.now c.kids-kids.result.now c.label.ensures c.kids-kids.ensures.states there y.hit)
    y)

pub returns-then-self-j-clause-none : goal.returns-then-self-j-clause-none
returns-then-self-j-clause-none g c =
    let s = c.args.self.now in
    let body = g.T.Table.table s.body.now in
    let n = choices_count body s.column (is_many s.alone.now s.counts.now) s.rows.now.labels s.row.now s.sym.0 s.symbol s.arity c.states-states.ensures.lawful c.states-states.ensures.reached c.requires.choices in
    IfNone_then c.next_absent.result c.next_absent.ensures.none
    (none_choice body s.column s.rows.now.labels s.row.now s.arity c.args.j c.args.from
    (λ i. absent_state c.label.result.now == i)
    (absent_same body s.column s.rows.now.labels s.row.now s.arity c.args.j c.label.result.now c.kids-kids.result.now c.label.ensures c.kids-kids.ensures.states c.if-self-j.true (omega (arith, n, c.requires.child, c.if-self-j.true))))

pub returns-then-j-kids-clause-some : goal.returns-then-j-kids-clause-some
returns-then-j-kids-clause-some g c =
    let s = c.args.self.now in
    let body = g.T.Table.table s.body.now in
    let there : c.args.j < length s.row.now.kids = omega (arith, c.if-j-kids.true, ap length c.kids-kids.ensures.states) in
    IfSome_both c.next_given.result c.next_given.ensures.some c.next_given.ensures.within
    (λ k y l. next_choice body s.column s.rows.now.labels s.row.now s.arity c.args.j c.args.from k
    (has_state c.label-then-j-kids.result.now)
    (set_same body s.column s.rows.now.labels s.row.now s.arity c.args.j c.label-then-j-kids.result.now c.kids-kids.result.now c.label-then-j-kids.ensures c.kids-kids.ensures.states c.if-self-j.false there)
    (omega (arith, l, c.states-states.ensures.count))
    y)

pub returns-then-j-kids-clause-none : goal.returns-then-j-kids-clause-none
returns-then-j-kids-clause-none g c =
    let s = c.args.self.now in
    let body = g.T.Table.table s.body.now in
    let there : c.args.j < length s.row.now.kids = omega (arith, c.if-j-kids.true, ap length c.kids-kids.ensures.states) in
    IfNone_then c.next_given.result c.next_given.ensures.none
    (λ none i a b. sym (set_same body s.column s.rows.now.labels s.row.now s.arity c.args.j c.label-then-j-kids.result.now c.kids-kids.result.now c.label-then-j-kids.ensures c.kids-kids.ensures.states c.if-self-j.false there i) ∙ none i a (omega (arith, b, c.states-states.ensures.count)))

pub returns-else-j-kids-clause-some : goal.returns-else-j-kids-clause-some
returns-else-j-kids-clause-some g c =
    let s = c.args.self.now in
    let body = g.T.Table.table s.body.now in
    IfSome_then c.next_pure.result (c.next_pure.ensures.some body s.column c.requires.pure)
    (λ k y. next_choice body s.column s.rows.now.labels s.row.now s.arity c.args.j c.args.from k
    (is_pure body s.column)
    (pure_same body s.column s.rows.now.labels s.row.now s.arity c.args.j c.if-self-j.false (omega (arith, c.if-j-kids.false, ap length c.kids-kids.ensures.states)))
    (pure_small body s.column k y.hit)
    y)

pub returns-else-j-kids-clause-none : goal.returns-else-j-kids-clause-none
returns-else-j-kids-clause-none g c =
    let s = c.args.self.now in
    let body = g.T.Table.table s.body.now in
    IfNone_then c.next_pure.result (c.next_pure.ensures.none body s.column c.requires.pure)
    (λ none i a b. sym (pure_same body s.column s.rows.now.labels s.row.now s.arity c.args.j c.if-self-j.false (omega (arith, c.if-j-kids.false, ap length c.kids-kids.ensures.states)) i) ∙ none i a b)
