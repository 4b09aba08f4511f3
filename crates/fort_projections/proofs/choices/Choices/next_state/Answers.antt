use Rattle.std.proofs.Common.{◌∙◌}
use Rattle.std.proofs.lemmas.Option.{IfSome_then}
use Rattle.fort_projections.specs.Choices.{may_choose, symbol_under}
use Rattle.fort_target_lists.specs.LabelLists.{labels_at}
use Rattle.fort_projections.specs.Scopes.{may_in}
use Rattle.fort_projections.proofs.ProjectEntries.{choice_state}
use Rattle.fort_projections.proofs.ChoiceSearch.{IfNone_then, kid_state_small}
use Rattle.fort_projections.proofs.ScopeLaws.{may_from_scope, next_along, none_along}
use Rattle.fort_projections.proofs.choices.Choices.next_state.Goals as goal

pub returns-in-None-clause-some : goal.returns-in-None-clause-some
returns-in-None-clause-some g c =
    let s = c.args.self.now in
    let body = g.T.Table.table s.body.now in
    let may = may_choose body s.column s.rows.now.labels s.row.now s.arity in
    IfSome_then c.next_own.result c.next_own.ensures.some (λ k y. next_along body (may c.args.j) (may_in s.scope may c.args.j) c.args.from k (c.in-None.ensures.none may) y)

pub returns-in-None-clause-none : goal.returns-in-None-clause-none
returns-in-None-clause-none g c =
    let s = c.args.self.now in
    let body = g.T.Table.table s.body.now in
    let may = may_choose body s.column s.rows.now.labels s.row.now s.arity in
    IfNone_then c.next_own.result c.next_own.ensures.none (none_along body (may c.args.j) (may_in s.scope may c.args.j) c.args.from (c.in-None.ensures.none may))

pub returns-in-Some-clause-some : goal.returns-in-Some-clause-some
returns-in-Some-clause-some g c =
    let s = c.args.self.now in
    let body = g.T.Table.table s.body.now in
    let f = symbol_under s.row.now s.column s.sym.0 in
    let may = may_choose body s.column s.rows.now.labels s.row.now s.arity in
    let same = c.in-Some.ensures.some may in
    IfSome_then c.next_one.result c.next_one.ensures.some
    (λ k y.
    let o = may_from_scope body s.column s.arity (labels_at s.rows.now.labels s.row.now.kids) s.scope c.args.j k c.requires.scope (same k ∙ y.hit) in
    record {
      next = record { low = y.low; hit = same k ∙ y.hit; before = λ i a b. same i ∙ y.before i a b };
      within = kid_state_small body f c.args.j k c.states-states.ensures.lawful (choice_state body s.column s.alone.now s.rows.now.labels s.row.now s.sym.0 f s.arity c.states-states.ensures.lawful c.states-states.ensures.reached c.requires.choices c.args.j k c.requires.child o);
    })

pub returns-in-Some-clause-none : goal.returns-in-Some-clause-none
returns-in-Some-clause-none g c =
    let s = c.args.self.now in
    let may = may_choose (g.T.Table.table s.body.now) s.column s.rows.now.labels s.row.now s.arity in
    let same = c.in-Some.ensures.some may in
    IfNone_then c.next_one.result c.next_one.ensures.none (λ none i a b. same i ∙ none i a)
