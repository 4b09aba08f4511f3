use Rattle.std.proofs.Common.{◌≡◌, ℕ, ◌<◌, ◌+◌, ◌-◌, ◌||◌, ◌==◌, ◌∷◌, ◌++◌, [], set, take, length, refl, ap, sym, ◌∙◌, subst, arith}
use Rattle.std.proofs.lemmas.Bool.{eq-eqb}
use Rattle.std.proofs.lemmas.List.{length-take-le}
use Rattle.fort_tables.proofs.TableLaws.{IsKidState}
use Rattle.fort_tables.specs.Tuples.{symbol_kids}
use Rattle.fort_tables.specs.Entries.{entry}
use Rattle.fort_tables.specs.Projections.{has_state}
use Rattle.fort_projections.specs.Choices.{may_choose, is_reachable, symbol_under}
use Rattle.fort_projections.proofs.ProjectEntries.{choice_state, choices_symbol}
use Rattle.fort_projections.proofs.ChoiceSearch.{kid_state_small, whole_entry, kid_state_more, reachable_turn, reachable_end, turn, turn_last, reach_chosen}
use Rattle.fort_target_lists.specs.LabelLists.{labels_at}
use Rattle.fort_projections.specs.Scopes.{may_in}
use Rattle.fort_projections.proofs.ScopeLaws.{may_from_scope}
use Rattle.fort_projections.proofs.FlatSearch.{shift_test, reachable_last, reachable_before}
use Rattle.fort_projections.proofs.choices.Choices.+visit.Goals as goal

pub target-state-requires : goal.target-state-requires
target-state-requires g t c =
    let s = c.args.self.now in
    let f = symbol_under s.row.now s.column s.sym.0 in
    let body = g.T.Table.table s.body.now in
    let symbol = choices_symbol body s.column s.alone.now s.rows.now.labels s.row.now s.sym.0 f s.arity c.requires.choices in
    (body, f, c.requires.look_up, whole_entry body f c.args.chosen.now c.args.j c.states-states.ensures.lawful symbol (omega (arith, c.requires.count, c.if-rest-eq0.true)) (omega (arith, c.requires.few)) c.requires.before)

pub set_bit-requires : goal.set_bit-requires
set_bit-requires g t c =
    let s = c.args.self.now in
    let f = symbol_under s.row.now s.column s.sym.0 in
    let body = g.T.Table.table s.body.now in
    let symbol = choices_symbol body s.column s.alone.now s.rows.now.labels s.row.now s.sym.0 f s.arity c.requires.choices in
    let e = whole_entry body f c.args.chosen.now c.args.j c.states-states.ensures.lawful symbol (omega (arith, c.requires.count, c.if-rest-eq0.true)) (omega (arith, c.requires.few)) c.requires.before in
    omega (arith, c.states-states.ensures.lawful.within (entry f (take c.args.j c.args.chosen.now)) e, c.target-state.ensures body f c.requires.look_up e, c.requires.room)

pub returns-then-rest-eq0-clause-marked : goal.returns-then-rest-eq0-clause-marked
returns-then-rest-eq0-clause-marked g t c = λ q.
    let s = c.args.self.now in
    let f = symbol_under s.row.now s.column s.sym.0 in
    let body = g.T.Table.table s.body.now in
    let may = may_in s.scope (may_choose body s.column s.rows.now.labels s.row.now s.arity) in
    let before = take c.args.j c.args.chosen.now in
    let symbol = choices_symbol body s.column s.alone.now s.rows.now.labels s.row.now s.sym.0 f s.arity c.requires.choices in
    let whole = whole_entry body f c.args.chosen.now c.args.j c.states-states.ensures.lawful symbol (omega (arith, c.requires.count, c.if-rest-eq0.true)) (omega (arith, c.requires.few)) c.requires.before in
    let state = c.target-state.result in
    c.set_bit.ensures.bits (128 + q)
    ∙ ap (λ b. b || has_state c.args.out.now q)
    (shift_test state q ∙ (ap (λ x. x == q) (c.target-state.ensures body f c.requires.look_up whole) ∙ sym (reachable_end body may f before c.args.j c.args.rest q c.if-rest-eq0.true)))

pub returns-then-is_in_set-clause-marked : goal.returns-then-is_in_set-clause-marked
returns-then-is_in_set-clause-marked g t c = λ q.
    let s = c.args.self.now in
    let body = g.T.Table.table s.body.now in
    let f = symbol_under s.row.now s.column s.sym.0 in
    let j = c.args.j in
    let own = may_choose body s.column s.rows.now.labels s.row.now s.arity in
    let before = take j c.args.chosen.now in
    let count : length before ≡ j = length-take-le j c.args.chosen.now (omega (arith, c.requires.few)) in
    c.mark_last.ensures.marked q
    ∙ ap (λ b. b || has_state c.args.out.now q)
    (reachable_last body own (own (length before)) f before (length before) 1 q refl (λ k. refl)
    ∙ sym (reachable_last body (may_in s.scope own) (own (length before)) f before j c.args.rest q c.if-rest-eq1.true (λ k. c.if-is_in_set.ensures.all refl own k ∙ ap (λ a. own a k) (sym count))))

pub mark_before-requires-clause-last : goal.mark_before-requires-clause-last
mark_before-requires-clause-last g t c =
    let s = c.args.self.now in
    let body = g.T.Table.table s.body.now in
    let f = symbol_under s.row.now s.column s.sym.0 in
    let j = c.args.j in
    let before = take j c.args.chosen.now in
    let count : length before ≡ j = length-take-le j c.args.chosen.now (omega (arith, c.requires.few)) in
    let state = choice_state body s.column s.alone.now s.rows.now.labels s.row.now s.sym.0 f s.arity c.states-states.ensures.lawful c.states-states.ensures.reached c.requires.choices (j + 1) c.in-Some-only_state.last (omega (arith, c.requires.count, c.if-rest-eq2.true))
    (may_from_scope body s.column s.arity (labels_at s.rows.now.labels s.row.now.kids) s.scope (j + 1) c.in-Some-only_state.last c.requires.scope (c.in-Some-only_state.ensures c.in-Some-only_state.last ∙ eq-eqb c.in-Some-only_state.last c.in-Some-only_state.last refl)) in
    let e : j + 1 ≡ length before + 1 = omega (arith, count) in
    subst (λ (n : ℕ). IsKidState body f n c.in-Some-only_state.last) e state

pub returns-in-Some-only_state-clause-marked : goal.returns-in-Some-only_state-clause-marked
returns-in-Some-only_state-clause-marked g t c = λ q.
    let s = c.args.self.now in
    let body = g.T.Table.table s.body.now in
    let f = symbol_under s.row.now s.column s.sym.0 in
    let j = c.args.j in
    let own = may_choose body s.column s.rows.now.labels s.row.now s.arity in
    let before = take j c.args.chosen.now in
    let count : length before ≡ j = length-take-le j c.args.chosen.now (omega (arith, c.requires.few)) in
    let state = choice_state body s.column s.alone.now s.rows.now.labels s.row.now s.sym.0 f s.arity c.states-states.ensures.lawful c.states-states.ensures.reached c.requires.choices (j + 1) c.in-Some-only_state.last (omega (arith, c.requires.count, c.if-rest-eq2.true))
    (may_from_scope body s.column s.arity (labels_at s.rows.now.labels s.row.now.kids) s.scope (j + 1) c.in-Some-only_state.last c.requires.scope (c.in-Some-only_state.ensures c.in-Some-only_state.last ∙ eq-eqb c.in-Some-only_state.last c.in-Some-only_state.last refl)) in
    c.mark_before.ensures.marked q
    ∙ ap (λ b. b || has_state c.args.out.now q)
    (sym (reachable_before body (may_in s.scope own) (own (length before)) f before j c.args.rest c.in-Some-only_state.last q c.if-rest-eq2.true (kid_state_small body f (j + 1) c.in-Some-only_state.last c.states-states.ensures.lawful state)
    (λ k. c.if-is_in_set-2.ensures.all refl own k ∙ ap (λ a. own a k) (sym count)) c.in-Some-only_state.ensures))

pub visit-requires : goal.visit-requires
visit-requires g t c κs within =
    let s = c.args.self.now in
    let body = g.T.Table.table s.body.now in
    let here : c.args.j < symbol_kids body.signature (symbol_under s.row.now s.column s.sym.0) = omega (arith, c.requires.count, c.if-rest-eq0.false) in
    let state = choice_state body s.column s.alone.now s.rows.now.labels s.row.now s.sym.0 (symbol_under s.row.now s.column s.sym.0) s.arity c.states-states.ensures.lawful c.states-states.ensures.reached c.requires.choices c.args.j c.in-Some-next_state.k here
    (may_from_scope body s.column s.arity (labels_at s.rows.now.labels s.row.now.kids) s.scope c.args.j c.in-Some-next_state.k c.requires.scope c.in-Some-next_state.ensures.some.next.hit) in (
      omega (arith, c.decreases, c.if-rest-eq0.false),
      (
        within,
        (
          c.requires.choices,
          (
            c.requires.scope,
            (
              c.requires.look_up,
              (
                omega (arith, c.requires.count, c.if-rest-eq0.false),
                (
                  omega (arith, c.requires.few, c.if-rest-eq0.false),
                  (
                    kid_state_more body (symbol_under s.row.now s.column s.sym.0) c.args.chosen.now c.args.j c.in-Some-next_state.k (omega (arith, c.requires.few, c.if-rest-eq0.false)) c.requires.before state,
                    c.states.invariant.size,
                  ),
                ),
              ),
            ),
          ),
        ),
      ),
    )

pub states-preserved : goal.states-preserved
states-preserved g t c =
    let s = c.args.self.now in
    let body = g.T.Table.table s.body.now in
    let may = may_in s.scope (may_choose body s.column s.rows.now.labels s.row.now s.arity) in
    let i = c.states.invariant in
    let n = c.in-Some-next_state.ensures.some in
    let long : c.args.j < length c.args.chosen.now = omega (arith, c.requires.few, c.if-rest-eq0.false) in
    record {
      within = omega (arith, n.within);
      size = c.visit.auto.out ∙ i.size;
      first = c.visit.ensures.first ∙ i.first;
      second = c.visit.ensures.second ∙ i.second;
      marked = λ q. turn (may c.args.j) (λ k. is_reachable body may (symbol_under s.row.now s.column s.sym.0) (take c.args.j c.args.chosen.now ++ k ∷ []) (c.args.j + 1) (c.args.rest - 1) q) c.states.from c.in-Some-next_state.k
          (is_reachable body may (symbol_under s.row.now s.column s.sym.0) (take (c.args.j + 1) (set c.args.chosen.now c.args.j c.in-Some-next_state.k)) (c.args.j + 1) (c.args.rest - 1) q) (has_state c.visit.new.out q) (has_state c.states.out q) (has_state c.args.out.now q)
          n.next (reach_chosen body may (symbol_under s.row.now s.column s.sym.0) c.args.chosen.now c.args.j c.args.rest c.in-Some-next_state.k q long) (c.visit.ensures.marked q) (i.marked q);
    }

pub returns-clause-marked : goal.returns-clause-marked
returns-clause-marked g t c = λ q.
    let s = c.args.self.now in
    let body = g.T.Table.table s.body.now in
    let may = may_in s.scope (may_choose body s.column s.rows.now.labels s.row.now s.arity) in
    let old = has_state c.args.out.now q in
    turn_last (may c.args.j) (λ k. is_reachable body may (symbol_under s.row.now s.column s.sym.0) (take c.args.j c.args.chosen.now ++ k ∷ []) (c.args.j + 1) (c.args.rest - 1) q) c.states.from (length body.presences) (has_state c.states.out q) old c.states.invariant.within c.in_default-next_state.ensures.none (c.states.invariant.marked q)
    ∙ ap (λ b. b || old) (sym (reachable_turn body may (symbol_under s.row.now s.column s.sym.0) (take c.args.j c.args.chosen.now) c.args.j c.args.rest q c.if-rest-eq0.false))
