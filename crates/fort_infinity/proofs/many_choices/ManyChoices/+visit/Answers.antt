use Rattle.std.proofs.Common.{◌<◌, ◌==◌, ◌&&◌, ◌||◌, ◌+◌, ◌-◌, [], ◌∷◌, ◌++◌, take, set, length, ◌∙◌, refl, ap, sym, arith}
use Rattle.fort_tables.specs.Tuples.{symbol_kids}
use Rattle.fort_tables.specs.Entries.{entry}
use Rattle.fort_tables.specs.Projections.{has_state}
use Rattle.fort_tables.specs.ManyLabels.{has_many}
use Rattle.fort_tables.specs.ManyEntries.{kid_labels, finds, may_be, gives_state, gives_endless}
use Rattle.fort_tables.proofs.ManyEntryLaws.{choices_count, choices_symbol, choice_state}
use Rattle.fort_tables.proofs.ManySearchLaws.{finds_turn, finds_end, finds_chosen, endless_more, endless_all}
use Rattle.fort_projections.proofs.ChoiceSearch.{whole_entry, kid_state_more, turn, turn_last}
use Rattle.fort_infinity.specs.ManyCounts.{is_many}
use Rattle.fort_infinity.proofs.many_choices.ManyChoices.+visit.Goals as goal

pub target-state-requires : goal.target-state-requires
target-state-requires g t c =
    let s = c.args.self.now in
    let body = g.T.Table.table s.body.now in
    let symbol = choices_symbol body s.column (is_many s.alone.now s.counts.now) s.rows.now.labels s.row.now s.sym.0 s.symbol s.arity c.states-states.ensures.lawful c.states-states.ensures.reached c.requires.choices in
    whole_entry body s.symbol c.args.chosen c.args.j c.states-states.ensures.lawful symbol (omega (arith, c.requires.count, c.if-rest-eq0.true)) (omega (arith, c.requires.few)) c.requires.before

pub mark_state-requires-clause-state : goal.mark_state-requires-clause-state
mark_state-requires-clause-state g t c =
    let s = c.args.self.now in
    let body = g.T.Table.table s.body.now in
    let symbol = choices_symbol body s.column (is_many s.alone.now s.counts.now) s.rows.now.labels s.row.now s.sym.0 s.symbol s.arity c.states-states.ensures.lawful c.states-states.ensures.reached c.requires.choices in
    let e = whole_entry body s.symbol c.args.chosen c.args.j c.states-states.ensures.lawful symbol (omega (arith, c.requires.count, c.if-rest-eq0.true)) (omega (arith, c.requires.few)) c.requires.before in
    omega (arith, c.states-states.ensures.lawful.within (entry s.symbol (take c.args.j c.args.chosen)) e, c.target-state.ensures, c.states-states.ensures.count)

pub visit-requires : goal.visit-requires
visit-requires g t c κs within =
    let s = c.args.self.now in
    let body = g.T.Table.table s.body.now in
    let many = is_many s.alone.now s.counts.now in
    let ws = kid_labels s.rows.now.labels s.row.now in
    let k = c.in-Some.k in
    let n = c.in-Some.ensures.some in
    let here : c.args.j < symbol_kids body.signature s.symbol = omega (arith, c.requires.count, c.if-rest-eq0.false) in
    let long : c.args.j < length c.args.chosen = omega (arith, c.requires.few, c.if-rest-eq0.false) in
    let state = choice_state body s.column many s.rows.now.labels s.row.now s.sym.0 s.symbol s.arity c.states-states.ensures.lawful c.states-states.ensures.reached c.requires.choices c.args.j k here n.within n.next.hit in (
      omega (arith, c.decreases, c.if-rest-eq0.false),
      (
        within,
        (
          c.requires.choices,
          (
            c.requires.pure,
            (
              c.requires.counts,
              (
                omega (arith, c.requires.count, c.if-rest-eq0.false),
                (
                  omega (arith, c.requires.few, c.if-rest-eq0.false),
                  (
                    kid_state_more body s.symbol c.args.chosen c.args.j k long c.requires.before state,
                    (
                      endless_more body many ws s.arity c.args.j k c.args.chosen c.args.endless c.kid_has_many-more.result _ long c.requires.endless c.kid_has_many-more.ensures refl,
                      c.states.invariant.size,
                    ),
                  ),
                ),
              ),
            ),
          ),
        ),
      ),
    )

pub states-preserved : goal.states-preserved
states-preserved g t c =
    let s = c.args.self.now in
    let body = g.T.Table.table s.body.now in
    let m = length body.presences in
    let many = is_many s.alone.now s.counts.now in
    let may = may_be body s.column s.rows.now.labels s.row.now s.arity in
    let one = gives_state body s.symbol in
    let all = gives_endless body many s.rows.now.labels s.row.now s.symbol s.arity in
    let i = c.states.invariant in
    let n = c.in-Some.ensures.some in
    let k = c.in-Some.k in
    let long : c.args.j < length c.args.chosen = omega (arith, c.requires.few, c.if-rest-eq0.false) in
    record {
      within = omega (arith, n.within);
      size = c.visit.auto.out ∙ i.size;
      first = c.visit.ensures.first ∙ i.first;
      second = c.visit.ensures.second ∙ i.second;
      given = λ q l. turn (may c.args.j) (λ x. finds body may (one q) (take c.args.j c.args.chosen ++ x ∷ []) (c.args.j + 1) (c.args.rest - 1)) c.states.from k
          (finds body may (one q) (take (c.args.j + 1) (set c.args.chosen c.args.j k)) (c.args.j + 1) (c.args.rest - 1)) (has_state c.visit.new.out q) (has_state c.states.out q) (has_state c.args.out.now q)
          n.next (finds_chosen body may (one q) c.args.chosen c.args.j c.args.rest k long) (c.visit.ensures.given q l) (i.given q l);
      endless = λ q. turn (may c.args.j) (λ x. finds body may (all q) (take c.args.j c.args.chosen ++ x ∷ []) (c.args.j + 1) (c.args.rest - 1)) c.states.from k
          (finds body may (all q) (take (c.args.j + 1) (set c.args.chosen c.args.j k)) (c.args.j + 1) (c.args.rest - 1)) (has_many m c.visit.new.out q) (has_many m c.states.out q) (has_many m c.args.out.now q)
          n.next (finds_chosen body may (all q) c.args.chosen c.args.j c.args.rest k long) (c.visit.ensures.many q) (i.endless q);
    }

pub returns-then-rest-eq0-clause-given : goal.returns-then-rest-eq0-clause-given
returns-then-rest-eq0-clause-given g t c = λ q l.
    let s = c.args.self.now in
    let body = g.T.Table.table s.body.now in
    let may = may_be body s.column s.rows.now.labels s.row.now s.arity in
    let states = c.states-states.ensures.count in
    let end = finds_end body may (gives_state body s.symbol q) (take c.args.j c.args.chosen) c.args.j c.args.rest c.if-rest-eq0.true in
    c.mark_state.ensures.given q (omega (arith, l, states)) ∙ ap (λ b. b || has_state c.args.out.now q) (ap (λ x. x == q) c.target-state.ensures ∙ sym end)

pub returns-then-rest-eq0-clause-many : goal.returns-then-rest-eq0-clause-many
returns-then-rest-eq0-clause-many g t c = λ q.
    let s = c.args.self.now in
    let body = g.T.Table.table s.body.now in
    let m = length body.presences in
    let many = is_many s.alone.now s.counts.now in
    let ws = kid_labels s.rows.now.labels s.row.now in
    let may = may_be body s.column s.rows.now.labels s.row.now s.arity in
    let count = choices_count body s.column many s.rows.now.labels s.row.now s.sym.0 s.symbol s.arity c.states-states.ensures.lawful c.states-states.ensures.reached c.requires.choices in
    let whole = endless_all body many ws s.arity c.args.j c.args.chosen c.args.endless (omega (arith, count, c.requires.count, c.if-rest-eq0.true)) (omega (arith, c.requires.few)) c.requires.endless in
    let end = finds_end body may (gives_endless body many s.rows.now.labels s.row.now s.symbol s.arity q) (take c.args.j c.args.chosen) c.args.j c.args.rest c.if-rest-eq0.true in
    let states = c.states-states.ensures.count in
    ap (λ n. has_many n c.mark_state.new.out q) (sym states)
    ∙ (c.mark_state.ensures.many q
    ∙ ((λ i. ((c.target-state.ensures i == q) && whole i) || has_many (states i) c.args.out.now q) ∙ ap (λ b. b || has_many m c.args.out.now q) (sym end)))

pub returns-clause-given : goal.returns-clause-given
returns-clause-given g t c = λ q l.
    let s = c.args.self.now in
    let body = g.T.Table.table s.body.now in
    let may = may_be body s.column s.rows.now.labels s.row.now s.arity in
    let one = gives_state body s.symbol q in
    let old = has_state c.args.out.now q in
    turn_last (may c.args.j) (λ x. finds body may one (take c.args.j c.args.chosen ++ x ∷ []) (c.args.j + 1) (c.args.rest - 1)) c.states.from (length body.presences) (has_state c.states.out q) old c.states.invariant.within c.in_default.ensures.none (c.states.invariant.given q l)
    ∙ ap (λ b. b || old) (sym (finds_turn body may one (take c.args.j c.args.chosen) c.args.j c.args.rest c.if-rest-eq0.false))

pub returns-clause-many : goal.returns-clause-many
returns-clause-many g t c = λ q.
    let s = c.args.self.now in
    let body = g.T.Table.table s.body.now in
    let m = length body.presences in
    let may = may_be body s.column s.rows.now.labels s.row.now s.arity in
    let all = gives_endless body (is_many s.alone.now s.counts.now) s.rows.now.labels s.row.now s.symbol s.arity q in
    let old = has_many m c.args.out.now q in
    turn_last (may c.args.j) (λ x. finds body may all (take c.args.j c.args.chosen ++ x ∷ []) (c.args.j + 1) (c.args.rest - 1)) c.states.from m (has_many m c.states.out q) old c.states.invariant.within c.in_default.ensures.none (c.states.invariant.endless q)
    ∙ ap (λ b. b || old) (sym (finds_turn body may all (take c.args.j c.args.chosen) c.args.j c.args.rest c.if-rest-eq0.false))
