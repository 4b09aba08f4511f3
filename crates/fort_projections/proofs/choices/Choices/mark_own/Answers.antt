use Rattle.std.proofs.Common.{ℕ, ◌-◌, ◌*◌, ◌≤◌, ◌||◌, List, [], length, get_or, ap, sym, ◌∙◌, arith}
use Rattle.fort_tables.specs.Projections.{has_state}
use Rattle.fort_projections.specs.Choices.{may_choose}
use Rattle.fort_projections.specs.Strides.{read_at}
use Rattle.fort_projections.proofs.ProjectEntries.{kid_within, kid_label_width}
use Rattle.fort_projections.proofs.ChoiceSearch.{set_same}
use Rattle.fort_projections.proofs.FlatSearch.{set_below}
use Rattle.fort_projections.proofs.choices.Choices.mark_own.Goals as goal

pub label-set-requires : goal.label-set-requires
label-set-requires g c =
    let s = c.args.self.now in
    let body = g.T.Table.table s.body.now in
    omega (arith, ap (λ (ks : List ℕ). get_or ks c.args.j 0) c.kids-kids.ensures.states, kid_within body s.column s.rows.now.labels s.row.now c.requires.choices.searched c.args.j c.requires.own)

pub mark_set-requires-clause-readable : goal.mark_set-requires-clause-readable
mark_set-requires-clause-readable g c = λ k o.
    let s = c.args.self.now in
    let body = g.T.Table.table s.body.now in
    c.requires.readable k (sym (set_same body s.column s.rows.now.labels s.row.now s.arity c.args.j c.label-set.result.now c.kids-kids.result.now c.label-set.ensures c.kids-kids.ensures.states c.requires.in_set c.requires.own k) ∙ o)

pub mark_set-requires-clause-room : goal.mark_set-requires-clause-room
mark_set-requires-clause-room g c = λ k o.
    let s = c.args.self.now in
    let body = g.T.Table.table s.body.now in
    let small = c.requires.small k (sym (set_same body s.column s.rows.now.labels s.row.now s.arity c.args.j c.label-set.result.now c.kids-kids.result.now c.label-set.ensures c.kids-kids.ensures.states c.requires.in_set c.requires.own k) ∙ o) in
    omega (arith, small, c.requires.room)

pub mark_set-requires-clause-few : goal.mark_set-requires-clause-few
mark_set-requires-clause-few g c =
    let s = c.args.self.now in
    let body = g.T.Table.table s.body.now in
    let w = kid_label_width body s.column s.rows.now.labels s.row.now c.states-states.ensures.lawful c.states-states.ensures.reached c.requires.choices.searched c.args.j c.requires.own in
    let e = ap length (c.label-set.ensures ∙ ap (λ (ks : List ℕ). get_or s.rows.now.labels (get_or ks c.args.j 0) []) c.kids-kids.ensures.states) in
    omega (arith, w, e, c.states-states.ensures.count, c.states-states.type_inv)

pub mark_set-requires-clause-label : goal.mark_set-requires-clause-label
mark_set-requires-clause-label g c =
    let s = c.args.self.now in
    let body = g.T.Table.table s.body.now in
    let w = kid_label_width body s.column s.rows.now.labels s.row.now c.states-states.ensures.lawful c.states-states.ensures.reached c.requires.choices.searched c.args.j c.requires.own in
    let e = ap length (c.label-set.ensures ∙ ap (λ (ks : List ℕ). get_or s.rows.now.labels (get_or ks c.args.j 0) []) c.kids-kids.ensures.states) in
    omega (arith, w, e)

pub returns-clause-marked : goal.returns-clause-marked
returns-clause-marked g c = λ q.
    let s = c.args.self.now in
    let body = g.T.Table.table s.body.now in
    let set = c.label-set.result.now in
    let may = may_choose body s.column s.rows.now.labels s.row.now s.arity c.args.j in
    let same = set_same body s.column s.rows.now.labels s.row.now s.arity c.args.j set c.kids-kids.result.now c.label-set.ensures c.kids-kids.ensures.states c.requires.in_set c.requires.own in
    let w = kid_label_width body s.column s.rows.now.labels s.row.now c.states-states.ensures.lawful c.states-states.ensures.reached c.requires.choices.searched c.args.j c.requires.own in
    let e = ap length (c.label-set.ensures ∙ ap (λ (ks : List ℕ). get_or s.rows.now.labels (get_or ks c.args.j 0) []) c.kids-kids.ensures.states) in
    let many : length body.presences ≤ 64 * (length set - 2) = omega (arith, w, e) in
    c.mark_set.ensures.marked q
    ∙ ap (λ b. b || has_state c.args.out.now q) (set_below may (has_state set) (read_at c.args.stride.now) (length body.presences) (64 * (length set - 2)) q same c.requires.kid many)
