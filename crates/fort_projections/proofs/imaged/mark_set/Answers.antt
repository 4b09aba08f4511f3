use Rattle.std.proofs.Common.{◌≡◌, ◌<◌, List, ℕ, [], length, get_or, true, ap, sym, ◌∙◌, arith}
use Rattle.fort_tables.specs.Entries.{Entry}
use Rattle.fort_tables.specs.Tables.{Table, IsTable, IsReached}
use Rattle.fort_tables.specs.Projections.{has_state}
use Rattle.fort_target_lists.specs.LabelLists.{labels_at}
use Rattle.fort_projections.specs.Scopes.{some_gives}
use Rattle.fort_projections.specs.Choices.{IsNext, IsSearched}
use Rattle.fort_projections.specs.ImageFacts.{with_state}
use Rattle.fort_projections.proofs.ProjectEntries.{length-labels_at, kid_label_width}
use Rattle.fort_projections.proofs.ChoiceSearch.{label_is, turn, turn_last}
use Rattle.fort_projections.proofs.ScopeLaws.{in_set_small}
use Rattle.fort_projections.proofs.imaged.mark_set.Goals as goal

next_same : (v w : List ℕ) (from k : ℕ) → v ≡ w → IsNext (has_state v) from k → IsNext (has_state w) from k
next_same v w from k e n = record {
  low = n.low;
  hit = ap (λ u. has_state u k) (sym e) ∙ n.hit;
  before = λ i a b. ap (λ u. has_state u i) (sym e) ∙ n.before i a b;
}

pub next_in_set-requires : goal.next_in_set-requires
next_in_set-requires g c =
    let body = g.T.Table.table c.args.body.now in
    let rows = c.args.rows.now.labels in
    let e = c.args.row.now in
    let v = c.args.images.now.place in
    let here : v < length e.kids = omega (arith, c.requires.key.place, length-labels_at rows e.kids) in
    let width = kid_label_width body c.args.column rows e c.states-states.ensures.lawful c.states-states.ensures.reached c.requires.searched v here in
    let same = ap length (c.label-set.ensures ∙ ap (λ (ks : List ℕ). get_or rows (get_or ks v 0) []) c.kids-kids.ensures.states) in
    omega (arith, width, same, c.states-states.ensures.count, c.states-states.type_inv)

-- a state that is hit is one of the body's
hit_small : (body : Table) (c : ℕ) (labels : List (List ℕ)) (e : Entry) (v k : ℕ) (w ks : List ℕ) → IsTable body → IsReached body → IsSearched body c labels e → v < length (labels_at labels e.kids) → w ≡ get_or labels (get_or ks v 0) [] → ks ≡ e.kids → has_state w k ≡ true → k < length body.presences
hit_small body c labels e v k w ks is reached s there p q o =
    let here : v < length e.kids = omega (arith, there, length-labels_at labels e.kids) in
    in_set_small body c labels e is reached s v k here (ap (λ u. has_state u k) (sym (label_is labels e v w ks p q here)) ∙ o)

pub mark_state-requires-clause-small : goal.mark_state-requires-clause-small
mark_state-requires-clause-small g c =
    hit_small (g.T.Table.table c.args.body.now) c.args.column c.args.rows.now.labels c.args.row.now c.args.images.now.place c.in-Some.s c.label-set.result.now c.kids-kids.result.now
    c.states-states.ensures.lawful c.states-states.ensures.reached c.requires.searched c.requires.key.place c.label-set.ensures c.kids-kids.ensures.states c.in-Some.ensures.some.hit

pub overflow_cast-s : goal.overflow_cast-s
overflow_cast-s g c =
    omega (
      arith,
      hit_small (g.T.Table.table c.args.body.now) c.args.column c.args.rows.now.labels c.args.row.now c.args.images.now.place c.in-Some.s c.label-set.result.now c.kids-kids.result.now
          c.states-states.ensures.lawful c.states-states.ensures.reached c.requires.searched c.requires.key.place c.label-set.ensures c.kids-kids.ensures.states c.in-Some.ensures.some.hit,
      c.states-states.ensures.count,
      c.states-states.type_inv,
    )

pub overflow_cast-from : goal.overflow_cast-from
overflow_cast-from g c =
    omega (
      arith,
      hit_small (g.T.Table.table c.args.body.now) c.args.column c.args.rows.now.labels c.args.row.now c.args.images.now.place c.in-Some.s c.label-set.result.now c.kids-kids.result.now
          c.states-states.ensures.lawful c.states-states.ensures.reached c.requires.searched c.requires.key.place c.label-set.ensures c.kids-kids.ensures.states c.in-Some.ensures.some.hit,
      c.states-states.ensures.count,
      c.states-states.type_inv,
    )

pub overflow_add-from : goal.overflow_add-from
overflow_add-from g c =
    omega (
      arith,
      hit_small (g.T.Table.table c.args.body.now) c.args.column c.args.rows.now.labels c.args.row.now c.args.images.now.place c.in-Some.s c.label-set.result.now c.kids-kids.result.now
          c.states-states.ensures.lawful c.states-states.ensures.reached c.requires.searched c.requires.key.place c.label-set.ensures c.kids-kids.ensures.states c.in-Some.ensures.some.hit,
      c.states-states.ensures.count,
      c.states-states.type_inv,
    )

pub states-smaller : goal.states-smaller
states-smaller g c =
    omega (
      arith,
      hit_small (g.T.Table.table c.args.body.now) c.args.column c.args.rows.now.labels c.args.row.now c.args.images.now.place c.in-Some.s c.label-set.result.now c.kids-kids.result.now
          c.states-states.ensures.lawful c.states-states.ensures.reached c.requires.searched c.requires.key.place c.label-set.ensures c.kids-kids.ensures.states c.in-Some.ensures.some.hit,
      c.in-Some.ensures.some.low,
    )

pub states-preserved : goal.states-preserved
states-preserved g c =
    let body = g.T.Table.table c.args.body.now in
    let rows = c.args.rows.now.labels in
    let e = c.args.row.now in
    let ws = labels_at rows e.kids in
    let v = c.args.images.now.place in
    let s = c.in-Some.s in
    let i = c.states.invariant in
    let here : v < length e.kids = omega (arith, c.requires.key.place, length-labels_at rows e.kids) in
    let same = label_is rows e v c.label-set.result.now c.kids-kids.result.now c.label-set.ensures c.kids-kids.ensures.states here in
    let next = next_same c.label-set.result.now (get_or ws v []) c.states.from s same c.in-Some.ensures.some in
    let small = in_set_small body c.args.column rows e c.states-states.ensures.lawful c.states-states.ensures.reached c.requires.searched v s here next.hit in
    record {
      within = omega (arith, small);
      images = c.mark_state.ensures.images;
      key = c.mark_state.ensures.key ∙ i.key;
      labels = c.mark_state.ensures.labels ∙ i.labels;
      place = c.mark_state.ensures.place ∙ i.place;
      size = c.mark_state.auto.out ∙ i.size;
      first = c.mark_state.ensures.first ∙ i.first;
      second = c.mark_state.ensures.second ∙ i.second;
      marked = λ q. turn (has_state (get_or ws v [])) (λ k. some_gives body c.args.column e.symbol ws (with_state v k) q) c.states.from s
          (some_gives body c.args.column e.symbol ws (with_state c.states.images.place s) q) (has_state c.mark_state.new.out q) (has_state c.states.out q) (has_state c.args.out.now q)
          next (ap (λ p. some_gives body c.args.column e.symbol ws (with_state p s) q) (sym i.place)) (c.mark_state.ensures.marked q) (i.marked q);
    }

pub returns-clause-marked : goal.returns-clause-marked
returns-clause-marked g c = λ q.
    let body = g.T.Table.table c.args.body.now in
    let rows = c.args.rows.now.labels in
    let e = c.args.row.now in
    let ws = labels_at rows e.kids in
    let v = c.args.images.now.place in
    let here : v < length e.kids = omega (arith, c.requires.key.place, length-labels_at rows e.kids) in
    let same = label_is rows e v c.label-set.result.now c.kids-kids.result.now c.label-set.ensures c.kids-kids.ensures.states here in
    turn_last (has_state (get_or ws v [])) (λ k. some_gives body c.args.column e.symbol ws (with_state v k) q) c.states.from (length body.presences) (has_state c.states.out q) (has_state c.args.out.now q) c.states.invariant.within
    (λ k a b. ap (λ w. has_state w k) (sym same) ∙ c.in_default.ensures.none k a) (c.states.invariant.marked q)
