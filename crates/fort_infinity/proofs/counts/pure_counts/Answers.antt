use Rattle.std.proofs.Common.{◌≤◌, ℕ, map, length, get_or, ◌∙◌, ap, sym, arith, subst}
use Rattle.std.proofs.lemmas.Result.{IfOk-weaker}
use Rattle.fort_tables.specs.Counts.{AreCounts}
use Rattle.fort_tables.proofs.CountLaws.{marks_by, counts_by_ranks}
use Rattle.fort_infinity.specs.LeastUnranked.{least_child}
use Rattle.fort_infinity.proofs.LeastLaws.{AreLeast-children}
use Rattle.fort_infinity.proofs.TryLaws.{children_within}
use Rattle.fort_infinity.proofs.counts.pure_counts.Goals as goal

pub settled_ranks-requires-clause-ready : goal.settled_ranks-requires-clause-ready
settled_ranks-requires-clause-ready g c =
    (g.T.Table.table c.args.body.now, c.args.column, record { column = c.requires.column; pure = c.requires.alone }, c.in_ok-children.ensures)

pub settled_ranks-requires-clause-small : goal.settled_ranks-requires-clause-small
settled_ranks-requires-clause-small g c = let h = c.in_ok-children.ensures in omega (arith, h.count, c.states-states.ensures.count, c.states-states.type_inv)

pub list_counts-requires-clause-states : goal.list_counts-requires-clause-states
list_counts-requires-clause-states g c = λ i l. let p = c.requires.alone.each i l in let h = c.in_ok-children.ensures in omega (arith, p.0, h.count)

pub list_counts-requires-clause-children : goal.list_counts-requires-clause-children
list_counts-requires-clause-children g c =
    children_within (g.T.Table.table c.args.body.now) c.args.column c.in_ok-children.children c.requires.column c.in_ok-children.ensures

pub list_counts-requires-clause-ranks : goal.list_counts-requires-clause-ranks
list_counts-requires-clause-ranks g c = ap length c.deref.ensures.value ∙ c.in_ok-ranks.ensures.count

pub returns : goal.returns
returns g c =
    let body = g.T.Table.table c.args.body.now in
    let children = c.in_ok-children.children in
    let h = c.in_ok-children.ensures in
    let rank : ℕ → ℕ = λ k. get_or c.in_ok-ranks.ranks.items k 0 in
    let settled = c.in_ok-ranks.ensures.settled body c.args.column (record { column = c.requires.column; pure = c.requires.alone }) h in
    let least = AreLeast-children body c.args.column children rank c.requires.column h (let l : length children ≤ 4294967295 = omega (arith, h.count, c.states-states.ensures.count, c.states-states.type_inv) in l) settled in
    let all = counts_by_ranks body c.args.column rank (least_child children rank) c.args.alone.now c.states-states.ensures.lawful c.states-states.ensures.reached c.requires.column c.requires.alone settled least in
    let value = c.deref.ensures.value in
    IfOk-weaker c.list_counts.result _ _ (λ counts e.
    let same = e ∙ (λ j. map (marks_by (λ k. get_or (value j) k 0) (least_child children (λ k. get_or (value j) k 0))) c.args.alone.now) in
    subst (AreCounts body c.args.column c.args.alone.now) (sym same) all) c.list_counts.ensures
