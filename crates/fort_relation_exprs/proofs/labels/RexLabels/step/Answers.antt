use Rattle.std.proofs.Common.{◌≡◌, ℕ, ◌+◌, List, ◌++◌, Bool, None, map, length, get_or, subst, ◌∙◌, arith}
use Rattle.std.proofs.lemmas.Option.{get_or_from_slice_get}
use Rattle.fort_tables.specs.Tuples.{presence}
use Rattle.fort_tuple_symbols.specs.Columns.{as_column}
use Rattle.fort_alike.specs.ExpressionAlike.{PairFact}
use Rattle.fort_alike.specs.ExpressionStates.{Truths}
use Rattle.fort_alike.specs.ExpressionRules.{facts_of, fact_bit, fact_step, left_step, right_step, some_pair}
use Rattle.fort_label_bits.specs.RowBits.{HasBits, IsRow, labels_at}
use Rattle.fort_relation_exprs.specs.FactRows.{fact_told, fact_test}
use Rattle.fort_relation_exprs.specs.RexSeen.{RexSeen, states_of}
use Rattle.fort_relation_exprs.specs.RexInside.{rex_seen}
use Rattle.fort_relation_exprs.specs.RexView.{rex_words}
use Rattle.fort_relation_exprs.proofs.RowLaws.{both, length-both, both-left, both-right, HasBits-sides, some_rule-some_pair, facts-step, row-label}
use Rattle.fort_relation_exprs.proofs.labels.RexLabels.step.Goals as goal

pub some_marked-root-requires-clause-inside : goal.some_marked-root-requires-clause-inside
some_marked-root-requires-clause-inside c = rw c.deref-2.ensures.value (λ r k. (c.self.invariant.pairs r k).0)

pub returns : goal.returns
returns c sig =
    let b = c.self.inside in
    let l : RexSeen = rex_seen b in
    let is = c.self.invariant in
    let e = c.args.row.now in
    let ws : List (List ℕ) = labels_at c.args.rows.now.labels e.kids in
    let x = as_column c.symbol-first.result in
    let y = as_column c.symbol-second.result in
    let n = b.left.count in
    let m = b.right.count in
    let left : Truths = left_step (states_of l) x ws in
    let right : Truths = right_step (states_of l) y ws in
    let sides : HasBits (both n m left right) c.write-2.new.out =
    HasBits-sides l x y ws is.left.inside is.right.inside c.clear.new.out c.write.new.out c.write-2.new.out c.clear.ensures c.write.ensures c.write-2.ensures in
    let root : c.some_marked-root.result ≡ some_pair left right l.pairs =
    (rw c.deref-2.ensures.value at c.some_marked-root.ensures)
    ∙ some_rule-some_pair b.pairs.items n c.write-2.new.out left right
    (λ r k.
    let low = is.pairs r k in
    (sides r.left ∙ both-left n m left right r.left low.0, sides (n + r.right) ∙ both-right n m left right r.right low.1)) in
    let facts : List PairFact = facts_of l.shape in
    let test : PairFact → Bool = fact_test (fact_told (n + m) facts) c.same_roots.result c.some_marked-root.result ws in
    let all : HasBits (both n m left right ++ map test facts) c.write_facts.new.out = c.write_facts.ensures (both n m left right) (length-both n m left right) sides in
    let row : IsRow (presence e.symbol) (both n m left right ++ map test facts) c.put_first.new.out =
    rw c.presence.ensures at (c.put_first.ensures (both n m left right ++ map test facts) all) in
    let same = facts-step n m facts x y c.same_roots.result c.some_marked-root.result (some_pair left right l.pairs) ws c.same_roots.ensures root in
    let wide : length c.put_first.new.out ≡ rex_words c.args.self.now =
    omega (arith, c.requires.room, c.clear.auto.out, c.write.auto.out, c.write-2.auto.out, c.write_facts.auto.out, c.put_first.auto.out) in
    let size : length c.put_first.new.out ≡ rex_words l = rw (← c.self.view_is) at wide in
    let label = row-label n m facts left right (fact_step (fact_bit n m facts) (some_pair left right l.pairs) x y ws) (presence e.symbol) c.put_first.new.out size
    (subst (λ (bs : List Bool). IsRow (presence e.symbol) (both n m left right ++ bs) c.put_first.new.out) same row) in
    let at_first : get_or e.symbol b.arguments.first None ≡ x = get_or_from_slice_get e.symbol b.arguments.first x None c.symbol-first.ensures in
    let at_second : get_or e.symbol b.arguments.second None ≡ y = get_or_from_slice_get e.symbol b.arguments.second y None c.symbol-second.ensures in
    rw (← c.self.view_is, at_first, at_second) label
