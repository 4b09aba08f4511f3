use Rattle.std.proofs.Common.{◌≡◌, ℕ, suc, ◌+◌, ◌≤◌, List, [], ◌++◌, Bool, true, map, length, refl, sym, subst, arith}
use Rattle.std.proofs.lemmas.List.{length-map}
use Rattle.fort_relations.specs.RelView.{as_rel}
use Rattle.fort_tuple_symbols.specs.Columns.{as_column}
use Rattle.fort_tables.specs.BitRows.{words_for}
use Rattle.fort_alike.specs.Atoms.{kind_for}
use Rattle.fort_alike.specs.Alike.{is_reaching}
use Rattle.fort_alike.specs.AtomRules.{marks_of}
use Rattle.fort_alike.specs.PatternNumbers.{PatternNumber, number_inside}
use Rattle.fort_label_bits.specs.RowBits.{HasBits, labels_at}
use Rattle.fort_context_closure.specs.ReachRows.{HasRows}
use Rattle.fort_context_closure.specs.RelationView.{atom_seen, listed_seen, left_patterns, right_patterns}
use Rattle.fort_context_closure.proofs.MarkCounts.{length-marks_of}
use Rattle.fort_context_closure.proofs.ReachLaws.{reached-bits, plain-bits}
use Rattle.fort_context_closure.proofs.relation.RelationBits.write_patterns.Goals as goal

pub add_reached-requires-clause-reach : goal.add_reached-requires-clause-reach
add_reached-requires-clause-reach c =
    let b = c.self.inside in
    let is = c.self.invariant in
    let rows : HasRows (length (left_patterns b)) (length (right_patterns b)) b.reach = (is.reaching (sym c.if-not-is_reduction.ensures)).rows in
    rw (c.deref-3.ensures.value, c.deref-4.ensures.value)
    (subst (λ n. HasRows n (length b.rights.items) b.reach) (sym is.left_numbers.count)
    (subst (λ n. HasRows (length (left_patterns b)) n b.reach) (sym is.right_numbers.count) rows))

pub add_reached-requires-clause-room : goal.add_reached-requires-clause-room
add_reached-requires-clause-room c =
    let b = c.self.inside in
    let is = c.self.invariant in
    let room : length c.args.out.now ≡ suc (words_for (length (marks_of (listed_seen b)))) = rw (← c.self.view_is) at c.requires.room in
    let wide : suc (words_for (length b.lefts.items + length b.rights.items)) ≤ length c.write_rooted-2.new.out =
    omega (arith, room, is.left_numbers.count, is.right_numbers.count, length-marks_of (listed_seen b), c.clear.auto.out, c.write_rooted.auto.out, c.write_rooted-2.auto.out) in
    rw (c.deref-3.ensures.value, c.deref-4.ensures.value) wide

pub add_reached-requires-clause-rules : goal.add_reached-requires-clause-rules
add_reached-requires-clause-rules c =
    let b = c.self.inside in
    let is = c.self.invariant in
    rw (c.deref-3.ensures.value, c.deref-4.ensures.value, c.deref-5.ensures.value) (λ r k. (
      let l = (is.within r k).0 in omega (arith, l, is.left_numbers.count),
      let m = (is.within r k).1 in omega (arith, m, is.right_numbers.count),
    ))

pub returns-then-not-is_reduction : goal.returns-then-not-is_reduction
returns-then-not-is_reduction c =
    let b = c.self.inside in
    let is = c.self.invariant in
    let ws : List (List ℕ) = labels_at c.args.rows.now.labels c.args.row.now.kids in
    let x = as_column c.args.first in
    let y = as_column c.args.second in
    let f : PatternNumber → Bool = λ p. number_inside 0 p x ws in
    let s : PatternNumber → Bool = λ p. number_inside (length (left_patterns b)) p y ws in
    let base : c.len-right_base.result ≡ length (left_patterns b) = omega (arith, c.len-right_base.ensures, is.left_numbers.count) in
    let one : HasBits (map f b.lefts.items) c.write_rooted.new.out = rw c.deref.ensures.value at (c.write_rooted.ensures [] refl c.clear.ensures) in
    let size : length (map f b.lefts.items) ≡ c.len-right_base.result = omega (arith, length-map b.lefts.items f, c.len-right_base.ensures) in
    let two : HasBits (map f b.lefts.items ++ map s b.rights.items) c.write_rooted-2.new.out =
    rw (c.deref-2.ensures.value, base) at (c.write_rooted-2.ensures (map f b.lefts.items) size one) in
    rw (← c.self.view_is)
    (plain-bits (atom_seen b) (sym c.if-not-is_reduction.ensures) is.once b.lefts.items b.rights.items is.left_numbers is.right_numbers x y ws c.write_rooted-2.new.out two)

pub returns : goal.returns
returns c =
    let b = c.self.inside in
    let is = c.self.invariant in
    let ws : List (List ℕ) = labels_at c.args.rows.now.labels c.args.row.now.kids in
    let x = as_column c.args.first in
    let y = as_column c.args.second in
    let f : PatternNumber → Bool = λ p. number_inside 0 p x ws in
    let s : PatternNumber → Bool = λ p. number_inside (length (left_patterns b)) p y ws in
    let reaching : is_reaching (kind_for (as_rel b.rel)) ≡ true = sym c.if-not-is_reduction.ensures in
    let base : c.len-right_base.result ≡ length (left_patterns b) = omega (arith, c.len-right_base.ensures, is.left_numbers.count) in
    let one : HasBits (map f b.lefts.items) c.write_rooted.new.out = rw c.deref.ensures.value at (c.write_rooted.ensures [] refl c.clear.ensures) in
    let size : length (map f b.lefts.items) ≡ c.len-right_base.result = omega (arith, length-map b.lefts.items f, c.len-right_base.ensures) in
    let two : HasBits (map f b.lefts.items ++ map s b.rights.items) c.write_rooted-2.new.out =
    rw (c.deref-2.ensures.value, base) at (c.write_rooted-2.ensures (map f b.lefts.items) size one) in
    rw (← c.self.view_is)
    (reached-bits (atom_seen b) reaching is.once is.left_once is.right_once b.lefts.items b.rights.items is.left_numbers is.right_numbers b.rules.items is.within refl b.reach
    (is.reaching reaching) x y ws c.write_rooted-2.new.out c.add_reached.new.out two
    (rw (c.deref-3.ensures.value, c.deref-4.ensures.value, c.deref-5.ensures.value) at c.add_reached.ensures))
