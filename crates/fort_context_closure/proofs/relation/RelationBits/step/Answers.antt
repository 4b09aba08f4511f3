use Rattle.std.proofs.Common.{◌≡◌, ℕ, suc, ◌+◌, List, [], ◌++◌, Bool, None, map, length, get_or, refl, sym, ◌∙◌, arith}
use Rattle.std.proofs.lemmas.List.{length-map, length-append}
use Rattle.std.proofs.lemmas.Option.{get_or_from_slice_get}
use Rattle.fort_theory.specs.Patterns.{Pattern}
use Rattle.fort_tables.specs.Tuples.{presence}
use Rattle.fort_tuple_symbols.specs.Columns.{as_column}
use Rattle.fort_relations.specs.RelView.{as_rel}
use Rattle.fort_label_bits.specs.RowBits.{HasBits, IsRow, labels_at}
use Rattle.fort_label_bits.specs.RulePlaces.{pair_at}
use Rattle.fort_context_closure.specs.ClosedAtoms.{test_of}
use Rattle.fort_alike.specs.AtomRules.{root_test, bit_in, marks_of, first_step, second_step}
use Rattle.fort_tables.specs.BitRows.{words_for}
use Rattle.fort_alike.specs.Atoms.{kind_for}
use Rattle.fort_alike.specs.Alike.{facts_of, is_reaching}
use Rattle.fort_context_closure.specs.FactTests.{fact_bit, fact_test}
use Rattle.fort_context_closure.specs.RelationView.{atom_seen, listed_seen, left_patterns, right_patterns}
use Rattle.fort_context_closure.proofs.NodeRowLaws.{node_marks, label-is, root-own}
use Rattle.fort_context_closure.proofs.RelationLaws.{bits-are}
use Rattle.fort_context_closure.proofs.relation.RelationBits.step.Goals as goal

pub some_marked-root-requires-clause-inside : goal.some_marked-root-requires-clause-inside
some_marked-root-requires-clause-inside c =
    let is = c.self.invariant in
    rw c.deref-2.ensures.value (λ r k. let l = (is.within r k).0 in omega (arith, l, is.left_numbers.count, c.len-right_base.ensures))

pub some_marked-root-requires-clause-under : goal.some_marked-root-requires-clause-under
some_marked-root-requires-clause-under c = rw (c.deref.ensures.value, c.deref-2.ensures.value) c.self.invariant.under

pub returns : goal.returns
returns c =
    let b = c.self.inside in
    let a = listed_seen b in
    let closure = test_of (atom_seen b) in
    let is = c.self.invariant in
    let rel = as_rel b.rel in
    let ls : List Pattern = left_patterns b in
    let rs : List Pattern = right_patterns b in
    let pairs = map (pair_at ls rs) b.rules.items in
    let n = b.arguments.columns in
    let i = b.arguments.first in
    let j = b.arguments.second in
    let labels : List (List ℕ) = c.args.rows.now.labels in
    let e = c.args.row.now in
    let ws : List (List ℕ) = labels_at labels e.kids in
    let x = as_column c.symbol-first.result in
    let y = as_column c.symbol-second.result in
    let f : Pattern → Bool = first_step (is_reaching a.atom.kind) (bit_in a) pairs closure x ws in
    let s : Pattern → Bool = second_step (is_reaching a.atom.kind) (bit_in a) pairs closure y ws in
    let firsts : List Bool = map f ls in
    let seconds : List Bool = map s rs in
    let left_size : length b.lefts.items ≡ c.len-right_base.result = omega (arith, c.len-right_base.ensures) in
    let right_size : length b.rights.items ≡ c.len.result = omega (arith, c.len.ensures) in
    let base : c.len-right_base.result ≡ length ls = sym left_size ∙ is.left_numbers.count in
    let bases : c.len-right_base.result + c.len.result ≡ length ls + length rs = omega (arith, base, right_size, is.right_numbers.count) in
    let two : HasBits (firsts ++ seconds) c.write_patterns.new.out = rw (← c.self.view_is) at c.write_patterns.ensures in
    let sizes : length (firsts ++ seconds) ≡ c.len-right_base.result + c.len.result =
    omega (arith, bases, length-append firsts seconds, length-map ls f, length-map rs s) in
    let root : c.some_marked-root.result ≡ root_test (is_reaching a.atom.kind) (bit_in a) pairs closure x y ws =
    c.some_marked-root.ensures ∙ (rw (c.deref-2.ensures.value, base) (root-own a closure x y ws firsts seconds b.rules.items c.write_patterns.new.out refl refl is.within refl two)) in
    let bits : List Bool = (firsts ++ seconds)
    ++ map (fact_test (fact_bit (kind_for rel) (length ls + length rs)) c.same_roots.result c.some_marked-root.result ws) (facts_of (kind_for rel)) in
    let all : HasBits bits c.write_facts.new.out = rw bases at (c.write_facts.ensures (firsts ++ seconds) sizes two) in
    let row : IsRow (presence e.symbol) bits c.put_first.new.out = rw c.presence.ensures at (c.put_first.ensures bits all) in
    let same = bits-are [] rel n i j pairs ls rs closure x y ws c.same_roots.result c.some_marked-root.result c.same_roots.ensures root firsts seconds refl refl in
    let at_first : get_or e.symbol i None ≡ x = get_or_from_slice_get e.symbol i x None c.symbol-first.ensures in
    let at_second : get_or e.symbol j None ≡ y = get_or_from_slice_get e.symbol j y None c.symbol-second.ensures in
    let wide : length c.put_first.new.out ≡ suc (words_for (length (marks_of c.args.self.now.atom))) =
    omega (arith, c.requires.room, c.write_patterns.auto.out, c.write_facts.auto.out, c.put_first.auto.out) in
    let size_out : length c.put_first.new.out ≡ suc (words_for (length (marks_of a))) = rw (← c.self.view_is) at wide in
    rw (← c.self.view_is)
    (label-is a closure labels e c.put_first.new.out bits
    (same ∙ (λ k. map (node_marks a closure (sym at_first k) (sym at_second k) ws) (marks_of a))) size_out row)
