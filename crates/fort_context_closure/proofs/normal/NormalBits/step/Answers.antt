use Rattle.fort_context_closure.specs.PlainAtoms.{no_closure}
use Rattle.std.proofs.Common.{◌≡◌, ℕ, suc, List, [], ◌∷◌, ◌++◌, Bool, None, not, ◌&&◌, map, length, get_or, slice_get, refl, sym, ap, ◌∙◌, arith}
use Rattle.std.proofs.lemmas.List.{length-map}
use Rattle.std.proofs.lemmas.Option.{get_or_from_slice_get}
use Rattle.fort_theory.specs.Patterns.{Pattern}
use Rattle.fort_tables.specs.Tuples.{TupleSymbol, presence}
use Rattle.fort_tables.specs.BitRows.{words_for}
use Rattle.fort_tuple_symbols.specs.Columns.{as_column}
use Rattle.fort_alike.specs.AtomRules.{marks_of}
use Rattle.fort_alike.specs.PatternNumbers.{PatternNumber, number_inside}
use Rattle.fort_label_bits.specs.RowBits.{HasBits, IsRow, labels_at}
use Rattle.fort_context_closure.specs.SidePlaces.{side_at}
use Rattle.fort_context_closure.specs.NormalView.{normal_seen, normal_patterns}
use Rattle.fort_context_closure.proofs.NodeRowLaws.{node_marks, label-is, firsts-are}
use Rattle.fort_context_closure.proofs.NormalLaws.{normal-are, normal-on, side-own}
use Rattle.fort_context_closure.proofs.normal.NormalBits.step.Goals as goal

pub returns : goal.returns
returns c =
    let wide : length c.put_first.new.out ≡ suc (words_for (length (marks_of c.args.self.now))) =
    omega (arith, c.requires.room, c.clear.auto.out, c.write_inside.auto.out, c.put_mark.auto.out, c.put_first.auto.out) in
    let b = c.self.inside in
    let is = c.self.invariant in
    let a = normal_seen b in
    let ls : List Pattern = normal_patterns b in
    let pairs = map (side_at ls) b.sides.items in
    let labels : List (List ℕ) = c.args.rows.now.labels in
    let e = c.args.row.now in
    let ws : List (List ℕ) = labels_at labels e.kids in
    let x = as_column c.symbol-root.result in
    let f : PatternNumber → Bool = λ p. number_inside 0 p x ws in
    let firsts : List Bool = map f b.lefts.items in
    let firsts_are = firsts-are a is.once b.lefts.items x ws is.numbers in
    let left_size : length b.lefts.items ≡ c.len-base.result = sym (ap length c.deref.ensures.value) ∙ (c.deref.ensures.len ∙ sym c.len-base.ensures) in
    let base : c.len-base.result ≡ length ls = sym left_size ∙ is.numbers.count in
    let one : HasBits firsts c.write_inside.new.out = rw c.deref.ensures.value at (c.write_inside.ensures [] refl c.clear.ensures) in
    let size : length firsts ≡ c.len-base.result = length-map b.lefts.items f ∙ left_size in
    let sides = c.some_side-reducible.ensures ∙ (rw c.deref-2.ensures.value (side-own [] pairs ls x ws firsts b.sides.items c.write_inside.new.out firsts_are is.within refl one)) in
    let on : Bool = c.is_there.result && (not c.some_side-reducible.result && c.all_have.result) in
    let on_is = normal-on [] pairs ls x x ws c.len-base.result c.is_there.result c.some_side-reducible.result c.all_have.result base c.is_there.ensures sides c.all_have.ensures in
    let all : HasBits (firsts ++ on ∷ []) c.put_mark.new.out = c.put_mark.ensures firsts size one in
    let row : IsRow (presence e.symbol) (firsts ++ on ∷ []) c.put_first.new.out = rw c.presence.ensures at (c.put_first.ensures (firsts ++ on ∷ []) all) in
    let same = normal-are [] pairs ls x x ws firsts on firsts_are on_is in
    let at_root : get_or e.symbol 0 None ≡ x =
    get_or_from_slice_get e.symbol 0 x None (ap (λ (g : TupleSymbol). slice_get g 0) (sym c.sym.ensures) ∙ c.symbol-root.ensures) in
    let size_out : length c.put_first.new.out ≡ suc (words_for (length (marks_of a))) = rw (← c.self.view_is) at wide in
    rw (← c.self.view_is)
    (label-is a no_closure labels e c.put_first.new.out (firsts ++ on ∷ [])
    (same ∙ (λ k. map (node_marks a no_closure (sym at_root k) (sym at_root k) ws) (marks_of a))) size_out row)
