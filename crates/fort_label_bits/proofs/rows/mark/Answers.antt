use Rattle.std.proofs.Common.{◌≡◌, ◌<◌, ◌+◌, ◌-◌, ◌*◌, ◌||◌, ◌==◌, ℕ, List, [], map, length, sym, ap, subst, ◌∙◌, arith}
use Rattle.std.specs.Prelude.{vec_items}
use Rattle.std.proofs.lemmas.List.{get_or-map, map-set, length-map}
use Rattle.fort_tables.specs.BitRows.{has_bit}
use Rattle.fort_label_bits.specs.BitRowLists.{row_in}
use Rattle.fort_label_bits.proofs.BitRowListLaws.{SetsBit-set}
use Rattle.fort_label_bits.proofs.rows.mark.Goals as goal

pub set_in-requires-clause-room : goal.set_in-requires-clause-room
set_in-requires-clause-room c =
    let old : List (List ℕ) = map vec_items c.args.rows.now.items in
    let here : c.index_mut.result.now.items ≡ row_in old c.args.row =
    ap vec_items c.index_mut.ensures.value ∙ sym (get_or-map vec_items c.args.rows.now.items c.args.row c.index_mut.result.now [] c.requires.row) in
    subst (λ (w : List ℕ). c.args.bit < 64 * (length w - 1)) (sym here) c.requires.bit

pub returns : goal.returns
returns c =
    let old : List (List ℕ) = map vec_items c.args.rows.now.items in
    let here : c.index_mut.result.now.items ≡ row_in old c.args.row =
    ap vec_items c.index_mut.ensures.value ∙ sym (get_or-map vec_items c.args.rows.now.items c.args.row c.index_mut.result.now [] c.requires.row) in
    rw map-set
    (SetsBit-set old c.args.row c.args.bit c.set_in.new.row.items (omega (arith, c.requires.row, length-map c.args.rows.now.items vec_items))
    (c.set_in.ensures.width ∙ ap length here) (λ i. c.set_in.ensures.bits i ∙ ap (λ (w : List ℕ). (64 + c.args.bit == i) || has_bit w i) here))
