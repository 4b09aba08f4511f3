use Rattle.std.proofs.Common.{◌≡◌, ◌<◌, ℕ, List, Bool, ◌&&◌, ◌||◌, map, length, take, get_or, sym, ap, ◌∙◌, arith}
use Rattle.std.specs.List.{list_any}
use Rattle.std.specs.Prelude.{vec_items}
use Rattle.std.proofs.Math.Bool.{or_assoc}
use Rattle.std.proofs.lemmas.List.{get_or_default, length-map}
use Rattle.std.proofs.lemmas.List.Elements.{Contains-get_or}
use Rattle.fort_tuple_symbols.specs.Columns.{as_column}
use Rattle.fort_alike.specs.PatternNumbers.{PatternNumber, number_inside}
use Rattle.fort_label_bits.specs.RowBits.{bit_of, labels_at}
use Rattle.fort_label_bits.specs.BitRowLists.{row_in}
use Rattle.fort_label_bits.proofs.BitRowListLaws.{list_any-more}
use Rattle.fort_relation_exprs.specs.Sides.{adds_at, leads_in, move_in, moves_in, no_move}
use Rattle.fort_relation_exprs.specs.declared.side.SideMove.{SideMove}
use Rattle.fort_relation_exprs.proofs.side.write_listed.Goals as goal

pub move_at-step-requires : goal.move_at-step-requires
move_at-step-requires c =
    let l : get_or c.args.listed.now c.loop-k.k-index 0 < length (moves_in c.args.side.now) = c.requires.listed _ (Contains-get_or c.args.listed.now c.loop-k.k-index 0 c.loop-k-test.true) in
    omega (arith, l, length-map c.args.side.now.moves.items move_in, ap length c.deref.ensures.value)

pub row_at-requires : goal.row_at-requires
row_at-requires c =
    let item : ℕ = get_or c.args.listed.now c.loop-k.k-index 0 in
    let l : item < length (moves_in c.args.side.now) = c.requires.listed _ (Contains-get_or c.args.listed.now c.loop-k.k-index 0 c.loop-k-test.true) in
    let at : move_in c.move_at-step.result.now ≡ get_or (moves_in c.args.side.now) item no_move =
    c.move_at-step.ensures ∙ ap (λ (ms : List SideMove). get_or (map move_in ms) item no_move) c.deref.ensures.value in
    let m = c.requires.side.1.targets _ (Contains-get_or (moves_in c.args.side.now) item no_move l) in
    let e : c.move_at-step.result.now.target ≡ (get_or (moves_in c.args.side.now) item no_move).1 = ap (λ (m : PatternNumber × ℕ). m.1) at in
    omega (arith, m, e, length-map c.args.side.now.leads.items vec_items, ap length c.deref-in-loop-k.ensures.value)

pub loop-k-preserved : goal.loop-k-preserved
loop-k-preserved c q =
    let ws : List (List ℕ) = labels_at c.args.rows.now.labels c.args.row.now.kids in
    let item : ℕ = get_or c.args.listed.now c.loop-k.k-index 0 in
    let old = bit_of q c.args.out.now in
    let test : ℕ → Bool = adds_at c.args.base (moves_in c.args.side.now) (leads_in c.args.side.now) (as_column c.args.root) ws q in
    let at : move_in c.move_at-step.result.now ≡ get_or (moves_in c.args.side.now) item no_move =
    c.move_at-step.ensures ∙ ap (λ (ms : List SideMove). get_or (map move_in ms) item no_move) c.deref.ensures.value in
    let adds : PatternNumber × ℕ → Bool = λ m. number_inside c.args.base m.0 (as_column c.args.root) ws && bit_of q (row_in (leads_in c.args.side.now) m.1) in
    let row : bit_of q c.row_at.result.now ≡ bit_of q (row_in (leads_in c.args.side.now) c.move_at-step.result.now.target) =
    ap (bit_of q) (rw c.deref-in-loop-k.ensures.value at c.row_at.ensures) in
    let here = (λ i. c.is_inside-holds.ensures i && row i) ∙ ap adds at in
    c.add_row.ensures q
    ∙ ((λ i. c.loop-k.invariant q i || here i)
    ∙ (or_assoc old (list_any test (take c.loop-k.k-index c.args.listed.now)) (test item)
    ∙ ap (λ b. old || b)
    (sym (list_any-more test c.args.listed.now c.loop-k.k-index item c.loop-k-test.true (get_or_default c.args.listed.now c.loop-k.k-index _ _ c.loop-k-test.true)))))
