use Rattle.std.proofs.Common.{◌≡◌, ◌||◌, ◌<◌, ℕ, List, [], map, length, sym, ap, subst, ◌∙◌, arith}
use Rattle.std.specs.Prelude.{vec_items}
use Rattle.std.proofs.lemmas.List.{get_or-map, map-set, length-map, get_or-set_other}
use Rattle.fort_label_bits.specs.RowBits.{bit_of}
use Rattle.fort_label_bits.specs.BitRowLists.{row_in}
use Rattle.fort_relation_exprs.specs.LeadRows.{off_row}
use Rattle.fort_relation_exprs.proofs.LeadRowLaws.{JoinsRow-swapped, JoinsRow-itself}
use Rattle.fort_relation_exprs.proofs.leads.join.Goals as goal

pub join_in-more-requires : goal.join_in-more-requires
join_in-more-requires c =
    let old : List (List ℕ) = map vec_items c.args.rows.now.items in
    let many : length old ≡ length c.args.rows.now.items = length-map c.args.rows.now.items vec_items in
    let row : c.deref.result.now ≡ row_in old c.args.to =
    c.deref.ensures.value ∙ (ap vec_items (c.replace-row.ensures.value ∙ c.index_mut.ensures.value)
    ∙ sym (get_or-map vec_items c.args.rows.now.items c.args.to c.index_mut.result.now [] c.requires.to)) in
    let out : c.index_mut-2.result.now.items ≡ row_in old c.args.from =
    ap vec_items (c.index_mut-2.ensures.value ∙ get_or-set_other c.args.rows.now.items c.args.to c.args.from c.replace-row.new.dest c.index_mut-2.result.now c.if-from-to.false)
    ∙ sym (get_or-map vec_items c.args.rows.now.items c.args.from c.index_mut-2.result.now [] c.requires.from) in
    let same = c.requires.even c.args.from c.args.to (omega (arith, many, c.requires.from)) (omega (arith, many, c.requires.to)) in
    omega (arith, ap length row, ap length out, same)

pub returns-then-from-to : goal.returns-then-from-to
returns-then-from-to c = JoinsRow-itself (map vec_items c.args.rows.now.items) c.args.from c.args.to c.if-from-to.true

pub returns : goal.returns
returns c =
    let old : List (List ℕ) = map vec_items c.args.rows.now.items in
    let many : length old ≡ length c.args.rows.now.items = length-map c.args.rows.now.items vec_items in
    let taken : c.replace-row.result.items ≡ row_in old c.args.to =
    ap vec_items (c.replace-row.ensures.value ∙ c.index_mut.ensures.value) ∙ sym (get_or-map vec_items c.args.rows.now.items c.args.to c.index_mut.result.now [] c.requires.to) in
    let row : c.deref.result.now ≡ row_in old c.args.to = c.deref.ensures.value ∙ taken in
    let out : c.index_mut-2.result.now.items ≡ row_in old c.args.from =
    ap vec_items (c.index_mut-2.ensures.value ∙ get_or-set_other c.args.rows.now.items c.args.to c.args.from c.replace-row.new.dest c.index_mut-2.result.now c.if-from-to.false)
    ∙ sym (get_or-map vec_items c.args.rows.now.items c.args.from c.index_mut-2.result.now [] c.requires.from) in
    let none : c.replace-row.new.dest.items ≡ [] = ap vec_items c.replace-row.ensures.after ∙ c.new.ensures.items in
    let w : List ℕ = c.join_in-more.new.out.items in
    rw (map-set, map-set, map-set, none)
    (JoinsRow-swapped old c.args.from c.args.to c.join_in-more.result w c.replace-row.result.items (omega (arith, many, c.requires.from)) c.if-from-to.false taken
    (c.join_in-more.ensures.width ∙ ap length out) (λ q. c.join_in-more.ensures.bits q ∙ λ i. bit_of q (out i) || bit_of q (row i))
    (λ e. subst (λ (o : List ℕ). off_row w < off_row o) out (c.join_in-more.ensures.less e)) (λ e. c.join_in-more.ensures.still e ∙ out))
