use Rattle.std.proofs.Common.{◌≡◌, ℕ, ◌+◌, ◌++◌, List, [], Bool, Option, map, length, replicate, refl, sym, subst, ◌∙◌, arith}
use Rattle.std.proofs.lemmas.List.{length-map, length-append}
use Rattle.fort_tuple_symbols.specs.Columns.{as_column}
use Rattle.fort_alike.specs.ListedAtoms.{ListedAtom}
use Rattle.fort_label_bits.specs.RowBits.{HasBits}
use Rattle.fort_mark_keys.specs.AskedMarks.{asks_pattern}
use Rattle.fort_mark_keys.specs.AskedFacts.{kind_seen, asked_count, are_asked}
use Rattle.fort_mark_keys.specs.MarkKeysView.{keys_seen, mark_words}
use Rattle.fort_mark_keys.proofs.MarkMaskLaws.{HasBits-facts, mask-by}
use Rattle.fort_mark_keys.proofs.mark_keys.MarkKeys.write_mask.Goals as goal

pub returns : goal.returns
returns c =
    let k = c.args.self.now in
    let a : ListedAtom = keys_seen k in
    let x : Option ℕ = as_column c.column-first.result in
    let y : Option ℕ = as_column c.column-second.result in
    let ls : List Bool = map (asks_pattern k.left x c.args.place) k.left in
    let rs : List Bool = map (asks_pattern k.right y c.args.place) k.right in
    let one : HasBits ls c.put_asked.new.out = c.put_asked.ensures [] refl c.clear.ensures in
    let left_size : length ls ≡ c.len-right_base.result = length-map k.left (asks_pattern k.left x c.args.place) ∙ sym c.len-right_base.ensures.count in
    let two : HasBits (ls ++ rs) c.put_asked-2.new.out = c.put_asked-2.ensures ls left_size one in
    let size : length (ls ++ rs) ≡ c.len-right_base.result + c.len.result =
    omega (arith, length-append ls rs, left_size, length-map k.right (asks_pattern k.right y c.args.place), c.len.ensures.count) in
    let three : HasBits ((ls ++ rs) ++ replicate c.asked_count.result c.are_asked-on.result) c.put_marks.new.out = c.put_marks.ensures (ls ++ rs) size two in
    let four : HasBits ((ls ++ rs) ++ replicate (asked_count (kind_seen k.rel)) (are_asked k.rel x y)) c.put_marks.new.out =
    subst (λ bs. HasBits ((ls ++ rs) ++ bs) c.put_marks.new.out) (λ i. replicate (c.asked_count.ensures i) (c.are_asked-on.ensures i)) three in
    let row = c.put_first.ensures _ (HasBits-facts k.rel x y (ls ++ rs) c.put_marks.new.out four) in
    let wide : length c.put_first.new.out ≡ mark_words a =
    omega (arith, c.requires.room, c.clear.auto.out, c.put_asked.auto.out, c.put_asked-2.auto.out, c.put_marks.auto.out, c.put_first.auto.out) in
    mask-by a c.args.symbol.now c.args.place x y c.put_first.new.out c.column-first.ensures c.column-second.ensures wide row
