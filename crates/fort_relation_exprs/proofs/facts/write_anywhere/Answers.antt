use Rattle.std.proofs.Common.{List, Bool, ◌||◌, ◌++◌, ap, subst, ◌∙◌}
use Rattle.fort_label_bits.specs.RowBits.{HasBits, labels_at}
use Rattle.fort_label_bits.proofs.RowBitLaws.{HasBits-two, length-pushed}
use Rattle.fort_relation_exprs.proofs.FactLaws.{same-told, any-told, two-same}
use Rattle.fort_relation_exprs.proofs.facts.write_anywhere.Goals as goal

pub returns-in-One : goal.returns-in-One
returns-in-One c bits l h =
    let ws = labels_at c.args.rows.now.labels c.args.row.now.kids in
    let below = rw c.in-One.is at c.requires.below in
    let two = HasBits-two bits _ _ c.put_mark-in-One.new.out (c.put_mark-in-One.ensures _ (length-pushed bits _ c.args.base l) (c.put_mark.ensures bits l h)) in
    rw c.in-One.is
    (subst (λ (bs : List Bool). HasBits (bits ++ bs) c.put_mark-in-One.new.out)
    (two-same _ _ _ _ (c.all_under.ensures ∙ same-told c.args.base c.args.equal ws) (ap (λ b. c.args.root || b) below)) two)

pub returns-in-Some : goal.returns-in-Some
returns-in-Some c bits l h =
    let ws = labels_at c.args.rows.now.labels c.args.row.now.kids in
    let below = rw c.in-Some.is at c.requires.below in
    let two = HasBits-two bits _ _ c.put_mark-in-Some-2.new.out
    (c.put_mark-in-Some-2.ensures _ (length-pushed bits _ c.args.base l) (c.put_mark-in-Some.ensures bits l h)) in
    rw c.in-Some.is
    (subst (λ (bs : List Bool). HasBits (bits ++ bs) c.put_mark-in-Some-2.new.out)
    (two-same _ _ _ _ (ap (λ b. c.args.root || b) (c.all_under-in-Some.ensures ∙ any-told c.args.base c.args.equal ws)) (ap (λ b. c.args.root || b) below)) two)
