use Rattle.std.proofs.Common.{List, ◌++◌, Bool, subst, arith, inl, inr, ◌+◌, ◌||◌, [], ◌∷◌}
use Rattle.fort_label_bits.specs.RowBits.{HasBits, labels_at}
use Rattle.fort_label_bits.proofs.RowBitLaws.{HasBits-two, HasBits-three, length-pushed}
use Rattle.fort_context_closure.proofs.FactLaws.{facts-Step, facts-Below, facts-Par, facts-Star, facts-Plus}
use Rattle.fort_context_closure.proofs.facts.write_facts.Goals as goal

pub returns-in-Step : goal.returns-in-Step
returns-in-Step c bits l h =
    let ws = labels_at c.args.rows.now.labels c.args.row.now.kids in
    rw c.in-Step.is
    (subst (λ (bs : List Bool). HasBits (bits ++ bs) c.put_mark-in-Step-2.new.out)
    (facts-Step c.args.base c.args.equal c.args.root ws _ _ c.all_under-in-Step.ensures c.one_under-below.ensures)
    (HasBits-two bits _ _ c.put_mark-in-Step-2.new.out
    (c.put_mark-in-Step-2.ensures _ (length-pushed bits _ c.args.base l) (c.put_mark-in-Step.ensures bits l h))))

pub returns-in-Below : goal.returns-in-Below
returns-in-Below c bits l h =
    let ws = labels_at c.args.rows.now.labels c.args.row.now.kids in
    let xs : List Bool = bits ++ c.all_under-in-Below.result ∷ [] in
    let ys : List Bool = xs ++ (c.args.root || c.one_under-below-in-Below.result) ∷ [] in
    let m = length-pushed bits c.all_under-in-Below.result c.args.base l in
    let n = length-pushed xs (c.args.root || c.one_under-below-in-Below.result) (c.args.base + 1) m in
    let two : HasBits ys c.put_mark-in-Below-2.new.out = c.put_mark-in-Below-2.ensures xs m (c.put_mark-in-Below.ensures bits l h) in
    rw c.in-Below.is
    (subst (λ (bs : List Bool). HasBits (bits ++ bs) c.put_mark-in-Below-3.new.out)
    (facts-Below c.args.base c.args.equal c.args.root ws _ _ c.all_under-in-Below.ensures c.one_under-below-in-Below.ensures)
    (HasBits-three bits _ _ _ c.put_mark-in-Below-3.new.out (c.put_mark-in-Below-3.ensures ys (omega (arith, n)) two)))

pub returns-in-Par : goal.returns-in-Par
returns-in-Par c bits l h =
    let ws = labels_at c.args.rows.now.labels c.args.row.now.kids in
    let put = c.put_mark-in-Par.ensures bits l h in
    elim c.in-Par.is [
      | inl e ↦ rw e (subst (λ (bs : List Bool). HasBits (bits ++ bs) c.put_mark-in-Par.new.out) (facts-Par c.args.base c.args.equal c.args.root ws _ c.all_under-in-Par.ensures) put)
      | inr m ↦ elim m [
        | inl e ↦ rw e (subst (λ (bs : List Bool). HasBits (bits ++ bs) c.put_mark-in-Par.new.out) (facts-Star c.args.base c.args.equal c.args.root ws _ c.all_under-in-Par.ensures) put)
        | inr e ↦ rw e (subst (λ (bs : List Bool). HasBits (bits ++ bs) c.put_mark-in-Par.new.out) (facts-Star c.args.base c.args.equal c.args.root ws _ c.all_under-in-Par.ensures) put)
      ]
    ]

pub returns-in-Plus : goal.returns-in-Plus
returns-in-Plus c bits l h =
    let ws = labels_at c.args.rows.now.labels c.args.row.now.kids in
    rw c.in-Plus.is
    (subst (λ (bs : List Bool). HasBits (bits ++ bs) c.put_mark-in-Plus-2.new.out)
    (facts-Plus c.args.base c.args.equal c.args.root ws _ _ c.all_under-goes.ensures c.some_under-strictly.ensures)
    (HasBits-two bits _ _ c.put_mark-in-Plus-2.new.out
    (c.put_mark-in-Plus-2.ensures _ (length-pushed bits _ c.args.base l) (c.put_mark-in-Plus.ensures bits l h))))
