use Rattle.std.proofs.Common.{ℕ, ◌++◌, ◌∷◌, [], take, get_or, ap, sym, ◌∙◌, arith}
use Rattle.std.proofs.lemmas.List.{take_more, append_assoc}
use Rattle.fort_table.proofs.entry_list.append.Goals as goal

pub loop-k-preserved : goal.loop-k-preserved
loop-k-preserved c =
    let old = c.args.numbers.now.items in
    let more = c.args.more.now in
    let k = c.loop-k.k in
    let x : ℕ = get_or more k 0 in
    record {
      numbers = c.push_reserved.ensures.items
          ∙ (ap (λ xs. xs ++ x ∷ []) c.loop-k.invariant.numbers
          ∙ (append_assoc old (take k more) (x ∷ [])
          ∙ ap (λ xs. old ++ xs) (sym (take_more more k 0 c.loop-k-test.true))));
      count = omega (arith, c.push_reserved.ensures.len, c.loop-k.invariant.count);
      capacity = c.push_reserved.ensures.capacity ∙ c.loop-k.invariant.capacity;
    }
