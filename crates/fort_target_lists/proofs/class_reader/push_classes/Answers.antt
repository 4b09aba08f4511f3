use Rattle.std.proofs.Common.{ℕ, [], ◌∷◌, ◌++◌, map, take, get_or, ap, sym, ◌∙◌, arith, append_assoc}
use Rattle.std.proofs.lemmas.List.{take_more, map-append}
use Rattle.fort_target_lists.proofs.class_reader.push_classes.Goals as goal

pub loop-class-preserved : goal.loop-class-preserved
loop-class-preserved c =
    let old = c.args.laid.now.items in
    let row = c.args.row.now in
    let of : ℕ → ℕ = λ k. get_or row k 0 in
    let cs = c.args.classes.now in
    let k = c.loop-class.class-index in
    let x : ℕ = of (get_or cs k 0) in
    record {
      items = c.push_reserved.ensures.items
          ∙ (ap (λ xs. xs ++ x ∷ []) c.loop-class.invariant.items
          ∙ (append_assoc old (map of (take k cs)) (x ∷ [])
          ∙ ap (λ xs. old ++ xs) (sym (ap (map of) (take_more cs k 0 (omega arith)) ∙ map-append of (take k cs) (get_or cs k 0 ∷ [])))));
      room = omega (arith, c.push_reserved.ensures.len, c.push_reserved.ensures.capacity, c.loop-class.invariant.room);
    }
