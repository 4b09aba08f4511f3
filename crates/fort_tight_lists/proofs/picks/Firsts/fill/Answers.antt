use Rattle.std.proofs.Common.{◌≡◌, ℕ, ◌<◌, List, map, vec_items, take, length, ap, sym, ◌∙◌, arith, subst}
use Rattle.std.proofs.lemmas.List.{length-map, length-set}
use Rattle.fort_class_blocks.specs.Blocks.{AreClasses, cell_of, counts_at, target_of}
use Rattle.fort_class_blocks.proofs.CellLaws.{cell_below}
use Rattle.fort_class_blocks.proofs.CombinationLaws.{reached}
use Rattle.fort_class_blocks.proofs.FillingLaws.{IsFilledTo, fill_more, filled_all, keeps_more}
use Rattle.fort_tight_lists.specs.Picks.{renumbered}
use Rattle.fort_tight_lists.proofs.SliceLaws.{combination_in, number_in, next_at, next_combination, next_number}
use Rattle.fort_tight_lists.proofs.picks.Firsts.fill.Goals as goal

pub combinations-smaller : goal.combinations-smaller
combinations-smaller c =
    let lists = c.args.self.now.lists.now in
    let n = length lists in
    let all = map (length {A = ℕ}) (map vec_items lists) in
    let long = length-map (map vec_items lists) (length {A = ℕ}) ∙ length-map lists vec_items in
    let are = combination_in all n c.in-Some.numbers c.combinations.next long c.combinations.invariant.next_is c.in-Some.is in
    let now = number_in all n c.in-Some.numbers c.combinations.next long c.in-Some.is in
    let next = next_at _ all c.in-Some.numbers c.next_classes-next.result c.counts-counts.ensures c.next_classes-next.ensures in
    omega (arith, now, next_number all n c.in-Some.numbers c.next_classes-next.result long next, cell_below all (take n c.in-Some.numbers) are)

pub combinations-preserved : goal.combinations-preserved
combinations-preserved c =
    let lists = c.args.self.now.lists.now in
    let n = length lists in
    let firsts = map vec_items lists in
    let all = map (length {A = ℕ}) firsts in
    let b = c.args.block in
    let old = c.combinations.blocks in
    let new = c.put.new.self in
    let inv = c.combinations.invariant in
    let ds = take n c.in-Some.numbers in
    let value : List ℕ → ℕ = λ xs. target_of c.args.old.now c.args.from (renumbered firsts xs) in
    let long = length-map firsts (length {A = ℕ}) ∙ length-map lists vec_items in
    let are = combination_in all n c.in-Some.numbers c.combinations.next long inv.next_is c.in-Some.is in
    let now = number_in all n c.in-Some.numbers c.combinations.next long c.in-Some.is in
    let next = next_at _ all c.in-Some.numbers c.next_classes-next.result c.counts-counts.ensures c.next_classes-next.ensures in
    let then = next_number all n c.in-Some.numbers c.next_classes-next.result long next in
    let low : b < length old = omega (arith, c.requires.block, inv.kept.count) in
    let counts : counts_at old b ≡ all = inv.kept.counts b ∙ c.requires.counts in
    let before : IsFilledTo all value old b (cell_of all ds) = subst (IsFilledTo all value old b) now inv.filled in
    let here : target_of new b ds ≡ value ds = c.put.ensures.there ∙ (c.target.ensures ∙ ap (target_of c.args.old.now c.args.from) c.classes-classes.ensures) in
    record {
      kept = keeps_more b c.args.blocks.now old new inv.kept (ap length c.put.ensures.cell ∙ length-set old b _) c.put.ensures.counts (λ i xs l be apart. c.put.ensures.others i xs l be (λ e s. apart e));
      next_is = next_combination all c.in-Some.numbers c.next_classes-next.result next;
      filled = subst (IsFilledTo all value new b) (sym then)
          (fill_more all ds value old new b are before here (λ xs be apart. c.put.ensures.others b xs low (subst (λ ns. AreClasses ns xs) (sym counts) be) (λ e s. apart s)));
    }

pub returns-clause-picked : goal.returns-clause-picked
returns-clause-picked c =
    let lists = c.args.self.now.lists.now in
    let firsts = map vec_items lists in
    let all = map (length {A = ℕ}) firsts in
    let value : List ℕ → ℕ = λ xs. target_of c.args.old.now c.args.from (renumbered firsts xs) in
    let end = subst (λ o. IsFilledTo all value c.combinations.blocks c.args.block (reached all o)) c.in_default.is c.combinations.invariant.filled in
    record { targets_are = filled_all all value c.combinations.blocks c.args.block end }
