use Rattle.std.proofs.Common.{ℕ, ◌<◌, ◌^◌, List, length, get_or, refl, sym, ◌∙◌, subst}
use Rattle.fort_target_lists.proofs.ListLaws.{presences_few}
use Rattle.fort_reduce.proofs.passes.laid_list.Goals as goal

pub laid_by-requires-clause-within : goal.laid_by-requires-clause-within
laid_by-requires-clause-within c =
    let t = c.args.table.now in
    subst (λ (n : ℕ). (q : ℕ) → q < length c.as_slice-read.result.now → get_or c.as_slice-read.result.now q 0 < 2 ^ n) (sym c.columns.ensures.count)
    (subst (λ (ps : List ℕ). (q : ℕ) → q < length ps → get_or ps q 0 < 2 ^ t.columns) (sym (c.as_slice-read.ensures.value ∙ c.in_ok-presences.ensures.all))
    (presences_few t t.signature t.columns t.presences t.targets (record { listed = c.entries-listed.ensures.lawful; signature = refl; columns_are = refl; presences_are = refl; targets_are = refl })))
