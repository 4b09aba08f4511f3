-- Blocks that are made tuple symbol by tuple symbol.
use Rattle.std.proofs.Common.{◌≡◌, ℕ, ◌+◌, List, map, length, ap, sym, ◌∙◌, arith, subst, ⊎_elim}
use Rattle.std.proofs.lemmas.Bool.{cases_lt}
use Rattle.fort_theory.specs.Signatures.{Signature}
use Rattle.fort_tables.specs.Tuples.{IsPresent}
use Rattle.fort_tables.specs.Entries.{Entry}
use Rattle.fort_class_blocks.specs.Blocks.{Block, AreClasses, counts_at}
use Rattle.fort_target_lists.specs.declared.class_list.ClassView.{ClassView}
use Rattle.fort_class_targets.specs.FilledBlocks.{IsFilled}
use Rattle.fort_class_blocks.specs.KeptBlocks.{HasBlock}
use Rattle.fort_class_targets.specs.SymbolBlocks.{symbol_at, leaders_under, HasBlocks}

module _ (sig : Signature) (columns : ℕ) (es : List Entry) (qs : List ℕ) (vs : List ClassView) (starts numbers : List ℕ) where
  -- none yet
  pub blocks_none : (bs : List Block) → length bs ≡ 0 → HasBlocks sig columns 0 es qs vs starts numbers bs
  blocks_none bs e = record { count = e; counts = λ m l. absurd (omega (arith, l)); filled = λ m l. absurd (omega (arith, l)) }

  -- Result: one more
  pub blocks_more : (n : ℕ) (old new : List Block) → HasBlocks sig columns n es qs vs starts numbers old → HasBlock old new (map (length {A = ℕ}) (leaders_under sig columns vs starts numbers n))
      → (IsPresent (symbol_at sig columns n) → IsFilled es qs (symbol_at sig columns n) (leaders_under sig columns vs starts numbers n) new (length old)) → HasBlocks sig columns (n + 1) es qs vs starts numbers new
  blocks_more n old new h g own =
      let lss : ℕ → List (List ℕ) = leaders_under sig columns vs starts numbers in
      let Counted : ℕ → Type 0 = λ m. counts_at new m ≡ map (length {A = ℕ}) (lss m) in
      let Filled : ℕ → ℕ → Type 0 = λ m b. IsFilled es qs (symbol_at sig columns m) (lss m) new b in
      record {
        count = g.count ∙ ap (λ k. k + 1) h.count;
        counts = λ m l. ⊎_elim
            (λ b. g.counts_stay m (omega (arith, b, h.count)) ∙ h.counts m b)
            (λ b. let at : n ≡ m = omega (arith, b, l) in subst Counted at (ap (counts_at new) (sym h.count) ∙ g.last))
            (cases_lt m n);
        filled = λ m l present. ⊎_elim
            (λ b.
            let before = h.filled m b present in
            record { targets_are = λ cs are. g.targets_stay m cs (omega (arith, b, h.count)) (subst (λ ns. AreClasses ns cs) (sym (h.counts m b)) are) ∙ before.targets_are cs are })
            (λ b.
            let at : n ≡ m = omega (arith, b, l) in
            let there : length old ≡ m = h.count ∙ at in
            let F : ℕ → Type 0 = λ k. IsPresent (symbol_at sig columns k) → IsFilled es qs (symbol_at sig columns k) (lss k) new (length old) in
            subst (λ k. Filled m k) there (subst F at own present))
            (cases_lt m n);
      }
