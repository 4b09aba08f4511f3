-- A block that is filled combination by combination.
use Rattle.std.proofs.Common.{◌≡◌, ℕ, ◌+◌, ◌<◌, List, take, length, Option, None, Some, MatchOption, refl, ap, sym, ◌∙◌, arith, subst, ⊎_elim}
use Rattle.std.proofs.lemmas.Bool.{cases_lt}
use Rattle.fort_class_blocks.specs.Blocks.{Block, AreClasses, cell_of, product, counts_at, target_of}
use Rattle.fort_class_blocks.specs.KeptBlocks.{KeepsBlocks}
use Rattle.fort_class_blocks.proofs.CellLaws.{cell_below, cell_same}
use Rattle.fort_class_blocks.proofs.CombinationLaws.{reached}

-- the combinations with lesser numbers have their targets
pub record IsFilledTo (ns : List ℕ) (value : List ℕ → ℕ) (bs : List Block) (b n : ℕ) : Type 0 where
  pub targets_are : (cs : List ℕ) → AreClasses ns cs → cell_of ns cs < n → target_of bs b cs ≡ value cs

pub first_filled : (ns : List ℕ) (r : Option (List ℕ)) (value : List ℕ → ℕ) (bs : List Block) (b : ℕ) → MatchOption r ((cs : List ℕ) → AreClasses ns cs → ⊥) (λ first. AreClasses ns (take (length ns) first) × (cell_of ns (take (length ns) first) ≡ 0)) → IsFilledTo ns value bs b (reached ns r)
first_filled ns None value bs b h = record { targets_are = λ cs are l. absurd (h cs are) }
first_filled ns (Some room) value bs b h = record { targets_are = λ cs are l. absurd (omega (arith, l, h.1)) }

-- one more combination has its target
pub fill_more : (ns cs : List ℕ) (value : List ℕ → ℕ) (old new : List Block) (b : ℕ) → AreClasses ns cs → IsFilledTo ns value old b (cell_of ns cs) → target_of new b cs ≡ value cs
    → ((ds : List ℕ) → AreClasses ns ds → (ds ≡ cs → ⊥) → target_of new b ds ≡ target_of old b ds) → IsFilledTo ns value new b (cell_of ns cs + 1)
fill_more ns cs value old new b are h here others = record {
  targets_are = λ ds be l. ⊎_elim
      (λ less. others ds be (λ e. absurd (omega (arith, less, ap (cell_of ns) e))) ∙ h.targets_are ds be less)
      (λ more.
      let same : ds ≡ cs = cell_same ns ds cs be are (let e : cell_of ns ds ≡ cell_of ns cs = omega (arith, l, more) in e) in
      ap (target_of new b) same ∙ (here ∙ ap value (sym same)))
      (cases_lt (cell_of ns ds) (cell_of ns cs));
}

-- all have
pub filled_all : (ns : List ℕ) (value : List ℕ → ℕ) (bs : List Block) (b : ℕ) → IsFilledTo ns value bs b (product ns) → (cs : List ℕ) → AreClasses ns cs → target_of bs b cs ≡ value cs
filled_all ns value bs b h cs are = h.targets_are cs are (cell_below ns cs are)

-- other blocks stay where one is filled
pub keeps_same : (b : ℕ) (bs : List Block) → KeepsBlocks b bs bs
keeps_same b bs = record { count = refl; counts = λ i. refl; targets = λ i cs l are apart. refl }

pub keeps_more : (b : ℕ) (first old new : List Block) → KeepsBlocks b first old → length new ≡ length old → ((i : ℕ) → counts_at new i ≡ counts_at old i)
    → ((i : ℕ) (cs : List ℕ) → i < length old → AreClasses (counts_at old i) cs → (i ≡ b → ⊥) → target_of new i cs ≡ target_of old i cs) → KeepsBlocks b first new
keeps_more b first old new h count counts others = record {
  count = count ∙ h.count;
  counts = λ i. counts i ∙ h.counts i;
  targets = λ i cs l are apart. others i cs (omega (arith, l, h.count)) (subst (λ ns. AreClasses ns cs) (sym (h.counts i)) are) apart ∙ h.targets i cs l are apart;
}
