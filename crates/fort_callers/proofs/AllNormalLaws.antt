-- The formula that every ground term is a normal form is not too wide, so that its core formula fails for want of memory alone.
use Rattle.std.proofs.Common.{◌≡◌, ◌<◌, ◌^◌, [], Result, Ok, Err, IfErr, refl, arith}
use Rattle.std.specs.Result.{IsErrOf}
use Rattle.fort_theory.specs.Parts.{IsWellFormed}
use Rattle.fort_logic.specs.Translation.{core_of, IsFormulaTooWide}
use Rattle.fort_parts.proofs.PartFacts.{IsWellFormed-few}
use Rattle.fort_formulas.specs.NumbersNeeded.{numbers_needed}
use Rattle.fort_formulas.specs.declared.fault.CoreFault.{CoreFault}
use Rattle.fort_formulas.specs.declared.fault.CoreFault.TheVariants.{Memory, TooManyNumbers, TooWide}
use Rattle.fort_callers.specs.AllNormal.{all_normal}

is_well_formed : IsWellFormed (core_of [] all_normal)
is_well_formed = IsWellFormed-few (core_of [] all_normal) (refl, tt) (λ l. l) (omega arith)

pub only_memory : {T : Type 0} (r : Result T CoreFault) → (IsErrOf r TooManyNumbers → 2 ^ 32 < numbers_needed all_normal)
    → (IsErrOf r TooWide → IsFormulaTooWide all_normal) → IfErr r (λ e. e ≡ Memory)
only_memory (Ok x) many wide = tt
only_memory (Err Memory) many wide = refl
only_memory (Err TooManyNumbers) many wide = absurd (omega (arith, many refl))
only_memory (Err TooWide) many wide = absurd (is_well_formed.narrow (wide refl))
