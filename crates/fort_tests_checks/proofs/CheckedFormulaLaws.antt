-- The formula whose certificate is checked is closed, and may be decided.
use Rattle.std.specs.Prelude.{◌≡◌, length, Bool, true, false, not, ◌&&◌, ◌||◌, ◌==◌, refl}
use Rattle.std.proofs.Common.{sym, subst, arith}
use Rattle.fort_theory.specs.Patterns.{PatternSystem}
use Rattle.fort_theory.specs.Cores.{Core}
use Rattle.fort_theory.specs.Parts.{IsClosed}
use Rattle.fort_parts.specs.DecidedCores.{IsDecided}
use Rattle.fort_parts.proofs.PartFacts.{IsWellFormed-few}
use Rattle.fort_tests_checks.specs.CheckedFormulas.{many_reduced}

pub IsDecided-many_reduced : (system : PatternSystem) → length system.rules ≡ 1 → (f : Core) → f ≡ many_reduced → IsDecided system f
IsDecided-many_reduced system one f e =
    subst (IsDecided system) (sym e)
    (record { well_formed = IsWellFormed-few many_reduced (refl, (refl, tt)) (λ l. l) (omega arith); over = record { low = omega arith; high = omega arith } })

neither : (a b : Bool) → (not a && (not b && (a || b))) ≡ true → ⊥
neither true b e = cc
neither false true e = cc
neither false false e = cc

pub IsClosed-many_reduced : (f : Core) → f ≡ many_reduced → IsClosed f
IsClosed-many_reduced f e = subst IsClosed (sym e) (λ n h. neither (0 == n) (1 == n) h)
