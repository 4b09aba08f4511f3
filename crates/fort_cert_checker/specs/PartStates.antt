-- Inside: how many states the table of a part has, by its steps: as many as its targets make, or where it is merged as its classes.
use Rattle.std.specs.Prelude.{◌≡◌, ℕ, List, true, false}
use Rattle.fort_certificate_theory.specs.Certificates.{Step, Part, Merge}
use Rattle.fort_certificate_theory.specs.Dues.{is_merged_in}
use Rattle.fort_check_steps.specs.Room.{most_states}
use Rattle.fort_cert_checker.specs.Abouts.{IsOnlyAbout}

pub data IsStatesOf (ss : List Step) (k n : ℕ) : Type 0 where
  OfTargets : (targets : List ℕ) → IsOnlyAbout ss (Part k targets) → is_merged_in ss k ≡ false → n ≡ most_states targets → IsStatesOf ss k n
  OfClasses : (classes : List ℕ) → IsOnlyAbout ss (Merge k classes) → is_merged_in ss k ≡ true → n ≡ most_states classes → IsStatesOf ss k n
