-- Inside: what is known of first children.
use Rattle.std.specs.Prelude.{◌≡◌, ℕ, ◌<◌, List, take, length, get_or, true}
use Rattle.fort_tables.specs.Refinement.{leader_in}
use Rattle.fort_reduce.specs.Finding.{place_in}
use Rattle.fort_reduce.specs.declared.targets.Targets.{Targets}
use Rattle.fort_reduce.specs.declared.front.Front.{Front}

-- the children's place, their classes' leaders and the place of these
pub record IsFront (targets : Targets) (classes leaders kids : List ℕ) (front : Front) : Type 0 where
  pub place_is : front.place ≡ place_in targets.list.now kids
  pub room : length front.leaders ≡ 8
  pub leaders_are : (i : ℕ) → i < length kids → get_or front.leaders i 0 ≡ leader_in classes leaders (get_or kids i 0)
  pub led_place_is : front.led_place ≡ place_in targets.list.now (take (length kids) front.leaders)
  pub led : front.is_led ≡ true → (i : ℕ) → i < length kids → leader_in classes leaders (get_or kids i 0) ≡ get_or kids i 0
