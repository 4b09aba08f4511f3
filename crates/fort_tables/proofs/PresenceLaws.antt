-- The presence of a tuple: its bound, and that it tells whether each column is present.
use Rattle.std.proofs.Common.{◌≡◌, ◌-◌, ◌^◌, ◌<◌, List, [], ◌∷◌, length, Option, None, Some, arith}
use Rattle.std.proofs.Math.Nat.{pow-suc}
use Rattle.fort_tables.specs.Tuples.{presence, IsFull}

pub presence_bound : {A : Type 0} (t : List (Option A)) → presence t < 2 ^ length t
presence_bound [] = omega arith
presence_bound (None ∷ t) = omega (arith, presence_bound t, pow-suc 2 (length t))
presence_bound (Some x ∷ t) = omega (arith, presence_bound t, pow-suc 2 (length t))

pub presence_from_full : {A : Type 0} (t : List (Option A)) → IsFull t → presence t ≡ 2 ^ length t - 1
presence_from_full [] h = omega arith
presence_from_full (None ∷ t) h = absurd h
presence_from_full (Some x ∷ t) h = omega (arith, presence_bound t, presence_from_full t h, pow-suc 2 (length t))

pub full_from_presence : {A : Type 0} (t : List (Option A)) → presence t ≡ 2 ^ length t - 1 → IsFull t
full_from_presence [] h = tt
full_from_presence (None ∷ t) h = absurd (omega (arith, presence_bound t, pow-suc 2 (length t)))
full_from_presence (Some x ∷ t) h = full_from_presence t (omega (arith, presence_bound t, pow-suc 2 (length t)))
