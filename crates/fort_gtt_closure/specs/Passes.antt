-- To believe: the list that passes over all pairs make: going over the pairs row by row, round and round, each entry is the first pair that follows and isn't listed, with its first reason, and at the end there is none.
use Rattle.std.specs.Prelude.{◌≡◌, ◌⊎◌, ℕ, ◌+◌, ◌*◌, ◌<◌, ◌≤◌, List, map, take, Option, Some, None, slice_get}
use Rattle.std.specs.List.{last_or}
use Rattle.fort_transducers.specs.declared.agtt.Agtt.{Agtt}
use Rattle.fort_gtt_closure.specs.declared.entry.Entry.{Entry}
use Rattle.fort_gtt_closure.specs.declared.entry.Why.{Why}
use Rattle.fort_gtt_closure.specs.Reasons.{IsListed, Follows, IsFirstReason}

-- the pair isn't listed, and it follows for some reason
pub record IsDue (agtt : Agtt) (es : List Entry) (p q : ℕ) : Type 0 where
  pub right : p < agtt.right.states
  pub left : q < agtt.left.states
  pub unlisted : IsListed es p q → ⊥
  pub why : Why
  pub follows : Follows agtt es p q why

-- the pairs are numbered row by row
abbrev pub number : Agtt → ℕ → ℕ → ℕ
number agtt p q = p * agtt.left.states + q

-- the number of the last entry, if there is one
abbrev pub last_number : Agtt → List Entry → Option ℕ
last_number agtt es = last_or None (map (λ e. number agtt e.p e.q) es)

-- going up from the last number, and on from 0 after the greatest one, n comes before the next number
abbrev pub IsPassed : Option ℕ → ℕ → ℕ → Type 0
IsPassed None next n = n < next
IsPassed (Some last) next n = ((last < n) × (n < next)) ⊎ ((next ≤ last) × ((last < n) ⊎ (n < next)))

-- no pair that is due is passed on the way from the last entry to this one
pub record IsNext (agtt : Agtt) (earlier : List Entry) (e : Entry) : Type 0 where
  pub due : IsDue agtt earlier e.p e.q
  pub reason : IsFirstReason agtt earlier e.p e.q e.why
  pub nearest : (p q : ℕ) → IsDue agtt earlier p q → IsPassed (last_number agtt earlier) (number agtt e.p e.q) (number agtt p q) → ⊥

pub record IsListOfPasses (agtt : Agtt) (es : List Entry) : Type 0 where
  pub each : (k : ℕ) (e : Entry) → slice_get es k ≡ Some e → IsNext agtt (take k es) e
  pub done : (p q : ℕ) → IsDue agtt es p q → ⊥

-- two entries with the same states are one
abbrev pub ListsEachOnce : List Entry → Type 0
ListsEachOnce es = (i j : ℕ) (d e : Entry) → slice_get es i ≡ Some d → slice_get es j ≡ Some e → d.p ≡ e.p → d.q ≡ e.q → i ≡ j
