-- Inside: two automata side by side, the states of the second with numbers past those of the first, and silent moves across.
use Rattle.std.specs.Prelude.{ℕ, ◌+◌, ◌<◌, List, map, Contains}
use Rattle.fort_tree_automata.specs.declared.nta.Nta.{Nta}
use Rattle.fort_transducers.specs.Unions.{AreBeside}
use Rattle.fort_transducers.specs.MoreMoves.{HasMoreMoves}

-- from a state of the first to one of the second
abbrev pub crossing_step : ℕ → ℕ × ℕ → ℕ × ℕ
crossing_step n c = (c.0, c.1 + n)

pub record AreBesideAcross (first second both : Nta) (crossing : List (ℕ × ℕ)) : Type 0 where
  pub beside : Nta
  pub sides : AreBeside first second beside
  pub more : HasMoreMoves beside both (map (crossing_step first.states) crossing)

-- each is from a state of the first to a state of the second
abbrev pub AreAcross : Nta → Nta → List (ℕ × ℕ) → Type 0
AreAcross first second crossing = (c : ℕ × ℕ) → Contains crossing c → (c.0 < first.states) × (c.1 < second.states)
