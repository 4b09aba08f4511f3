-- To believe: what two automata side by side are, the states of the second with numbers past those of the first.
use Rattle.std.specs.Prelude.{◌≡◌, ℕ, ◌+◌, List, [], ◌∷◌, ◌++◌, map, Option, Some, None}
use Rattle.fort_tree_automata.specs.declared.nta.Nta.{Nta}
use Rattle.fort_tree_automata.specs.NtaView.{MoveParts, moves_of}

abbrev pub shifted_move : ℕ → MoveParts → MoveParts
shifted_move n m = (m.0, map (λ q. q + n) m.1, m.2 + n)

abbrev pub shifted_step : ℕ → ℕ × ℕ → ℕ × ℕ
shifted_step n m = (m.0 + n, m.1 + n)

-- the first's, where it has one
abbrev pub joined_any : ℕ → Option ℕ → Option ℕ → Option ℕ
joined_any n (Some q) later = Some q
joined_any n None None = None
joined_any n None (Some q) = Some (q + n)

-- from the first's to the second's
abbrev pub any_steps : ℕ → Option ℕ → Option ℕ → List (ℕ × ℕ)
any_steps n None later = []
any_steps n (Some q) None = []
any_steps n (Some q) (Some p) = (q, p + n) ∷ []

pub record AreBeside (first second both : Nta) : Type 0 where
  pub states : both.states ≡ first.states + second.states
  pub any : both.any ≡ joined_any first.states first.any second.any
  pub moves : moves_of both ≡ moves_of first ++ map (shifted_move first.states) (moves_of second)
  pub silent : both.silent.items ≡ (first.silent.items ++ map (shifted_step first.states) second.silent.items) ++ any_steps first.states first.any second.any
