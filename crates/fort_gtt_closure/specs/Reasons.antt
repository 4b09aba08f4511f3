-- To believe: when a pair of states is listed, the reasons by which a pair follows from those listed, and which reason comes first.
use Rattle.std.specs.Prelude.{◌≡◌, ◌⊎◌, ℕ, ◌<◌, ◌^◌, List, [], ◌∷◌, length, map, Contains, Some, slice_get}
use Rattle.fort_reachability.specs.TreeAutomata.{IsInhabited}
use Rattle.fort_tree_automata.specs.NtaView.{moves_of, automaton_of}
use Rattle.fort_transducers.specs.declared.agtt.Agtt.{Agtt}
use Rattle.fort_gtt_closure.specs.declared.entry.Entry.{Entry}
use Rattle.fort_gtt_closure.specs.declared.entry.Why.{Why}
use Rattle.fort_gtt_closure.specs.declared.entry.Why.TheVariants.{Any, Kids, SilentRight, SilentLeft, Pair}

-- the right state p and the left state q are a pair of the list
abbrev pub IsListed : List Entry → ℕ → ℕ → Type 0
IsListed es p q = Contains {X = ℕ × ℕ} (map (λ e. (e.p, e.q)) es) (p, q)

-- one by one, as many of each
abbrev pub AllListed : List Entry → List ℕ → List ℕ → Type 0
AllListed es [] [] = Unit {0}
AllListed es [] (q ∷ qs) = ⊥
AllListed es (p ∷ ps) [] = ⊥
AllListed es (p ∷ ps) (q ∷ qs) = IsListed es p q × AllListed es ps qs

-- the right move k and the left move j have one symbol, and are from states that are listed
pub record MovesMeet (agtt : Agtt) (es : List Entry) (p q k j : ℕ) : Type 0 where
  pub symbol : ℕ
  pub rights : List ℕ
  pub lefts : List ℕ
  pub right_move : slice_get (moves_of agtt.right) k ≡ Some (symbol, rights, p)
  pub left_move : slice_get (moves_of agtt.left) j ≡ Some (symbol, lefts, q)
  pub listed : AllListed es rights lefts

-- the pair of p and q follows from the pairs listed, for this reason
abbrev pub Follows : Agtt → List Entry → ℕ → ℕ → Why → Type 0
Follows agtt es p q Any =
    ((agtt.right.any ≡ Some p) × IsInhabited (automaton_of agtt.left) q) ⊎ ((agtt.left.any ≡ Some q) × IsInhabited (automaton_of agtt.right) p)
Follows agtt es p q (Kids k j) = MovesMeet agtt es p q k j
Follows agtt es p q (SilentRight k) = (o : ℕ) × (slice_get agtt.right.silent.items k ≡ Some (o, p)) × IsListed es o q
Follows agtt es p q (SilentLeft k) = (o : ℕ) × (slice_get agtt.left.silent.items k ≡ Some (o, q)) × IsListed es p o
Follows agtt es p q (Pair k) = (a b : ℕ) × (slice_get agtt.pairs.items k ≡ Some (a, b)) × IsListed es p a × IsListed es b q

-- the kind of a reason, and its places
abbrev pub rank : Why → ℕ × ℕ × ℕ
rank Any = (0, 0, 0)
rank (Kids k j) = (1, k, j)
rank (SilentRight k) = (2, k, 0)
rank (SilentLeft k) = (3, k, 0)
rank (Pair k) = (4, k, 0)

-- at the first number that differs, the smaller one
abbrev pub IsSmaller : ℕ × ℕ × ℕ → ℕ × ℕ × ℕ → Type 0
IsSmaller v w = (v.0 < w.0) ⊎ ((v.0 ≡ w.0) × ((v.1 < w.1) ⊎ ((v.1 ≡ w.1) × (v.2 < w.2))))

pub record IsFirstReason (agtt : Agtt) (es : List Entry) (p q : ℕ) (why : Why) : Type 0 where
  pub follows : Follows agtt es p q why
  pub first : (other : Why) → Follows agtt es p q other → IsSmaller (rank other) (rank why) → ⊥

-- its moves and pairs have numbers of 32 bits
pub record IsNumbered (agtt : Agtt) : Type 0 where
  pub right : length agtt.right.moves.items < 2 ^ 32
  pub left : length agtt.left.moves.items < 2 ^ 32
  pub pairs : length agtt.pairs.items < 2 ^ 32
