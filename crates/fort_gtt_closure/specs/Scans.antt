-- Inside: the first reason for a pair, by tests.
use Rattle.std.specs.Prelude.{ℕ, ◌+◌, List, [], ◌∷◌, Bool, true, false, slice_index_or, nat_eq, ◌&&◌, ◌||◌, Option, Some, None, position, slice_get}
use Rattle.fort_tree_automata.specs.declared.nta.Move.{Move}
use Rattle.fort_transducers.specs.declared.agtt.Agtt.{Agtt}
use Rattle.fort_gtt_closure.specs.declared.entry.Entry.{Entry}
use Rattle.fort_gtt_closure.specs.declared.entry.Why.{Why}
use Rattle.fort_gtt_closure.specs.declared.entry.Why.TheVariants.{Any, Kids, SilentRight, SilentLeft, Pair}
use Rattle.fort_gtt_closure.specs.declared.reasons.Inhabited.{Inhabited}
use Rattle.fort_gtt_closure.specs.Grids.{is_listed}

abbrev pub is_any : Option ℕ → ℕ → Bool
is_any None q = false
is_any (Some a) q = nat_eq a q

abbrev pub all_listed : List Entry → List ℕ → List ℕ → Bool
all_listed es [] [] = true
all_listed es [] (q ∷ qs) = false
all_listed es (p ∷ ps) [] = false
all_listed es (p ∷ ps) (q ∷ qs) = is_listed es p q && all_listed es ps qs

abbrev pub moves_meet : List Entry → Move → ℕ → Move → Bool
moves_meet es right q left = nat_eq left.target q && nat_eq left.sym.0 right.sym.0 && all_listed es right.kids.items left.kids.items

-- the first left move that meets a right one
abbrev pub by_left_move : List Entry → Move → ℕ → List Move → Option ℕ
by_left_move es right q lefts = position (moves_meet es right q) lefts

abbrev pub kids_at : ℕ → Option ℕ → Option (ℕ × ℕ) → Option (ℕ × ℕ)
kids_at k None later = later
kids_at k (Some j) later = Some (k, j)

abbrev pub if_met : Bool → Option ℕ → Option ℕ
if_met false o = None
if_met true o = o

-- the first places of a right and a left move that meet, the right ones counted from n
abbrev pub by_kids : List Entry → ℕ → ℕ → List Move → ℕ → List Move → Option (ℕ × ℕ)
by_kids es p q lefts n [] = None
by_kids es p q lefts n (right ∷ rights) = kids_at n (if_met (nat_eq right.target p) (by_left_move es right q lefts)) (by_kids es p q lefts (n + 1) rights)

-- the targets of moves and the places of the moves, counted from n
abbrev pub targets : ℕ → List Move → List (ℕ × ℕ)
targets n [] = []
targets n (m ∷ ms) = (m.target, n) ∷ targets (n + 1) ms

abbrev pub if_first : Bool → ℕ → Option ℕ → Option ℕ
if_first true k later = Some k
if_first false k later = later

-- the first second number that passes
abbrev pub first_of : (ℕ → Bool) → List (ℕ × ℕ) → Option ℕ
first_of test [] = None
first_of test (x ∷ xs) = if_first (test x.1) x.1 (first_of test xs)

-- a left move meets a right one, whatever their targets are
abbrev pub meets : List Entry → Move → Option Move → Bool
meets es right None = false
meets es right (Some left) = nat_eq left.sym.0 right.sym.0 && all_listed es right.kids.items left.kids.items

-- the first left move that meets a right one, among those at some places
abbrev pub by_left_place : List Entry → List Move → List (ℕ × ℕ) → Move → Option ℕ
by_left_place es lefts places right = first_of (λ j. meets es right (slice_get lefts j)) places

abbrev pub if_move : (Move → Option ℕ) → Option Move → Option ℕ
if_move f None = None
if_move f (Some m) = f m

-- the first places of a right and a left move that meet, among those at some places
abbrev pub by_places : (Move → Option ℕ) → List Move → List (ℕ × ℕ) → Option (ℕ × ℕ)
by_places f rights [] = None
by_places f rights (x ∷ xs) = kids_at x.1 (if_move f (slice_get rights x.1)) (by_places f rights xs)

abbrev pub by_silent_right : List Entry → ℕ → ℕ → List (ℕ × ℕ) → Option ℕ
by_silent_right es p q steps = position (λ step. nat_eq step.1 p && is_listed es step.0 q) steps

abbrev pub by_silent_left : List Entry → ℕ → ℕ → List (ℕ × ℕ) → Option ℕ
by_silent_left es p q steps = position (λ step. nat_eq step.1 q && is_listed es p step.0) steps

abbrev pub by_pair : List Entry → ℕ → ℕ → List (ℕ × ℕ) → Option ℕ
by_pair es p q pairs = position (λ pair. is_listed es p pair.0 && is_listed es pair.1 q) pairs

abbrev pub by_any : Agtt → Inhabited → ℕ → ℕ → Bool
by_any agtt inhabited p q =
    (is_any agtt.right.any p && slice_index_or inhabited.left.items q false) || (is_any agtt.left.any q && slice_index_or inhabited.right.items p false)

-- the first of several
abbrev pub any_or : Bool → Option Why → Option Why
any_or true later = Some Any
any_or false later = later

abbrev pub kids_or : Option (ℕ × ℕ) → Option Why → Option Why
kids_or None later = later
kids_or (Some k) later = Some (Kids k.0 k.1)

abbrev pub place_or : (ℕ → Why) → Option ℕ → Option Why → Option Why
place_or why None later = later
place_or why (Some k) later = Some (why k)

abbrev pub first_reason : Agtt → Inhabited → List Entry → ℕ → ℕ → Option Why
first_reason agtt inhabited es p q =
    any_or (by_any agtt inhabited p q)
    (kids_or (by_kids es p q agtt.left.moves.items 0 agtt.right.moves.items)
    (place_or (λ k. SilentRight k) (by_silent_right es p q agtt.right.silent.items)
    (place_or (λ k. SilentLeft k) (by_silent_left es p q agtt.left.silent.items)
    (place_or (λ k. Pair k) (by_pair es p q agtt.pairs.items) None))))
