-- Automata with equal lists of moves have as many, and lists of moves or pairs behind one another as many as both.
use Rattle.std.proofs.Common.{◌≡◌, ℕ, ◌+◌, List, ◌++◌, map, length, ap, ◌∙◌, arith}
use Rattle.std.proofs.lemmas.List.{length-append, length-map}
use Rattle.fort_tree_automata.specs.declared.nta.Nta.{Nta}
use Rattle.fort_tree_automata.specs.NtaView.{MoveParts, as_move, moves_of}

pub count-same : (one other : Nta) → moves_of other ≡ moves_of one → length other.moves.items ≡ length one.moves.items
count-same one other e =
    let was = length-map one.moves.items as_move in
    let is = length-map other.moves.items as_move in
    let same : length (moves_of other) ≡ length (moves_of one) = ap length e in
    omega (arith, was, is, same)

pub count-joined : (first second both : Nta) (f : MoveParts → MoveParts) → moves_of both ≡ moves_of first ++ map f (moves_of second)
    → length both.moves.items ≡ length first.moves.items + length second.moves.items
count-joined first second both f e =
    let here = length-map first.moves.items as_move in
    let there = length-map second.moves.items as_move in
    let is = length-map both.moves.items as_move in
    let moved = length-map (moves_of second) f in
    let joined : length (moves_of both) ≡ length (moves_of first) + length (map f (moves_of second)) = ap length e ∙ length-append (moves_of first) (map f (moves_of second)) in
    omega (arith, here, there, is, moved, joined)

pub count-pairs : (ps qs : List (ℕ × ℕ)) (f : ℕ × ℕ → ℕ × ℕ) → length (ps ++ map f qs) ≡ length ps + length qs
count-pairs ps qs f = length-append ps (map f qs) ∙ ap (λ k. length ps + k) (length-map qs f)
