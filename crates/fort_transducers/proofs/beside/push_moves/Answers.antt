use Rattle.std.proofs.Common.{◌≡◌, ℕ, ◌+◌, ◌<◌, List, [], ◌∷◌, ◌++◌, map, take, length, get_or, sym, subst, ap, append_assoc, arith}
use Rattle.std.specs.Prelude.{Contains}
use Rattle.std.proofs.lemmas.List.{take_more, map-append}
use Rattle.std.proofs.lemmas.List.Elements.{Contains-get_or}
use Rattle.fort_theory.proofs.Lists.{Contains-map}
use Rattle.fort_tree_automata.specs.declared.nta.Move.{Move}
use Rattle.fort_tree_automata.specs.NtaView.{as_move}
use Rattle.fort_transducers.specs.Unions.{shifted_move}
use Rattle.fort_transducers.proofs.beside.push_moves.Goals as goal

among : (moves : List Move) (i : ℕ) (step : Move) → i < length moves → step ≡ get_or moves i step → Contains (map as_move moves) (as_move step)
among moves i step l at =
    subst (λ (m : Move). Contains (map as_move moves) (as_move m)) (sym at) (Contains-map as_move moves (get_or moves i step) (Contains-get_or moves i step l))

more : (by i : ℕ) (moves old joined new : List Move) (step made : Move) → i < length moves → step ≡ get_or moves i step
    → map as_move joined ≡ map as_move old ++ map (shifted_move by) (map as_move (take i moves)) → new ≡ joined ++ made ∷ [] → as_move made ≡ shifted_move by (as_move step)
    → map as_move new ≡ map as_move old ++ map (shifted_move by) (map as_move (take (i + 1) moves))
more by i moves old joined new step made l at was is same =
    rw (
      is,
      map-append as_move joined (made ∷ []),
      was,
      same,
      take_more moves i step l,
      ← at,
      map-append as_move (take i moves) (step ∷ []),
      map-append (shifted_move by) (map as_move (take i moves)) (as_move step ∷ []),
    )
    (append_assoc (map as_move old) (map (shifted_move by) (map as_move (take i moves))) (shifted_move by (as_move step) ∷ []))

pub shifted-requires : goal.shifted-requires
shifted-requires c q there =
    c.requires.kids (as_move c.step-item.result) (among c.args.moves.now c.loop-step.step-index c.step-item.result c.loop-step-test.true c.step-item.is) q
    (rw c.deref.ensures.value at there)

pub overflow_add-step : goal.overflow_add-step
overflow_add-step c =
    let fits = c.requires.target (as_move c.step-item.result) (among c.args.moves.now c.loop-step.step-index c.step-item.result c.loop-step-test.true c.step-item.is) in
    omega (arith, fits)

pub loop-step-preserved : goal.loop-step-preserved
loop-step-preserved c =
    let made : Move = record { sym = c.step-item.result.sym; kids = c.in_ok-shifted.field-0; target = c.step-item.result.target + c.args.by } in
    more c.args.by c.loop-step.step-index c.args.moves.now c.args.joined.now.items c.loop-step.joined.items c.push.new.self.items c.step-item.result made
    c.loop-step-test.true c.step-item.is c.loop-step.invariant c.in_ok-push.ensures.items
    (ap (λ (qs : List ℕ). (c.step-item.result.sym.0, qs, c.step-item.result.target + c.args.by)) (rw c.deref.ensures.value at c.in_ok-shifted.ensures))
