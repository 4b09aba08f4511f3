use Rattle.std.proofs.Common.{◌≡◌, ◌+◌, suc, List, map, take, length, sym, ◌∙◌, arith}
use Rattle.std.proofs.lemmas.List.{length-map, length-take-le}
use Rattle.fort_theory.specs.Trees.{Tree}
use Rattle.fort_context_closure.proofs.NodeLaws.{AreNumbersIn-there, AreNumbersIn-new, taken_more}
use Rattle.fort_context_closure.proofs.nodes.numbers_in.Goals as goal
use Rattle.fort_context_closure.proofs.nodes.numbers_in.Goals.{then-number_of-eq0+in_ok-copy+in_ok-insert, else-number_of-eq0}

pub loop-place-preserved : goal.loop-place-preserved
loop-place-preserved c =
    let place = c.loop-place.place in
    let before : List Tree = map (λ r. r.now) (take place c.args.listed.now) in
    let t = c.index-listed-place.result in
    let more = taken_more (λ r. r.now) c.args.listed.now place t c.loop-place-test.true c.index-listed-place.is in
    let number = c.number_of.ensures before c.loop-place.invariant in
    let size : length (take place c.args.listed.now) ≡ place = length-take-le place c.args.listed.now (omega (arith, c.loop-place-test.true)) in
    let next : place + 1 ≡ suc (length before) = omega (arith, size, length-map (take place c.args.listed.now) (λ r. r.now)) in
    elim c.if-number_of-eq0.branch [
      | then-number_of-eq0+in_ok-copy+in_ok-insert w ↦
          let updates = rw w.in_ok-copy.ensures at w.in_ok-insert.ensures.updates.0 in
          rw (w.numbers-is, more) (AreNumbersIn-new before t.now (place + 1) _ _ next c.loop-place.invariant (sym number ∙ w.if-number_of-eq0.true) updates)
      | else-number_of-eq0 w ↦
          rw (w.numbers-is, more) (AreNumbersIn-there before t.now _ c.loop-place.invariant (λ none. w.if-number_of-eq0.false (number ∙ none)))
    ]
