use Rattle.std.proofs.Common.{◌≡◌, [], map, drop, get_or}
use Rattle.fort_alike.specs.PatternNumbers.{all_at}
use Rattle.fort_label_bits.proofs.numbered.are_inside.Given as goal

-- the places that are left decide
abbrev pub invariant-loop-j : goal.invariant-loop-j
invariant-loop-j l =
    let labels = map (λ q. get_or l.rows.labels q []) l.row.kids in
    all_at l.base l.places labels ≡ all_at l.base (drop l.j l.places) (drop l.j labels)
