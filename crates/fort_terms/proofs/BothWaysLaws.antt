-- The rules of an index taken both ways are a system again.
use Rattle.std.specs.Prelude.{ℕ, List, [], ◌++◌, map, All}
use Rattle.std.proofs.Common.{arith}
use Rattle.std.proofs.lemmas.List.Elements.{All-nil, All-cons, All-append, All-map, All-weaker}
use Rattle.fort_theory.specs.Sides.{at_index}
use Rattle.fort_theory.specs.Patterns.{Pair, FitsPair, PatternSystem, IsSystem}
use Rattle.fort_theory.proofs.IndexLaws.{All-at_index}
use Rattle.fort_terms.specs.BothWays.{both_ways, exchanged}

pub IsSystem-both_ways : (system : PatternSystem) (index : ℕ) → IsSystem system → IsSystem (both_ways system index)
IsSystem-both_ways system index is =
    let Fits : Pair → Type 0 = FitsPair system.signature in
    let rules : List Pair = at_index index system.rules in
    let fits : All Fits rules = All-at_index Fits index system.rules is.fits in
    let back : All Fits (map exchanged rules) = All-map Fits exchanged rules (All-weaker Fits (λ pair. Fits (exchanged pair)) (λ pair h. (h.1, h.0)) rules fits) in
    record {
      constant = is.constant;
      some = omega arith;
      few = omega arith;
      fits = All-cons (All Fits) (rules ++ map exchanged rules) [] (All-append Fits rules (map exchanged rules) fits back) (All-nil (All Fits));
    }
