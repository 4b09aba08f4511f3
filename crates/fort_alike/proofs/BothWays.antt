-- A reduction by pairs both ways is a conversion by the pairs.
use Rattle.std.specs.Prelude.{◌≡◌, ◌↔◌, List, map, Contains}
use Rattle.std.proofs.Common.{subst, sym, inl, inr}
use Rattle.std.proofs.lemmas.List.Elements.{Contains-append_left, Contains-append_right, Contains-append_cases}
use Rattle.fort_theory.specs.Trees.{Tree}
use Rattle.fort_theory.specs.Signatures.{Signature}
use Rattle.fort_theory.specs.Patterns.{IsInstance, Pair}
use Rattle.fort_theory.specs.PatternSteps.{PatternStep}
use Rattle.fort_theory.specs.Rewriting.{Reduces, Converts}
use Rattle.fort_theory.proofs.Lists.{Contains-map, Contains-map_from}
use Rattle.fort_theory.proofs.WithinRoots.{Within, Reduces-within}
use Rattle.fort_reachability.proofs.Conversions.{EitherWay, Reduces-EitherWay}
use Rattle.fort_alike.specs.Atoms.{both_ways}

abbrev exchanged : Pair → Pair
exchanged pair = (pair.1, pair.0)

module _ (sig : Signature) (pairs : List Pair) where
  forward : (s t : Tree) → PatternStep sig pairs s t → PatternStep sig (both_ways pairs) s t
  forward s t h = record {
    pair = h.pair;
    among = Contains-append_left pairs (map exchanged pairs) h.pair h.among;
    left = h.left;
    right = h.right;
    left_grounded = h.left_grounded;
    right_grounded = h.right_grounded;
  }

  backward : (s t : Tree) → PatternStep sig pairs t s → PatternStep sig (both_ways pairs) s t
  backward s t h = record {
    pair = exchanged h.pair;
    among = Contains-append_right pairs (map exchanged pairs) (exchanged h.pair) (Contains-map exchanged pairs h.pair h.among);
    left = h.right;
    right = h.left;
    left_grounded = h.right_grounded;
    right_grounded = h.left_grounded;
  }

  other_way : (s t : Tree) (h : PatternStep sig (both_ways pairs) s t) (pair : Pair) → exchanged pair ≡ h.pair → Contains pairs pair → PatternStep sig pairs t s
  other_way s t h pair same among = record {
    pair = pair;
    among = among;
    left = subst (λ (x : Pair). IsInstance x.1 t) (sym same) h.right;
    right = subst (λ (x : Pair). IsInstance x.0 s) (sym same) h.left;
    left_grounded = h.right_grounded;
    right_grounded = h.left_grounded;
  }

  to_either : Within (PatternStep sig (both_ways pairs)) (EitherWay (PatternStep sig pairs))
  to_either s t h = elim (Contains-append_cases pairs (map exchanged pairs) h.pair h.among) [
    | inl c ↦ inl (record {
      pair = h.pair;
      among = c;
      left = h.left;
      right = h.right;
      left_grounded = h.left_grounded;
      right_grounded = h.right_grounded;
    })
    | inr c ↦ let w = Contains-map_from exchanged pairs h.pair c in inr (other_way s t h w.0 w.2 w.1)
  ]

  from_either : Within (EitherWay (PatternStep sig pairs)) (PatternStep sig (both_ways pairs))
  from_either s t (inl h) = forward s t h
  from_either s t (inr h) = backward s t h

  pub Reduces-both_ways : (s t : Tree) → Reduces (PatternStep sig (both_ways pairs)) s t ↔ Converts (PatternStep sig pairs) s t
  Reduces-both_ways s t =
      let either = Reduces-EitherWay (PatternStep sig pairs) s t in (
        (λ h. either.0 (Reduces-within (PatternStep sig (both_ways pairs)) (EitherWay (PatternStep sig pairs)) to_either s t h)),
        (λ h. Reduces-within (EitherWay (PatternStep sig pairs)) (PatternStep sig (both_ways pairs)) from_either s t (either.1 h)),
      )
