-- The sides of an atom's rules are among its patterns, by their places; no pattern stands twice where no mark does.
use Rattle.std.proofs.Common.{◌≡◌, ℕ, ◌<◌, List, ◌++◌, map, length, get_or, Contains, sym, ap, subst, ◌∙◌, arith}
use Rattle.std.proofs.lemmas.List.{get_or-map, length-map, length-append, get_or_append_left}
use Rattle.std.proofs.lemmas.List.Elements.{Contains-get_or}
use Rattle.fort_theory.specs.Patterns.{Pattern, Any, Pair}
use Rattle.fort_theory.proofs.Lists.{Contains-map_from}
use Rattle.fort_alike.specs.ListedAtoms.{Mark, OfFirst}
use Rattle.fort_alike.proofs.BitPlaces.{NoneTwice}
use Rattle.fort_label_bits.specs.declared.rule_places.RulePlaces.{RulePlaces}
use Rattle.fort_label_bits.specs.RulePlaces.{pair_at, AreWithin}
use Rattle.fort_context_closure.specs.SidePlaces.{side_at, AreSidesWithin}
use Rattle.fort_context_closure.specs.ReachRows.{NoPatternTwice}

-- of rules by places
module _ (lefts rights : List Pattern) (rules : List RulePlaces) (within : AreWithin lefts rights rules) (r : Pair)
    (among : Contains (map (pair_at lefts rights) rules) r) where
  pub left-listed : Contains lefts r.0
  left-listed =
      let found = Contains-map_from (pair_at lefts rights) rules r among in
      subst (λ (pair : Pair). Contains lefts pair.0) found.2 (Contains-get_or lefts found.0.left Any (within found.0 found.1).0)

  pub right-listed : Contains rights r.1
  right-listed =
      let found = Contains-map_from (pair_at lefts rights) rules r among in
      subst (λ (pair : Pair). Contains rights pair.1) found.2 (Contains-get_or rights found.0.right Any (within found.0 found.1).1)

-- of rules by the places of their left sides
pub side-listed : (lefts : List Pattern) (sides : List ℕ) → AreSidesWithin lefts sides → (r : Pair) → Contains (map (side_at lefts) sides) r → Contains lefts r.0
side-listed lefts sides within r among =
    let found = Contains-map_from (side_at lefts) sides r among in
    subst (λ (pair : Pair). Contains lefts pair.0) found.2 (Contains-get_or lefts found.0 Any (within found.0 found.1))

-- the first marks are those of the patterns
pub NoPatternTwice-marks : (ps : List Pattern) (rest : List Mark) → NoneTwice (map OfFirst ps ++ rest) → NoPatternTwice ps
NoPatternTwice-marks ps rest once i j l m e =
    let at : (k : ℕ) → k < length ps → get_or (map OfFirst ps ++ rest) k (OfFirst Any) ≡ OfFirst (get_or ps k Any) =
    λ k low. get_or_append_left (map OfFirst ps) rest (OfFirst Any) k (omega (arith, low, length-map ps OfFirst)) ∙ get_or-map OfFirst ps k Any (OfFirst Any) low in
    once i j (OfFirst Any) l (omega (arith, m, length-map ps OfFirst, length-append (map OfFirst ps) rest))
    (at i (omega (arith, l, m)) ∙ (ap OfFirst e ∙ sym (at j m)))
