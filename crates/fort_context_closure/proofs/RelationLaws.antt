-- The bits that are written at a node for a relation are those of the rule's marks.
use Rattle.std.specs.Prelude.{◌≡◌, ℕ, ◌+◌, List, [], ◌∷◌, ◌++◌, map, length, Option, Bool, refl}
use Rattle.std.proofs.Common.{sym, ap, ◌∙◌}
use Rattle.fort_theory.specs.Signatures.{Signature}
use Rattle.fort_theory.specs.Patterns.{Pattern, Pair}
use Rattle.fort_theory.specs.Cores.{Rel}
use Rattle.fort_alike.specs.Atoms.{kind_for}
use Rattle.fort_alike.specs.Alike.{Fact, facts_of, is_reaching}
use Rattle.fort_alike.specs.ListedAtoms.{Mark, OfFirst, OfSecond, OfBoth, ListedAtom, listed}
use Rattle.fort_alike.specs.AtomRules.{marks_of, first_step, second_step, same_roots, root_test, bit_in}
use Rattle.fort_alike.proofs.PatternNumberLaws.{fact_bit}
use Rattle.fort_context_closure.specs.FactTests as tests
use Rattle.fort_context_closure.proofs.FactLaws.{facts-are}
use Rattle.fort_context_closure.proofs.NodeRowLaws.{node_marks}

map-facts : (b : Mark → Bool) (facts : List Fact) → map b (map OfBoth facts) ≡ map (λ k. b (OfBoth k)) facts
map-facts b [] = refl
map-facts b (k ∷ facts) = ap (λ bs. b (OfBoth k) ∷ bs) (map-facts b facts)

map-seconds : (b : Mark → Bool) (rights : List Pattern) (facts : List Fact)
    → map b (map OfSecond rights ++ map OfBoth facts) ≡ map (λ p. b (OfSecond p)) rights ++ map (λ k. b (OfBoth k)) facts
map-seconds b [] facts = map-facts b facts
map-seconds b (p ∷ rights) facts = ap (λ bs. b (OfSecond p) ∷ bs) (map-seconds b rights facts)

pub map-marks : (b : Mark → Bool) (lefts rights : List Pattern) (facts : List Fact)
    → map b (map OfFirst lefts ++ (map OfSecond rights ++ map OfBoth facts))
    ≡ (map (λ p. b (OfFirst p)) lefts ++ map (λ p. b (OfSecond p)) rights) ++ map (λ k. b (OfBoth k)) facts
map-marks b [] rights facts = map-seconds b rights facts
map-marks b (p ∷ lefts) rights facts = ap (λ bs. b (OfFirst p) ∷ bs) (map-marks b lefts rights facts)

module _ (sig : Signature) (rel : Rel) (columns first second : ℕ) (pairs : List Pair) (lefts rights : List Pattern) where
  abbrev pub relation : ListedAtom
  relation = listed (record { signature = sig; columns = columns; first = first; second = second; kind = kind_for rel; pairs = pairs }) lefts rights

  -- the bits at a node: of the first's patterns, of the second's, of the facts
  module _ (closure : Pattern → Pattern → Bool) (x y : Option ℕ) (ws : List (List ℕ)) (equal root : Bool) (equal_is : equal ≡ same_roots x y)
      (root_is : root ≡ root_test (is_reaching (kind_for rel)) (bit_in relation) pairs closure x y ws) where
    abbrev firsts_at : List Bool
    firsts_at = map (first_step (is_reaching (kind_for rel)) (bit_in relation) pairs closure x ws) lefts

    abbrev seconds_at : List Bool
    seconds_at = map (second_step (is_reaching (kind_for rel)) (bit_in relation) pairs closure y ws) rights

    abbrev facts_at : List Bool
    facts_at = map (tests.fact_test (tests.fact_bit (kind_for rel) (length lefts + length rights)) equal root ws) (facts_of (kind_for rel))

    pub bits-are : (firsts seconds : List Bool) → firsts ≡ firsts_at → seconds ≡ seconds_at
        → (firsts ++ seconds) ++ facts_at ≡ map (node_marks relation closure x y ws) (marks_of relation)
    bits-are firsts seconds f s =
        let reads : (k : Fact) (w : List ℕ) → tests.fact_bit (kind_for rel) (length lefts + length rights) k w ≡ bit_in relation (OfBoth k) w =
        λ k w. fact_bit relation k w in
        (λ i. (f i ++ s i) ++ facts_at)
        ∙ (ap (λ bs. (firsts_at ++ seconds_at) ++ bs)
        (facts-are (bit_in relation) pairs closure x y ws rel (length lefts + length rights) equal root reads equal_is root_is)
        ∙ sym (map-marks (node_marks relation closure x y ws) lefts rights (facts_of (kind_for rel))))
