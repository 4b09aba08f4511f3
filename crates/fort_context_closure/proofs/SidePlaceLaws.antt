-- Rules by the places of their left sides: one more at the end; some left side that has its bit, against some pair that passes a test.
use Rattle.std.specs.Prelude.{◌≡◌, ℕ, ◌+◌, ◌<◌, List, [], ◌∷◌, ◌++◌, map, length, take, get_or, Contains, Bool, ◌||◌, refl}
use Rattle.std.proofs.Common.{sym, ap, ◌∙◌, subst, inl, inr}
use Rattle.std.proofs.lemmas.List.{take_more, map-append}
use Rattle.std.proofs.lemmas.List.Elements.{Contains-append_cases}
use Rattle.fort_theory.specs.Patterns.{Pattern, Any, Pair}
use Rattle.fort_theory.proofs.Members.{Contains-none, Contains-cons_cases, Contains-head, Contains-behind}
use Rattle.fort_terms.specs.declared.pattern.Pattern as terms
use Rattle.fort_terms.specs.PatternView.{as_pair}
use Rattle.fort_alike.specs.AtomRules.{any_pair}
use Rattle.fort_label_bits.specs.RowBits.{bit_of}
use Rattle.fort_context_closure.specs.SidePlaces.{side_at, some_side, AreSidesOf}

abbrev left_of : Pair → Pattern
left_of pair = pair.0

pub AreSidesOf-more : (lefts : List Pattern) (rules : List (terms.Pattern × terms.Pattern)) (i : ℕ) (item : terms.Pattern × terms.Pattern)
    (places : List ℕ) (k : ℕ) → i < length rules → item ≡ get_or rules i item → AreSidesOf lefts (map as_pair (take i rules)) places
    → k < length lefts → get_or lefts k Any ≡ (as_pair item).0 → AreSidesOf lefts (map as_pair (take (i + 1) rules)) (places ++ k ∷ [])
AreSidesOf-more lefts rules i item places k l is h m e =
    let at : ℕ → Pattern = λ q. get_or lefts q Any in
    let more : map left_of (map as_pair (take (i + 1) rules)) ≡ map left_of (map as_pair (take i rules)) ++ left_of (as_pair item) ∷ [] =
    ap (λ xs. map left_of (map as_pair xs)) (take_more rules i item l)
    ∙ (ap (map left_of) (map-append as_pair (take i rules) (get_or rules i item ∷ []))
    ∙ (map-append left_of (map as_pair (take i rules)) (as_pair (get_or rules i item) ∷ [])
    ∙ ap (λ x. map left_of (map as_pair (take i rules)) ++ left_of (as_pair x) ∷ []) (sym is))) in
    record {
      sides_are = map-append at places (k ∷ []) ∙ (ap (λ ps. ps ++ at k ∷ []) h.sides_are
          ∙ (ap (λ p. map left_of (map as_pair (take i rules)) ++ p ∷ []) e ∙ sym more));
      within = λ x c. elim (Contains-append_cases places (k ∷ []) x c) [
        | inl a ↦ h.within x a
        | inr b ↦ elim (Contains-cons_cases k [] x b) [ inl same ↦ subst (λ (z : ℕ). z < length lefts) same m | inr n ↦ absurd (Contains-none x n) ]
      ];
    }

pub some_side-any_pair : (lefts : List Pattern) (t : Pattern → Bool) (w : List ℕ) (sides : List ℕ)
    → ((k : ℕ) → Contains sides k → bit_of k w ≡ t (get_or lefts k Any)) → some_side sides w ≡ any_pair (λ r. t r.0) (map (side_at lefts) sides)
some_side-any_pair lefts t w [] h = refl
some_side-any_pair lefts t w (k ∷ sides) h =
    ap (λ b. b || some_side sides w) (h k (Contains-head k sides))
    ∙ ap (λ b. t (get_or lefts k Any) || b) (some_side-any_pair lefts t w sides (λ s c. h s (Contains-behind k sides s c)))
