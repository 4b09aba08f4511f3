-- Rules by places: one more at the end; some rule that has both its bits, against some pair that passes a test.
use Rattle.std.specs.Prelude.{◌≡◌, ℕ, ◌+◌, ◌<◌, List, [], ◌∷◌, ◌++◌, map, length, take, get_or, Contains, Bool, ◌||◌, refl}
use Rattle.std.specs.List.{list_any}
use Rattle.std.proofs.Common.{sym, ap, ◌∙◌, subst, inl, inr}
use Rattle.std.proofs.lemmas.List.{take_more, map-append}
use Rattle.std.proofs.lemmas.List.Elements.{Contains-append_cases}
use Rattle.fort_theory.specs.Patterns.{Pattern, Any, Pair}
use Rattle.fort_theory.proofs.Members.{Contains-none, Contains-cons_cases, Contains-head, Contains-behind}
use Rattle.fort_terms.specs.declared.pattern.Pattern as terms
use Rattle.fort_terms.specs.PatternView.{as_pair}
use Rattle.fort_alike.specs.AtomRules.{any_pair}
use Rattle.fort_label_bits.specs.declared.rule_places.RulePlaces.{RulePlaces}
use Rattle.fort_label_bits.specs.RulePlaces.{pair_at, ArePlacesOf}
use Rattle.fort_label_bits.specs.RuleLefts.{has_both, some_rule}

pub ArePlacesOf-one : (lefts rights : List Pattern) (pair : Pair) (rule : RulePlaces) → rule.left < length lefts → rule.right < length rights
    → get_or lefts rule.left Any ≡ pair.0 → get_or rights rule.right Any ≡ pair.1 → ArePlacesOf lefts rights (pair ∷ []) (rule ∷ [])
ArePlacesOf-one lefts rights pair rule l r e d =
    let here : pair_at lefts rights rule ≡ pair = λ i. (e i, d i) in
    record {
      pairs_are = ap (λ p. p ∷ []) here;
      within = λ x c. elim (Contains-cons_cases rule [] x c) [
        | inl is ↦ subst (λ (z : RulePlaces). (z.left < length lefts) × (z.right < length rights)) is (l, r)
        | inr n ↦ absurd (Contains-none x n)
      ];
    }

ArePlacesOf-append : (lefts rights : List Pattern) (ps qs : List Pair) (rs ss : List RulePlaces) → ArePlacesOf lefts rights ps rs → ArePlacesOf lefts rights qs ss
    → ArePlacesOf lefts rights (ps ++ qs) (rs ++ ss)
ArePlacesOf-append lefts rights ps qs rs ss h k = record {
  pairs_are = map-append (pair_at lefts rights) rs ss ∙ (ap (λ zs. zs ++ map (pair_at lefts rights) ss) h.pairs_are ∙ ap (λ zs. ps ++ zs) k.pairs_are);
  within = λ x c. elim (Contains-append_cases rs ss x c) [ inl a ↦ h.within x a | inr b ↦ k.within x b ];
}

pub ArePlacesOf-more : (lefts rights : List Pattern) (rules : List (terms.Pattern × terms.Pattern)) (i : ℕ) (item : terms.Pattern × terms.Pattern)
    (places : List RulePlaces) (place : RulePlaces) → i < length rules → item ≡ get_or rules i item → ArePlacesOf lefts rights (map as_pair (take i rules)) places
    → ArePlacesOf lefts rights (as_pair item ∷ []) (place ∷ []) → ArePlacesOf lefts rights (map as_pair (take (i + 1) rules)) (places ++ place ∷ [])
ArePlacesOf-more lefts rights rules i item places place l is h k =
    let more : map as_pair (take (i + 1) rules) ≡ map as_pair (take i rules) ++ as_pair item ∷ [] =
    ap (map as_pair) (take_more rules i item l) ∙ (map-append as_pair (take i rules) (get_or rules i item ∷ [])
    ∙ ap (λ x. map as_pair (take i rules) ++ as_pair x ∷ []) (sym is)) in
    subst (λ ps. ArePlacesOf lefts rights ps (places ++ place ∷ [])) (sym more)
    (ArePlacesOf-append lefts rights (map as_pair (take i rules)) (as_pair item ∷ []) places (place ∷ []) h k)

pub list_any-any_pair : (lefts rights : List Pattern) (t : Pair → Bool) (u : RulePlaces → Bool) (rules : List RulePlaces)
    → ((r : RulePlaces) → Contains rules r → u r ≡ t (pair_at lefts rights r))
    → list_any u rules ≡ any_pair t (map (pair_at lefts rights) rules)
list_any-any_pair lefts rights t u [] h = refl
list_any-any_pair lefts rights t u (r ∷ rules) h =
    ap (λ b. b || list_any u rules) (h r (Contains-head r rules))
    ∙ ap (λ b. t (pair_at lefts rights r) || b) (list_any-any_pair lefts rights t u rules (λ s c. h s (Contains-behind r rules s c)))

pub some_rule-any_pair : (lefts rights : List Pattern) (t : Pair → Bool) (base : ℕ) (w : List ℕ) (rules : List RulePlaces)
    → ((r : RulePlaces) → Contains rules r → has_both base w r ≡ t (pair_at lefts rights r))
    → some_rule base rules w ≡ any_pair t (map (pair_at lefts rights) rules)
some_rule-any_pair lefts rights t base w rules h = list_any-any_pair lefts rights t (has_both base w) rules h
