-- What the rules of one root add to a label, and what all rules do.
use Rattle.std.specs.Prelude.{◌≡◌, ℕ, ◌<◌, ◌⊎◌, List, map, length, get_or, Contains, Option, None, Some, Bool, true, false, ◌&&◌, ◌||◌, refl}
use Rattle.std.specs.List.{list_any}
use Rattle.std.proofs.Common.{ap, sym, ◌∙◌, arith, subst}
use Rattle.std.proofs.lemmas.List.{get_or-map, get_or_default, length-map}
use Rattle.std.proofs.lemmas.List.Elements.{Contains-get_or}
use Rattle.fort_alike.specs.PatternNumbers.{PatternNumber, number_inside}
use Rattle.fort_alike.proofs.Bits.{same_from_iff}
use Rattle.fort_label_bits.specs.RootPlaces.{IsRooted, places_at, root_of}
use Rattle.fort_label_bits.specs.RulePlaces.{no_rule}
use Rattle.fort_context_closure.specs.RuleRootPlaces.{left_roots, right_roots, start_adds, end_adds, starts_at, ends_at}
use Rattle.fort_context_closure.specs.declared.reach.Reach.{Reach}
use Rattle.fort_label_bits.specs.declared.rooted.Rooted.{Rooted}
use Rattle.fort_label_bits.specs.declared.rule_places.RulePlaces.{RulePlaces}
use Rattle.fort_label_bits.proofs.RootPlaceLaws.{any_false, Decides-any, Decides-rooted, root-fits}

and-first : (a b : Bool) → (a && b) ≡ true → a ≡ true
and-first true b h = refl
and-first false b h = h

-- a test of all rules that holds only where the root is this one, or any
rules_rooted : (root : RulePlaces → Option ℕ) (test : RulePlaces → Bool) (rules : List RulePlaces) (r : Rooted) (f : ℕ) → IsRooted (map root rules) r
    → ((x : RulePlaces) → test x ≡ true → (root x ≡ None) ⊎ (root x ≡ Some f))
    → (list_any (λ k. test (get_or rules k no_rule)) (places_at r f) || list_any (λ k. test (get_or rules k no_rule)) r.any.items) ≡ list_any test rules
rules_rooted root test rules r f is fits =
    let at : ℕ → Bool = λ k. test (get_or rules k no_rule) in
    let count : length (map root rules) ≡ length rules = length-map rules root in
    let here : (k : ℕ) → k < length (map root rules) → at k ≡ true → (get_or (map root rules) k None ≡ None) ⊎ (get_or (map root rules) k None ≡ Some f) =
    λ k l t. subst (λ (x : Option ℕ). (x ≡ None) ⊎ (x ≡ Some f)) (sym (get_or-map root rules k no_rule None (omega (arith, l, count)))) (fits (get_or rules k no_rule) t) in
    same_from_iff (list_any at (places_at r f) || list_any at r.any.items) (list_any test rules) (Decides-rooted (map root rules) r f at is here) (Decides-any test rules) (
      (λ w. let l = w.1 in (get_or rules w.0 no_rule, Contains-get_or rules w.0 no_rule (omega (arith, l, count)), w.2)),
      (λ w.
          let c : Contains rules w.0 = w.1 in
          let l = c.1 in
          (c.0, omega (arith, l, count), ap test (get_or_default rules c.0 no_rule w.0 c.1 ∙ c.2) ∙ w.2)),
    )

pub starts_rooted : (lefts : List PatternNumber) (reach : Reach) (f : ℕ) (ws : List (List ℕ)) (q : ℕ) (rules : List RulePlaces) (r : Rooted) → IsRooted (left_roots lefts rules) r
    → (list_any (starts_at lefts reach (Some f) ws q rules) (places_at r f) || list_any (starts_at lefts reach (Some f) ws q rules) r.any.items) ≡ list_any (start_adds lefts reach (Some f) ws q) rules
starts_rooted lefts reach f ws q rules r is =
    rules_rooted (λ (x : RulePlaces). root_of (get_or lefts x.left None)) (start_adds lefts reach (Some f) ws q) rules r f is
    (λ x t. root-fits 0 f (get_or lefts x.left None) ws (and-first (number_inside 0 (get_or lefts x.left None) (Some f) ws) _ t))

pub ends_rooted : (lefts rights : List PatternNumber) (reach : Reach) (f : ℕ) (ws : List (List ℕ)) (q : ℕ) (rules : List RulePlaces) (r : Rooted) → IsRooted (right_roots rights rules) r
    → (list_any (ends_at lefts rights reach (Some f) ws q rules) (places_at r f) || list_any (ends_at lefts rights reach (Some f) ws q rules) r.any.items) ≡ list_any (end_adds lefts rights reach (Some f) ws q) rules
ends_rooted lefts rights reach f ws q rules r is =
    rules_rooted (λ (x : RulePlaces). root_of (get_or rights x.right None)) (end_adds lefts rights reach (Some f) ws q) rules r f is
    (λ x t. root-fits (length lefts) f (get_or rights x.right None) ws (and-first (number_inside (length lefts) (get_or rights x.right None) (Some f) ws) _ t))

pub starts_nowhere : (lefts : List PatternNumber) (reach : Reach) (ws : List (List ℕ)) (q : ℕ) (rules : List RulePlaces) → list_any (start_adds lefts reach None ws q) rules ≡ false
starts_nowhere lefts reach ws q rules = any_false (start_adds lefts reach None ws q) rules (λ x. refl)

pub ends_nowhere : (lefts rights : List PatternNumber) (reach : Reach) (ws : List (List ℕ)) (q : ℕ) (rules : List RulePlaces) → list_any (end_adds lefts rights reach None ws q) rules ≡ false
ends_nowhere lefts rights reach ws q rules = any_false (end_adds lefts rights reach None ws q) rules (λ x. refl)

pub or-nothing : (b : Bool) → (b || false) ≡ b
or-nothing true = refl
or-nothing false = refl
