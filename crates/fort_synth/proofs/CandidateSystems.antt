-- Systems of a family's rules, which are pushed one after another.
use Rattle.std.proofs.Common.{◌≡◌, ℕ, ◌+◌, ◌<◌, List, [], ◌∷◌, ◌++◌, map, length, get_or, take, sym, ap, subst, ◌∙◌, arith}
use Rattle.std.specs.Prelude.{All}
use Rattle.std.proofs.lemmas.List.{map-append, length-map, take_more, get_or-map}
use Rattle.std.proofs.lemmas.List.Elements.{All-get_or}
use Rattle.fort_theory.specs.Trees.{Tree}
use Rattle.fort_theory.specs.Signatures.{Signature}
use Rattle.fort_theory.specs.Sides.{Side, count_all, pushed_at}
use Rattle.fort_theory.specs.Patterns.{Pattern, Pair, PatternSystem, pattern_of, pattern_pair}
use Rattle.fort_answers.specs.FamilyRules.{FamilyRule}
use Rattle.fort_answers.specs.FamilySystems.{rule_of, side_from, ground_side, system_of}
use Rattle.fort_terms.specs.declared.pattern.Pattern as program
use Rattle.fort_synth.specs.CandidateRules.{no_rule, rules_at, pairs_of}
use Rattle.fort_synth.specs.FamilyView.{as_family_rule}
use Rattle.fort_synth.specs.SearchAnswers.{FitsRule, picked_system}

pub pair-rule_of : (p : Pattern) (t : Tree) (s u : Side) → s ≡ side_from 0 p → u ≡ ground_side t → (pattern_of s, pattern_of u) ≡ pattern_pair (rule_of (p, t))
unfolding rule_of
pair-rule_of p t s u left right = λ i. (pattern_of (left i), pattern_of (right i))

-- the family's rule in a place is that of the pair there
pub rule_at : (family : List (program.Pattern × Tree)) (place : ℕ) (pair : program.Pattern × Tree) → place < length family → pair ≡ get_or family place pair
    → get_or (map as_family_rule family) place no_rule ≡ as_family_rule pair
rule_at family place pair low is = get_or-map as_family_rule family place pair no_rule low ∙ ap as_family_rule (sym is)

pub fits_at : (signature : Signature) (family : List (program.Pattern × Tree)) (place : ℕ) (pair : program.Pattern × Tree) → place < length family
    → pair ≡ get_or family place pair → All (FitsRule signature) (map as_family_rule family) → FitsRule signature (as_family_rule pair)
fits_at signature family place pair low is all =
    subst (FitsRule signature) (rule_at family place pair low is)
    (All-get_or (FitsRule signature) (map as_family_rule family) place no_rule (omega (arith, length-map family as_family_rule)) all)

pub count-pairs_of : (family : List FamilyRule) (places : List ℕ) (lists : List (List Pair)) → lists ≡ pairs_of (rules_at family places) ∷ [] → count_all lists ≡ length places
count-pairs_of family places lists are =
    let rules_are = length-map places (λ place. get_or family place no_rule) in
    let sides_are = length-map (rules_at family places) rule_of in
    let pairs_are = length-map (map rule_of (rules_at family places)) pattern_pair in
    ap count_all are ∙ omega (arith, rules_are, sides_are, pairs_are)

-- the rule in the next place goes behind
pub pushed_rule : (family : List FamilyRule) (places : List ℕ) (i : ℕ) (rule : FamilyRule) (old new : List (List Pair)) → i < length places
    → get_or family (get_or places i 0) no_rule ≡ rule → old ≡ pairs_of (rules_at family (take i places)) ∷ [] → new ≡ pushed_at 1 (pattern_pair (rule_of rule)) old
    → new ≡ pairs_of (rules_at family (take (i + 1) places)) ∷ []
pushed_rule family places i rule old new low is are pushed =
    let stands : ℕ → FamilyRule = λ k. get_or family k no_rule in
    let so_far : List FamilyRule = rules_at family (take i places) in
    let more : rules_at family (take (i + 1) places) ≡ so_far ++ rule ∷ [] =
    ap (map stands) (take_more places i 0 low) ∙ (map-append stands (take i places) (get_or places i 0 ∷ []) ∙ ap (λ r. so_far ++ r ∷ []) is) in
    let pairs : pairs_of (rules_at family (take (i + 1) places)) ≡ pairs_of so_far ++ pattern_pair (rule_of rule) ∷ [] =
    ap pairs_of more ∙ (ap (map pattern_pair) (map-append rule_of so_far (rule ∷ [])) ∙ map-append pattern_pair (map rule_of so_far) (rule_of rule ∷ [])) in
    pushed ∙ (ap (pushed_at 1 (pattern_pair (rule_of rule))) are ∙ ap (λ xs. xs ∷ []) (sym pairs))

pub made_by_parts : (signature : Signature) (rules : List FamilyRule) (system : PatternSystem) → system.signature ≡ signature → system.rules ≡ pairs_of rules ∷ []
    → system ≡ picked_system signature rules
unfolding system_of
made_by_parts signature rules system of are =
    λ i. record { signature = of i; rules = are i }
