-- The lines of a system's rules are those of the pairs of their patterns, which have few places on the left and none on the right.
use Rattle.std.proofs.Common.{◌≡◌, ℕ, ◌+◌, ◌<◌, ◌≤◌, ◌^◌, List, [], ◌∷◌, ◌++◌, map, length, take, get_or, refl, sym, ap, ◌∙◌, subst, arith, append_assoc, append-nil}
use Rattle.std.specs.Prelude.{codes, All, Contains}
use Rattle.std.proofs.lemmas.List.{map-append, take_all, take_more}
use Rattle.std.proofs.lemmas.List.Elements.{All-contains, All-map, All-weaker}
use Rattle.fort_theory.specs.Signatures.{Signature}
use Rattle.fort_theory.specs.Sides.{at_index}
use Rattle.fort_theory.specs.Patterns as theory
use Rattle.fort_theory.specs.Patterns.{Pair, PatternSystem, IsSystem, FitsPair, pattern_pair, pattern_system}
use Rattle.fort_theory.proofs.IndexLaws.{All-at_index}
use Rattle.fort_theory.proofs.Lists.{Contains-map}
use Rattle.fort_terms.specs.declared.pattern.Pattern.{Pattern}
use Rattle.fort_terms.specs.PatternView.{as_pair}
use Rattle.fort_answers.specs.FamilyRules.{FamilyRule}
use Rattle.fort_answers.specs.FamilySystems.{any_count, side_from, ground_side, rule_of, system_of}
use Rattle.fort_answers.specs.RuleText.{side_text, rule_text, rule_lines}
use Rattle.fort_answers.proofs.FamilySides.{pattern_of-side_from, any_count-ground, side_from-ground}
use Rattle.fort_synth.specs.TextLines.{pair_line, pair_lines, HasFewPlaces}

-- the pair of a rule
abbrev pair_of : FamilyRule → Pair
pair_of r = pattern_pair (rule_of r)

line_of_rule : (sig : Signature) (r : FamilyRule) → pair_line sig (pair_of r) ≡ rule_text sig (rule_of r) ++ 10 ∷ []
unfolding rule_of
line_of_rule sig r =
    let left = side_text sig (side_from 0 r.0) in
    let right = side_text sig (ground_side r.1) in
    ap (λ (p : theory.Pattern). pair_line sig (p, (pair_of r).1)) (pattern_of-side_from 0 r.0)
    ∙ (ap (λ s. codes "(rule " ++ (left ++ (codes " " ++ (side_text sig s ++ (codes ")" ++ 10 ∷ []))))) (side_from-ground 0 r.1)
    ∙ simp append_assoc)

-- the lines of the pairs of rules
lines_of_rules : (sig : Signature) (rs : List FamilyRule) → pair_lines sig (map pair_of rs) ≡ rule_lines sig rs
lines_of_rules sig [] = refl
lines_of_rules sig (r ∷ rs) =
    ap (λ (w : List ℕ). w ++ pair_lines sig (map pair_of rs)) (line_of_rule sig r)
    ∙ (append_assoc (rule_text sig (rule_of r)) (10 ∷ []) (pair_lines sig (map pair_of rs))
    ∙ ap (λ (w : List ℕ). rule_text sig (rule_of r) ++ (10 ∷ w)) (lines_of_rules sig rs))

-- the pairs of a system of rules
pairs_of_rules : (system : PatternSystem) (rs : List FamilyRule) → system ≡ pattern_system (system_of system.signature rs) → at_index 1 system.rules ≡ map pair_of rs
unfolding system_of
pairs_of_rules system rs is = ap (λ (s : PatternSystem). at_index 1 s.rules) is ∙ pairs rs
  where
    pairs : (xs : List FamilyRule) → map pattern_pair (map rule_of xs) ≡ map pair_of xs
    pairs [] = refl
    pairs (x ∷ xs) = ap (λ ys. pair_of x ∷ ys) (pairs xs)

-- ---- what is asked of a pair

has_few : (r : FamilyRule) → any_count r.0 < 2 ^ 32 → HasFewPlaces (pair_of r)
unfolding rule_of
has_few r few = record { left = omega (arith, ap any_count (pattern_of-side_from 0 r.0)); right = any_count-ground r.1 }

pub few_at : (system : PatternSystem) (rs : List FamilyRule) (rules : List (Pattern × Pattern)) (i : ℕ) (rule : Pattern × Pattern) → system ≡ pattern_system (system_of system.signature rs)
    → All (λ (r : FamilyRule). any_count r.0 < 2 ^ 32) rs → map as_pair rules ≡ at_index 1 system.rules → i < length rules → rule ≡ get_or rules i rule → HasFewPlaces (as_pair rule)
few_at system rs rules i rule is few pairs low here =
    let all = All-map HasFewPlaces pair_of rs (All-weaker (λ (r : FamilyRule). any_count r.0 < 2 ^ 32) (λ r. HasFewPlaces (pair_of r)) has_few rs few) in
    let there = subst (λ ps. Contains ps (as_pair rule)) (pairs ∙ pairs_of_rules system rs is) (Contains-map as_pair rules rule (i, low, sym here)) in
    All-contains HasFewPlaces (map pair_of rs) (as_pair rule) all there

pub fits_in : (system : PatternSystem) (rules : List (Pattern × Pattern)) (i : ℕ) (rule : Pattern × Pattern) → IsSystem system → map as_pair rules ≡ at_index 1 system.rules
    → i < length rules → rule ≡ get_or rules i rule → FitsPair system.signature (as_pair rule)
fits_in system rules i rule is pairs low here =
    let there = subst (λ ps. Contains ps (as_pair rule)) pairs (Contains-map as_pair rules rule (i, low, sym here)) in
    All-contains (FitsPair system.signature) (at_index 1 system.rules) (as_pair rule) (All-at_index (FitsPair system.signature) 1 system.rules is.fits) there

-- ---- the lines so far

pair_lines-push : (sig : Signature) (ps : List Pair) (p : Pair) → pair_lines sig (ps ++ p ∷ []) ≡ pair_lines sig ps ++ pair_line sig p
pair_lines-push sig [] p = append-nil (pair_line sig p)
pair_lines-push sig (q ∷ ps) p =
    ap (λ (w : List ℕ). pair_line sig q ++ w) (pair_lines-push sig ps p)
    ∙ sym (append_assoc (pair_line sig q) (pair_lines sig ps) (pair_line sig p))

-- one more
pub line_more : (sig : Signature) (rules : List (Pattern × Pattern)) (i : ℕ) (rule : Pattern × Pattern) (old text new : List ℕ) → i < length rules → rule ≡ get_or rules i rule
    → text ≡ old ++ pair_lines sig (map as_pair (take i rules)) → new ≡ text ++ pair_line sig (as_pair rule) → new ≡ old ++ pair_lines sig (map as_pair (take (i + 1) rules))
line_more sig rules i rule old text new low here texts is =
    let front = map as_pair (take i rules) in
    let more : map as_pair (take (i + 1) rules) ≡ front ++ as_pair rule ∷ [] =
    ap (map as_pair) (take_more rules i rule low ∙ ap (λ x. take i rules ++ x ∷ []) (sym here)) ∙ map-append as_pair (take i rules) (rule ∷ []) in
    is
    ∙ (ap (λ (w : List ℕ). w ++ pair_line sig (as_pair rule)) texts
    ∙ (append_assoc old (pair_lines sig front) (pair_line sig (as_pair rule))
    ∙ ap (λ (w : List ℕ). old ++ w) (sym (ap (pair_lines sig) more ∙ pair_lines-push sig front (as_pair rule)))))

-- Result: all of them
pub lines_all : (system : PatternSystem) (rules : List (Pattern × Pattern)) (i : ℕ) (old text : List ℕ) → length rules ≤ i → map as_pair rules ≡ at_index 1 system.rules
    → text ≡ old ++ pair_lines system.signature (map as_pair (take i rules))
    → (rs : List FamilyRule) → system ≡ pattern_system (system_of system.signature rs) → text ≡ old ++ rule_lines system.signature rs
lines_all system rules i old text done pairs texts rs is =
    texts
    ∙ ap (λ (w : List ℕ). old ++ w)
    (ap (λ xs. pair_lines system.signature (map as_pair xs)) (take_all i rules done)
    ∙ (ap (pair_lines system.signature) (pairs ∙ pairs_of_rules system rs is)
    ∙ lines_of_rules system.signature rs))
