-- The list of a family's rules is the family, and where it is too long the family is too large.
use Rattle.std.proofs.Common.{◌≡◌, ℕ, ◌*◌, ◌<◌, ◌≤◌, List, [], map, length, refl, sym, ◌∙◌, subst, inl, inr, arith}
use Rattle.std.specs.Prelude.{Contains}
use Rattle.std.proofs.Math.Nat.{mul-le-mul_left}
use Rattle.fort_theory.specs.Trees.{Tree, Node, Nil}
use Rattle.fort_theory.specs.Trees as trees
use Rattle.fort_theory.specs.Signatures.{Signature, IsGround, HasConstant}
use Rattle.fort_theory.specs.Patterns.{Pattern}
use Rattle.fort_theory.specs.PatternOrder.{PatternBefore}
use Rattle.fort_theory.proofs.Lists.{Contains-map, Contains-map_from}
use Rattle.fort_theory.proofs.Members.{Contains-none}
use Rattle.fort_answers.specs.FamilyRules.{FamilyRule, TreeBefore, RuleBefore, IsFamilyRule, IsFamily, IsTooLarge, most_family_rules}
use Rattle.fort_synth.specs.FamilyLists.{low_patterns, ground_terms, all_rules}
use Rattle.fort_synth.proofs.FamilyListLaws.{Contains-flat_map, Contains-flat_map_from, IsAscending, IsAscending-map, IsAscending-flat_map, at_places, length-all_pairs}
use Rattle.fort_synth.proofs.FamilyMembers.{Contains-low, low_patterns-have}
use Rattle.fort_synth.proofs.FamilyOrder.{low_patterns-ascend}
use Rattle.fort_synth.proofs.FamilyGround.{ground_pattern, height_again, fits_from_ground, ground_from_fits, constant_within, Contains-ground_terms, ground_terms-have, ground_terms-ascend}

abbrev pub family_rules : Signature → ℕ → List FamilyRule
family_rules signature h = all_rules (low_patterns signature h) (ground_terms (low_patterns signature h))

pub length-all_rules : (ps : List Pattern) (ts : List Tree) → length (all_rules ps ts) ≡ length ps * length ts
length-all_rules ps ts = length-all_pairs (λ p t. (p, t)) ps ts

-- ---- members

Contains-low_terms : (signature : Signature) (h : ℕ) (t : Tree) → IsGround signature t → trees.height t ≤ h → Contains (ground_terms (low_patterns signature h)) t
Contains-low_terms signature h t fits low =
    Contains-ground_terms (low_patterns signature h) t
    (Contains-low signature h (ground_pattern t) (fits_from_ground signature t fits) (omega (arith, height_again t, low)))

listed : (signature : Signature) (h : ℕ) (r : FamilyRule) → IsFamilyRule signature h r → Contains (family_rules signature h) r
listed signature h r rule =
    let ts = ground_terms (low_patterns signature h) in
    Contains-flat_map (λ p. map (λ t. let u : FamilyRule = (p, t) in u) ts) (low_patterns signature h) r.0 r
    (Contains-low signature h r.0 rule.left rule.left_low)
    (Contains-map (λ t. let u : FamilyRule = (r.0, t) in u) ts r.1 (Contains-low_terms signature h r.1 rule.right rule.right_low))

pair_is_rule : (signature : Signature) (h : ℕ) (p : Pattern) (t : Tree) → Contains (low_patterns signature h) p
    → Contains (ground_terms (low_patterns signature h)) t → IsFamilyRule signature h (p, t)
pair_is_rule signature h p t left right =
    let l = low_patterns-have signature h p left in
    let r = low_patterns-have signature h (ground_pattern t) (ground_terms-have (low_patterns signature h) t right) in
    record { left = l.0; left_low = l.1; right = ground_from_fits signature t r.0; right_low = omega (arith, height_again t, r.1) }

is_rule : (signature : Signature) (h : ℕ) (r : FamilyRule) → Contains (family_rules signature h) r → IsFamilyRule signature h r
is_rule signature h r c =
    let ts = ground_terms (low_patterns signature h) in
    let m = Contains-flat_map_from (λ p. map (λ t. let u : FamilyRule = (p, t) in u) ts) (low_patterns signature h) r c in
    let n = Contains-map_from (λ t. let u : FamilyRule = (m.0, t) in u) ts r m.2 in
    subst (λ (s : FamilyRule). IsFamilyRule signature h s) n.2 (pair_is_rule signature h m.0 n.0 m.1 n.1)

-- ---- order

all_rules-ascend : (ps : List Pattern) (ts : List Tree) → IsAscending PatternBefore ps → IsAscending TreeBefore ts → IsAscending RuleBefore (all_rules ps ts)
all_rules-ascend ps ts asc along =
    let rule : Pattern → Tree → FamilyRule = λ p t. (p, t) in
    IsAscending-flat_map PatternBefore RuleBefore (λ p. map (rule p) ts) ps asc
    (λ p. IsAscending-map TreeBefore RuleBefore (rule p) ts (λ s t before. inr (refl, before)) along)
    (λ p q before r s here there.
    let m = Contains-map_from (rule p) ts r here in
    let n = Contains-map_from (rule q) ts s there in
    subst (λ x. RuleBefore x s) m.2 (subst (λ x. RuleBefore (rule p m.0) x) n.2 (inl before)))

pub family_rules-are : (signature : Signature) (h : ℕ) → IsFamily signature h (family_rules signature h)
family_rules-are signature h = record {
  same = λ r. (is_rule signature h r, listed signature h r);
  ascend =
      at_places RuleBefore (family_rules signature h)
      (all_rules-ascend (low_patterns signature h) (ground_terms (low_patterns signature h)) (low_patterns-ascend signature h)
      (ground_terms-ascend (low_patterns signature h) (low_patterns-ascend signature h)));
}

-- ---- without a constant

pub no_family : (signature : Signature) (h : ℕ) → (HasConstant signature → ⊥) → IsFamily signature h []
no_family signature h none = record {
  same = λ r. ((λ c. absurd (Contains-none r c)), (λ rule. absurd (none (constant_within signature r.1 rule.right))));
  ascend = λ i j d l m. absurd (omega arith);
}

-- ---- too large

pub too_many_rules : (signature : Signature) (h : ℕ) → most_family_rules < length (low_patterns signature h) * length (ground_terms (low_patterns signature h))
    → IsTooLarge signature h
too_many_rules signature h many = record {
  rules = family_rules signature h;
  are = family_rules-are signature h;
  many = omega (arith, many, length-all_rules (low_patterns signature h) (ground_terms (low_patterns signature h)));
}

pub too_many_patterns : (signature : Signature) (h : ℕ) → HasConstant signature → most_family_rules < length (low_patterns signature h) → IsTooLarge signature h
too_many_patterns signature h constant many =
    let ps = low_patterns signature h in
    let member : Contains (ground_terms ps) (Node constant.0 Nil) = Contains-low_terms signature h (Node constant.0 Nil) (constant.1, tt) (omega arith) in
    let some : 1 ≤ length (ground_terms ps) = omega (arith, member.1) in
    too_many_rules signature h (omega (arith, many, mul-le-mul_left (length ps) some))

-- ---- as the program counts

pub too_many_rules_counted : (signature : Signature) (h a b : ℕ) → a ≡ length (low_patterns signature h) → b ≡ length (ground_terms (low_patterns signature h))
    → most_family_rules < a * b → IsTooLarge signature h
too_many_rules_counted signature h a b first second many =
    too_many_rules signature h (subst (λ n. most_family_rules < n) (λ i. first i * second i) many)

pub few_rules_counted : (signature : Signature) (h a b : ℕ) → a ≡ length (low_patterns signature h) → b ≡ length (ground_terms (low_patterns signature h))
    → a * b ≤ most_family_rules → length (family_rules signature h) ≤ most_family_rules
few_rules_counted signature h a b first second few =
    let e : a * b ≡ length (family_rules signature h) =
    (λ i. first i * second i) ∙ sym (length-all_rules (low_patterns signature h) (ground_terms (low_patterns signature h))) in
    subst (λ n. n ≤ most_family_rules) e few
