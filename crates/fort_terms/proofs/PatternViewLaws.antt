-- The patterns of a list of sides, and the rules of a system, as the definitions' lists.
use Rattle.std.specs.Prelude.{◌≡◌, ℕ, ◌+◌, ◌-◌, ◌<◌, List, [], ◌∷◌, ◌++◌, length, map, get_or, slice_set, vec_items, Vec, refl}
use Rattle.std.specs.declared.alloc.Global.{Global}
use Rattle.std.proofs.Common.{ap, ◌∙◌, subst, arith}
use Rattle.std.proofs.Math.Seq.{map-set_same}
use Rattle.std.proofs.lemmas.List.{length-map, map-append}
use Rattle.fort_theory.specs.Patterns.{pattern_of, patterns_of}
use Rattle.fort_theory.specs.Sides.{pushed_at, IsIndexOf}
use Rattle.fort_theory.proofs.IndexPlaces.{map-set_more}
use Rattle.fort_terms.specs.declared.pattern.Pattern.{Pattern}
use Rattle.fort_terms.specs.declared.side.Side.{Side}
use Rattle.fort_terms.specs.PatternView.{as_pair, as_pattern, as_patterns, as_rules}
use Rattle.fort_terms.specs.SideView.{as_side, as_sides}

-- ---- patterns of sides

pub as_patterns-from_map : (ps : List Pattern) (ss : List Side) → map as_pattern ps ≡ map (λ s. pattern_of (as_side s)) ss
    → as_patterns ps ≡ patterns_of (as_sides ss)
as_patterns-from_map [] [] e = refl
as_patterns-from_map [] (s ∷ ss) e = cc
as_patterns-from_map (p ∷ ps) [] e = cc
as_patterns-from_map (p ∷ ps) (s ∷ ss) e =
    let rest : map as_pattern ps ≡ map (λ s. pattern_of (as_side s)) ss = cc in
    let h = as_patterns-from_map ps ss rest in cc

-- ---- a list of rules that is as it was, or has one more

pub as_rules-kept : (lists : List (Vec (Pattern × Pattern) Global)) (i : ℕ) (v w : Vec (Pattern × Pattern) Global) → v ≡ get_or lists i v → w.items ≡ v.items
    → as_rules (slice_set lists i w) ≡ as_rules lists
as_rules-kept lists i v w at same =
    map-set_same (λ rules. map as_pair (vec_items rules)) lists i w v (ap (map as_pair) same ∙ ap (λ rules. map as_pair (vec_items rules)) at)

pub as_rules-pushed : (lists : List (Vec (Pattern × Pattern) Global)) (index : ℕ) (v w : Vec (Pattern × Pattern) Global) (rule : Pattern × Pattern)
    → IsIndexOf (as_rules lists) index → v ≡ get_or lists (index - 1) v → w.items ≡ v.items ++ rule ∷ []
    → as_rules (slice_set lists (index - 1) w) ≡ pushed_at index (as_pair rule) (as_rules lists)
as_rules-pushed lists index v w rule is at more =
    let within : index - 1 < length lists = omega (arith, is.low, is.high, length-map lists (λ rules. map as_pair (vec_items rules))) in
    let back : index - 1 + 1 ≡ index = omega (arith, is.low) in
    subst (λ (k : ℕ). as_rules (slice_set lists (index - 1) w) ≡ pushed_at k (as_pair rule) (as_rules lists)) back
    (map-set_more (λ rules. map as_pair (vec_items rules)) lists (index - 1) v w (as_pair rule) within at (ap (map as_pair) more ∙ map-append as_pair v.items (rule ∷ [])))
