-- The sides of a family's rules: they have the rules' patterns, fit the signature, and repeat no variable.
use Rattle.std.proofs.Common.{◌≡◌, ℕ, suc, ◌+◌, ◌<◌, List, [], ◌∷◌, ◌++◌, length, get_or, take, refl, sym, ap, subst, ◌∙◌, arith}
use Rattle.std.specs.Prelude.{Some, Contains}
use Rattle.std.specs.List.{range_with_len}
use Rattle.std.proofs.Math.Seq.{get_or-append_seam}
use Rattle.std.proofs.lemmas.List.{get_or_append_left, length-append, take_more}
use Rattle.std.proofs.lemmas.List.FromFn.{length-range_with_len, get_or-range_with_len}
use Rattle.fort_theory.specs.Trees.{Tree, Trees, Node, Nil, More, trees, tree_count}
use Rattle.fort_theory.specs.Signatures.{Signature, IsGround, AreGround}
use Rattle.fort_theory.specs.Sides.{NoSide, MoreSides, side_count, FitsSide, FitsSides, variables}
use Rattle.fort_theory.specs.Patterns.{Pattern, Patterns, Any, At, NoPattern, MorePatterns, pattern_count, FitsPattern, FitPatterns}
use Rattle.fort_theory.proofs.Members.{Contains-none}
use Rattle.fort_answers.specs.FamilySystems.{any_count, any_counts, side_from, sides_from, ground_side, ground_sides}
use Rattle.fort_answers.proofs.FamilyVariables.{variables-side_from, variables-ground_side}
use Rattle.fort_terms.specs.declared.pattern.Pattern as program
use Rattle.fort_terms.specs.declared.side.Side as written
use Rattle.fort_terms.specs.PatternView.{as_pattern, as_patterns}
use Rattle.fort_terms.specs.RuleFaults.{IsFirstRepeated, IsFirstShared}
use Rattle.fort_terms.specs.SideView.{as_side, as_sides}

-- ---- what the loops make

one_more : {A : Type 0} (xs : List A) (i : ℕ) (x : A) → i < length xs → x ≡ get_or xs i x → take (i + 1) xs ≡ take i xs ++ x ∷ []
one_more xs i x low at = take_more xs i x low ∙ ap (λ y. take i xs ++ y ∷ []) (sym at)

sides_from-push : (v : ℕ) (ss : List written.Side) (ps : List program.Pattern) (s : written.Side) (p : program.Pattern) → as_sides ss ≡ sides_from v (as_patterns ps)
    → as_side s ≡ side_from (v + any_counts (as_patterns ps)) (as_pattern p) → as_sides (ss ++ s ∷ []) ≡ sides_from v (as_patterns (ps ++ p ∷ []))
sides_from-push v [] [] s p all here =
    let at : as_side s ≡ side_from v (as_pattern p) = here ∙ ap (λ k. side_from k (as_pattern p)) (omega arith) in ap (λ x. MoreSides x NoSide) at
sides_from-push v [] (q ∷ ps) s p all here = cc
sides_from-push v (t ∷ ss) [] s p all here = cc
sides_from-push v (t ∷ ss) (q ∷ ps) s p all here =
    let first : as_side t ≡ side_from v (as_pattern q) = cc in
    let rest : as_sides ss ≡ sides_from (v + any_count (as_pattern q)) (as_patterns ps) = cc in
    let place : v + any_counts (as_patterns (q ∷ ps)) ≡ v + any_count (as_pattern q) + any_counts (as_patterns ps) = omega arith in
    let behind = sides_from-push (v + any_count (as_pattern q)) ss ps s p rest (here ∙ ap (λ k. side_from k (as_pattern p)) place) in
    λ i. MoreSides (first i) (behind i)

ground_sides-push : (ss : List written.Side) (ts : List Tree) (s : written.Side) (t : Tree) → as_sides ss ≡ ground_sides (trees ts) → as_side s ≡ ground_side t
    → as_sides (ss ++ s ∷ []) ≡ ground_sides (trees (ts ++ t ∷ []))
ground_sides-push [] [] s t all here = ap (λ x. MoreSides x NoSide) here
ground_sides-push [] (u ∷ ts) s t all here = cc
ground_sides-push (r ∷ ss) [] s t all here = cc
ground_sides-push (r ∷ ss) (u ∷ ts) s t all here =
    let first : as_side r ≡ ground_side u = cc in
    let rest : as_sides ss ≡ ground_sides (trees ts) = cc in
    let behind = ground_sides-push ss ts s t rest here in
    λ i. MoreSides (first i) (behind i)

pub sides_from-more : (v i : ℕ) (ss more : List written.Side) (ps : List program.Pattern) (s : written.Side) (p : program.Pattern) → i < length ps → p ≡ get_or ps i p
    → as_sides ss ≡ sides_from v (as_patterns (take i ps)) → as_side s ≡ side_from (v + any_counts (as_patterns (take i ps))) (as_pattern p) → more ≡ ss ++ s ∷ []
    → as_sides more ≡ sides_from v (as_patterns (take (i + 1) ps))
sides_from-more v i ss more ps s p low at all here is =
    ap as_sides is ∙ (sides_from-push v ss (take i ps) s p all here ∙ ap (λ qs. sides_from v (as_patterns qs)) (sym (one_more ps i p low at)))

pub ground_sides-more : (i : ℕ) (ss more : List written.Side) (ts : List Tree) (s : written.Side) (t : Tree) → i < length ts → t ≡ get_or ts i t
    → as_sides ss ≡ ground_sides (trees (take i ts)) → as_side s ≡ ground_side t → more ≡ ss ++ s ∷ [] → as_sides more ≡ ground_sides (trees (take (i + 1) ts))
ground_sides-more i ss more ts s t low at all here is =
    ap as_sides is ∙ (ground_sides-push ss (take i ts) s t all here ∙ ap (λ us. ground_sides (trees us)) (sym (one_more ts i t low at)))

-- ---- they fit the signature

side_count-sides_from : (v : ℕ) (ps : Patterns) → side_count (sides_from v ps) ≡ pattern_count ps
side_count-sides_from v NoPattern = refl
side_count-sides_from v (MorePatterns p ps) = ap suc (side_count-sides_from (v + any_count p) ps)

mutual
  pub FitsSide-side_from : (signature : Signature) (v : ℕ) (p : Pattern) → FitsPattern signature p → FitsSide signature (side_from v p)
  FitsSide-side_from signature v Any fits = tt
  FitsSide-side_from signature v (At f ps) fits = (fits.0 ∙ ap Some (sym (side_count-sides_from v ps)), FitsSides-sides_from signature v ps fits.1)

  FitsSides-sides_from : (signature : Signature) (v : ℕ) (ps : Patterns) → FitPatterns signature ps → FitsSides signature (sides_from v ps)
  FitsSides-sides_from signature v NoPattern fits = tt
  FitsSides-sides_from signature v (MorePatterns p ps) fits =
      (FitsSide-side_from signature v p fits.0, FitsSides-sides_from signature (v + any_count p) ps fits.1)

side_count-ground_sides : (ts : Trees) → side_count (ground_sides ts) ≡ tree_count ts
side_count-ground_sides Nil = refl
side_count-ground_sides (More t ts) = ap suc (side_count-ground_sides ts)

mutual
  pub FitsSide-ground_side : (signature : Signature) (t : Tree) → IsGround signature t → FitsSide signature (ground_side t)
  FitsSide-ground_side signature (Node f ts) fits = (fits.0 ∙ ap Some (sym (side_count-ground_sides ts)), FitsSides-ground_sides signature ts fits.1)

  FitsSides-ground_sides : (signature : Signature) (ts : Trees) → AreGround signature ts → FitsSides signature (ground_sides ts)
  FitsSides-ground_sides signature Nil fits = tt
  FitsSides-ground_sides signature (More t ts) fits = (FitsSide-ground_side signature t fits.0, FitsSides-ground_sides signature ts fits.1)

-- ---- no rule is refused

not_repeated : (first count v : ℕ) (vs : List ℕ) → vs ≡ range_with_len first count → IsFirstRepeated vs v → ⊥
not_repeated first count v vs are r =
    let all : r.before ++ v ∷ r.after ≡ range_with_len first count = sym r.stands ∙ are in
    let j : ℕ = length r.before in
    let i : ℕ = r.again.0 in
    let low : i < j = r.again.1 in
    let long : j < count = omega (arith, ap length all, length-append r.before (v ∷ r.after), length-range_with_len first count) in
    let late : v ≡ first + j = sym (get_or-append_seam r.before v r.after v) ∙ (ap (λ xs. get_or xs j v) all ∙ get_or-range_with_len first count j v long) in
    let early : v ≡ first + i =
    sym r.again.2 ∙ (sym (get_or_append_left r.before (v ∷ r.after) v i low) ∙ (ap (λ xs. get_or xs i v) all ∙ get_or-range_with_len first count i v (omega arith))) in
    omega (arith, late, early, low)

pub left-not_repeated : (first v : ℕ) (p : Pattern) (s : written.Side) → as_side s ≡ side_from first p → IsFirstRepeated (variables (as_side s)) v → ⊥
left-not_repeated first v p s is r = not_repeated first (any_count p) v (variables (as_side s)) (ap variables is ∙ variables-side_from first p) r

pub right-not_repeated : (v : ℕ) (t : Tree) (s : written.Side) → as_side s ≡ ground_side t → IsFirstRepeated (variables (as_side s)) v → ⊥
right-not_repeated v t s is r =
    let none : variables (as_side s) ≡ [] = ap variables is ∙ variables-ground_side t in
    omega (arith, ap length (sym r.stands ∙ none), length-append r.before (v ∷ r.after))

pub not_shared : (vs : List ℕ) (v : ℕ) (t : Tree) (s : written.Side) → as_side s ≡ ground_side t → IsFirstShared vs (variables (as_side s)) v → ⊥
not_shared vs v t s is r =
    let none : variables (as_side s) ≡ [] = ap variables is ∙ variables-ground_side t in
    Contains-none v (subst (λ ws. Contains ws v) none r.shared)
