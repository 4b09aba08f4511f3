-- The places of arguments, one after another; the bits at a node, child after child.
use Rattle.std.specs.Prelude.{◌≡◌, ℕ, ◌+◌, ◌<◌, List, [], ◌∷◌, ◌++◌, map, length, drop, get_or, Bool, true, false, ◌&&◌, refl}
use Rattle.std.proofs.Common.{sym, ap, arith}
use Rattle.std.proofs.lemmas.List.{drop_more, length-map, get_or-map}
use Rattle.fort_theory.specs.Patterns as theory
use Rattle.fort_terms.specs.declared.pattern.Pattern.{Pattern}
use Rattle.fort_terms.specs.PatternView.{as_pattern, as_patterns}
use Rattle.fort_tables.specs.BitRows.{has_bit}
use Rattle.fort_alike.specs.PatternNumbers.{AreAt, all_at}

pub AreAt-push : (listed : List theory.Pattern) (ks : List ℕ) (ps : List Pattern) (k : ℕ) (p : Pattern) → AreAt listed ks (as_patterns ps)
    → k < length listed → get_or listed k theory.Any ≡ as_pattern p → AreAt listed (ks ++ k ∷ []) (as_patterns (ps ++ p ∷ []))
AreAt-push listed [] [] k p h l e = (l, e, tt)
AreAt-push listed [] (q ∷ qs) k p h l e = absurd h
AreAt-push listed (j ∷ js) [] k p h l e = absurd h
AreAt-push listed (j ∷ js) (q ∷ qs) k p h l e = (h.0, h.1, AreAt-push listed js qs k p h.2 l e)

-- the bits at a node

pub all_at-short : (base : ℕ) (ks : List ℕ) (ws : List (List ℕ)) → length ws < length ks → all_at base ks ws ≡ false
all_at-short base [] ws l = absurd (omega arith)
all_at-short base (k ∷ ks) [] l = refl
all_at-short base (k ∷ ks) (w ∷ ws) l =
    let rest = all_at-short base ks ws (omega arith) in
    rw rest (both-false (has_bit (drop 1 w) (base + k)))
  where
    both-false : (b : Bool) → b && false ≡ false
    both-false true = refl
    both-false false = refl

-- one child, whose label has the bit or hasn't
pub all_at-child : (base : ℕ) (ks : List ℕ) (labels : List (List ℕ)) (qs : List ℕ) (j : ℕ) (b : Bool) → j < length ks → j < length qs
    → b ≡ has_bit (drop 1 (get_or labels (get_or qs j 0) [])) (base + get_or ks j 0)
    → all_at base (drop j ks) (drop j (map (λ q. get_or labels q []) qs))
    ≡ (b && all_at base (drop (j + 1) ks) (drop (j + 1) (map (λ q. get_or labels q []) qs)))
all_at-child base ks labels qs j b l m e =
    let ws : List (List ℕ) = map (λ q. get_or labels q []) qs in
    let n : j < length ws = omega (arith, m, length-map qs (λ q. get_or labels q [])) in
    let at : get_or ws j [] ≡ get_or labels (get_or qs j 0) [] = get_or-map (λ q. get_or labels q []) qs j 0 [] m in
    rw (drop_more ks j 0 l, drop_more ws j [] n, at)
    (ap (λ c. c && all_at base (drop (j + 1) ks) (drop (j + 1) ws)) (sym e))
