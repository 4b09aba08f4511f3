-- The ranks of states among those of one presence.
use Rattle.std.proofs.Common.{◌≡◌, ℕ, zero, suc, ◌+◌, ◌<◌, ◌≤◌, List, [], ◌∷◌, length, get_or, Bool, true, false, ◌==◌, if◌then◌else◌, ap, arith}
use Rattle.std.proofs.lemmas.Bool.Decides.{nat_tests}
use Rattle.fort_tables.specs.StateRanks.{rank_in}

abbrev one_if : Bool → ℕ
one_if b = if b then 1 else 0

-- ranks rise
pub rank_rises : (w : ℕ) (ps : List ℕ) (a b : ℕ) → a ≤ b → rank_in w ps a ≤ rank_in w ps b
rank_rises w [] a b l = omega arith
rank_rises w (p ∷ ps) zero zero l = omega arith
rank_rises w (p ∷ ps) zero (suc b) l = omega arith
rank_rises w (p ∷ ps) (suc a) zero l = absurd (omega arith)
rank_rises w (p ∷ ps) (suc a) (suc b) l = omega (arith, rank_rises w ps a b (omega arith))

-- one more past a state of this presence
pub rank_next : (w : ℕ) (ps : List ℕ) (q : ℕ) → q < length ps → get_or ps q 0 ≡ w → rank_in w ps (suc q) ≡ suc (rank_in w ps q)
rank_next w [] q l h = absurd (omega arith)
rank_next w (p ∷ []) zero l h = let t : (p == w) ≡ true = grind (arith, nat_tests) in let f = ap one_if t in omega (arith, f)
rank_next w (p ∷ p2 ∷ ps) zero l h = let t : (p == w) ≡ true = grind (arith, nat_tests) in let f = ap one_if t in omega (arith, f)
rank_next w (p ∷ ps) (suc q) l h = omega (arith, rank_next w ps q (omega arith) h)

pub rank_less : (w : ℕ) (ps : List ℕ) (a b : ℕ) → a < length ps → get_or ps a 0 ≡ w → a < b → rank_in w ps a < rank_in w ps b
rank_less w ps a b l h m = omega (arith, rank_next w ps a l h, rank_rises w ps (suc a) b (omega arith))
