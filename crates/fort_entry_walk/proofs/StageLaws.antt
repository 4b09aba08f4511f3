-- What comes after some child states at the stage that they are of.
use Rattle.std.proofs.Common.{◌≡◌, ℕ, zero, suc, ◌-◌, ◌<◌, ◌≤◌, List, [], ◌∷◌, length, get_or, Option, Some, None, IfSome, refl, ◌∙◌, arith, false, subst}
use Rattle.fort_tables.specs.Entries.{stage}
use Rattle.fort_entry_walk.specs.Walks.{kids_after, stage_kids_after, GivesFirst}
use Rattle.fort_entry_walk.specs.KidPairs.{pair_list, two_kids}
use Rattle.fort_entry_walk.specs.declared.kid_row.KidPair.{KidPair}
use Rattle.fort_tuple_symbols.specs.DigitNumbers.{AreUpTo}
use Rattle.fort_entry_walk.proofs.EntryMembers.{next_stage}

pub at_stage : (ps : List ℕ) (s : ℕ) (ws from : List ℕ) (r : Option (List ℕ)) → 0 < s → AreUpTo (s - 1) from → GivesFirst (kids_after ps (s - 1) ws false from) (kids_after ps (s - 1) ws false) r → IfSome r (λ ks. stage ks ≡ s)
at_stage ps s ws from None l u h = tt
at_stage ps s ws from (Some ks) l u h = let e : suc (s - 1) ≡ s = omega arith in next_stage ps (s - 1) ws from ks _ u h ∙ e

pub some_stage : (s : ℕ) (ks : List ℕ) → stage ks ≡ s → 2 ≤ length ks → 0 < s
some_stage s [] e l = absurd (omega arith)
some_stage s (k ∷ ks) e l = omega (arith, e)

pub next_there : (ps : List ℕ) (s : ℕ) (ws ks : List ℕ) (r : Option (List ℕ)) → 0 < s → GivesFirst (kids_after ps (s - 1) ws false ks) (kids_after ps (s - 1) ws false) r → GivesFirst (stage_kids_after ps s ws ks) (stage_kids_after ps s ws) r
next_there ps zero ws ks r l h = absurd (omega arith)
next_there ps (suc m) ws ks r l h = let e : suc m - 1 ≡ m = omega arith in subst (λ (k : ℕ). GivesFirst (kids_after ps k ws false ks) (kids_after ps k ws false) r) e h

same_two : (xs : List ℕ) → length xs ≡ 2 → get_or xs 0 0 ∷ get_or xs 1 0 ∷ [] ≡ xs
same_two [] e = absurd (omega arith)
same_two (x ∷ []) e = absurd (omega arith)
same_two (x ∷ y ∷ []) e = refl
same_two (x ∷ y ∷ z ∷ xs) e = absurd (omega arith)

-- lists of two are what their elements say
pub pair_there : (ps : List ℕ) (m : ℕ) (ws ks : List ℕ) (r : Option (List ℕ)) → length ws ≡ 2 → length ks ≡ 2 → GivesFirst (kids_after ps m (get_or ws 0 0 ∷ get_or ws 1 0 ∷ []) false (get_or ks 0 0 ∷ get_or ks 1 0 ∷ [])) (kids_after ps m (get_or ws 0 0 ∷ get_or ws 1 0 ∷ []) false) r → GivesFirst (kids_after ps m ws false ks) (kids_after ps m ws false) r
pair_there ps m ws ks r e f h =
    let F : List ℕ → List ℕ → Type 0 = λ xs ys. GivesFirst (kids_after ps m xs false ys) (kids_after ps m xs false) r in
    subst (λ xs. F xs ks) (same_two ws e) (subst (λ ys. F (get_or ws 0 0 ∷ get_or ws 1 0 ∷ []) ys) (same_two ks f) h)

pub stage_of_pair : (s : ℕ) (r : Option KidPair) → IfSome (two_kids r) (λ ks. stage ks ≡ s) → IfSome r (λ p. stage (pair_list p) ≡ s)
stage_of_pair s None h = tt
stage_of_pair s (Some p) h = h
