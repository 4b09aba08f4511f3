-- Elements of a list of which a loop has passed the first, and of groups of pairs.
use Rattle.std.proofs.Common.{◌≡◌, ℕ, ◌+◌, ◌<◌, List, [], ◌∷◌, ◌++◌, Bool, true, ap, sym, ◌∙◌, refl, subst, length, get_or, take, inl, inr}
use Rattle.std.specs.Prelude.{Contains}
use Rattle.std.specs.List.{list_any}
use Rattle.std.proofs.Math.Seq.{take-append_seam}
use Rattle.std.proofs.lemmas.List.{take_more}
use Rattle.std.proofs.lemmas.List.Elements.{Contains-push_cases}
use Rattle.fort_theory.proofs.Members.{Contains-head, Contains-behind, Contains-none}
use Rattle.fort_tree_automata.proofs.Truths.{not_both}
use Rattle.fort_gtt_closure.specs.Marks.{IsSet}
use Rattle.fort_gtt_closure.proofs.GridLaws.{or_cases}

pub Contains-take_none : {X : Type 0} (xs : List X) (x : X) → Contains (take 0 xs) x → ⊥
Contains-take_none xs x c = Contains-none x c

-- what holds of each element so far, and of the next one, holds of each up to there
pub each_more : {X : Type 0} (P : X → Type 0) (xs : List X) (i : ℕ) (d : X) → i < length xs → ((x : X) → Contains (take i xs) x → P x) → P (get_or xs i d)
    → (x : X) → Contains (take (i + 1) xs) x → P x
each_more P xs i d lt before here x c = elim (Contains-push_cases (take i xs) (get_or xs i d) x (subst (λ zs. Contains zs x) (take_more xs i d lt) c)) [
  | inl old ↦ before x old
  | inr e ↦ subst P e here
]

pub found_by_any : {X : Type 0} (test : X → Bool) (xs : List X) → list_any test xs ≡ true → (x : X) × Contains xs x × (test x ≡ true)
found_by_any test [] h = absurd (not_both h refl)
found_by_any test (x ∷ xs) h = elim (or_cases (test x) (list_any test xs) h) [
  | inl here ↦ (x, Contains-head x xs, here)
  | inr there ↦ let w = found_by_any test xs there in (w.0, Contains-behind x xs w.0 w.1, w.2)
]

-- a list that was written back over one of its length
pub IsSet-written : (n : ℕ) (new rest : List Bool) (i : ℕ) → length new ≡ n → IsSet new i → IsSet (take n (new ++ rest)) i
IsSet-written n new rest i e h = subst (λ zs. IsSet zs i) (sym (ap (λ k. take k (new ++ rest)) (sym e) ∙ take-append_seam new rest)) h
