-- Where a list of numbers stands in a set of such lists, and that a new one comes last.
use Rattle.std.proofs.Common.{◌≡◌, ℕ, zero, suc, ◌+◌, ◌<◌, List, [], ◌∷◌, ◌++◌, map, length, get_or, Bool, true, false, if◌then◌else◌, Decides, MatchOption, position, Option, refl, ap, sym, ◌∙◌, arith}
use Rattle.std.specs.List.{list_any, position_or_len}
use Rattle.std.proofs.lemmas.List.{length-map, map-append}
use Rattle.std.proofs.lemmas.Bool.{false≢true, lt-ltb, le-ltb}

module _ {X : Type 0} (test : X → Bool) (view : X → List ℕ) (w : List ℕ) (same : (k : X) → Decides (test k) (view k ≡ w)) where
  pub there : (ks : List X) → list_any test ks ≡ true → (position_or_len test ks < length ks) × (get_or (map view ks) (position_or_len test ks) [] ≡ w)
  there [] h = absurd cc
  there (k ∷ ks) h =
      let F : Bool → Type 0 = λ b. test k ≡ b → (position_or_len test (k ∷ ks) < length (k ∷ ks)) × (get_or (map view (k ∷ ks)) (position_or_len test (k ∷ ks)) [] ≡ w) in
      let both : (b : Bool) → F b = λ b. elim b as F [
        | true ↦ (λ e. rw e (omega arith, (same k).0 e))
        | false ↦ (λ e. let r = there ks (rw e at h) in let n = position_or_len test ks in let s : 1 + n ≡ suc n = omega arith in rw e (omega (arith, r.0), ap (λ i. get_or (map view (k ∷ ks)) i []) s ∙ r.1))
      ] in
      both (test k) refl

  pub absent : (ks : List X) → list_any test ks ≡ false → (position_or_len test ks ≡ length ks) × ((q : ℕ) → q < length ks → get_or (map view ks) q [] ≡ w → ⊥)
  absent [] h = (refl, λ q l. absurd (omega arith))
  absent (k ∷ ks) h =
      let F : Bool → Type 0 = λ b. test k ≡ b → (position_or_len test (k ∷ ks) ≡ length (k ∷ ks)) × ((q : ℕ) → q < length (k ∷ ks) → get_or (map view (k ∷ ks)) q [] ≡ w → ⊥) in
      let both : (b : Bool) → F b = λ b. elim b as F [
        | true ↦ (λ e. let no : true ≡ false = rw e at h in absurd cc)
        | false ↦ (λ e. let r = absent ks (rw e at h) in (
          rw e (omega (arith, r.0)),
          λ q. elim q as (λ q. q < length (k ∷ ks) → get_or (map view (k ∷ ks)) q [] ≡ w → ⊥) [
            | zero ↦ (λ l p. absurd (false≢true (sym e ∙ (same k).1 p)))
            | suc j ↦ (λ l p. r.1 j (omega arith) p)
          ],
        ))
      ] in
      both (test k) refl

  abbrev pub IsFound : List X → Option ℕ → Type 0
  IsFound ks r = MatchOption r ((q : ℕ) → q < length (map view ks) → get_or (map view ks) q [] ≡ w → ⊥) (λ q. (q < length (map view ks)) × (get_or (map view ks) q [] ≡ w))

  pub IsFound-position : (ks : List X) → IsFound ks (position test ks)
  IsFound-position ks =
      let F : Bool → Type 0 = λ b. list_any test ks ≡ b → IsFound ks (position test ks) in
      let both : (b : Bool) → F b = λ b. elim b as F [
        | true ↦ (λ e. let r = there ks e in rw (lt-ltb _ _ r.0) (omega (arith, length-map ks view, r.0), r.1))
        | false ↦ (λ e. let r = absent ks e in rw (le-ltb (position_or_len test ks) (length ks) (omega (arith, r.0))) (λ q l. r.1 q (omega (arith, length-map ks view))))
      ] in
      both (list_any test ks) refl

  pub view-insert_new : (ks new : List X) (v : X) → view v ≡ w → ((q : ℕ) → q < length (map view ks) → get_or (map view ks) q [] ≡ w → ⊥) → new ≡ (if list_any test ks then ks else ks ++ v ∷ []) → map view new ≡ map view ks ++ w ∷ []
  view-insert_new ks new v i none n =
      let F : Bool → Type 0 = λ b. list_any test ks ≡ b → map view new ≡ map view ks ++ w ∷ [] in
      let both : (b : Bool) → F b = λ b. elim b as F [
        | true ↦ (λ e. let r = there ks e in absurd (none (position_or_len test ks) (omega (arith, length-map ks view, r.0)) r.1))
        | false ↦ (λ e. ap (map view) (n ∙ ap (λ c. if c then ks else ks ++ v ∷ []) e) ∙ (map-append view ks (v ∷ []) ∙ ap (λ x. map view ks ++ x ∷ []) i))
      ] in
      both (list_any test ks) refl
