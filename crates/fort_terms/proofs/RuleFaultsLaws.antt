-- Lists of variables: what stands twice, what stands in two of them, from a place on.
use Rattle.std.proofs.Common.{◌≡◌, ℕ, ◌+◌, ◌<◌, Bool, nat_eq, List, [], ◌∷◌, ◌++◌, length, get_or, take, drop, Contains, inl, inr, sym, ap, ◌∙◌, subst}
use Rattle.std.specs.Bool.{Decides}
use Rattle.std.specs.List.{IsDistinct, IsAnyAnswer}
use Rattle.std.proofs.lemmas.Bool.{false_from_ne_true}
use Rattle.std.proofs.lemmas.Bool.Decides.{Decides-eqb}
use Rattle.std.proofs.lemmas.Cmp.{nat_eq_equiv}
use Rattle.std.proofs.lemmas.List.{take_more, drop_more, take-append-drop}
use Rattle.std.proofs.lemmas.List.Elements.{contains_decides, Decides-contains, Contains-push_cases}
use Rattle.std.proofs.lemmas.Map.Keys.{IsDistinct-push}
use Rattle.std.proofs.lemmas.Map.Made.{is_member-Decides}
use Rattle.fort_terms.specs.RuleFaults.{IsFirstRepeated, IsFirstShared}

-- what the test for an element answers
pub contains-decides : (xs : List ℕ) (x : ℕ) (found : Bool) → IsAnyAnswer (λ y t. nat_eq y x ≡ t) xs found → Decides found (Contains xs x)
contains-decides xs x found is = Decides-contains xs x found (contains_decides nat_eq Decides-eqb xs x found is)

-- a list is what is before a place, the element there and what is after
at_place : (xs : List ℕ) (i : ℕ) → i < length xs → xs ≡ take i xs ++ get_or xs i 0 ∷ drop (i + 1) xs
at_place xs i h = sym (take-append-drop i xs) ∙ ap (λ (ys : List ℕ). take i xs ++ ys) (drop_more xs i 0 h)

pub IsDistinct-nil : IsDistinct nat_eq []
unfolding IsDistinct
IsDistinct-nil = tt

pub IsFirstRepeated-at : (vs : List ℕ) (i : ℕ) → i < length vs → IsDistinct nat_eq (take i vs) → Contains (take i vs) (get_or vs i 0)
    → IsFirstRepeated vs (get_or vs i 0)
IsFirstRepeated-at vs i h distinct again =
    record { before = take i vs; after = drop (i + 1) vs; stands = at_place vs i h; again = again; distinct = distinct }

pub IsDistinct-take_more : (vs : List ℕ) (i : ℕ) → i < length vs → IsDistinct nat_eq (take i vs) → (Contains (take i vs) (get_or vs i 0) → ⊥)
    → IsDistinct nat_eq (take (i + 1) vs)
IsDistinct-take_more vs i h distinct fresh =
    rw (take_more vs i 0 h) (IsDistinct-push nat_eq_equiv (take i vs) (get_or vs i 0) distinct
    (false_from_ne_true _ (λ found. fresh ((is_member-Decides Decides-eqb (take i vs) (get_or vs i 0)).0 found))))

pub IsFirstShared-at : (vs ws : List ℕ) (i : ℕ) → i < length vs → ((v : ℕ) → Contains (take i vs) v → Contains ws v → ⊥)
    → Contains ws (get_or vs i 0) → IsFirstShared vs ws (get_or vs i 0)
IsFirstShared-at vs ws i h apart shared =
    record { before = take i vs; after = drop (i + 1) vs; stands = at_place vs i h; shared = shared; apart = apart }

pub apart-take_more : (vs ws : List ℕ) (i : ℕ) → i < length vs → ((v : ℕ) → Contains (take i vs) v → Contains ws v → ⊥)
    → (Contains ws (get_or vs i 0) → ⊥) → (v : ℕ) → Contains (take (i + 1) vs) v → Contains ws v → ⊥
apart-take_more vs ws i h apart here v left right =
    let split : Contains (take i vs ++ get_or vs i 0 ∷ []) v = rw (take_more vs i 0 h) at left in
    elim (Contains-push_cases (take i vs) (get_or vs i 0) v split) [
      | inl old ↦ apart v old right
      | inr new ↦ here (subst (λ (w : ℕ). Contains ws w) (sym new) right)
    ]
