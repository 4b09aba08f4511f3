-- A term's subterms as a list that grows child by child; the numbers that are asked, one after another.
use Rattle.std.specs.Prelude.{◌≡◌, ℕ, zero, suc, ◌+◌, ◌<◌, ◌≤◌, List, [], ◌∷◌, ◌++◌, map, length, drop, get_or, Option, None, Some, Bool, true, false, ◌&&◌, ◌||◌, ◌==◌, nat_le, refl}
use Rattle.std.specs.List.{list_any}
use Rattle.std.proofs.Common.{sym, ap, ◌∙◌, arith, append_assoc, append-nil, eq-eqb, ⊎_elim}
use Rattle.std.proofs.lemmas.Bool.{cases_eq, cases_lt}
use Rattle.std.proofs.lemmas.Bool.Decides.{nat_tests}
use Rattle.std.proofs.lemmas.List.{map-append, get_or-map, length-map, drop_more, drop_all}
use Rattle.fort_theory.specs.Trees.{Tree, trees}
use Rattle.fort_terms.specs.TermKeys.{tree_eq}
use Rattle.fort_terms.specs.TermKeyLaws.{Decides-tree_eq}
use Rattle.fort_tables.specs.BitRows.{AreWords, words_for, bit_row, has_bit}
use Rattle.fort_tables.proofs.BitRowLaws.{bit_row_is}
use Rattle.fort_tables.proofs.EqualTests.{test_from_apart}
use Rattle.fort_alike.specs.Subterms.{subterms, subterms_among}
use Rattle.fort_alike.specs.TermRule.{same_tree}
use Rattle.fort_alike.proofs.Bits.{same_from_iff}
use Rattle.fort_alike.proofs.SubtermLaws.{Decides-same_tree}
use Rattle.fort_mark_keys.specs.AskedTerms.{is_child, stands_below, asks_tree, asks_number}
use Rattle.fort_mark_keys.proofs.TermKeyLaws.{past-none}

pub subterms_among-push : (xs : List Tree) (x : Tree) → subterms_among (trees (xs ++ x ∷ [])) ≡ subterms_among (trees xs) ++ subterms x
subterms_among-push [] x = append-nil (subterms x)
subterms_among-push (y ∷ ys) x =
    ap (λ zs. subterms y ++ zs) (subterms_among-push ys x) ∙ sym (append_assoc (subterms y) (subterms_among (trees ys)) (subterms x))

module _ {A : Type 0} (f : A → Tree) where
  pub listed_push : (old pushed new : List A) (t : A) (rest : List Tree) → pushed ≡ old ++ t ∷ [] → map f new ≡ map f pushed ++ rest → map f new ≡ map f old ++ (f t ∷ rest)
  listed_push old pushed new t rest e h =
      h ∙ (ap (λ xs. map f xs ++ rest) e ∙ (ap (λ xs. xs ++ rest) (map-append f old (t ∷ [])) ∙ append_assoc (map f old) (f t ∷ []) rest))

  pub listed_further : (start mid new : List A) (among rest : List Tree) → map f mid ≡ map f start ++ among → map f new ≡ map f mid ++ rest → map f new ≡ map f start ++ (among ++ rest)
  listed_further start mid new among rest e h = h ∙ (ap (λ xs. xs ++ rest) e ∙ append_assoc (map f start) among rest)

-- the two tests of trees are one
pub tree_eq-same : (s t : Tree) → tree_eq s t ≡ same_tree s t
tree_eq-same s t = same_from_iff (tree_eq s t) (same_tree s t) (Decides-tree_eq s t) (Decides-same_tree s t) ((λ e. e), (λ e. e))

-- the child at a place of a list
pub child-past : (v : Tree) (ts : List Tree) (j : ℕ) → length ts ≤ j → is_child v j (trees ts) ≡ false
child-past v [] j l = refl
child-past v (t ∷ ts) zero l = absurd (omega arith)
child-past v (t ∷ ts) (suc j) l = child-past v ts j (omega arith)

pub child-at : (v : Tree) (ts : List Tree) (j : ℕ) (d : Tree) → j < length ts → is_child v j (trees ts) ≡ same_tree (get_or ts j d) v
child-at v [] j d l = absurd (omega arith)
child-at v (t ∷ ts) zero d l = refl
child-at v (t ∷ ts) (suc j) d l = child-at v ts j d (omega arith)

-- the numbers up to some place, where they are asked
abbrev pub told : (asks : ℕ → Bool) (k n : ℕ) → Bool
told asks k n = nat_le n k && asks n

pub told-more : (asks : ℕ → Bool) (k n : ℕ) (on : Bool) → on ≡ asks (k + 1) → (((k + 1 == n) && on) || told asks k n) ≡ told asks (k + 1) n
told-more asks k n on e = ⊎_elim
    (λ (h : k + 1 ≡ n).
    let one : (k + 1 == n) ≡ true = eq-eqb (k + 1) n h in
    let old : nat_le n k ≡ false = grind (arith, nat_tests) in
    let new : nat_le n (k + 1) ≡ true = grind (arith, nat_tests) in
    (λ i. (one i && on) || (old i && asks n)) ∙ (or-false on ∙ (e ∙ (ap asks h ∙ sym (ap (λ b. b && asks n) new)))))
    (λ (h : k + 1 ≡ n → ⊥).
    let one : (k + 1 == n) ≡ false = test_from_apart (k + 1) n h in
    ap (λ b. (b && on) || told asks k n) one ∙ ap (λ b. b && asks n) (same-le k n h))
    (cases_eq (k + 1) n)
  where
    or-false : (b : Bool) → (b || false) ≡ b
    or-false true = refl
    or-false false = refl

    same-le : (k n : ℕ) → (k + 1 ≡ n → ⊥) → nat_le n k ≡ nat_le n (k + 1)
    same-le k n h = ⊎_elim
        (λ (l : k < n).
        let old : nat_le n k ≡ false = grind (arith, nat_tests) in
        let new : nat_le n (k + 1) ≡ false = let far : (k + 1 ≡ n) → ⊥ = h in let m : k + 1 < n = omega arith in grind (arith, nat_tests) in
        old ∙ sym new)
        (λ (l : n ≤ k).
        let old : nat_le n k ≡ true = grind (arith, nat_tests) in
        let new : nat_le n (k + 1) ≡ true = grind (arith, nat_tests) in
        old ∙ sym new)
        (cases_lt k n)

-- none is asked before the first
pub told-none : (asks : ℕ → Bool) (n : ℕ) → asks 0 ≡ false → false ≡ told asks 0 n
told-none asks zero e = sym e
told-none asks (suc n) e = let off : nat_le (suc n) 0 ≡ false = grind (arith, nat_tests) in sym (ap (λ b. b && asks (suc n)) off)

module _ {A : Type 0} (f : A → Tree) (listed : List A) (x : Option ℕ) (j : ℕ) where
  -- the number behind a place is that of the element there
  pub asks-next : (k : ℕ) (d : A) → k < length listed → asks_number (map f listed) x j (k + 1) ≡ list_any (stands_below x j (f (get_or listed k d))) (map f listed)
  asks-next k d l =
      let e : k + 1 ≡ suc k = omega arith in
      let at : get_or (map Some (map f listed)) k None ≡ Some (f (get_or listed k d)) =
      get_or-map Some (map f listed) k (f d) None (omega (arith, l, length-map listed f)) ∙ ap Some (get_or-map f listed k d (f d) l) in
      ap (asks_number (map f listed) x j) e ∙ ap (asks_tree (map f listed) x j) at

  -- a row with the bits of all numbers that are asked
  pub numbers-are : (out : List ℕ) → length out ≡ words_for (suc (length listed)) → AreWords out
      → ((q : ℕ) → has_bit out q ≡ told (asks_number (map f listed) x j) (length listed) q)
      → out ≡ bit_row (suc (length listed)) (asks_number (map f listed) x j)
  numbers-are out l words h =
      bit_row_is (suc (length listed)) (asks_number (map f listed) x j) out l words
      (λ q m. h q ∙ ⊎_elim
      (λ (b : length listed < q).
      let off : nat_le q (length listed) ≡ false = grind (arith, nat_tests) in
      ap (λ c. c && asks_number (map f listed) x j q) off ∙ sym (past-none (map f listed) x j q (omega (arith, b, length-map listed f))))
      (λ (b : q ≤ length listed).
      let on : nat_le q (length listed) ≡ true = grind (arith, nat_tests) in
      ap (λ c. c && asks_number (map f listed) x j q) on)
      (cases_lt (length listed) q))

-- a search through a list, element after element
pub any-next : {A : Type 0} (f : A → Tree) (test : Tree → Bool) (xs : List A) (i : ℕ) (x : A) → i < length xs → x ≡ get_or xs i x
    → list_any test (map f (drop i xs)) ≡ (test (f x) || list_any test (map f (drop (i + 1) xs)))
any-next f test xs i x l e =
    ap (λ ys. list_any test (map f ys)) (drop_more xs i x l) ∙ ap (λ y. test (f y) || list_any test (map f (drop (i + 1) xs))) (sym e)

pub any-end : {A : Type 0} (f : A → Tree) (test : Tree → Bool) (xs : List A) (i : ℕ) → length xs ≤ i → list_any test (map f (drop i xs)) ≡ false
any-end f test xs i l = ap (λ ys. list_any test (map f ys)) (drop_all i xs l)

pub child-found : (v : Tree) (ts : List Tree) (j : ℕ) (t : Tree) → j < length ts → t ≡ get_or ts j t → same_tree t v ≡ is_child v j (trees ts)
child-found v ts j t l e = ap (λ s. same_tree s v) e ∙ sym (child-at v ts j t l)
